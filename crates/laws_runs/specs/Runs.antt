-- The words for laws of runs (this project's own). A law holds in every state, between any state
-- and a later one, or for each event. Each word says too what has to be shown of each effect.
use Rattle.std.specs.Prelude.{◌≡◌, List, [], ◌∷◌, ◌++◌, ℕ, true, false, Some}
use Rattle.sts_code.specs.Program.{Program}
use Rattle.sts_code.specs.declared.instr.Instr.{Instr}
use Rattle.sts_model.specs.declared.event.Event.{Event}
use Rattle.sts_model.specs.declared.event.Event.TheVariants as event
use Rattle.sts_model.specs.World.{World, State, Running, Faulted, task_at, instr_at}
use Rattle.sts_model.specs.Living.{lives}
use Rattle.sts_model.specs.Misuse.{IsFine}
use Rattle.sts_model.specs.Waiting.{can_step}
use Rattle.sts_model.specs.Effect.{effect}
use Rattle.sts_model.specs.Outside.{interrupt, expire}
use Rattle.sts_model.specs.Run.{after}

-- ---- laws

-- P holds, unless the state is a fault
abbrev pub In : (World → Type 0) → State → Type 0
In P (Running w) = P w
In P (Faulted kind t f pc) = Unit {0}

-- in every state of every run
abbrev pub Ever : (Program → World → Type 0) → Type 0
Ever P = (p : Program) (events : List Event) → In (P p) (after p events)

-- no run faults
abbrev pub NeverFaults : Program → Type 0
NeverFaults p = (events : List Event) → (w : World) × (after p events ≡ Running w)

-- R holds between the two states, unless one of them is a fault
abbrev pub Between : (World → World → Type 0) → State → State → Type 0
Between R (Running w) (Running v) = R w v
Between R _ _ = Unit {0}

-- in every run, between any state and any later one
abbrev pub Always : (Program → World → World → Type 0) → Type 0
Always R =
    (p : Program) (before later : List Event)
    → Between (R p) (after p before) (after p (before ++ later))

-- in every run, by each event
abbrev pub Each : (Program → World → Event → World → Type 0) → Type 0
Each R =
    (p : Program) (events : List Event) (e : Event)
    → Between (λ w v. R p w e v) (after p events) (after p (events ++ e ∷ []))

-- ---- what leads to them

-- the next instruction of a task, which is no misuse
pub record Does (p : Program) (w : World) (t : ℕ) (i : Instr) : Type 0 where
  pub alive : lives (task_at w t) ≡ true
  pub can : can_step p w t ≡ true
  pub at : instr_at p (task_at w t).frame ≡ Some i
  pub fine : IsFine p w t (task_at w t).frame i

-- if P holds, each effect leads to a state in the relation R
pub record Leads (p : Program) (P : World → Type 0) (R : World → World → Type 0) : Type 0 where
  pub nothing : (w : World) → P w → R w w
  pub effect : (w : World) (t : ℕ) (i : Instr) → P w → Does p w t i
      → R w (effect p w t (task_at w t).frame i)
  pub interrupt : (w : World) (t : ℕ) → P w → R w (interrupt w t)
  pub expire : (w : World) (s : ℕ) → P w → R w (expire w s)

-- like `Leads`, if R speaks of the event too
pub record LeadsBy (p : Program) (P : World → Type 0) (R : World → Event → World → Type 0)
    : Type 0 where
  pub nothing : (w : World) (t : ℕ) → P w → can_step p w t ≡ false → R w (event.Step t) w
  pub effect : (w : World) (t : ℕ) (i : Instr) → P w → Does p w t i
      → R w (event.Step t) (effect p w t (task_at w t).frame i)
  pub interrupt : (w : World) (t : ℕ) → P w → R w (event.Interrupt t) (interrupt w t)
  pub expire : (w : World) (s : ℕ) → P w → R w (event.Expire s) (expire w s)
