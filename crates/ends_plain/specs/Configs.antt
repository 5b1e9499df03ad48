-- A search's states, and what events do to them (this project's own).
use Rattle.std.specs.Prelude.{◌≡◌, ℕ, zero, suc, ◌-◌, List, [], ◌∷◌, fold, Bool, true, false}
use Rattle.std.specs.Prelude.{Option, Some, None, ◌&&◌, ◌⊎◌, ◌==◌, nat_lt, if◌then◌else◌}
use Rattle.std.specs.List.{Contains}
use Rattle.sts_model.specs.declared.event.Event.{Event}
use Rattle.sts_model.specs.declared.event.Event.TheVariants as event
use Rattle.sts_code.specs.Program.{Program}
use Rattle.sts_model.specs.World.{World, State, Running, Faulted, task_at, scope_at, opening}
use Rattle.sts_model.specs.Living.{lives}
use Rattle.sts_model.specs.Waiting.{can_step}
use Rattle.sts_model.specs.Outside.{can_expire}
use Rattle.sts_model.specs.Run.{apply}
use Rattle.laws_names.specs.Names.{Names, AreAlike, ReadsNothing}
use Rattle.ends_plain.specs.declared.config.Asked.{Asked}
use Rattle.ends_plain.specs.declared.config.Config.{Config}
use Rattle.ends_plain.specs.declared.config.Setting.{Setting}
use Rattle.ends_plain.specs.Ends.{is_interrupt, is_end}
use Rattle.sts_plain.specs.Seen.{shown}
use Rattle.ends_plain.specs.Own.{own_step_of}

-- the number of interrupts that are left after an event
abbrev pub left_after : ℕ → Event → ℕ
left_after n e = if is_interrupt e then n - 1 else n

abbrev pub next : Setting → Config → Event → Config
next g c e = record { position = apply g.program c.position e; left = left_after c.left e }

-- is it a step of a task that can step?
abbrev pub steps_now : Program → World → Event → Bool
steps_now p w (event.Step t) = can_step p w t
steps_now p w _ = false

-- an interrupt of a task that lives, while one is left?
abbrev pub interrupts_now : ℕ → World → Event → Bool
interrupts_now left w (event.Interrupt t) = nat_lt 0 left && lives (task_at w t)
interrupts_now left w _ = false

-- an expiry that marks a scope, if expiries may come?
abbrev pub expires_now : Bool → World → Event → Bool
expires_now expiries w (event.Expire s) = expiries && can_expire (scope_at w s)
expires_now expiries w _ = false

-- can the event come there?
abbrev pub can_come : Setting → ℕ → State → Event → Bool
can_come g left (Faulted kind t f pc) e = false
can_come g left (Running w) (event.Step t) = steps_now g.program w (event.Step t)
can_come g left (Running w) (event.Interrupt t) = interrupts_now left w (event.Interrupt t)
can_come g left (Running w) (event.Expire s) = expires_now g.expiries w (event.Expire s)

abbrev pub can : Setting → Config → Event → Bool
can g c e = can_come g c.left c.position e

abbrev pub is_step_of : ℕ → Event → Bool
is_step_of t (event.Step u) = u == t
is_step_of t (event.Interrupt u) = false
is_step_of t (event.Expire s) = false

-- the own step of this task alone, or all that can come if there is no such task
abbrev pub is_tried : Option ℕ → Setting → ℕ → State → Event → Bool
is_tried None g left s e = can_come g left s e
is_tried (Some t) g left s e = is_step_of t e

-- the events that the search goes on with
abbrev pub tries : Setting → Config → Event → Bool
tries g c e = is_tried (own_step_of g.program c.position) g c.left c.position e

-- ---- own steps in one go

-- the step of this task, if there is one, and the events after it
abbrev pub step_first : Option ℕ → (ℕ → List Event) → List Event
step_first None rest = []
step_first (Some t) rest = event.Step t ∷ rest t

-- at most n own steps, each of the first task that has one
abbrev pub own_events : ℕ → Setting → Config → List Event
own_events zero g c = []
own_events (suc n) g c =
    step_first (own_step_of g.program c.position) (λ t. own_events n g (next g c (event.Step t)))

-- the state after these steps
abbrev pub settled : ℕ → Setting → Config → Config
settled n g c = fold (next g) c (own_events n g c)

-- the state that a search keeps after an event: the one after the own steps that follow it
abbrev pub next_kept : Asked → Config → Event → Config
next_kept a c e = settled a.own_steps a.setting (next a.setting c e)

-- ---- events

-- the events are those that pass the test
pub record AreThose (test : Event → Bool) (events : List Event) : Type 0 where
  pub all : (e : Event) → test e ≡ true → Contains events e
  pub only : (e : Event) → Contains events e → test e ≡ true

-- ---- states of which the search keeps one

-- the second state of a program that reads no scoped values has other birth numbers than the first
pub record HasNames (p : Program) (x y : State) : Type 0 where
  pub quiet : ReadsNothing p
  pub names : Names
  pub alike : AreAlike names x y

-- a search that isn't exact may take the second state for the first
pub record IsRenamed (a : Asked) (c d : Config) : Type 0 where
  pub exact : a.exact ≡ false
  pub left : c.left ≡ d.left
  pub position : HasNames a.setting.program c.position d.position

abbrev pub IsLike : Asked → Config → Config → Type 0
IsLike a c d = (c ≡ d) ⊎ IsRenamed a c d

-- ---- what the search is for

-- an end: the root's, or a fault
abbrev pub is_last : Config → Bool
is_last c = is_end (shown c.position)

-- ---- where the search begins

-- the search begins here
abbrev pub start : Setting → Config
start g = record { position = opening g.program; left = g.interrupts }
