-- Only a task's own steps change at which scope it is (this project's own).
use Rattle.std.specs.Prelude.{◌≡◌, ℕ, List, Bool, true, false, ◌==◌}
use Rattle.sts_code.specs.Program.{Program}
use Rattle.sts_code.specs.declared.instr.Instr.{Instr}
use Rattle.sts_model.specs.declared.event.Event.{Event}
use Rattle.sts_model.specs.declared.event.Stand.{Stand}
use Rattle.sts_model.specs.declared.event.Stand.TheVariants.{Free, AtJoin, AtClose}
use Rattle.sts_model.specs.Live.{Live}
use Rattle.laws_live.specs.Reading.{alive_at, lives_in}
use Rattle.laws_live.specs.Waiting.{live_stand_at}
use Rattle.laws_live.specs.Effect.{live_effect}
use Rattle.laws_live.specs.Outside.{live_interrupt, live_expire}
use Rattle.laws_live.specs.Run.{live_apply}
use Rattle.laws_live.specs.Seen.{StandsAt}
use Rattle.laws_live.specs.Fine.{IsLiveFine}
use Rattle.laws_live.specs.Order.{IsOwned, InOrder}
use Rattle.laws_live.specs.Waking.{is_step_of}

-- the task is at the same scope in x as in v, or at none in both, and it lives in x if it lives in
-- v
pub record IsUnmoved (p : Program) (v x : Live) (u : ℕ) : Type 0 where
  pub alive : lives_in v u ≡ true → lives_in x u ≡ true
  pub stand : live_stand_at p x u ≡ live_stand_at p v u

-- ---- in a view in order

-- an instruction that is no misuse moves only its own task
abbrev pub EffectsMoveOne : Type 0
EffectsMoveOne =
    (p : Program) (v : Live) → InOrder v
    → (t u : ℕ) (i : Instr) → lives_in v t ≡ true → IsLiveFine p v t (alive_at v t).frame i
    → (u == t) ≡ false → IsUnmoved p v (live_effect p v t (alive_at v t).frame i) u

-- an interrupt moves no task
abbrev pub InterruptsMoveNone : Type 0
InterruptsMoveNone =
    (p : Program) (v : Live) → InOrder v → (t u : ℕ) → IsUnmoved p v (live_interrupt v t) u

-- an expiry moves no task
abbrev pub ExpiriesMoveNone : Type 0
ExpiriesMoveNone =
    (p : Program) (v : Live) → InOrder v → (s u : ℕ) → IsUnmoved p v (live_expire v s) u

-- a task that doesn't live is at no scope; so is a task that was just forked
abbrev pub IdleStandFree : Type 0
IdleStandFree =
    (p : Program) (v : Live) (t : ℕ) → lives_in v t ≡ false → live_stand_at p v t ≡ Free

-- is the task at this scope?
abbrev pub is_stand_at : ℕ → Stand → Bool
is_stand_at s Free = false
is_stand_at s (AtJoin r) = r == s
is_stand_at s (AtClose r) = r == s

-- a task is only at scopes of its own
abbrev pub StandsAreOwned : Type 0
StandsAreOwned =
    (p : Program) (v : Live) → InOrder v
    → (t s : ℕ) → is_stand_at s (live_stand_at p v t) ≡ true → IsOwned v t s

-- ---- in every view that stands at a list of events

-- only its own steps move a task
abbrev pub StandsStay : Program → Type 0
StandsStay p =
    (events : List Event) (v : Live) (n : ℕ) → StandsAt p events v n
    → (e : Event) (u : ℕ) → is_step_of u e ≡ false → IsUnmoved p v (live_apply p v e) u
