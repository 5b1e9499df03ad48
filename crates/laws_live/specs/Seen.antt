-- A step of the view is the view of the step: laws for every state of every run of every program
-- (this project's own).
use Rattle.std.specs.Prelude.{◌≡◌, ℕ, ◌+◌, List, [], ◌∷◌, ◌++◌, true, Some, None, is_some, count_by}
use Rattle.sts_code.specs.Program.{Program}
use Rattle.sts_code.specs.declared.instr.Instr.{Instr}
use Rattle.sts_model.specs.declared.event.Event.{Event}
use Rattle.sts_model.specs.declared.event.Event.TheVariants as event
use Rattle.sts_model.specs.World.{World, Running, task_at, scope_at}
use Rattle.sts_model.specs.Joining.{result_of}
use Rattle.sts_model.specs.Living.{lives, ends, subtask_count}
use Rattle.sts_model.specs.Standing.{stands_in, standing_tasks, standing_scopes}
use Rattle.sts_model.specs.Misuse.{misuse, IsFine}
use Rattle.sts_model.specs.Effect.{effect}
use Rattle.sts_model.specs.Outside.{interrupt, expire}
use Rattle.sts_model.specs.Waiting.{can_step}
use Rattle.sts_model.specs.Run.{apply, after, counts, taken}
use Rattle.sts_model.specs.Live.{Live, live, result_in}
use Rattle.laws_runs.specs.Runs.{In, Ever}
use Rattle.laws_live.specs.Effect.{live_effect}
use Rattle.laws_live.specs.Outside.{live_interrupt, live_expire}
use Rattle.laws_live.specs.Waiting.{live_can_step}
use Rattle.laws_live.specs.Run.{live_apply, live_counts, live_after, live_steps_in, live_taken}

-- ---- one event

-- an instruction that is no misuse
abbrev pub EffectIsSeen : Type 0
EffectIsSeen =
    Ever
    (λ p w. (t : ℕ) (i : Instr) → lives (task_at w t) ≡ true → IsFine p w t (task_at w t).frame i
    → live (effect p w t (task_at w t).frame i) ≡ live_effect p (live w) t (task_at w t).frame i)

abbrev pub InterruptIsSeen : Type 0
InterruptIsSeen = Ever (λ p w. (t : ℕ) → live (interrupt w t) ≡ live_interrupt (live w) t)

abbrev pub ExpireIsSeen : Type 0
ExpireIsSeen = Ever (λ p w. (s : ℕ) → live (expire w s) ≡ live_expire (live w) s)

-- the view says of a task whether it can step, if its next step is no misuse
abbrev pub CanStepIsSeen : Type 0
CanStepIsSeen =
    Ever (λ p w. (t : ℕ) → misuse p w t ≡ None → can_step p w t ≡ live_can_step p (live w) t)

-- the event is no step of a task that is at a misuse
abbrev pub IsProper : Program → World → Event → Type 0
IsProper p w (event.Step t) = misuse p w t ≡ None
IsProper p w _ = Unit {0}

abbrev pub CountsIsSeen : Type 0
CountsIsSeen =
    Ever (λ p w. (e : Event) → IsProper p w e → counts p (Running w) e ≡ live_counts p (live w) e)

-- an event that leads to no fault
abbrev pub EventIsSeen : Type 0
EventIsSeen =
    Ever (λ p w. (e : Event) → In (λ v. live v ≡ live_apply p (live w) e) (apply p (Running w) e))

-- the joiner's result of a scope that isn't closed
abbrev pub ResultIsSeen : Type 0
ResultIsSeen =
    Ever
    (λ p w. (s : ℕ) → stands_in w (Some s) ≡ true
    → result_in (live w) s
    ≡ Some (result_of (scope_at w s).joiner (ends (scope_at w s)) (subtask_count w s)))

-- the view has the tasks and scopes that count
pub record StandsSeen (w : World) : Type 0 where
  pub tasks : count_by is_some (live w).tasks ≡ standing_tasks w
  pub scopes : count_by is_some (live w).scopes ≡ standing_scopes w

abbrev pub StandingIsSeen : Type 0
StandingIsSeen = (w : World) → StandsSeen w

-- ---- whole runs

-- a list of events that leads to no fault
abbrev pub RunIsSeen : Type 0
RunIsSeen =
    (p : Program) (events : List Event) → In (λ w. live w ≡ live_after p events) (after p events)

abbrev pub TakenIsSeen : Type 0
TakenIsSeen =
    (p : Program) (events : List Event)
    → In (λ w. taken p events ≡ live_taken p events) (after p events)

-- v is the view after these events, and n is the number of steps taken
pub record StandsAt (p : Program) (events : List Event) (v : Live) (n : ℕ) : Type 0 where
  pub world : World
  pub runs : after p events ≡ Running world
  pub view : live world ≡ v
  pub steps : taken p events ≡ n

-- the view gives the view and the steps after one event more, and whether that event counts
pub record Turns (p : Program) (events : List Event) (v : Live) (n : ℕ) (e : Event) : Type 0 where
  pub stands : StandsAt p (events ++ e ∷ []) (live_apply p v e) (n + live_steps_in p v e)
  pub count : counts p (after p events) e ≡ live_counts p v e

-- this holds for every view after a list of events
abbrev pub TurnsAreSeen : Program → Type 0
TurnsAreSeen p =
    (events : List Event) (v : Live) (n : ℕ) (e : Event) → StandsAt p events v n
    → Turns p events v n e
