-- Runs of steps alone; if no task can step, the root has ended.
use Rattle.std.proofs.Common.{◌≡◌, ℕ, ◌+◌, ◌-◌, ◌<◌, List, [], ◌∷◌, ◌++◌, Bool, true, false, Some, refl, sym, ◌∙◌, ap, subst, fold, arith}
use Rattle.sts_code.specs.Program.{Program}
use Rattle.sts_model.specs.declared.event.End.{End}
use Rattle.sts_model.specs.declared.event.Event.{Event}
use Rattle.sts_model.specs.declared.event.Event.TheVariants as event
use Rattle.sts_model.specs.Live.{Live}
use Rattle.sts_model.specs.Living.{lives}
use Rattle.sts_model.specs.Run.{after, apply, counts, is_step}
use Rattle.sts_model.specs.World.{World, State, Running, opening, task_at}
use Rattle.laws_runs.specs.Runs.{Between}
use Rattle.laws_runs.proofs.EventLemmas.{main}
use Rattle.laws_runs.specs.Stays.{KeepsBorn, NothingIsLost}
use Rattle.laws_runs.proofs.ScopeLemmas.{has_ended}
use Rattle.laws_live.specs.Run.{live_steps_in}
use Rattle.laws_live.specs.Seen.{StandsAt}
use Rattle.laws_live.specs.Waiting.{live_can_step}
use Rattle.laws_accepted.specs.EveryRun.{SomeCanStep}
use Rattle.sts_machine.specs.Laws.{HasLaws}
use Rattle.sts_machine.specs.Machine.{Seen, Stands}
use Rattle.sts_machine.specs.Whole.{AreSteps, RunsTo}
use Rattle.sts_machine.proofs.Telling.{can_there}
use Rattle.sts_machine.proofs.Turning.{one_step, steps_few}

-- ---- one step more

one_more : (p : Program) (state : State) (events : List Event) (e : Event) → AreSteps p state events → is_step e ≡ true → counts p (fold (apply p) state events) e ≡ true → AreSteps p state (events ++ e ∷ [])
one_more p state [] e steps step count = (step, count, tt)
one_more p state (x ∷ xs) e steps step count = (steps.0, steps.1, one_more p (apply p state x) xs e steps.2 step count)

-- a step of a task that can step
pub steps_on : (p : Program) (m : Seen) (t : ℕ) → HasLaws p → m.program ≡ p → live_can_step m.program m.live t ≡ true → (events : List Event) → Stands m events → AreSteps p (opening p) events → AreSteps p (opening p) (events ++ event.Step t ∷ [])
steps_on p m t laws same can events h steps =
    let there : StandsAt p events m.live m.steps = subst (λ q. StandsAt q events m.live m.steps) same h in
    let can_there = subst (λ q. live_can_step q m.live t ≡ true) same can in
    one_more p (opening p) events (event.Step t) steps refl ((laws.turns events m.live m.steps (event.Step t) there).count ∙ can_there)

-- each step takes one of those that are left
pub step_taken : (m x : Seen) (t : ℕ) → HasLaws m.program → x.program ≡ m.program → x.steps ≡ m.steps + live_steps_in m.program m.live (event.Step t) → live_can_step m.program m.live t ≡ true → (events : List Event) → Stands x events → 1000000 - x.steps < 1000000 - m.steps
step_taken m x t laws same more can events h =
    let one = one_step m.program m.live t can in
    let few = steps_few m.program laws events x.live x.steps (subst (λ q. StandsAt q events x.live x.steps) same h) in
    omega (arith, one, few, more)

-- ---- the end

root_started : (p : Program) → NothingIsLost → (events : List Event) (w : World) → after p events ≡ Running w → (task_at w 0).started ≡ true
root_started p lost events w runs =
    let first : World = record { tasks = main p ∷ []; scopes = [] } in
    let kept : KeepsBorn first w = subst (Between (λ a b. KeepsBorn a b) (Running first)) runs (lost p [] events) in
    (kept.task 0 (omega arith)).started

same_world : (state : State) (w x : World) → state ≡ Running w → state ≡ Running x → w ≡ x
same_world state w x e f = cc

-- if no task can step, the root has ended
pub root_has_ended : (p : Program) → HasLaws p → NothingIsLost → (events : List Event) (v : Live) (n : ℕ) → StandsAt p events v n → ((t : ℕ) → live_can_step p v t ≡ false) → (end : End) × (v.root_end ≡ Some end)
root_has_ended p laws lost events v n h none =
    let r = laws.main.runs_well events in
    let goes_on : SomeCanStep p h.world = subst (SomeCanStep p) (same_world (after p events) r.world h.world r.no_fault h.runs) r.goes_on in
    let end = has_ended (task_at h.world 0) (root_started p lost events h.world h.runs) (by (lives (task_at h.world 0)) refl goes_on) in
    (end.0, ap (λ (x : Live). x.root_end) (sym h.view) ∙ end.1)
  where
    by : (b : Bool) → lives (task_at h.world 0) ≡ b → SomeCanStep p h.world → lives (task_at h.world 0) ≡ false
    by true e goes_on =
        let some = goes_on e in
        let can : live_can_step p v some.0 ≡ true = can_there p events v n h laws some.0 ∙ some.1 in
        let never : true ≡ false = sym can ∙ none some.0 in
        cc
    by false e goes_on = e

pub runs_to : (p : Program) (events : List Event) (v : Live) (n : ℕ) (end : End) → AreSteps p (opening p) events → StandsAt p events v n → v.root_end ≡ Some end → RunsTo p end
runs_to p events v n end steps h is =
    record { events = events; steps = steps; world = h.world; runs = h.runs; ended = ap (λ (x : Live). x.root_end) h.view ∙ is }
