-- Facts that no event undoes.
use Rattle.std.proofs.Common.{◌≡◌, ℕ, ◌+◌, ◌<◌, ◌≤◌, [], ◌∷◌, ◌++◌, Bool, true, false, Some, refl, ◌∙◌, ap, length, arith, cond, fold, ◌&&◌}
use Rattle.std.specs.Prelude.{is_some}
use Rattle.std.proofs.Math.Bool.{and-false}
use Rattle.std.proofs.lemmas.Bool.{and_left}
use Rattle.sts_code.specs.Program.{Program}
use Rattle.sts_model.specs.declared.event.End.{End}
use Rattle.sts_model.specs.declared.record.Task.{Task}
use Rattle.sts_model.specs.World.{World, task_at, scope_at, no_task, opening}
use Rattle.sts_model.specs.Living.{lives, sub_state}
use Rattle.sts_model.specs.Waiting.{can_step, can_go, stand_at}
use Rattle.sts_model.specs.Run.{apply, after, counts, is_step, taken}
use Rattle.laws_runs.specs.Later.{Later, KeepsMarks, MovesOn, Completes, NothingStarts}
use Rattle.laws_runs.proofs.ListLemmas.{within}
use Rattle.laws_runs.proofs.RunLemmas.{after-append, fault-fold, taken_one_more}
use Rattle.laws_runs.proofs.CompletionLemmas.{completes, keeps_state}
use Rattle.laws_runs.proofs.EventLemmas.{always}
use Rattle.laws_runs.specs.Stays.{FaultsStay, StepsAreCounted, NothingIsLost, KeepsBorn, EndsStay, KeepsEnd, ClosedStays, PhasesGoForward, CompletionsGrow}
use Rattle.laws_runs.specs.Stays.{StatesStay, CancelledStartsNothing}

-- ---- faults and steps

pub faults_stay : FaultsStay
faults_stay p before later kind t f pc e = after-append p before later ∙ ap (λ s. fold (apply p) s later) e ∙ fault-fold p later kind t f pc

one_or_none : (b : Bool) (n m : ℕ) → m ≡ n + cond b 1 0 → (n ≤ m) × (m ≤ n + 1) × (b ≡ true → m ≡ n + 1) × (b ≡ false → m ≡ n)
one_or_none true n m e = (omega arith, omega arith, λ h. e, λ h. cc)
one_or_none false n m e = (omega arith, omega arith, λ h. cc, λ h. omega arith)

pub steps_are_counted : StepsAreCounted
steps_are_counted p events e =
    let h = one_or_none (is_step e && counts p (after p events) e) (taken p events) (taken p (events ++ e ∷ [])) (taken_one_more p (opening p) events e) in
    record { never_less = h.0; at_most_one = h.1; counted = h.2; not_counted = h.3 }

-- ---- what was born

pub nothing_is_lost : NothingIsLost
nothing_is_lost = always (λ p w v. KeepsBorn w v) (λ p w v h. let l = h.later in record { tasks = l.tasks; scopes = l.scopes; task = λ t less. (l.task t less).same; scope = λ s less. (l.scope s less).same })

pub cancelled_starts_nothing : CancelledStartsNothing
cancelled_starts_nothing = always (λ p w v. NothingStarts w v) (λ p w v h. h.later.fresh)

-- ---- ends

pub ended_is_dead : (task : Task) (end : End) → task.outcome ≡ Some end → lives task ≡ false
ended_is_dead task end e = rw e (and-false task.started)

-- a task that doesn't live can't step
dead_stands : (p : Program) (w : World) (t : ℕ) → lives (task_at w t) ≡ false → can_step p w t ≡ false
dead_stands p w t e = and_left (lives (task_at w t)) (can_go w (task_at w t) (stand_at p w t)) e

keeps_end : (p : Program) (w v : World) → Later w v → (t : ℕ) (end : End) → (task_at w t).outcome ≡ Some end → KeepsEnd p w v t end
keeps_end p w v l t end e =
    let there : is_some (task_at w t).outcome ≡ true = rw e refl in
    let less = within (λ (task : Task). is_some task.outcome) w.tasks t no_task refl there in
    let still = (l.task t less).outcome end e in
    record { outcome = still; stands_still = dead_stands p v t (ended_is_dead (task_at v t) end still) }

pub ends_stay : EndsStay
ends_stay = always (λ p w v. (t : ℕ) (end : End) → (task_at w t).outcome ≡ Some end → KeepsEnd p w v t end) (λ p w v h. keeps_end p w v h.later)

-- ---- scopes

pub closed_stays : ClosedStays
closed_stays = always (λ p w v. (s : ℕ) → s < length w.scopes → KeepsMarks (scope_at w s) (scope_at v s)) (λ p w v h s born. (h.later.scope s born).marks)

pub phases_go_forward : PhasesGoForward
phases_go_forward = always (λ p w v. (s : ℕ) → s < length w.scopes → MovesOn (scope_at w s) (scope_at v s)) (λ p w v h s born. (h.later.scope s born).moves)

pub completions_grow : CompletionsGrow
completions_grow = always (λ p w v. (s : ℕ) → Completes (scope_at w s) (scope_at v s)) (λ p w v h. completes w v h.later)

pub states_stay : StatesStay
states_stay = always (λ p w v. (t : ℕ) (end : End) → sub_state w t ≡ Some end → sub_state v t ≡ Some end) (λ p w v h. keeps_state w v h.later)
