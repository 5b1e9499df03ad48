-- A later state keeps what the specs say; a state is later than itself, and a later one than a
-- later one is later.
use Rattle.std.proofs.Common.{◌≡◌, ℕ, ◌≤◌, [], ◌++◌, Bool, true, false, Some, refl, sym, ◌∙◌, ap, length, arith, append_assoc, nat_lt}
use Rattle.std.proofs.lemmas.Bool.Decides.{nat_tests}
use Rattle.std.proofs.lemmas.List.{append-nil}
use Rattle.sts_model.specs.declared.record.Task.{Task}
use Rattle.sts_model.specs.declared.record.Scope.{Scope}
use Rattle.sts_model.specs.World.{World, task_at, scope_at, no_task, no_scope}
use Rattle.sts_model.specs.declared.event.Phase.{Phase}
use Rattle.sts_model.specs.declared.event.Phase.TheVariants.{Opened, Attempted}
use Rattle.sts_model.specs.Misuse.{can_join}
use Rattle.laws_runs.specs.Later.{stage, MovesOn, IsSameScope, KeepsMarks, Completes, NothingStarts, LaterTask, LaterScope, Later}
use Rattle.laws_runs.proofs.ListLemmas.{past, within}

pub later_task-refl : (x : Task) → LaterTask x x
later_task-refl x = record { same = record { started = refl; scope = refl }; outcome = λ end e. e }

pub later_task-trans : (x y z : Task) → LaterTask x y → LaterTask y z → LaterTask x z
later_task-trans x y z h k =
    record {
      same = record { started = k.same.started ∙ h.same.started; scope = k.same.scope ∙ h.same.scope };
      outcome = λ end e. k.outcome end (h.outcome end e);
    }

pub same_scope-refl : (x : Scope) → IsSameScope x x
same_scope-refl x = record { owner = refl; joiner = refl; timed = refl; environment = refl }

pub completes-refl : (x : Scope) → Completes x x
completes-refl x = record { grow = ([], sym (append-nil x.completions)); stop = λ e. refl }

-- a scope with the same phase and the same expiry
pub moves_on-same : (x y : Scope) → y.phase ≡ x.phase → y.expired ≡ x.expired → MovesOn x y
moves_on-same x y phase expired = record { forward = rw phase (omega arith); timely = λ e. expired }

late_stage : (phase : Phase) → can_join phase ≡ false → 2 ≤ stage phase
late_stage Opened e = cc
late_stage Attempted e = cc
late_stage _ e = omega arith

stage_late : (phase : Phase) → 2 ≤ stage phase → can_join phase ≡ false
stage_late Opened e = absurd (omega arith)
stage_late Attempted e = absurd (omega arith)
stage_late _ e = refl

moves_on-trans : (x y z : Scope) → MovesOn x y → MovesOn y z → MovesOn x z
moves_on-trans x y z h k =
    record {
      forward = let a = h.forward in let b = k.forward in omega (arith, a, b);
      timely = λ e. let a = late_stage x.phase e in let b = h.forward in k.timely (stage_late y.phase (omega (arith, a, b))) ∙ h.timely e;
    }

pub later_scope-refl : (x : Scope) → LaterScope x x
later_scope-refl x = record { same = same_scope-refl x; marks = record { closed = λ e. e; cancelled = λ e. e; expired = λ e. e }; moves = moves_on-same x x refl refl; completions = completes-refl x }

completes-trans : (x y z : Scope) → Completes x y → KeepsMarks x y → Completes y z → Completes x z
completes-trans x y z h m k =
    record {
      grow = (h.grow.0 ++ k.grow.0, k.grow.1 ∙ ap (λ l. l ++ k.grow.0) h.grow.1 ∙ append_assoc x.completions h.grow.0 k.grow.0);
      stop = λ e. k.stop (m.cancelled e) ∙ h.stop e;
    }

pub later_scope-trans : (x y z : Scope) → LaterScope x y → LaterScope y z → LaterScope x z
later_scope-trans x y z h k =
    record {
      same =
          record {
            owner = k.same.owner ∙ h.same.owner;
            joiner = k.same.joiner ∙ h.same.joiner;
            timed = k.same.timed ∙ h.same.timed;
            environment = k.same.environment ∙ h.same.environment;
          };
      marks =
          record {
            closed = λ e. k.marks.closed (h.marks.closed e);
            cancelled = λ e. k.marks.cancelled (h.marks.cancelled e);
            expired = λ e. k.marks.expired (h.marks.expired e);
          };
      moves = moves_on-trans x y z h.moves k.moves;
      completions = completes-trans x y z h.completions h.marks k.completions;
    }

-- if no task was born, none was started
pub none_fresh : (w v : World) → length v.tasks ≤ length w.tasks → NothingStarts w v
none_fresh w v few u s late cancelled inside = ap (λ (task : Task). task.started) (past v.tasks u no_task (omega (arith, few, late)))

pub later-refl : (w : World) → Later w w
later-refl w =
    record {
      tasks = omega arith;
      scopes = omega arith;
      task = λ t h. later_task-refl (task_at w t);
      scope = λ s h. later_scope-refl (scope_at w s);
      fresh = none_fresh w w (omega arith);
    }

pub later-trans : (w v x : World) → Later w v → Later v x → Later w x
later-trans w v x h k =
    record {
      tasks = let a = h.tasks in let b = k.tasks in omega (arith, a, b);
      scopes = let a = h.scopes in let b = k.scopes in omega (arith, a, b);
      task = λ t less. let a = h.tasks in later_task-trans (task_at w t) (task_at v t) (task_at x t) (h.task t less) (k.task t (omega (arith, a, less)));
      scope = λ s less. let a = h.scopes in later_scope-trans (scope_at w s) (scope_at v s) (scope_at x s) (h.scope s less) (k.scope s (omega (arith, a, less)));
      fresh = λ u s late cancelled inside. fresh u s late cancelled inside (nat_lt u (length v.tasks)) refl;
    }
  where
    fresh : (u s : ℕ) → length w.tasks ≤ u → (scope_at w s).cancelled ≡ true → (task_at x u).scope ≡ Some s → (b : Bool) → nat_lt u (length v.tasks) ≡ b → (task_at x u).started ≡ false
    fresh u s late cancelled inside true e =
        let same = (k.task u (grind (arith, nat_tests))).same in
        same.started ∙ h.fresh u s late cancelled (sym same.scope ∙ inside)
    fresh u s late cancelled inside false e =
        let born = within (λ (scope : Scope). scope.cancelled) w.scopes s no_scope refl cancelled in
        k.fresh u s (grind (arith, nat_tests)) ((h.scope s born).marks.cancelled cancelled) inside
