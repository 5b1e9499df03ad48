-- The live view of a forest, with frames and bindings (this project's own).
use Rattle.std.specs.Prelude.{ℕ, suc, List, [], ◌∷◌, map, Option, Some, None, option_map}
use Rattle.std.specs.Prelude.{if◌then◌else◌}
use Rattle.sts_model.specs.declared.event.End.{End}
use Rattle.sts_model.specs.declared.record.Frame.{Frame}
use Rattle.sts_model.specs.declared.record.Bound.{Bound}
use Rattle.sts_model.specs.Live.{Live, LiveTask, LiveScope, Alive}
use Rattle.sts_tree.specs.Forest.{Forest}
use Rattle.sts_tree.specs.declared.record.TaskNode.{TaskNode}
use Rattle.sts_tree.specs.declared.record.ScopeNode.{ScopeNode}

-- the parts outside the forest: each living task's frame and bindings, those of a scope, and the
-- root's end
pub record Beside (E : Type 0) : Type 0 where
  pub frame : ℕ → Frame
  pub bindings : ℕ → List Bound
  pub kept : E → List Bound
  pub root_end : Option End

abbrev pub alive_of : {E : Type 0} → Beside E → ℕ → TaskNode → Option Alive
alive_of b n x =
    if x.lives
    then Some (record { frame = b.frame n; flag = x.flag; environment = b.bindings n })
    else None

abbrev pub task_seen : {E : Type 0} → Beside E → ℕ → TaskNode → LiveTask
task_seen b n x = record { scope = x.scope; state = x.state; alive = alive_of b n x }

abbrev pub scope_seen : {E : Type 0} → Beside E → ScopeNode E → LiveScope
scope_seen b c =
    record {
      owner = c.owner;
      joiner = c.tally.joiner;
      timed = c.timed;
      phase = c.phase;
      cancelled = c.cancelled;
      expired = c.expired;
      environment = b.kept c.environment;
      told = c.tally.told;
    }

-- the tasks from birth n on
abbrev pub tasks_from : {E : Type 0} → Beside E → ℕ → List (Option TaskNode) → List (Option LiveTask)
tasks_from b n [] = []
tasks_from b n (o ∷ xs) = option_map (task_seen b n) o ∷ tasks_from b (suc n) xs

abbrev pub view_of : {E : Type 0} → Beside E → Forest E → Live
view_of b f =
    record {
      tasks = tasks_from b 0 f.tasks;
      scopes = map (option_map (scope_seen b)) f.scopes;
      root_end = b.root_end;
    }
