-- The tasks and scopes that count, by birth, and their lists (this project's own).
use Rattle.std.specs.Prelude.{◌≡◌, ◌≢◌, ℕ, ◌+◌, ◌≤◌, List, [], map, length, count_by, is_some}
use Rattle.std.specs.Prelude.{Bool, true, false, ◌&&◌, Option, Some, None, option_map}
use Rattle.std.specs.Prelude.{slice_index_or, slice_set}
use Rattle.sts_code.specs.declared.instr.Joiner.{Joiner}
use Rattle.sts_joiners.specs.Tallied.{ends_told, tallied, with_end}
use Rattle.sts_links.specs.Lists.{IsList, first_or}
use Rattle.sts_links.specs.declared.links.Link.{Link}
use Rattle.sts_links.specs.declared.links.Ends.{Ends}
use Rattle.sts_model.specs.Living.{is_in}
use Rattle.sts_model.specs.Told.{cancels_told}
use Rattle.sts_model.specs.declared.event.End.{End}
use Rattle.sts_model.specs.declared.event.Phase.TheVariants.{Opened}
use Rattle.sts_model.specs.declared.event.Stand.TheVariants.{Free}
use Rattle.sts_tree.specs.Births.{births, drop_if, has}
use Rattle.sts_tree.specs.Stored.{link_at, walk}
use Rattle.sts_tree.specs.declared.record.TaskNode.{TaskNode}
use Rattle.sts_tree.specs.declared.record.TaskRecord.{TaskRecord}
use Rattle.sts_tree.specs.declared.record.ScopeNode.{ScopeNode}
use Rattle.sts_tree.specs.declared.record.ScopeRecord.{ScopeRecord}

-- The tasks and scopes by birth, with a hole for each that no longer counts. The ready list is in
-- its order. Each birth keeps the key that it was given. The room is the number of records that
-- still fit.
pub record Forest (E : Type 0) : Type 0 where
  pub tasks : List (Option TaskNode)
  pub scopes : List (Option (ScopeNode E))
  pub ready : List ℕ
  pub task_keys : List ℕ
  pub scope_keys : List ℕ
  pub task_room : ℕ
  pub scope_room : ℕ

-- is the task a subtask of the scope s, and does it live?
abbrev pub is_of : ℕ → TaskNode → Bool
is_of s task = is_in s task.scope

abbrev pub lives_in : ℕ → TaskNode → Bool
lives_in s task = is_in s task.scope && task.lives

-- is the task marked as ready?
abbrev pub is_marked : Option TaskNode → Bool
is_marked None = false
is_marked (Some x) = x.ready

-- the lists of a scope, and how many ends its joiner was told of
pub record Family : Type 0 where
  pub forks : Ends
  pub fork_count : ℕ
  pub living : Ends
  pub ends : ℕ

abbrev pub family_of : {E : Type 0} → ScopeRecord E → Family
family_of r = record {
  forks = r.forks;
  fork_count = r.fork_count;
  living = r.living;
  ends = ends_told r.scope.tally;
}

abbrev pub scope_of : {E : Type 0} → ScopeRecord E → ScopeNode E
scope_of r = r.scope

abbrev pub families_of : {E : Type 0} → List (Option (ScopeRecord E)) → List (Option Family)
families_of rows = map (option_map family_of) rows

abbrev pub scopes_of : {E : Type 0} → List (Option (ScopeRecord E)) → List (Option (ScopeNode E))
scopes_of rows = map (option_map scope_of) rows

-- does a subtask of s live?
abbrev pub any_lives : List (Option TaskNode) → ℕ → Bool
any_lives tasks s = is_some (first_or (births (lives_in s) 0 tasks) None)

-- the ready list
abbrev pub ready_of : List (Option TaskRecord) → Ends → List ℕ
ready_of slots ready = walk (link_at slots 2) (length slots) ready.first

-- the lists by index are those of the tasks, in order of birth; the ready list has the tasks that
-- are marked as ready
pub record IsForest (at : ℕ → ℕ → Option Link)
    (tasks : List (Option TaskNode)) (families : List (Option Family))
    (ready : Ends) (keys : List ℕ) (room : ℕ) : Type 0 where
  pub forks : (s : ℕ) (f : Family) → slice_index_or families s None ≡ Some f
      → IsList (at 0) f.forks (births (is_of s) 0 tasks)
  pub living : (s : ℕ) (f : Family) → slice_index_or families s None ≡ Some f
      → IsList (at 1) f.living (births (lives_in s) 0 tasks)
  pub counts : (s : ℕ) (f : Family) → slice_index_or families s None ≡ Some f
      → f.fork_count ≡ length (births (is_of s) 0 tasks)
  pub told : (s : ℕ) (f : Family) → slice_index_or families s None ≡ Some f
      → f.ends + length (births (lives_in s) 0 tasks) ≤ f.fork_count
  pub is_ready : IsList (at 2) ready keys
  pub flags : (t : ℕ) (x : TaskNode) → slice_index_or tasks t None ≡ Some x → x.ready ≡ has t keys
  pub homes : (t s : ℕ) (x : TaskNode) → slice_index_or tasks t None ≡ Some x → x.scope ≡ Some s
      → slice_index_or families s None ≢ None
  pub few : count_by is_some tasks + room ≤ 65536
  pub born : length tasks ≤ 1000000

-- ---- the calls

-- a new scope
abbrev pub opened : {E : Type 0} → ℕ → Joiner → Bool → E → ScopeNode E
opened owner joiner timed environment =
    record {
      owner = owner;
      timed = timed;
      phase = Opened;
      cancelled = false;
      expired = false;
      tally = tallied joiner [];
      environment = environment;
    }

-- a new subtask of s
abbrev pub subtask : ℕ → Bool → TaskNode
subtask s lives = record {
  scope = Some s;
  flag = false;
  lives = lives;
  state = None;
  stand = Free;
  ready = false;
}

-- the root task, ready
abbrev pub root : TaskNode
root = record { scope = None; flag = false; lives = true; state = None; stand = Free; ready = true }

-- the lists of a scope without subtasks
abbrev pub no_family : Family
no_family = record {
  forks = record { first = None; last = None };
  fork_count = 0;
  living = record { first = None; last = None };
  ends = 0;
}

-- does its joiner ask to cancel after it is told of this end?
abbrev pub asks : {E : Type 0} → ScopeNode E → End → Bool
asks c end = cancels_told c.tally.joiner (with_end c.tally end).told

-- neither a scope nor its subtasks count any longer
abbrev pub closed : {E : Type 0} → Forest E → ℕ → Forest E
closed f s =
    record f {
      tasks = map (drop_if (is_of s)) f.tasks;
      scopes = slice_set f.scopes s None;
      task_room = f.task_room + length (births (is_of s) 0 f.tasks);
      scope_room = f.scope_room + 1;
    }
