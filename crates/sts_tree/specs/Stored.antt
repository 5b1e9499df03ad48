-- The content of the records of tasks: links, and tasks (this project's own).
use Rattle.std.specs.Prelude.{◌≡◌, ℕ, zero, suc, List, [], ◌∷◌, map, Option, Some, None, option_map}
use Rattle.std.specs.Prelude.{refl, nat_lt, if◌then◌else◌, slice_index_or}
use Rattle.std.proofs.Common.{◌∙◌}
use Rattle.sts_records.specs.Holes.{Holes}
use Rattle.sts_links.specs.Lists.{after_of}
use Rattle.sts_links.specs.declared.links.Link.{Link}
use Rattle.sts_tree.specs.declared.record.TaskNode.{TaskNode}
use Rattle.sts_tree.specs.declared.record.TaskRecord.{TaskRecord}

abbrev pub no_link : Link
no_link = record { before = None; after = None }

-- the link in a layer
abbrev pub link_of : ℕ → Option TaskRecord → Option Link
link_of l None = None
link_of l (Some r) = if nat_lt l 3 then Some (slice_index_or r.links l no_link) else None

abbrev pub link_at : List (Option TaskRecord) → ℕ → ℕ → Option Link
link_at slots l k = link_of l (slice_index_or slots k None)

abbrev pub task_of : TaskRecord → TaskNode
task_of r = r.task

-- the tasks by birth, without their links
abbrev pub tasks_of : List (Option TaskRecord) → List (Option TaskNode)
tasks_of slots = map (option_map task_of) slots

-- the same tasks under the same keys, and the same room
pub record SameTasks (a b : Holes TaskRecord) : Type 0 where
  pub tasks : tasks_of b.slots ≡ tasks_of a.slots
  pub keys : b.keys ≡ a.keys
  pub room : b.room ≡ a.room

pub same : (a : Holes TaskRecord) → SameTasks a a
same a = record { tasks = refl; keys = refl; room = refl }

pub chained : (a b c : Holes TaskRecord) → SameTasks a b → SameTasks b c → SameTasks a c
chained a b c h l =
    record { tasks = l.tasks ∙ h.tasks; keys = l.keys ∙ h.keys; room = l.room ∙ h.room }

-- the keys in a row from here, at most n
abbrev pub walk : (ℕ → Option Link) → ℕ → Option ℕ → List ℕ
walk at zero first = []
walk at (suc n) None = []
walk at (suc n) (Some k) = k ∷ walk at n (after_of (at k))
