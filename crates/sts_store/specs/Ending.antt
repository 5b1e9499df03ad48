-- The end of a task in a tree, and its consequences (this project's own).
use Rattle.std.specs.Prelude.{ℕ, Option, Some, None, slice_index_or}
use Rattle.sts_model.specs.declared.event.End.{End}
use Rattle.sts_tree.specs.Forest.{Forest}
use Rattle.sts_tree.specs.declared.record.TaskNode.{TaskNode}
use Rattle.sts_tree.specs.declared.record.ScopeNode.{ScopeNode}
use Rattle.sts_tree.specs.Ending.{ended}
use Rattle.sts_store.specs.Agreeing.{decided}

abbrev pub finished_of : {E : Type 0} → Forest E → ℕ → TaskNode → End → ℕ → Option (ScopeNode E) → Forest E
finished_of f t x end s None = ended f t x end
finished_of f t x end s (Some c) = decided f t x end s c

abbrev pub finished_in : {E : Type 0} → Forest E → ℕ → TaskNode → End → Option ℕ → Forest E
finished_in f t x end None = ended f t x end
finished_in f t x end (Some s) = finished_of f t x end s (slice_index_or f.scopes s None)

-- the task has ended, the joiner of its scope was told, and the scope is cancelled if the joiner
-- asks for it
abbrev pub finished : {E : Type 0} → Forest E → ℕ → TaskNode → End → Forest E
finished f t x end = finished_in f t x end x.scope
