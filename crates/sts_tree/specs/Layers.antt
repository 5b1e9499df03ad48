-- Two lists of subtasks: all that a scope has, and those that live (this project's own).
use Rattle.std.specs.Prelude.{ℕ, Bool}
use Rattle.sts_links.specs.declared.links.Ends.{Ends}
use Rattle.sts_tree.specs.Forest.{is_of, lives_in}
use Rattle.sts_tree.specs.declared.record.TaskNode.{TaskNode}
use Rattle.sts_tree.specs.declared.record.ScopeRecord.{ScopeRecord}
use Rattle.sts_tree.specs.declared.record.Subtasks.{Subtasks}
use Rattle.sts_tree.specs.declared.record.Subtasks.TheVariants.{All, Living}

-- the layer of the links in this list
abbrev pub layer_of : Subtasks → ℕ
layer_of All = 0
layer_of Living = 1

-- is the task in this list of the scope s?
abbrev pub listed : Subtasks → ℕ → TaskNode → Bool
listed All s = is_of s
listed Living s = lives_in s

abbrev pub list_in : {E : Type 0} → Subtasks → ScopeRecord E → Ends
list_in All row = row.forks
list_in Living row = row.living
