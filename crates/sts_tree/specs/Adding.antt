-- The root task alone, and one more scope (this project's own).
use Rattle.std.specs.Prelude.{ℕ, ◌-◌, List, [], ◌∷◌, ◌++◌, Some}
use Rattle.sts_tree.specs.Forest.{Forest, root}
use Rattle.sts_tree.specs.declared.record.ScopeNode.{ScopeNode}

-- the forest that has only the root task; `keys` are the keys of its tasks, and it can hold `tasks`
-- tasks, with the root, and `scopes` scopes
abbrev pub root_alone : {E : Type 0} → List ℕ → ℕ → ℕ → Forest E
root_alone keys tasks scopes = record {
  tasks = Some root ∷ [];
  scopes = [];
  ready = 0 ∷ [];
  task_keys = keys;
  scope_keys = [];
  task_room = tasks - 1;
  scope_room = scopes;
}

-- the forest after this scope is opened; `keys` are then the keys of its scopes
abbrev pub with_opened : {E : Type 0} → Forest E → ScopeNode E → List ℕ → Forest E
with_opened f scope keys = record f {
  scopes = f.scopes ++ Some scope ∷ [];
  scope_keys = keys;
  scope_room = f.scope_room - 1;
}
