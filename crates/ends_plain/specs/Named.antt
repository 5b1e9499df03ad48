-- Names that are kept as lists (this project's own).
use Rattle.std.specs.Prelude.{◌≡◌, ℕ, ◌<◌, List, length, slice_index_or}
use Rattle.sts_model.specs.World.{World, task_at, scope_at}
use Rattle.laws_names.specs.Names.{Names, IsAlike, IsSameTask, IsSameScope}
use Rattle.ends_plain.specs.declared.names.NameLists.{NameLists}

-- a number past the list is its own name
abbrev pub name_in : List ℕ → ℕ → ℕ
name_in names k = slice_index_or names k k

abbrev pub names_of : NameLists → Names
names_of l = record { tasks = λ t. name_in l.tasks.items t; scopes = λ s. name_in l.scopes.items s }

-- the first n numbers have names below n, and `back` leads from there to them
abbrev pub LeadsBack : List ℕ → List ℕ → ℕ → ℕ → Type 0
LeadsBack names back births n =
    (k : ℕ) → k < n → (name_in names k < births) × (name_in back (name_in names k) ≡ k)

-- each number below `births` has a name below `births`, and `back` leads from the name back to it
pub record IsNaming (names back : List ℕ) (births : ℕ) : Type 0 where
  pub as_many : length names ≡ births
  pub leads_back : LeadsBack names back births births

-- the names lead from all births of the one state to all of the other, from the root to the root
pub record AreNames (names back : NameLists) (w v : World) : Type 0 where
  pub tasks_born : length w.tasks ≡ length v.tasks
  pub scopes_born : length w.scopes ≡ length v.scopes
  pub tasks : IsNaming names.tasks.items back.tasks.items (length w.tasks)
  pub scopes : IsNaming names.scopes.items back.scopes.items (length w.scopes)
  pub root : name_in names.tasks.items 0 ≡ 0

-- the first n tasks, scopes are the same under these names
abbrev pub AllTasksSame : Names → World → World → ℕ → Type 0
AllTasksSame n w v born =
    (t : ℕ) → t < born → IsSameTask n (task_at w t) (task_at v (n.tasks t))

abbrev pub AllScopesSame : Names → World → World → ℕ → Type 0
AllScopesSame n w v born =
    (s : ℕ) → s < born → IsSameScope n (scope_at w s) (scope_at v (n.scopes s))

-- with some names, the second state has what the first has
pub record AreRenamed (w v : World) : Type 0 where
  pub names : Names
  pub alike : IsAlike names w v
