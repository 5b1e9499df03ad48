-- Which environments in use hold which records, for tasks and scopes by birth.
-- Restates "Description" of JEP 506: a subtask inherits the bindings of its scope, and binds in
-- front of them. It is this project's own that environments share records.
use Rattle.std.specs.Prelude.{◌≡◌, ◌≢◌, ℕ, ◌<◌, List, [], ◌∷◌, ◌++◌, Option, Some, None, Bool, true}
use Rattle.sts_env.specs.Environments.{Records, IsWhole, keys_of}
use Rattle.laws_words.specs.Keys.{NotIn}
use Rattle.sts_env.specs.declared.env.Env.{Env}

-- tasks and scopes, with their environments
pub record Sharing : Type 0 where
  pub is_alive : ℕ → Bool
  pub is_open : ℕ → Bool
  -- the task that opened a scope
  pub owner : ℕ → ℕ
  -- the scope that a task was forked in; none for the root
  pub home : ℕ → Option ℕ
  -- the environment of a task
  pub env : ℕ → Env
  -- the environment that a scope keeps
  pub kept : ℕ → Env
  -- the records of a task's own open bindings, innermost first
  pub own : ℕ → List ℕ
  -- the records of its owner that were bound when a scope was opened
  pub outside : ℕ → List ℕ

-- the task lives
abbrev pub Lives : Sharing → ℕ → Type 0
Lives h t = h.is_alive t ≡ true

-- the scope is open
abbrev pub IsOpen : Sharing → ℕ → Type 0
IsOpen h s = h.is_open s ≡ true

-- the records that a task took over from its scope
abbrev pub inherited : Records → Sharing → Option ℕ → List ℕ
inherited records h None = []
inherited records h (Some s) = keys_of records (h.kept s)

-- environments have own bindings in front of those that the scope keeps, and no binding belongs to
-- two tasks
pub record IsSharing (records : Records) (h : Sharing) : Type 0 where
  -- the owner of an open scope lives
  pub owners : (s : ℕ) → IsOpen h s → Lives h (h.owner s)
  -- the scope of a living task is open, and its owner is older than the task
  pub homes : (t s : ℕ) → Lives h t → h.home t ≡ Some s → IsOpen h s × (h.owner s < t)
  -- each record of a living task's environment exists
  pub whole : (t : ℕ) → Lives h t → IsWhole records (h.env t)
  -- a task's environment has its own bindings, and then those that its scope keeps
  pub tasks : (t : ℕ) → Lives h t
      → keys_of records (h.env t) ≡ h.own t ++ inherited records h (h.home t)
  -- a scope keeps its owner's environment as it was when the scope was opened
  pub scopes : (s : ℕ) → IsOpen h s
      → keys_of records (h.kept s) ≡ h.outside s ++ inherited records h (h.home (h.owner s))
  -- bindings are opened and closed last in, first out
  pub nested : (s : ℕ) → IsOpen h s
      → (inside : List ℕ) × (h.own (h.owner s) ≡ inside ++ h.outside s)
  -- no record is two tasks' own
  pub apart : (t u k : ℕ) → Lives h t → Lives h u → t ≢ u → (NotIn k (h.own t) → ⊥)
      → NotIn k (h.own u)

-- the last entry of a living task is a binding with its record at this key: each open scope of the
-- task was opened before it
pub record IsLastBinding (h : Sharing) (t k : ℕ) : Type 0 where
  pub lives : Lives h t
  pub rest : List ℕ
  pub own : h.own t ≡ k ∷ rest
  pub scopes : (s : ℕ) → IsOpen h s → h.owner s ≡ t
      → (inside : List ℕ) × (rest ≡ inside ++ h.outside s)

-- the record is in front of the task's environment, and no other environment in use holds it
pub record IsUnshared (records : Records) (h : Sharing) (t k : ℕ) : Type 0 where
  pub front : (h.env t).front ≡ Some k
  pub scopes : (s : ℕ) → IsOpen h s → NotIn k (keys_of records (h.kept s))
  pub tasks : (u : ℕ) → Lives h u → u ≢ t → NotIn k (keys_of records (h.env u))

-- if a task's last entry is a binding, no other environment in use holds its record
abbrev pub FrontIsUnshared : Type 0
FrontIsUnshared =
    (records : Records) (h : Sharing) (t k : ℕ) → IsSharing records h → IsLastBinding h t k
    → IsUnshared records h t k
