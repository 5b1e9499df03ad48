-- Which environments in use share which records of bindings, over the parts of a store.
-- Restates "Description" of JEP 506: a subtask inherits the bindings of its scope, and binds in
-- front of them. It is this project's own that environments share records.
use Rattle.std.specs.Prelude.{◌≡◌, ◌≢◌, ℕ, List, [], ◌∷◌, ◌++◌, length, map, count_by}
use Rattle.std.specs.Prelude.{Option, Some, None, option_map, ◌==◌, if◌then◌else◌, slice_index_or}
use Rattle.sts_env.specs.Environments.{Records, IsWhole, keys_of}
use Rattle.laws_words.specs.Keys.{NotIn}
use Rattle.sts_env.specs.declared.env.Env.{Env}
use Rattle.sts_tree.specs.declared.record.TaskNode.{TaskNode}
use Rattle.sts_tree.specs.declared.record.ScopeNode.{ScopeNode}
use Rattle.sts_model.specs.declared.record.Entry.{Entry}
use Rattle.sts_model.specs.declared.record.Entry.TheVariants as entry
use Rattle.sts_model.specs.Misuse.{is_binding}
use Rattle.sts_store.specs.declared.running.Running.{Running}
use Rattle.sts_store.specs.Parts.{Parts}

-- the part of a living task that matters here: its environment, and its structure list
pub record Holder : Type 0 where
  pub env : Env
  pub entries : List Entry

-- the part of an open scope that matters here: its owner, and the environment that it keeps
pub record Keeper : Type 0 where
  pub owner : ℕ
  pub kept : Env

abbrev pub holder_of : Running → Holder
holder_of r = record { env = r.env; entries = r.frame.entries }

abbrev pub keeper_of : ScopeNode Env → Keeper
keeper_of x = record { owner = x.owner; kept = x.environment }

abbrev pub home_of : TaskNode → Option ℕ
home_of x = x.scope

abbrev pub holders : Parts → List (Option Holder)
holders m = map (option_map holder_of) m.frames.slots

abbrev pub keepers : Parts → List (Option Keeper)
keepers m = map (option_map keeper_of) m.tree.scopes

-- the scope of each task that counts, if it has one
abbrev pub homes : Parts → List (Option (Option ℕ))
homes m = map (option_map home_of) m.tree.tasks

abbrev pub home_at : List (Option (Option ℕ)) → ℕ → Option ℕ
home_at os t = elim (slice_index_or os t None) [ None ↦ None | Some o ↦ o ]

-- the records that a scope keeps, if it isn't closed
abbrev pub keys_kept : Records → Option Keeper → List ℕ
keys_kept c None = []
keys_kept c (Some k) = keys_of c k.kept

-- the records that a task takes over from its scope
abbrev pub inherited : Records → List (Option Keeper) → Option ℕ → List ℕ
inherited c ks None = []
inherited c ks (Some s) = keys_kept c (slice_index_or ks s None)

-- the entries outside of a scope
abbrev pub behind : ℕ → List Entry → List Entry
behind s [] = []
behind s (entry.Scope r ∷ es) = if r == s then es else behind s es
behind s (entry.Binding key value ∷ es) = behind s es

-- the task of this birth lives, and this is its part
abbrev pub Holds : List (Option Holder) → ℕ → Holder → Type 0
Holds hs t h = slice_index_or hs t None ≡ Some h

-- the scope of this birth isn't closed, and this is its part
abbrev pub Keeps : List (Option Keeper) → ℕ → Keeper → Type 0
Keeps ks s k = slice_index_or ks s None ≡ Some k

-- each environment in use has own records in front of those that the scope keeps, and no record
-- belongs to two tasks
pub record Shares (c : Records) (hs : List (Option Holder)) (ks : List (Option Keeper))
    (os : List (Option (Option ℕ))) (own outside : ℕ → List ℕ) : Type 0 where
  -- each record of a living task's environment exists
  pub whole : (t : ℕ) (h : Holder) → Holds hs t h → IsWhole c h.env
  -- each record of the environment that a scope keeps exists
  pub kept : (s : ℕ) (k : Keeper) → Keeps ks s k → IsWhole c k.kept
  -- a task's environment is made of its own records and of what its scope keeps
  pub tasks : (t : ℕ) (h : Holder) → Holds hs t h →
      keys_of c h.env ≡ own t ++ inherited c ks (home_at os t)
  -- a scope keeps its owner's environment as it was when the scope was opened
  pub scopes : (s : ℕ) (k : Keeper) → Keeps ks s k →
      keys_of c k.kept ≡ outside s ++ inherited c ks (home_at os k.owner)
  -- bindings are opened and closed last in, first out
  pub nested : (s : ℕ) (k : Keeper) → Keeps ks s k →
      (inside : List ℕ) × (own k.owner ≡ inside ++ outside s)
  -- no record is two tasks' own
  pub apart : (t u k : ℕ) (h l : Holder) → Holds hs t h → Holds hs u l → t ≢ u →
      (NotIn k (own t) → ⊥) → NotIn k (own u)
  -- a task's own records are those of its bindings
  pub count : (t : ℕ) (h : Holder) → Holds hs t h → length (own t) ≡ count_by is_binding h.entries
  -- the records outside of a scope are those of the bindings outside of its entry
  pub behind : (s : ℕ) (k : Keeper) (h : Holder) → Keeps ks s k → Holds hs k.owner h →
      length (outside s) ≡ count_by is_binding (behind s h.entries)

-- records are shared in this way for some lists of own records, and of records outside of each
-- scope
pub record AreShared (c : Records) (hs : List (Option Holder)) (ks : List (Option Keeper))
    (os : List (Option (Option ℕ))) : Type 0 where
  pub own : ℕ → List ℕ
  pub outside : ℕ → List ℕ
  pub shares : Shares c hs ks os own outside
