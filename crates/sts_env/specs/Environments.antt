-- Environments of scoped values as chains of records: which binding is innermost, and what remains
-- of chains that share records.
-- Restates "Description" of JEP 506: the innermost binding is read, and a subtask inherits those in
-- force when its scope was opened. It is this project's own that environments share records.
use Rattle.std.specs.Prelude.{◌≡◌, ℕ, zero, suc, List, [], ◌∷◌, Option, Some, None, slice_index_or}
use Rattle.laws_words.specs.Keys.{NotIn}
use Rattle.sts_env.specs.declared.env.Env.{Env}
use Rattle.sts_env.specs.declared.env.Record.{Record}
use Rattle.sts_model.specs.declared.record.Bound.{Bound}

-- the record or nothing at each key from 0 on, and how many more records fit
pub record Records : Type 0 where
  pub slots : List (Option Record)
  pub room : ℕ

-- the record at a key, if there is one
abbrev pub record_at : Records → ℕ → Option Record
record_at records k = slice_index_or records.slots k None

-- the chain from here has n records, and each knows how many come after it
abbrev pub AreWhole : (ℕ → Option Record) → ℕ → Option ℕ → Type 0
AreWhole at zero front = front ≡ None
AreWhole at (suc n) front =
    (k : ℕ) × (r : Record) × (front ≡ Some k) × (at k ≡ Some r) × (r.rest.length ≡ n)
    × AreWhole at n r.rest.front

-- the keys of the first n records
abbrev pub keys : (ℕ → Option Record) → ℕ → Option ℕ → List ℕ
keys at zero front = []
keys at (suc n) None = []
keys at (suc n) (Some k) = k ∷ elim (at k) [ None ↦ [] | Some r ↦ keys at n r.rest.front ]

-- the bindings of the first n records
abbrev pub bindings : (ℕ → Option Record) → ℕ → Option ℕ → List Bound
bindings at zero front = []
bindings at (suc n) None = []
bindings at (suc n) (Some k) =
    elim (at k) [ None ↦ [] | Some r ↦ r.bound ∷ bindings at n r.rest.front ]

-- each record of the environment exists
abbrev pub IsWhole : Records → Env → Type 0
IsWhole records env = AreWhole (record_at records) env.length env.front

-- the keys of the environment's records, innermost first
abbrev pub keys_of : Records → Env → List ℕ
keys_of records env = keys (record_at records) env.length env.front

-- the environment's bindings, innermost first
abbrev pub list_of : Records → Env → List Bound
list_of records env = bindings (record_at records) env.length env.front

-- the environment is whole afterwards, with the records and the bindings that it had
pub record Stays (old new : Records) (env : Env) : Type 0 where
  pub whole : IsWhole new env
  pub keys : keys_of new env ≡ keys_of old env
  pub list : list_of new env ≡ list_of old env

-- the result has one more record in front, at a key that had no record
pub record PutsRecord (old new : Records) (env result : Env) : Type 0 where
  pub key : ℕ
  pub front : result.front ≡ Some key
  pub vacant : record_at old key ≡ None
  pub keys : keys_of new result ≡ key ∷ keys_of old env

-- the front record is gone, and the result has the others
pub record TakesRecord (old new : Records) (env result : Env) : Type 0 where
  pub key : ℕ
  pub front : env.front ≡ Some key
  pub gone : record_at new key ≡ None
  pub keys : keys_of old env ≡ key ∷ keys_of new result

-- another environment is unchanged, unless it holds the front record of this one
abbrev pub KeepsWithout : (old new : Records) (env other : Env) → Type 0
KeepsWithout old new env other =
    (k : ℕ) → env.front ≡ Some k → NotIn k (keys_of old other) → Stays old new other
