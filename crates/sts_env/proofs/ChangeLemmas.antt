-- The effect of `bind` and `unbind` on an environment and on every other.
use Rattle.std.proofs.Common.{◌≡◌, ◌≢◌, ℕ, suc, List, [], ◌∷◌, length, set, Some, None, refl, ap, sym, ◌∙◌, arith}
use Rattle.sts_env.specs.Environments.{AreWhole, keys, Records, record_at, Stays, PutsRecord, TakesRecord, KeepsWithout, keys_of, list_of, IsWhole}
use Rattle.laws_words.specs.Keys.{NotIn}
use Rattle.sts_env.specs.declared.env.Env.{Env}
use Rattle.sts_model.specs.declared.record.Bound.{Bound}
use Rattle.sts_env.specs.declared.env.Record.{Record}
use Rattle.sts_env.proofs.WalkLemmas.{Same, front_of, keys_cons, bindings_cons, same, vacant, longer}

staying : (old new : Records) (e : Env) → Same (record_at old) (record_at new) e.length e.front → Stays old new e
staying old new e s = record { whole = s.whole; keys = s.keys; list = s.list }

-- what `bind` promises
pub record Binds (old new : Records) (env result : Env) (b : Bound) : Type 0 where
  pub whole : IsWhole new result
  pub list : list_of new result ≡ b ∷ list_of old env
  pub puts : PutsRecord old new env result
  pub others : (other : Env) → IsWhole old other → Stays old new other

-- what `unbind` promises
pub record Unbinds (old new : Records) (env result : Env) : Type 0 where
  pub whole : IsWhole new result
  pub list : (b : Bound) × (list_of old env ≡ b ∷ list_of new result)
  pub takes : TakesRecord old new env result
  pub others : (other : Env) → IsWhole old other → KeepsWithout old new env other

pub binds : (old new : Records) (env result : Env) (b : Bound) (k : ℕ) → record_at old k ≡ None → record_at new k ≡ Some (record { bound = b; rest = env }) → ((j : ℕ) → j ≢ k → record_at new j ≡ record_at old j) → IsWhole old env → result.front ≡ Some k → result.length ≡ suc env.length → Binds old new env result b
binds old new env result b k none set others w front length =
    let rest : Same (record_at old) (record_at new) env.length env.front = same (record_at old) (record_at new) k others env.length env.front w (vacant (record_at old) k none env.length env.front w) in
    record {
      whole = rw (front, length) (k, _, refl, set, refl, rest.whole);
      list = rw (front, length) (bindings_cons (record_at new) env.length k _ set ∙ ap (λ (l : List Bound). b ∷ l) rest.list);
      puts = record { key = k; front = front; vacant = none; keys = rw (front, length) (keys_cons (record_at new) env.length k _ set ∙ ap (λ (l : List ℕ). k ∷ l) rest.keys) };
      others = λ e v. staying old new e (same (record_at old) (record_at new) k others e.length e.front v (vacant (record_at old) k none e.length e.front v));
    }

pub unbinds : (old new : Records) (env : Env) (k n : ℕ) (r : Record) → env.front ≡ Some k → env.length ≡ suc n → record_at old k ≡ Some r → record_at new k ≡ None → ((j : ℕ) → j ≢ k → record_at new j ≡ record_at old j) → IsWhole old env → Unbinds old new env r.rest
unbinds old new env k n r front length is gone others w =
    let v : AreWhole (record_at old) (suc n) (Some k) = rw (front, length) at w in
    let f = front_of (record_at old) n k v in
    let q : f.r ≡ r = let p = f.is in cc in
    let size : r.rest.length ≡ n = rw (← q) f.length in
    let whole : AreWhole (record_at old) r.rest.length r.rest.front = rw size (rw (← q) f.rest) in
    let apart : NotIn k (keys (record_at old) r.rest.length r.rest.front) = longer (record_at old) k r is r.rest.length r.rest.front (omega arith) whole in
    let rest : Same (record_at old) (record_at new) r.rest.length r.rest.front = same (record_at old) (record_at new) k others r.rest.length r.rest.front whole apart in
    let long : env.length ≡ suc r.rest.length = rw size length in
    record {
      whole = rest.whole;
      list = (r.bound, rw (front, long) (bindings_cons (record_at old) r.rest.length k r is ∙ ap (λ (l : List Bound). r.bound ∷ l) (sym rest.list)));
      takes = record { key = k; front = front; gone = gone; keys = rw (front, long) (keys_cons (record_at old) r.rest.length k r is ∙ ap (λ (l : List ℕ). k ∷ l) (sym rest.keys)) };
      others = λ e u j at h.
          let same_key : k ≡ j = cc in
          staying old new e (same (record_at old) (record_at new) k others e.length e.front u (rw same_key h));
    }

-- no whole environment holds a key without a record
pub vacant_to : (records : Records) (env : Env) (k : ℕ) → record_at records k ≡ None → IsWhole records env → NotIn k (keys_of records env)
vacant_to records env k none w = vacant (record_at records) k none env.length env.front w

-- an environment with a binding is not empty
pub not_empty : (records : Records) (env : Env) → list_of records env ≢ [] → env.length ≢ 0
not_empty records env some none = some (rw none refl)
