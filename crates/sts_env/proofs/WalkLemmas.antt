-- Chains of records, and the chains that a change of one record leaves alone.
use Rattle.std.proofs.Common.{◌≡◌, ◌≢◌, ℕ, zero, suc, ◌≤◌, List, ◌∷◌, length, Option, Some, None, false, refl, ap, sym, ◌∙◌, arith, subst}
use Rattle.std.specs.Prelude.{nat_eq}
use Rattle.std.proofs.lemmas.Bool.Decides.{nat_tests}
use Rattle.sts_env.specs.Environments.{AreWhole, keys, bindings}
use Rattle.laws_words.specs.Keys.{NotIn}
use Rattle.sts_model.specs.Environment.{read}
use Rattle.sts_env.specs.declared.env.Record.{Record}

-- the front record of a list
pub record Front (at : ℕ → Option Record) (n x : ℕ) : Type 0 where
  pub r : Record
  pub is : at x ≡ Some r
  pub length : r.rest.length ≡ n
  pub rest : AreWhole at n r.rest.front

pub front_of : (at : ℕ → Option Record) (n x : ℕ) → AreWhole at (suc n) (Some x) → Front at n x
front_of at n x (k, r, e, is, length, rest) =
    let q : x ≡ k = cc in
    record { r = r; is = rw q is; length = length; rest = rest }

pub keys_cons : (at : ℕ → Option Record) (n x : ℕ) (r : Record) → at x ≡ Some r → keys at (suc n) (Some x) ≡ x ∷ keys at n r.rest.front
keys_cons at n x r is = rw (is, keys) refl

pub bindings_cons : (at : ℕ → Option Record) (n x : ℕ) (r : Record) → at x ≡ Some r → bindings at (suc n) (Some x) ≡ r.bound ∷ bindings at n r.rest.front
bindings_cons at n x r is = rw (is, bindings) refl

pub record Same (old new : ℕ → Option Record) (n : ℕ) (front : Option ℕ) : Type 0 where
  pub whole : AreWhole new n front
  pub keys : keys new n front ≡ keys old n front
  pub list : bindings new n front ≡ bindings old n front

-- a list without the changed record stays
pub same : (old new : ℕ → Option Record) (k : ℕ) → ((j : ℕ) → j ≢ k → new j ≡ old j) → (n : ℕ) (front : Option ℕ) → AreWhole old n front → NotIn k (keys old n front) → Same old new n front
same old new k others zero front w h = record { whole = w; keys = refl; list = refl }
same old new k others (suc n) None (x, r, e, is, length, rest) h = cc
same old new k others (suc n) (Some x) w h =
    let f = front_of old n x w in
    let apart : NotIn k (x ∷ keys old n f.r.rest.front) = subst (NotIn k) (keys_cons old n x f.r f.is) h in
    let s : Same old new n f.r.rest.front = same old new k others n f.r.rest.front f.rest apart.1 in
    let is : new x ≡ Some f.r = others x (λ e. apart.0 (sym e)) ∙ f.is in
    record {
      whole = (x, f.r, refl, is, f.length, s.whole);
      keys = keys_cons new n x f.r is ∙ ap (λ (l : List ℕ). x ∷ l) s.keys ∙ sym (keys_cons old n x f.r f.is);
      list = bindings_cons new n x f.r is ∙ ap (λ (l : List _). f.r.bound ∷ l) s.list ∙ sym (bindings_cons old n x f.r f.is);
    }

-- a vacant key is in no list
pub vacant : (at : ℕ → Option Record) (k : ℕ) → at k ≡ None → (n : ℕ) (front : Option ℕ) → AreWhole at n front → NotIn k (keys at n front)
vacant at k none zero front w = tt
vacant at k none (suc n) None w = tt
vacant at k none (suc n) (Some x) w =
    let f = front_of at n x w in
    subst (NotIn k) (sym (keys_cons at n x f.r f.is)) ((λ e. let q : at k ≡ Some f.r = rw e f.is in cc), vacant at k none n f.r.rest.front f.rest)

-- a record with more records after it than a chain has is not in that chain
pub longer : (at : ℕ → Option Record) (k : ℕ) (r : Record) → at k ≡ Some r → (n : ℕ) (front : Option ℕ) → n ≤ r.rest.length → AreWhole at n front → NotIn k (keys at n front)
longer at k r is zero front less w = tt
longer at k r is (suc n) None less w = tt
longer at k r is (suc n) (Some x) less w =
    let f = front_of at n x w in
    subst (NotIn k) (sym (keys_cons at n x f.r f.is)) (
      (λ e.
          let q : at k ≡ Some f.r = rw e f.is in
          let s : r ≡ f.r = cc in
          let r : r.rest.length ≡ n = rw s f.length in
          absurd (omega arith)),
      longer at k r is n f.r.rest.front (omega arith) f.rest,
    )

-- one record further
pub further : (at : ℕ → Option Record) (m n x : ℕ) (front : Option ℕ) (r : Record) (k : ℕ) → m ≡ suc n → front ≡ Some x → at x ≡ Some r → r.bound.key ≢ k → AreWhole at m front → AreWhole at n r.rest.front × (read (bindings at n r.rest.front) k ≡ read (bindings at m front) k)
further at m n x front r k length is there other w =
    let v : AreWhole at (suc n) (Some x) = rw (is, length) at w in
    let f = front_of at n x v in
    let q : f.r ≡ r = let p = f.is in cc in
    let none : nat_eq r.bound.key k ≡ false = grind (arith, nat_tests) in
    (rw (← q) f.rest, rw (is, length, bindings_cons at n x r there) (rw none refl))
