-- If the last entry of a task is a binding, no other environment in use has its record.
use Rattle.std.proofs.Common.{◌≡◌, ◌≢◌, ℕ, zero, suc, ◌<◌, List, ◌∷◌, ◌++◌, Option, Some, None, refl, sym, ◌∙◌, subst, arith, nat_eq, Bool, true, false}
use Rattle.std.proofs.lemmas.Bool.Decides.{nat_tests}
use Rattle.sts_env.specs.Environments.{Records, AreWhole, keys, keys_of, record_at}
use Rattle.laws_words.specs.Keys.{NotIn}
use Rattle.laws_words.proofs.KeyLemmas.{not_front, not_back, not_both}
use Rattle.sts_env.specs.Sharing.{Sharing, Lives, IsOpen, inherited, IsSharing, IsLastBinding, FrontIsUnshared}
use Rattle.sts_env.specs.declared.env.Record.{Record}
use Rattle.sts_env.proofs.WalkLemmas.{front_of, keys_cons, longer}

-- the first key is the front
front_of_keys : (at : ℕ → Option Record) (n : ℕ) (front : Option ℕ) (k : ℕ) (rest : List ℕ) → keys at n front ≡ k ∷ rest → front ≡ Some k
front_of_keys at zero front k rest e = cc
front_of_keys at (suc n) None k rest e = cc
front_of_keys at (suc n) (Some x) k rest e = cc

-- the first key comes once
once_in_keys : (at : ℕ → Option Record) (n : ℕ) (front : Option ℕ) (k : ℕ) (rest : List ℕ) → AreWhole at n front → keys at n front ≡ k ∷ rest → NotIn k rest
once_in_keys at zero front k rest w e = cc
once_in_keys at (suc n) None k rest w e = cc
once_in_keys at (suc n) (Some x) k rest w e =
    let f = front_of at n x w in
    let both = sym (keys_cons at n x f.r f.is) ∙ e in
    let first : x ≡ k = cc in
    let others : keys at n f.r.rest.front ≡ rest = cc in
    let apart = longer at x f.r f.is n f.r.rest.front (omega (arith, f.length)) f.rest in
    subst (NotIn k) others (subst (λ j. NotIn j (keys at n f.r.rest.front)) first apart)

-- it is not another of t's own
once : (c : Records) (h : Sharing) (t k : ℕ) → IsSharing c h → (f : IsLastBinding h t k) → NotIn k f.rest
once c h t k is f =
    not_front k f.rest (inherited c h (h.home t))
    (once_in_keys (record_at c) (h.env t).length (h.env t).front k (f.rest ++ inherited c h (h.home t)) (is.whole t f.lives) (is.tasks t f.lives ∙ (rw f.own refl)))

-- the record is one of t's own
mine : (h : Sharing) (t k : ℕ) → IsLastBinding h t k → NotIn k (h.own t) → ⊥
mine h t k f n = let m : NotIn k (k ∷ f.rest) = subst (NotIn k) f.own n in m.0 refl

-- it is not outside of a scope of t, nor of another task's
by_owner : (c : Records) (h : Sharing) (t k s : ℕ) → IsSharing c h → IsLastBinding h t k → IsOpen h s → (b : Bool) → nat_eq (h.owner s) t ≡ b → NotIn k (h.outside s)
by_owner c h t k s is f opened true e =
    let same : h.owner s ≡ t = grind (arith, nat_tests) in
    let p = f.scopes s opened same in
    not_back k p.0 (h.outside s) (subst (NotIn k) p.1 (once c h t k is f))
by_owner c h t k s is f opened false e =
    let other : t ≢ h.owner s = λ q. let r : nat_eq t t ≡ false = subst (λ x. nat_eq x t ≡ false) (sym q) e in grind (arith, nat_tests) in
    let p = is.nested s opened in
    not_back k p.0 (h.outside s) (subst (NotIn k) p.1 (is.apart t (h.owner s) k f.lives (is.owners s opened) other (mine h t k f)))

-- it is in nothing that a task took over, if no scope of an older owner keeps it
by_home : (c : Records) (h : Sharing) (k n u : ℕ) → IsSharing c h → Lives h u → u < suc n → ((s : ℕ) → IsOpen h s → h.owner s < n → NotIn k (keys_of c (h.kept s))) → (o : Option ℕ) → h.home u ≡ o → NotIn k (inherited c h o)
by_home c h k n u is lives less below None e = tt
by_home c h k n u is lives less below (Some s) e =
    let p = is.homes u s lives e in
    below s p.0 (omega (arith, p.1, less))

-- by induction on the birth of the owner
below : (c : Records) (h : Sharing) (t k : ℕ) → IsSharing c h → IsLastBinding h t k → (n s : ℕ) → IsOpen h s → h.owner s < n → NotIn k (keys_of c (h.kept s))
below c h t k is f zero s opened less = absurd (omega arith)
below c h t k is f (suc n) s opened less =
    subst (NotIn k) (sym (is.scopes s opened))
    (not_both k (h.outside s) (inherited c h (h.home (h.owner s)))
    (by_owner c h t k s is f opened (nat_eq (h.owner s) t) refl)
    (by_home c h k n (h.owner s) is (is.owners s opened) less (below c h t k is f n) (h.home (h.owner s)) refl))

pub front_is_unshared : FrontIsUnshared
front_is_unshared c h t k is f =
    record {
      front = front_of_keys (record_at c) (h.env t).length (h.env t).front k (f.rest ++ inherited c h (h.home t)) (is.tasks t f.lives ∙ (rw f.own refl));
      scopes = λ s opened. below c h t k is f (suc (h.owner s)) s opened (omega arith);
      tasks = λ u lives other.
          subst (NotIn k) (sym (is.tasks u lives))
          (not_both k (h.own u) (inherited c h (h.home u))
          (is.apart t u k f.lives lives (λ e. other (sym e)) (mine h t k f))
          (by_home c h k (suc u) u is lives (omega arith) (below c h t k is f (suc u)) (h.home u) refl));
    }
