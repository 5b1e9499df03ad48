-- How bindings are shared after each change.
use Rattle.std.proofs.Common.{◌≡◌, ◌≢◌, ℕ, zero, suc, ◌≤◌, List, [], ◌∷◌, ◌++◌, length, Bool, true, false, Option, Some, None, refl, sym, ◌∙◌, ap, subst, get_or, set, cond, nat_eq, arith}
use Rattle.std.proofs.lemmas.Bool.Decides.{nat_tests}
use Rattle.std.specs.Prelude.{count_by}
use Rattle.std.proofs.lemmas.Option.{same_Some}
use Rattle.laws_words.proofs.ListLemmas.{put_there}
use Rattle.sts_env.specs.Environments.{Records, IsWhole, keys_of, record_at, Stays}
use Rattle.laws_words.specs.Keys.{NotIn}
use Rattle.sts_env.specs.declared.env.Env.{Env}
use Rattle.laws_words.proofs.KeyLemmas.{not_front}
use Rattle.sts_env.proofs.ChangeLemmas.{vacant_to}
use Rattle.sts_model.specs.Misuse.{is_binding}
use Rattle.sts_store.specs.Sharing.{Shares, Holder, Keeper, keys_kept, inherited, home_at, behind}

-- ---- look-ups

pub there : {X : Type 0} (xs : List (Option X)) (t u : ℕ) (o : Option X) → u ≢ t → get_or (set xs t o) u None ≡ get_or xs u None
there [] t u o ne = refl
there (x ∷ xs) zero zero o ne = absurd (ne refl)
there (x ∷ xs) zero (suc u) o ne = refl
there (x ∷ xs) (suc t) zero o ne = refl
there (x ∷ xs) (suc t) (suc u) o ne = there xs t u o (λ e. ne (ap suc e))

-- the function with another list at t
abbrev pub instead : (ℕ → List ℕ) → ℕ → List ℕ → ℕ → List ℕ
instead own t ks u = cond (nat_eq u t) ks (own u)

pub instead_here : (own : ℕ → List ℕ) (t : ℕ) (ks : List ℕ) → instead own t ks t ≡ ks
instead_here own t ks = let same : nat_eq t t ≡ true = grind (arith, nat_tests) in rw same refl

pub instead_there : (own : ℕ → List ℕ) (t u : ℕ) (ks : List ℕ) → u ≢ t → instead own t ks u ≡ own u
instead_there own t u ks ne = let other : nat_eq u t ≡ false = grind (arith, nat_tests) in rw other refl

-- an element at u of a written list was written at t, or was there before
pub by_place : {X : Type 0} (P : ℕ → X → Type 0) (xs : List (Option X)) (t : ℕ) (x y : X) → get_or xs t None ≡ Some x → P t y → ((u : ℕ) (z : X) → u ≢ t → get_or xs u None ≡ Some z → P u z) → (u : ℕ) (z : X) → get_or (set xs t (Some y)) u None ≡ Some z → P u z
by_place P xs t x y at one others u z e = by (nat_eq u t) refl
  where
    by : (b : Bool) → nat_eq u t ≡ b → P u z
    by true q =
        let same : u ≡ t = grind (arith, nat_tests) in
        let is : y ≡ z = same_Some y z (sym (put_there xs t x y at) ∙ subst (λ i. get_or (set xs t (Some y)) i None ≡ Some z) same e) in
        subst (λ i. P i z) (sym same) (subst (P t) is one)
    by false q = let ne : u ≢ t = grind (arith, nat_tests) in others u z ne (sym (there xs t u (Some y) ne) ∙ e)

module _ {c : Records} {hs : List (Option Holder)} {ks : List (Option Keeper)} {os : List (Option (Option ℕ))} {own outside : ℕ → List ℕ} where
  -- a vacant key is no task's own
  nobodys : Shares c hs ks os own outside → (u k : ℕ) (h : Holder) → get_or hs u None ≡ Some h → record_at c k ≡ None → NotIn k (own u)
  nobodys s u k h at none =
      not_front k (own u) (inherited c ks (home_at os u)) (subst (NotIn k) (s.tasks u h at) (vacant_to c h.env k none (s.whole u h at)))

-- if each kept environment stays, what is inherited stays
inherited_stays : (c d : Records) (ks : List (Option Keeper)) → ((s : ℕ) (k : Keeper) → get_or ks s None ≡ Some k → Stays c d k.kept) → (o : Option ℕ) → inherited d ks o ≡ inherited c ks o
inherited_stays c d ks stays None = refl
inherited_stays c d ks stays (Some s) = by (get_or ks s None) refl
  where
    by : (o : Option Keeper) → get_or ks s None ≡ o → keys_kept d o ≡ keys_kept c o
    by None e = refl
    by (Some k) e = (stays s k e).keys

-- a task's own bindings without the innermost one: each scope that the task opened was opened
-- before that one
pub inner : (own outside : ℕ → List ℕ) (t k r : ℕ) (rest : List ℕ) → own t ≡ k ∷ rest → length (outside r) ≤ length rest → (inside : List ℕ) × (own t ≡ inside ++ outside r) → (inside : List ℕ) × (rest ≡ inside ++ outside r)
inner own outside t k r rest is few ([], e) =
    let long : length (outside r) ≡ suc (length rest) = ap (λ (l : List ℕ). length l) (sym e ∙ is) in
    absurd (omega (arith, long, few))
inner own outside t k r rest is few (i ∷ inside, e) = (inside, by rest (inside ++ outside r) (sym is ∙ e))
  where
    by : (xs ys : List ℕ) → (k ∷ xs) ≡ (i ∷ ys) → xs ≡ ys
    by xs ys e = cc

module _ {c d : Records} {hs : List (Option Holder)} {ks : List (Option Keeper)} {os : List (Option (Option ℕ))} {own outside : ℕ → List ℕ} where
  -- a task puts one more binding in front, at a key that had no record
  pub bind_shares : Shares c hs ks os own outside → (t k : ℕ) (h g : Holder) → get_or hs t None ≡ Some h → record_at c k ≡ None → IsWhole d g.env → keys_of d g.env ≡ k ∷ keys_of c h.env → ((e : Env) → IsWhole c e → Stays c d e) → count_by is_binding g.entries ≡ suc (count_by is_binding h.entries) → ((r : ℕ) → behind r g.entries ≡ behind r h.entries) → Shares d (set hs t (Some g)) ks os (instead own t (k ∷ own t)) outside
  bind_shares s t k h g at none whole keys others more outer =
      let stays : (r : ℕ) (x : Keeper) → get_or ks r None ≡ Some x → Stays c d x.kept = λ r x e. others x.kept (s.kept r x e) in
      record {
        whole = by_place (λ u l. IsWhole d l.env) hs t h g at whole (λ u l ne e. (others l.env (s.whole u l e)).whole);
        kept = λ r x e. (stays r x e).whole;
        tasks = by_place (λ u l. keys_of d l.env ≡ instead own t (k ∷ own t) u ++ inherited d ks (home_at os u)) hs t h g at
            (rw (mine, inherited_stays c d ks stays (home_at os t), keys, s.tasks t h at) refl)
            (λ u l ne e. rw (instead_there own t u (k ∷ own t) ne, inherited_stays c d ks stays (home_at os u), (others l.env (s.whole u l e)).keys) (s.tasks u l e));
        scopes = λ r x e. rw (inherited_stays c d ks stays (home_at os x.owner), (stays r x e).keys) (s.scopes r x e);
        nested = λ r x e. deeper (own x.owner) (outside r) x.owner (nat_eq x.owner t) refl (s.nested r x e);
        apart = λ a b j x y p q ne. separate a b j x y p q ne;
        count = by_place (λ u l. length (instead own t (k ∷ own t) u) ≡ count_by is_binding l.entries) hs t h g at
            (rw (mine, more) (ap suc (s.count t h at)))
            (λ u l ne e. rw (instead_there own t u (k ∷ own t) ne) (s.count u l e));
        behind = λ r x y e f. by_place (λ u l. u ≡ x.owner → length (outside r) ≡ count_by is_binding (behind r l.entries)) hs t h g at
            (λ same. rw (outer r) (s.behind r x h e (subst (λ i. get_or hs i None ≡ Some h) same at)))
            (λ u l ne p same. s.behind r x l e (subst (λ i. get_or hs i None ≡ Some l) same p)) x.owner y f refl;
      }
    where
      deeper : (os xs : List ℕ) (w : ℕ) (b : Bool) → nat_eq w t ≡ b → (inside : List ℕ) × (own w ≡ inside ++ xs) → (inside : List ℕ) × (instead own t (k ∷ own t) w ≡ inside ++ xs)
      deeper os xs w true q p =
          let same : t ≡ w = grind (arith, nat_tests) in
          (k ∷ p.0, rw q (rw same (ap (λ l. k ∷ l) p.1)))
      deeper os xs w false q p = (p.0, rw q p.1)

      mine : instead own t (k ∷ own t) t ≡ k ∷ own t
      mine = instead_here own t (k ∷ own t)

      separate : (a b j : ℕ) (x y : Holder) → get_or (set hs t (Some g)) a None ≡ Some x → get_or (set hs t (Some g)) b None ≡ Some y → a ≢ b → (NotIn j (instead own t (k ∷ own t) a) → ⊥) → NotIn j (instead own t (k ∷ own t) b)
      separate a b j x y p q ne held = by (nat_eq a t) refl (nat_eq b t) refl
        where
          from : a ≡ t → b ≢ t → (o : Bool) → nat_eq j k ≡ o → NotIn j (own b)
          from e f true l =
              let same : j ≡ k = grind (arith, nat_tests) in
              subst (λ i. NotIn i (own b)) (sym same) (nobodys s b k y (sym (there hs t b (Some g) f) ∙ q) none)
          from e f false l =
              let other : j ≢ k = grind (arith, nat_tests) in
              let held_t : NotIn j (k ∷ own t) → ⊥ = subst (λ l. NotIn j l → ⊥) (ap (instead own t (k ∷ own t)) e ∙ mine) held in
              s.apart t b j h y at (sym (there hs t b (Some g) f) ∙ q) (λ r. f (sym r)) (λ n. held_t (other, n))

          by : (m : Bool) → nat_eq a t ≡ m → (n : Bool) → nat_eq b t ≡ n → NotIn j (instead own t (k ∷ own t) b)
          by true m true n = let same : a ≡ b = grind (arith, nat_tests) in absurd (ne same)
          by true m false n =
              let e : a ≡ t = grind (arith, nat_tests) in
              let f : b ≢ t = grind (arith, nat_tests) in
              subst (NotIn j) (sym (instead_there own t b (k ∷ own t) f)) (from e f (nat_eq j k) refl)
          by false m true n =
              let e : a ≢ t = grind (arith, nat_tests) in
              let f : b ≡ t = grind (arith, nat_tests) in
              let held_a : NotIn j (own a) → ⊥ = subst (λ l. NotIn j l → ⊥) (instead_there own t a (k ∷ own t) e) held in
              let p_a = sym (there hs t a (Some g) e) ∙ p in
              let apart : NotIn j (own t) = s.apart a t j x h p_a at e held_a in
              let both : NotIn j (k ∷ own t) = ((λ r. held_a (subst (λ i. NotIn i (own a)) (sym r) (nobodys s a k x p_a none))), apart) in
              subst (NotIn j) (sym (ap (instead own t (k ∷ own t)) f ∙ mine)) both
          by false m false n =
              let e : a ≢ t = grind (arith, nat_tests) in
              let f : b ≢ t = grind (arith, nat_tests) in
              let held_a : NotIn j (own a) → ⊥ = subst (λ l. NotIn j l → ⊥) (instead_there own t a (k ∷ own t) e) held in
              subst (NotIn j) (sym (instead_there own t b (k ∷ own t) f)) (s.apart a b j x y (sym (there hs t a (Some g) e) ∙ p) (sym (there hs t b (Some g) f) ∙ q) ne held_a)

  -- a task takes out its innermost binding, and no other environment in use holds its record
  pub unbind_shares : Shares c hs ks os own outside → (t k : ℕ) (h g : Holder) (rest : List ℕ) → get_or hs t None ≡ Some h → own t ≡ k ∷ rest → IsWhole d g.env → keys_of c h.env ≡ k ∷ keys_of d g.env → ((u : ℕ) (l : Holder) → u ≢ t → get_or hs u None ≡ Some l → Stays c d l.env) → ((r : ℕ) (x : Keeper) → get_or ks r None ≡ Some x → Stays c d x.kept) → count_by is_binding h.entries ≡ suc (count_by is_binding g.entries) → ((r : ℕ) → behind r g.entries ≡ behind r h.entries) → ((r : ℕ) → count_by is_binding (behind r g.entries) ≤ count_by is_binding g.entries) → Shares d (set hs t (Some g)) ks os (instead own t rest) outside
  unbind_shares s t k h g rest at first whole keys others kept less outer fewer =
      record {
        whole = by_place (λ u l. IsWhole d l.env) hs t h g at whole (λ u l ne e. (others u l ne e).whole);
        kept = λ r x e. (kept r x e).whole;
        tasks = by_place (λ u l. keys_of d l.env ≡ instead own t rest u ++ inherited d ks (home_at os u)) hs t h g at
            (rw (instead_here own t rest, inherited_stays c d ks kept (home_at os t)) (tail k (keys_of d g.env) (rest ++ inherited c ks (home_at os t)) (sym keys ∙ s.tasks t h at ∙ ap (λ l. l ++ inherited c ks (home_at os t)) first)))
            (λ u l ne e. rw (instead_there own t u rest ne, inherited_stays c d ks kept (home_at os u), (others u l ne e).keys) (s.tasks u l e));
        scopes = λ r x e. rw (inherited_stays c d ks kept (home_at os x.owner), (kept r x e).keys) (s.scopes r x e);
        nested = λ r x e. deeper r x e (nat_eq x.owner t) refl;
        apart = λ a b j x y p q ne held. separate a b j x y p q ne held (nat_eq a t) refl (nat_eq b t) refl;
        count = by_place (λ u l. length (instead own t rest u) ≡ count_by is_binding l.entries) hs t h g at
            (rw (instead_here own t rest) size)
            (λ u l ne e. rw (instead_there own t u rest ne) (s.count u l e));
        behind = λ r x y e f. by_place (λ u l. u ≡ x.owner → length (outside r) ≡ count_by is_binding (behind r l.entries)) hs t h g at
            (λ same. rw (outer r) (s.behind r x h e (subst (λ i. get_or hs i None ≡ Some h) same at)))
            (λ u l ne p same. s.behind r x l e (subst (λ i. get_or hs i None ≡ Some l) same p)) x.owner y f refl;
      }
    where
      tail : (i : ℕ) (xs ys : List ℕ) → (i ∷ xs) ≡ (i ∷ ys) → xs ≡ ys
      tail i xs ys e = cc

      size : length rest ≡ count_by is_binding g.entries
      size = let n = ap (λ (l : List ℕ). length l) first in let m = s.count t h at in omega (arith, n, m, less)

      deeper : (r : ℕ) (x : Keeper) → get_or ks r None ≡ Some x → (b : Bool) → nat_eq x.owner t ≡ b → (inside : List ℕ) × (instead own t rest x.owner ≡ inside ++ outside r)
      deeper r x e true q =
          let same : x.owner ≡ t = grind (arith, nat_tests) in
          let nested : (inside : List ℕ) × (own t ≡ inside ++ outside r) = subst (λ i. (inside : List ℕ) × (own i ≡ inside ++ outside r)) same (s.nested r x e) in
          let far = s.behind r x h e (subst (λ i. get_or hs i None ≡ Some h) (sym same) at) in
          let out : count_by is_binding (behind r h.entries) ≡ count_by is_binding (behind r g.entries) = ap (λ l. count_by is_binding l) (sym (outer r)) in
          let few = fewer r in
          let p = inner own outside t k r rest first (omega (arith, far, out, few, size)) nested in
          (p.0, ap (instead own t rest) same ∙ instead_here own t rest ∙ p.1)
      deeper r x e false q = let p = s.nested r x e in (p.0, rw q p.1)

      -- what is in the rest is t's own
      wide : (j : ℕ) → (NotIn j rest → ⊥) → NotIn j (own t) → ⊥
      wide j held n = let m : NotIn j (k ∷ rest) = subst (NotIn j) first n in held m.1

      separate : (a b j : ℕ) (x y : Holder) → get_or (set hs t (Some g)) a None ≡ Some x → get_or (set hs t (Some g)) b None ≡ Some y → a ≢ b → (NotIn j (instead own t rest a) → ⊥) → (m : Bool) → nat_eq a t ≡ m → (n : Bool) → nat_eq b t ≡ n → NotIn j (instead own t rest b)
      separate a b j x y p q ne held true m true n = let same : a ≡ b = grind (arith, nat_tests) in absurd (ne same)
      separate a b j x y p q ne held true m false n =
          let e : a ≡ t = grind (arith, nat_tests) in
          let f : b ≢ t = grind (arith, nat_tests) in
          let held_t : NotIn j rest → ⊥ = subst (λ l. NotIn j l → ⊥) (ap (instead own t rest) e ∙ instead_here own t rest) held in
          subst (NotIn j) (sym (instead_there own t b rest f)) (s.apart t b j h y at (sym (there hs t b (Some g) f) ∙ q) (λ r. f (sym r)) (wide j held_t))
      separate a b j x y p q ne held false m true n =
          let e : a ≢ t = grind (arith, nat_tests) in
          let f : b ≡ t = grind (arith, nat_tests) in
          let held_a : NotIn j (own a) → ⊥ = subst (λ l. NotIn j l → ⊥) (instead_there own t a rest e) held in
          let all : NotIn j (k ∷ rest) = subst (NotIn j) first (s.apart a t j x h (sym (there hs t a (Some g) e) ∙ p) at e held_a) in
          subst (NotIn j) (sym (ap (instead own t rest) f ∙ instead_here own t rest)) all.1
      separate a b j x y p q ne held false m false n =
          let e : a ≢ t = grind (arith, nat_tests) in
          let f : b ≢ t = grind (arith, nat_tests) in
          let held_a : NotIn j (own a) → ⊥ = subst (λ l. NotIn j l → ⊥) (instead_there own t a rest e) held in
          subst (NotIn j) (sym (instead_there own t b rest f)) (s.apart a b j x y (sym (there hs t a (Some g) e) ∙ p) (sym (there hs t b (Some g) f) ∙ q) ne held_a)

-- a task ends: its environment is no longer in use
pub end_shares : {c : Records} {hs : List (Option Holder)} {ks : List (Option Keeper)} {os : List (Option (Option ℕ))} {own outside : ℕ → List ℕ} → Shares c hs ks os own outside → (t : ℕ) → Shares c (set hs t None) ks os own outside
end_shares {c} {hs} {ks} {os} {own} {outside} s t =
    record {
      whole = λ u l e. s.whole u l (still hs t u l e);
      kept = s.kept;
      tasks = λ u l e. s.tasks u l (still hs t u l e);
      scopes = s.scopes;
      nested = s.nested;
      apart = λ a b j x y p q ne held. s.apart a b j x y (still hs t a x p) (still hs t b y q) ne held;
      count = λ u l e. s.count u l (still hs t u l e);
      behind = λ r x l e f. s.behind r x l e (still hs t x.owner l f);
    }
  where
    still : {X : Type 0} (xs : List (Option X)) (t u : ℕ) (x : X) → get_or (set xs t None) u None ≡ Some x → get_or xs u None ≡ Some x
    still [] t u x e = e
    still (o ∷ xs) zero zero x e = cc
    still (o ∷ xs) zero (suc u) x e = e
    still (o ∷ xs) (suc t) zero x e = e
    still (o ∷ xs) (suc t) (suc u) x e = still xs t u x e
