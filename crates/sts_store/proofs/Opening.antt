-- How bindings are shared after a scope is opened or closed.
use Rattle.std.proofs.Common.{◌≡◌, ◌≢◌, ℕ, zero, suc, List, [], ◌∷◌, ◌++◌, length, Bool, true, false, Option, Some, None, refl, sym, ◌∙◌, ap, subst, get_or, set, nat_eq, arith}
use Rattle.std.proofs.lemmas.Bool.Decides.{nat_tests}
use Rattle.std.specs.Prelude.{count_by}
use Rattle.std.proofs.lemmas.Option.{same_Some}
use Rattle.sts_env.specs.Environments.{Records, IsWhole, keys_of}
use Rattle.laws_words.specs.Keys.{NotIn}
use Rattle.laws_words.proofs.ListLemmas.{old_at}
use Rattle.sts_model.specs.Misuse.{is_binding}
use Rattle.sts_store.specs.Sharing.{Shares, Holder, Keeper, keys_kept, inherited, home_at, behind}
use Rattle.sts_store.proofs.Shared.{by_place, there, instead, instead_here, instead_there}
use Rattle.sts_tree.proofs.ClosedLemmas.{beside_hole}

less : (a b : ℕ) → suc a ≡ suc b → a ≡ b
less a b q = omega (arith, q)

-- an element at r of a list with one more element is the new one, or was there before
by_new : {X : Type 0} (Q : ℕ → X → Type 0) (xs : List (Option X)) (y : X) → Q (length xs) y → ((r : ℕ) (z : X) → r ≢ length xs → get_or xs r None ≡ Some z → Q r z) → (r : ℕ) (z : X) → get_or (xs ++ Some y ∷ []) r None ≡ Some z → Q r z
by_new Q [] y one others zero z e = subst (Q zero) (same_Some y z e) one
by_new Q [] y one others (suc r) z e = cc
by_new Q (x ∷ xs) y one others zero z e = others zero z (λ q. cc) e
by_new Q (x ∷ xs) y one others (suc r) z e = by_new (λ i. Q (suc i)) xs y one (λ i w ne. others (suc i) w (λ q. ne (less i (length xs) q))) r z e

-- a task that lives now lived before
was : (hs : List (Option Holder)) (t : ℕ) (h g : Holder) → get_or hs t None ≡ Some h → (u : ℕ) (l : Holder) → get_or (set hs t (Some g)) u None ≡ Some l → (k : Holder) × (get_or hs u None ≡ Some k)
was hs t h g at = by_place (λ u l. (k : Holder) × (get_or hs u None ≡ Some k)) hs t h g at (h, at) (λ u l ne e. (l, e))

module _ {c : Records} {hs : List (Option Holder)} {ks : List (Option Keeper)} {os : List (Option (Option ℕ))} {own outside : ℕ → List ℕ} where
  pub open_shares : Shares c hs ks os own outside → (t : ℕ) (h g : Holder) → get_or hs t None ≡ Some h → g.env ≡ h.env → count_by is_binding g.entries ≡ count_by is_binding h.entries → behind (length ks) g.entries ≡ h.entries → ((r : ℕ) → r ≢ length ks → behind r g.entries ≡ behind r h.entries) → ((u r : ℕ) → home_at os u ≡ Some r → r ≢ length ks) → Shares c (set hs t (Some g)) (ks ++ Some (record { owner = t; kept = h.env }) ∷ []) os own (instead outside (length ks) (own t))
  open_shares s t h g at env same outer others fresh =
      record {
        whole = by_place (λ u l. IsWhole c l.env) hs t h g at (subst (IsWhole c) (sym env) (s.whole t h at)) (λ u l ne e. s.whole u l e);
        kept = by_new (λ r x. IsWhole c x.kept) ks new (s.whole t h at) (λ r x ne e. s.kept r x e);
        tasks = by_place (λ u l. keys_of c l.env ≡ own u ++ inherited c (ks ++ Some new ∷ []) (home_at os u)) hs t h g at
            (ap (keys_of c) env ∙ s.tasks t h at ∙ ap (λ l. own t ++ l) (sym (inherits t)))
            (λ u l ne e. s.tasks u l e ∙ ap (λ l. own u ++ l) (sym (inherits u)));
        scopes = by_new (λ r x. keys_of c x.kept ≡ instead outside (length ks) (own t) r ++ inherited c (ks ++ Some new ∷ []) (home_at os x.owner)) ks new
            (rw (instead_here outside (length ks) (own t), inherits t) (s.tasks t h at))
            (λ r x ne e. rw (instead_there outside (length ks) r (own t) ne, inherits x.owner) (s.scopes r x e));
        nested = by_new (λ r x. (inside : List ℕ) × (own x.owner ≡ inside ++ instead outside (length ks) (own t) r)) ks new
            ([], sym (instead_here outside (length ks) (own t)))
            (λ r x ne e. let p = s.nested r x e in (p.0, p.1 ∙ ap (λ l. p.0 ++ l) (sym (instead_there outside (length ks) r (own t) ne))));
        apart = λ a b k x y p q ne held. let v = was hs t h g at a x p in let w = was hs t h g at b y q in s.apart a b k v.0 w.0 v.1 w.1 ne held;
        count = by_place (λ u l. length (own u) ≡ count_by is_binding l.entries) hs t h g at (s.count t h at ∙ sym same) (λ u l ne e. s.count u l e);
        behind = λ r x y e f. by_new (λ r x. (l : Holder) → get_or (set hs t (Some g)) x.owner None ≡ Some l → length (instead outside (length ks) (own t) r) ≡ count_by is_binding (behind r l.entries)) ks new
            (λ l e. by_place (λ u l. u ≡ t → length (instead outside (length ks) (own t) (length ks)) ≡ count_by is_binding (behind (length ks) l.entries)) hs t h g at
            (λ q. rw (instead_here outside (length ks) (own t), outer) (s.count t h at))
            (λ u l ne e q. absurd (ne q)) t l e refl)
            (λ r x ne e l f. rw (instead_there outside (length ks) r (own t) ne) (by_place (λ u l. u ≡ x.owner → length (outside r) ≡ count_by is_binding (behind r l.entries)) hs t h g at
            (λ q. rw (others r ne) (s.behind r x h e (subst (λ i. get_or hs i None ≡ Some h) q at)))
            (λ u l no p q. s.behind r x l e (subst (λ i. get_or hs i None ≡ Some l) q p)) x.owner l f refl)) r x e y f;
      }
    where
      new : Keeper
      new = record { owner = t; kept = h.env }

      inherits : (u : ℕ) → inherited c (ks ++ Some new ∷ []) (home_at os u) ≡ inherited c ks (home_at os u)
      inherits u = by (home_at os u) refl
        where
          by : (o : Option ℕ) → home_at os u ≡ o → inherited c (ks ++ Some new ∷ []) o ≡ inherited c ks o
          by None e = refl
          by (Some r) e = ap (keys_kept c) (old_at ks new r (fresh u r e))

  -- a scope without living subtasks is closed, and its subtasks have no scope any longer
  pub close_shares : Shares c hs ks os own outside → (t s : ℕ) (h g : Holder) (qs : List (Option (Option ℕ))) → get_or hs t None ≡ Some h → g.env ≡ h.env → count_by is_binding g.entries ≡ count_by is_binding h.entries → ((r : ℕ) → r ≢ s → behind r g.entries ≡ behind r h.entries) → ((u : ℕ) (l : Holder) → get_or hs u None ≡ Some l → (home_at qs u ≡ home_at os u) × (home_at os u ≢ Some s)) → ((r : ℕ) (k : Keeper) → r ≢ s → get_or ks r None ≡ Some k → (l : Holder) × (get_or hs k.owner None ≡ Some l)) → Shares c (set hs t (Some g)) (set ks s None) qs own outside
  close_shares z t s h g qs at env same others homes owners =
      record {
        whole = by_place (λ u l. IsWhole c l.env) hs t h g at (subst (IsWhole c) (sym env) (z.whole t h at)) (λ u l ne e. z.whole u l e);
        kept = λ r x e. z.kept r x (beside_hole ks s r x e).1;
        tasks = by_place (λ u l. keys_of c l.env ≡ own u ++ inherited c (set ks s None) (home_at qs u)) hs t h g at
            (ap (keys_of c) env ∙ z.tasks t h at ∙ ap (λ l. own t ++ l) (sym (inherits t h at)))
            (λ u l ne e. z.tasks u l e ∙ ap (λ l. own u ++ l) (sym (inherits u l e)));
        scopes = λ r x e.
            let p = beside_hole ks s r x e in
            let o = owners r x p.0 p.1 in
            z.scopes r x p.1 ∙ ap (λ l. outside r ++ l) (sym (inherits x.owner o.0 o.1));
        nested = λ r x e. z.nested r x (beside_hole ks s r x e).1;
        apart = λ a b k x y p q ne off. let v = was hs t h g at a x p in let w = was hs t h g at b y q in z.apart a b k v.0 w.0 v.1 w.1 ne off;
        count = by_place (λ u l. length (own u) ≡ count_by is_binding l.entries) hs t h g at (z.count t h at ∙ sym same) (λ u l ne e. z.count u l e);
        behind = λ r x y e f.
            let p = beside_hole ks s r x e in
            by_place (λ u l. u ≡ x.owner → length (outside r) ≡ count_by is_binding (behind r l.entries)) hs t h g at
            (λ q. rw (others r p.0) (z.behind r x h p.1 (subst (λ i. get_or hs i None ≡ Some h) q at)))
            (λ u l no e q. z.behind r x l p.1 (subst (λ i. get_or hs i None ≡ Some l) q e)) x.owner y f refl;
      }
    where
      inherits : (u : ℕ) (l : Holder) → get_or hs u None ≡ Some l → inherited c (set ks s None) (home_at qs u) ≡ inherited c ks (home_at os u)
      inherits u l e = ap (inherited c (set ks s None)) (homes u l e).0 ∙ by (home_at os u) (homes u l e).1
        where
          by : (o : Option ℕ) → o ≢ Some s → inherited c (set ks s None) o ≡ inherited c ks o
          by None ne = refl
          by (Some r) ne = ap (keys_kept c) (there ks s r None (λ q. ne (ap (λ i. Some i) q)))

  -- a task is forked in an open scope: it lives with that scope's environment, or never lives
  pub fork_shares : Shares c hs ks os own outside → (s : ℕ) (k : Keeper) (o : Option Holder) → get_or ks s None ≡ Some k → length os ≡ length hs → ((g : Holder) → o ≡ Some g → (g.env ≡ k.kept) × (g.entries ≡ [])) → ((r : ℕ) (x : Keeper) → get_or ks r None ≡ Some x → x.owner ≢ length hs) → Shares c (hs ++ o ∷ []) ks (os ++ Some (Some s) ∷ []) (instead own (length hs) []) outside
  fork_shares z s k o at born new owners =
      record {
        whole = by_end (λ u l. IsWhole c l.env) (λ l e. subst (IsWhole c) (sym (new l e).0) (z.kept s k at)) (λ u l ne e. z.whole u l e);
        kept = z.kept;
        tasks = by_end (λ u l. keys_of c l.env ≡ instead own (length hs) [] u ++ inherited c ks (home_at (os ++ Some (Some s) ∷ []) u))
            (λ l e. rw (instead_here own (length hs) [], home_new) (ap (keys_of c) (new l e).0 ∙ ap (keys_kept c) (sym at)))
            (λ u l ne e. rw (instead_there own (length hs) u [] ne, home_old u ne) (z.tasks u l e));
        scopes = λ r x e. rw (home_old x.owner (owners r x e)) (z.scopes r x e);
        nested = λ r x e. let p = z.nested r x e in (p.0, instead_there own (length hs) x.owner [] (owners r x e) ∙ p.1);
        apart = λ a b j x y p q ne off. separate a b j x y p q ne off (nat_eq a (length hs)) refl (nat_eq b (length hs)) refl;
        count = by_end (λ u l. length (instead own (length hs) [] u) ≡ count_by is_binding l.entries)
            (λ l e. rw (instead_here own (length hs) [], (new l e).1) refl)
            (λ u l ne e. rw (instead_there own (length hs) u [] ne) (z.count u l e));
        behind = λ r x l e f. z.behind r x l e (sym (old hs o x.owner (owners r x e)) ∙ f);
      }
    where
      old : {X : Type 0} (xs : List (Option X)) (y : Option X) (r : ℕ) → r ≢ length xs → get_or (xs ++ y ∷ []) r None ≡ get_or xs r None
      old [] y zero ne = absurd (ne refl)
      old [] y (suc r) ne = refl
      old (x ∷ xs) y zero ne = refl
      old (x ∷ xs) y (suc r) ne = old xs y r (λ q. ne (ap suc q))

      last : {X : Type 0} (xs : List (Option X)) (y : Option X) → get_or (xs ++ y ∷ []) (length xs) None ≡ y
      last [] y = refl
      last (x ∷ xs) y = last xs y

      by_end : (Q : ℕ → Holder → Type 0) → ((l : Holder) → o ≡ Some l → Q (length hs) l) → ((u : ℕ) (l : Holder) → u ≢ length hs → get_or hs u None ≡ Some l → Q u l) → (u : ℕ) (l : Holder) → get_or (hs ++ o ∷ []) u None ≡ Some l → Q u l
      by_end Q one rest u l e = by (nat_eq u (length hs)) refl
        where
          by : (b : Bool) → nat_eq u (length hs) ≡ b → Q u l
          by true q =
              let is : u ≡ length hs = grind (arith, nat_tests) in
              subst (λ i. Q i l) (sym is) (one l (sym (last hs o) ∙ subst (λ i. get_or (hs ++ o ∷ []) i None ≡ Some l) is e))
          by false q = let ne : u ≢ length hs = grind (arith, nat_tests) in rest u l ne (sym (old hs o u ne) ∙ e)

      home_new : home_at (os ++ Some (Some s) ∷ []) (length hs) ≡ Some s
      home_new = ap (λ i. home_at (os ++ Some (Some s) ∷ []) i) (sym born) ∙ ap (λ x. elim x [ None ↦ None | Some q ↦ q ]) (last os (Some (Some s)))

      home_old : (u : ℕ) → u ≢ length hs → home_at (os ++ Some (Some s) ∷ []) u ≡ home_at os u
      home_old u ne = ap (λ x. elim x [ None ↦ None | Some q ↦ q ]) (old os (Some (Some s)) u (λ q. ne (q ∙ born)))

      separate : (a b j : ℕ) (x y : Holder) → get_or (hs ++ o ∷ []) a None ≡ Some x → get_or (hs ++ o ∷ []) b None ≡ Some y → a ≢ b → (NotIn j (instead own (length hs) [] a) → ⊥) → (m : Bool) → nat_eq a (length hs) ≡ m → (n : Bool) → nat_eq b (length hs) ≡ n → NotIn j (instead own (length hs) [] b)
      separate a b j x y p q ne off m e true f = rw f tt
      separate a b j x y p q ne off true e false f = absurd (off (rw e tt))
      separate a b j x y p q ne off false e false f =
          let u : a ≢ length hs = grind (arith, nat_tests) in
          let v : b ≢ length hs = grind (arith, nat_tests) in
          let was_a : NotIn j (own a) → ⊥ = subst (λ l. NotIn j l → ⊥) (instead_there own (length hs) a [] u) off in
          subst (NotIn j) (sym (instead_there own (length hs) b [] v)) (z.apart a b j x y (sym (old hs o a u) ∙ p) (sym (old hs o b v) ∙ q) ne was_a)
