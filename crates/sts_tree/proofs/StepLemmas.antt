-- The lists after one change.
use Rattle.std.proofs.Common.{◌≡◌, ◌≢◌, ℕ, ◌+◌, ◌<◌, ◌≤◌, List, [], ◌∷◌, ◌++◌, length, Option, Some, None, refl, sym, ◌∙◌, ap, arith, get_or, set, Bool, true, false, nat_eq, get_or-set_same, get_or-set_other, length-set, length-append, nat_lt, cond, append-nil}
use Rattle.std.proofs.lemmas.Bool.Decides.{nat_tests}
use Rattle.std.proofs.lemmas.List.{get_or_past, get_or_append_left, get_or_at}
use Rattle.sts_links.specs.Lists.{AreApart, IsList, BecomesList}
use Rattle.laws_words.specs.Keys.{NotIn}
use Rattle.sts_links.specs.declared.links.Link.{Link}
use Rattle.sts_links.specs.declared.links.Ends.{Ends}
use Rattle.sts_links.proofs.ChainLemmas.{list_stays, without_link}
use Rattle.sts_model.specs.Living.{is_in}
use Rattle.sts_tree.specs.Births.{births, has, without}
use Rattle.sts_tree.specs.Forest.{is_of, lives_in, Family, IsForest, no_family}
use Rattle.sts_tree.specs.declared.record.TaskNode.{TaskNode}
use Rattle.sts_tree.proofs.BirthLemmas.{births_kept, births_none, births_more}
use Rattle.laws_words.proofs.ListLemmas.{count_kept}
use Rattle.sts_tree.proofs.HoldingLemmas.{inside_of}
use Rattle.sts_tree.proofs.KeyLemmas.{has_new, has_old, without_other, without_own}

-- the same links
pub moved : (at new : ℕ → ℕ → Option Link) (tasks : List (Option TaskNode)) (families : List (Option Family)) (ready : Ends) (keys : List ℕ) (room : ℕ) → ((m k : ℕ) → new m k ≡ at m k) → IsForest at tasks families ready keys room → IsForest new tasks families ready keys room
moved at new tasks families ready keys room same i =
    record {
      forks = λ s f is. list_stays (at 0) (new 0) f.forks _ (λ k _. same 0 k) (i.forks s f is);
      living = λ s f is. list_stays (at 1) (new 1) f.living _ (λ k _. same 1 k) (i.living s f is);
      counts = i.counts;
      told = i.told;
      is_ready = list_stays (at 2) (new 2) ready keys (λ k _. same 2 k) i.is_ready;
      flags = i.flags;
      homes = i.homes;
      few = i.few;
      born = i.born;
    }

same_of : (s : ℕ) (x y : TaskNode) → y.scope ≡ x.scope → is_of s y ≡ is_of s x
same_of s x y e = ap (is_in s) e

pub same_living : (s : ℕ) (x y : TaskNode) → y.scope ≡ x.scope → y.lives ≡ x.lives → lives_in s y ≡ lives_in s x
same_living s x y e f = rw (e, f) refl

-- what is read after a task was written
pub at_set : {T : Type 0} → (xs : List (Option T)) (t : ℕ) (x y : T) (P : ℕ → T → Type 0) → get_or xs t None ≡ Some x → P t y → ((u : ℕ) (z : T) → u ≢ t → get_or xs u None ≡ Some z → P u z) → (u : ℕ) (z : T) → get_or (set xs t (Some y)) u None ≡ Some z → P u z
at_set {T} xs t x y P is here others u z e = by (nat_eq u t) refl
  where
    inside : t < length xs
    inside = inside_of xs t (λ n. let q : Some x ≡ None = sym is ∙ n in cc)

    by : (b : Bool) → nat_eq u t ≡ b → P u z
    by true q =
        let s : u ≡ t = grind (arith, nat_tests) in
        let v : get_or (set xs t (Some y)) t None ≡ Some y = get_or-set_same xs t (Some y) None inside in
        let w : y ≡ z = let e2 : get_or (set xs t (Some y)) t None ≡ Some z = rw s at e in cc in
        rw (s, ← w) here
    by false q =
        let s : u ≢ t = grind (arith, nat_tests) in
        others u z s (sym (get_or-set_other xs t u (Some y) None s) ∙ e)

-- a task is written that keeps its scope and whether it lives; only the ready list and the links of
-- its layer may change
pub changed : (at new : ℕ → ℕ → Option Link) (tasks : List (Option TaskNode)) (families : List (Option Family)) (ready ready2 : Ends) (keys keys2 : List ℕ) (room t : ℕ) (x y : TaskNode) → IsForest at tasks families ready keys room → ((m : ℕ) (list : Ends) (ks : List ℕ) → m < 2 → IsList (at m) list ks → IsList (new m) list ks) → get_or tasks t None ≡ Some x → y.scope ≡ x.scope → ((s : ℕ) → lives_in s y ≡ lives_in s x) → IsList (new 2) ready2 keys2 → y.ready ≡ has t keys2 → ((k : ℕ) → k ≢ t → has k keys2 ≡ has k keys) → IsForest new (set tasks t (Some y)) families ready2 keys2 room
changed at new tasks families ready ready2 keys keys2 room t x y i lists is scope lives list flag others =
    let of : (s : ℕ) → births (is_of s) 0 (set tasks t (Some y)) ≡ births (is_of s) 0 tasks = λ s. births_kept (is_of s) 0 tasks t x y is (same_of s x y scope) in
    let living : (s : ℕ) → births (lives_in s) 0 (set tasks t (Some y)) ≡ births (lives_in s) 0 tasks = λ s. births_kept (lives_in s) 0 tasks t x y is (lives s) in
    record {
      forks = λ s f q. rw (of s) (lists 0 f.forks _ (omega arith) (i.forks s f q));
      living = λ s f q. rw (living s) (lists 1 f.living _ (omega arith) (i.living s f q));
      counts = λ s f q. rw (of s) (i.counts s f q);
      told = λ s f q. rw (living s) (i.told s f q);
      is_ready = list;
      flags = at_set tasks t x y (λ u z. z.ready ≡ has u keys2) is flag (λ u z ne q. i.flags u z q ∙ sym (others u ne));
      homes = λ u s z q e. at_set tasks t x y (λ u2 z2. z2.scope ≡ Some s → get_or families s None ≢ None) is (λ h. i.homes t s x is (sym scope ∙ h)) (λ u2 z2 ne q2 h. i.homes u2 s z2 q2 h) u z q e;
      few = let n = count_kept tasks t x y is in let few = i.few in omega (arith, n, few);
      born = let n = length-set tasks t (Some y) in let born = i.born in omega (arith, n, born);
    }

-- a field of a task
pub retasked : (at new : ℕ → ℕ → Option Link) (tasks : List (Option TaskNode)) (families : List (Option Family)) (ready : Ends) (keys : List ℕ) (room t : ℕ) (x y : TaskNode) → IsForest at tasks families ready keys room → ((m k : ℕ) → new m k ≡ at m k) → get_or tasks t None ≡ Some x → y.scope ≡ x.scope → y.lives ≡ x.lives → y.ready ≡ x.ready → IsForest new (set tasks t (Some y)) families ready keys room
retasked at new tasks families ready keys room t x y i same is scope lives flag =
    changed at new tasks families ready ready keys keys room t x y i
    (λ m list ks less q. list_stays (at m) (new m) list ks (λ k _. same m k) q)
    is scope (λ s. same_living s x y scope lives)
    (list_stays (at 2) (new 2) ready keys (λ k _. same 2 k) i.is_ready)
    (flag ∙ i.flags t x is) (λ k ne. refl)

-- one more in the ready list
pub readied : (at new : ℕ → ℕ → Option Link) (tasks : List (Option TaskNode)) (families : List (Option Family)) (ready ready2 : Ends) (keys : List ℕ) (room t : ℕ) (x : TaskNode) → IsForest at tasks families ready keys room → get_or tasks t None ≡ Some x → BecomesList at new 2 ready2 (keys ++ t ∷ []) → IsForest new (set tasks t (Some (record x { ready = true }))) families ready2 (keys ++ t ∷ []) room
readied at new tasks families ready ready2 keys room t x i is list =
    changed at new tasks families ready ready2 keys (keys ++ t ∷ []) room t x (record x { ready = true }) i
    (λ m l ks less q. list.others m l ks q (λ e. absurd (omega (arith, e))))
    is refl (λ s. refl) list.is_list (sym (has_new t keys)) (λ k ne. has_old k t keys ne)

-- one fewer
pub unreadied : (at new : ℕ → ℕ → Option Link) (tasks : List (Option TaskNode)) (families : List (Option Family)) (ready ready2 : Ends) (keys : List ℕ) (room t : ℕ) (x : TaskNode) → IsForest at tasks families ready keys room → get_or tasks t None ≡ Some x → BecomesList at new 2 ready2 (without t keys) → IsForest new (set tasks t (Some (record x { ready = false }))) families ready2 (without t keys) room
unreadied at new tasks families ready ready2 keys room t x i is list =
    changed at new tasks families ready ready2 keys (without t keys) room t x (record x { ready = false }) i
    (λ m l ks less q. list.others m l ks q (λ e. absurd (omega (arith, e))))
    is refl (λ s. refl) list.is_list (sym (without_own t keys i.is_ready.distinct)) (λ k ne. without_other k t keys ne)

-- a list of some layer, after a record of the next birth is added, which is in no list
pub fresh_list : (at new : ℕ → Option Link) (n : ℕ) (list : Ends) (ks : List ℕ) → at n ≡ None → ((k : ℕ) → k ≢ n → new k ≡ at k) → IsList at list ks → IsList new list ks
fresh_list at new n list ks none same is =
    let out = without_link at n None ks None none is.linked in
    list_stays at new list ks (λ k inside. same k (λ e. inside (rw e out))) is

pub past_none : {T : Type 0} → (xs : List T) (x : T) (u : ℕ) (d : T) → length xs < u → get_or (xs ++ x ∷ []) u d ≡ d
past_none xs x u d h = let n = length-append xs (x ∷ []) in get_or_past (xs ++ x ∷ []) u d (omega (arith, n))

-- what is read after one more
pub at_more : {T : Type 0} → (xs : List (Option T)) (y : T) (P : ℕ → T → Type 0) → P (length xs) y → ((u : ℕ) (z : T) → get_or xs u None ≡ Some z → P u z) → (u : ℕ) (z : T) → get_or (xs ++ Some y ∷ []) u None ≡ Some z → P u z
at_more {T} xs y P here others u z e = by (nat_lt u (length xs)) (nat_eq u (length xs)) refl refl
  where
    by : (a b : Bool) → nat_lt u (length xs) ≡ a → nat_eq u (length xs) ≡ b → P u z
    by true b p q = others u z (sym (get_or_append_left xs (Some y ∷ []) None u (grind (arith, nat_tests))) ∙ e)
    by false true p q =
        let s : u ≡ length xs = grind (arith, nat_tests) in
        let v : get_or (xs ++ Some y ∷ []) u None ≡ Some y = get_or_at xs (Some y) [] None u (sym s) in
        let w : y ≡ z = cc in
        rw (s, ← w) here
    by false false p q =
        let v : get_or (xs ++ Some y ∷ []) u None ≡ None = past_none xs (Some y) u None (grind (arith, nat_tests)) in
        cc

-- a new scope
pub opened_one : (at : ℕ → ℕ → Option Link) (tasks : List (Option TaskNode)) (families : List (Option Family)) (ready : Ends) (keys : List ℕ) (room : ℕ) → IsForest at tasks families ready keys room → IsForest at tasks (families ++ Some no_family ∷ []) ready keys room
opened_one at tasks families ready keys room i =
    let none : (u : ℕ) (x : TaskNode) → get_or tasks u None ≡ Some x → is_of (length families) x ≡ false = λ u x is. by x.scope (λ s e. i.homes u s x is e) in
    let of : births (is_of (length families)) 0 tasks ≡ [] = births_none (is_of (length families)) 0 tasks none in
    let living : births (lives_in (length families)) 0 tasks ≡ [] = births_none (lives_in (length families)) 0 tasks (λ u x is. rw (none u x is) refl) in
    record {
      forks = at_more families no_family (λ s f. IsList (at 0) f.forks (births (is_of s) 0 tasks)) (rw of (record { first = refl; last = refl; linked = tt; distinct = tt })) i.forks;
      living = at_more families no_family (λ s f. IsList (at 1) f.living (births (lives_in s) 0 tasks)) (rw living (record { first = refl; last = refl; linked = tt; distinct = tt })) i.living;
      counts = at_more families no_family (λ s f. f.fork_count ≡ length (births (is_of s) 0 tasks)) (rw of refl) i.counts;
      told = at_more families no_family (λ s f. f.ends + length (births (lives_in s) 0 tasks) ≤ f.fork_count) (rw living (omega arith)) i.told;
      is_ready = i.is_ready;
      flags = i.flags;
      homes = λ t s x is e.
          let h = i.homes t s x is e in
          let less = inside_of families s h in
          λ n. h (sym (get_or_append_left families (Some no_family ∷ []) None s less) ∙ n);
      few = i.few;
      born = i.born;
    }
  where
    by : (o : Option ℕ) → ((s : ℕ) → o ≡ Some s → get_or families s None ≢ None) → is_in (length families) o ≡ false
    by None h = refl
    by (Some s) h =
        let less = inside_of families s (h s refl) in
        grind (arith, nat_tests, less)

pub apart_more : (xs ys zs : List ℕ) → AreApart xs ys → AreApart xs zs → AreApart xs (ys ++ zs)
apart_more xs [] zs a b = b
apart_more xs (y ∷ ys) zs a b = (a.0, apart_more xs ys zs a.1 b)

-- this birth, if `wanted` is true
abbrev pub one_if : Bool → ℕ → List ℕ
one_if wanted t = cond wanted (t ∷ []) []

pub one_of : (p : TaskNode → Bool) (tasks : List (Option TaskNode)) (y : TaskNode) → births p 0 (tasks ++ Some y ∷ []) ≡ births p 0 tasks ++ one_if (p y) (length tasks)
one_of p tasks y = let e : 0 + length tasks ≡ length tasks = omega arith in births_more p 0 tasks (Some y) ∙ (rw e refl)

pub length_one : (b : Bool) (t : ℕ) → length (one_if b t) ≤ 1
length_one true t = omega arith
length_one false t = omega arith

pub apart_one : (b : Bool) (t : ℕ) (xs : List ℕ) → NotIn t xs → AreApart xs (one_if b t)
apart_one true t xs h = (h, tt)
apart_one false t xs h = tt

pub no_more : (xs : List ℕ) (b : Bool) (t : ℕ) → b ≡ false → xs ++ one_if b t ≡ xs
no_more xs b t e = rw (e, append-nil xs) refl

-- A new subtask of s first gets links of its own. Then it is appended to the list of subtasks, and,
-- if it lives, to the list of living ones.
pub record Adds (at one two new : ℕ → ℕ → Option Link) (tasks : List (Option TaskNode)) (s n : ℕ) (lives : Bool) (forks living : Ends) : Type 0 where
  pub vacant : (m : ℕ) → at m n ≡ None
  pub others : (m k : ℕ) → k ≢ n → one m k ≡ at m k
  pub forked : BecomesList one two 0 forks (births (is_of s) 0 tasks ++ one_if true n)
  pub lived : BecomesList two new 1 living (births (lives_in s) 0 tasks ++ one_if lives n)
