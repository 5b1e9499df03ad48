-- A new subtask, and the lists afterwards.
use Rattle.std.proofs.Common.{◌≡◌, ◌≢◌, ℕ, ◌+◌, ◌-◌, ◌<◌, ◌≤◌, List, [], ◌∷◌, ◌++◌, length, Option, Some, None, refl, sym, ◌∙◌, arith, get_or, set, Bool, true, false, nat_eq, get_or-set_same, get_or-set_other, length-append}
use Rattle.std.proofs.lemmas.Bool.Decides.{nat_tests}
use Rattle.std.proofs.lemmas.List.{get_or_past}
use Rattle.std.proofs.lemmas.Option.{same_Some}
use Rattle.sts_links.specs.Lists.{AreApart, IsList}
use Rattle.laws_words.specs.Keys.{NotIn}
use Rattle.sts_links.specs.declared.links.Link.{Link}
use Rattle.sts_links.specs.declared.links.Ends.{Ends}
use Rattle.sts_links.proofs.ChainLemmas.{without_link}
use Rattle.sts_model.specs.Living.{is_in}
use Rattle.sts_tree.specs.Births.{births, has}
use Rattle.sts_tree.specs.Forest.{is_of, lives_in, Family, IsForest}
use Rattle.sts_tree.specs.declared.record.TaskNode.{TaskNode}
use Rattle.sts_tree.proofs.BirthLemmas.{births_apart, not_in}
use Rattle.sts_tree.proofs.Counts.{count_more}
use Rattle.sts_tree.proofs.HoldingLemmas.{inside_of}
use Rattle.sts_tree.proofs.KeyLemmas.{not_has}
use Rattle.sts_tree.proofs.StepLemmas.{Adds, one_if, one_of, length_one, apart_more, apart_one, no_more, fresh_list, at_set, at_more}

pub own_scope : (s : ℕ) → is_in s (Some s) ≡ true
own_scope s = grind (arith, nat_tests)

pub other_scope : (r s : ℕ) → r ≢ s → is_in r (Some s) ≡ false
other_scope r s ne = grind (arith, nat_tests)

-- a subtask of one scope is of no other
pub one_scope : (r s : ℕ) (x : TaskNode) → r ≢ s → is_of s x ≡ true → is_of r x ≡ false
one_scope r s x ne e = by x.scope e
  where
    by : (o : Option ℕ) → is_in s o ≡ true → is_in r o ≡ false
    by None q = refl
    by (Some u) q = let same : u ≡ s = grind (arith, nat_tests) in rw same (other_scope r s ne)

pub lives_of : (s : ℕ) (x : TaskNode) → lives_in s x ≡ true → is_of s x ≡ true
lives_of s x e = by (is_of s x) refl
  where
    by : (b : Bool) → is_of s x ≡ b → is_of s x ≡ true
    by true q = q
    by false q = let f : false ≡ true = rw q at e in cc

pub not_lives_of : (s : ℕ) (x : TaskNode) → is_of s x ≡ false → lives_in s x ≡ false
not_lives_of s x e = rw e refl

-- the subtasks of two scopes
pub scopes_apart : (r s : ℕ) (tasks : List (Option TaskNode)) → r ≢ s → AreApart (births (is_of r) 0 tasks) (births (is_of s) 0 tasks)
scopes_apart r s tasks ne = births_apart (is_of r) (is_of s) tasks (λ x e. one_scope r s x ne e)

pub living_apart : (r s : ℕ) (tasks : List (Option TaskNode)) → r ≢ s → AreApart (births (lives_in r) 0 tasks) (births (lives_in s) 0 tasks)
living_apart r s tasks ne = births_apart (lives_in r) (lives_in s) tasks (λ x e. not_lives_of r x (one_scope r s x ne (lives_of s x e)))

unborn : (p : TaskNode → Bool) (tasks : List (Option TaskNode)) → NotIn (length tasks) (births p 0 tasks)
unborn p tasks = not_in p tasks (length tasks) (λ x e. let n : get_or tasks (length tasks) None ≡ None = get_or_past tasks (length tasks) None (omega arith) in cc)

-- after a write each record still exists
pub stays_some : {T : Type 0} → (xs : List (Option T)) (i j : ℕ) (x y : T) → get_or xs i None ≡ Some x → get_or xs j None ≢ None → get_or (set xs i (Some y)) j None ≢ None
stays_some xs i j x y is h = by (nat_eq j i) refl
  where
    by : (b : Bool) → nat_eq j i ≡ b → get_or (set xs i (Some y)) j None ≡ None → ⊥
    by true q e =
        let s : j ≡ i = grind (arith, nat_tests) in
        let l = inside_of xs j h in
        let v : get_or (set xs i (Some y)) i None ≡ Some y = get_or-set_same xs i (Some y) None (rw (← s) l) in
        let w : get_or (set xs i (Some y)) i None ≡ None = rw s at e in
        cc
    by false q e = let s : j ≢ i = grind (arith, nat_tests) in h (sym (get_or-set_other xs i j (Some y) None s) ∙ e)

-- a list of some layer, through both appends
carry : (at one two new : ℕ → ℕ → Option Link) (tasks : List (Option TaskNode)) (s : ℕ) (lives : Bool) (forks living : Ends) → Adds at one two new tasks s (length tasks) lives forks living → (m : ℕ) (list : Ends) (ks : List ℕ) → IsList (at m) list ks → (m ≡ 0 → AreApart ks (births (is_of s) 0 tasks ++ one_if true (length tasks))) → (m ≡ 1 → AreApart ks (births (lives_in s) 0 tasks ++ one_if lives (length tasks))) → IsList (new m) list ks
carry at one two new tasks s lives forks living a m list ks is first second =
    a.lived.others m list ks (a.forked.others m list ks (fresh_list (at m) (one m) (length tasks) list ks (a.vacant m) (λ k ne. a.others m k ne) is) first) second

pub added : (at one two new : ℕ → ℕ → Option Link) (tasks : List (Option TaskNode)) (families : List (Option Family)) (ready : Ends) (keys : List ℕ) (room s : ℕ) (f g : Family) (y : TaskNode) (forks living : Ends) → IsForest at tasks families ready keys room → get_or families s None ≡ Some f → 0 < room → length tasks < 1000000 → y.scope ≡ Some s → y.ready ≡ false → g ≡ record f { forks = forks; fork_count = f.fork_count + 1; living = living } → Adds at one two new tasks s (length tasks) y.lives forks living → IsForest new (tasks ++ Some y ∷ []) (set families s (Some g)) ready keys (room - 1)
added at one two new tasks families ready keys room s f g y forks living i is some fits scope flag same a =
    let n : ℕ = length tasks in
    let own : is_of s y ≡ true = rw scope (own_scope s) in
    let own_living : lives_in s y ≡ y.lives = rw own refl in
    let of_own : births (is_of s) 0 (tasks ++ Some y ∷ []) ≡ births (is_of s) 0 tasks ++ one_if true (length tasks) = one_of (is_of s) tasks y ∙ (rw own refl) in
    let lives_own : births (lives_in s) 0 (tasks ++ Some y ∷ []) ≡ births (lives_in s) 0 tasks ++ one_if y.lives (length tasks) = one_of (lives_in s) tasks y ∙ (rw own_living refl) in
    let of_other : (r : ℕ) → r ≢ s → births (is_of r) 0 (tasks ++ Some y ∷ []) ≡ births (is_of r) 0 tasks = λ r ne. one_of (is_of r) tasks y ∙ no_more _ (is_of r y) (length tasks) (one_scope r s y ne own) in
    let lives_other : (r : ℕ) → r ≢ s → births (lives_in r) 0 (tasks ++ Some y ∷ []) ≡ births (lives_in r) 0 tasks = λ r ne. one_of (lives_in r) tasks y ∙ no_more _ (lives_in r y) (length tasks) (not_lives_of r y (one_scope r s y ne own)) in
    let go = carry at one two new tasks s y.lives forks living a in
    let count = i.counts s f is in
    let told = i.told s f is in
    record {
      forks = at_set families s f g (λ r h. IsList (new 0) h.forks (births (is_of r) 0 (tasks ++ Some y ∷ []))) is
          (rw (of_own, same) (a.lived.others 0 forks _ a.forked.is_list (λ e. absurd (omega (arith, e)))))
          (λ r h ne q. rw (of_other r ne) (go 0 h.forks _ (i.forks r h q) (λ _. apart_more _ _ _ (scopes_apart r s tasks ne) (apart_one true (length tasks) _ (unborn (is_of r) tasks))) (λ e. absurd (omega (arith, e)))));
      living = at_set families s f g (λ r h. IsList (new 1) h.living (births (lives_in r) 0 (tasks ++ Some y ∷ []))) is
          (rw (lives_own, same) a.lived.is_list)
          (λ r h ne q. rw (lives_other r ne) (go 1 h.living _ (i.living r h q) (λ e. absurd (omega (arith, e))) (λ _. apart_more _ _ _ (living_apart r s tasks ne) (apart_one y.lives (length tasks) _ (unborn (lives_in r) tasks)))));
      counts = at_set families s f g (λ r h. h.fork_count ≡ length (births (is_of r) 0 (tasks ++ Some y ∷ []))) is
          (rw (of_own, same) (let l = length-append (births (is_of s) 0 tasks) (one_if true (length tasks)) in omega (arith, l, count)))
          (λ r h ne q. rw (of_other r ne) (i.counts r h q));
      told = at_set families s f g (λ r h. h.ends + length (births (lives_in r) 0 (tasks ++ Some y ∷ [])) ≤ h.fork_count) is
          (rw (lives_own, same) (let l = length-append (births (lives_in s) 0 tasks) (one_if y.lives (length tasks)) in let m = length_one y.lives (length tasks) in omega (arith, l, m, told)))
          (λ r h ne q. rw (lives_other r ne) (i.told r h q));
      is_ready = go 2 ready keys i.is_ready (λ e. absurd (omega (arith, e))) (λ e. absurd (omega (arith, e)));
      flags = at_more tasks y (λ u z. z.ready ≡ has u keys) (flag ∙ sym (not_has (length tasks) keys (without_link (at 2) (length tasks) None keys None (a.vacant 2) i.is_ready.linked))) i.flags;
      homes = λ t r x at_t e.
          at_more tasks y (λ u z. z.scope ≡ Some r → get_or (set families s (Some g)) r None ≢ None)
          (λ h. stays_some families s r f g is (let q : s ≡ r = same_Some s r (sym scope ∙ h) in rw (← q) (λ n. let m : Some f ≡ None = sym is ∙ n in cc)))
          (λ u z at_u h. stays_some families s r f g is (i.homes u r z at_u h))
          t x at_t e;
      few = let c = count_more tasks y in let few2 = i.few in omega (arith, c, few2);
      born = let c = length-append tasks (Some y ∷ []) in omega (arith, c);
    }
