-- A task that ends, and the lists afterwards.
use Rattle.std.proofs.Common.{◌≡◌, ◌≢◌, ℕ, ◌+◌, ◌<◌, ◌≤◌, List, ◌∷◌, ◌++◌, length, Option, Some, None, refl, sym, ◌∙◌, ap, arith, get_or, set, true, false, length-set, length-append}
use Rattle.std.proofs.Math.Bool.{and-false}
use Rattle.sts_links.specs.Lists.{AreApart, IsList, BecomesList}
use Rattle.sts_links.specs.declared.links.Link.{Link}
use Rattle.sts_links.specs.declared.links.Ends.{Ends}
use Rattle.sts_model.specs.Living.{is_in}
use Rattle.sts_tree.specs.Births.{births, has}
use Rattle.sts_tree.specs.Forest.{is_of, lives_in, Family, IsForest}
use Rattle.sts_tree.specs.declared.record.TaskNode.{TaskNode}
use Rattle.sts_tree.proofs.BirthLemmas.{OneLess, births_less, births_kept}
use Rattle.laws_words.proofs.ListLemmas.{count_kept}
use Rattle.sts_tree.proofs.ForkLemmas.{own_scope, one_scope, not_lives_of, living_apart, stays_some}
use Rattle.sts_tree.proofs.StepLemmas.{at_set}

-- the living subtasks without this one
pub leaves : (tasks : List (Option TaskNode)) (t s : ℕ) (x y : TaskNode) → get_or tasks t None ≡ Some x → x.scope ≡ Some s → x.lives ≡ true → y.lives ≡ false → OneLess (births (lives_in s) 0 tasks) (births (lives_in s) 0 (set tasks t (Some y))) t
leaves tasks t s x y is scope lives ends =
    let zero : 0 + t ≡ t = omega arith in
    let here : lives_in s x ≡ true = rw (scope, lives, own_scope s) refl in
    let gone : lives_in s y ≡ false = rw ends (and-false (is_in s y.scope)) in
    rw zero at (births_less (lives_in s) 0 tasks t x y is here gone)

pub ended : (at new : ℕ → ℕ → Option Link) (tasks : List (Option TaskNode)) (families : List (Option Family)) (ready : Ends) (keys : List ℕ) (room t s : ℕ) (x y : TaskNode) (f g : Family) (living : Ends) → IsForest at tasks families ready keys room → get_or tasks t None ≡ Some x → x.scope ≡ Some s → y.scope ≡ x.scope → y.ready ≡ x.ready → get_or families s None ≡ Some f → g ≡ record f { living = living } → (o : OneLess (births (lives_in s) 0 tasks) (births (lives_in s) 0 (set tasks t (Some y))) t) → BecomesList at new 1 living (o.front ++ o.back) → IsForest new (set tasks t (Some y)) (set families s (Some g)) ready keys room
ended at new tasks families ready keys room t s x y f g living i is scope same_scope flag there same o list =
    let of : (r : ℕ) → births (is_of r) 0 (set tasks t (Some y)) ≡ births (is_of r) 0 tasks = λ r. births_kept (is_of r) 0 tasks t x y is (ap (is_in r) same_scope) in
    let own_x : is_of s x ≡ true = rw scope (own_scope s) in
    let own_y : is_of s y ≡ true = rw (same_scope, scope) (own_scope s) in
    let lives_other : (r : ℕ) → r ≢ s → births (lives_in r) 0 (set tasks t (Some y)) ≡ births (lives_in r) 0 tasks =
    λ r ne. births_kept (lives_in r) 0 tasks t x y is (not_lives_of r y (one_scope r s y ne own_y) ∙ sym (not_lives_of r x (one_scope r s x ne own_x)))
    in
    let apart : (r : ℕ) → r ≢ s → AreApart (births (lives_in r) 0 tasks) (o.front ++ o.back) = λ r ne. rw (lives_other r ne, o.fewer_are) at (living_apart r s (set tasks t (Some y)) ne) in
    let told = i.told s f there in
    let count = i.counts s f there in
    record {
      forks = at_set families s f g (λ r h. IsList (new 0) h.forks (births (is_of r) 0 (set tasks t (Some y)))) there
          (rw (of s, same) (list.others 0 f.forks _ (i.forks s f there) (λ e. absurd (omega (arith, e)))))
          (λ r h ne q. rw (of r) (list.others 0 h.forks _ (i.forks r h q) (λ e. absurd (omega (arith, e)))));
      living = at_set families s f g (λ r h. IsList (new 1) h.living (births (lives_in r) 0 (set tasks t (Some y)))) there
          (rw (o.fewer_are, same) list.is_list)
          (λ r h ne q. rw (lives_other r ne) (list.others 1 h.living _ (i.living r h q) (λ _. apart r ne)));
      counts = at_set families s f g (λ r h. h.fork_count ≡ length (births (is_of r) 0 (set tasks t (Some y)))) there
          (rw (of s, same) count)
          (λ r h ne q. rw (of r) (i.counts r h q));
      told = at_set families s f g (λ r h. h.ends + length (births (lives_in r) 0 (set tasks t (Some y))) ≤ h.fork_count) there
          (rw (o.fewer_are, same) (let l = length-append o.front (t ∷ o.back) in let m = length-append o.front o.back in let told2 = rw o.all_are at told in omega (arith, l, m, told2)))
          (λ r h ne q. rw (lives_other r ne) (i.told r h q));
      is_ready = list.others 2 ready keys i.is_ready (λ e. absurd (omega (arith, e)));
      flags = at_set tasks t x y (λ u z. z.ready ≡ has u keys) is (flag ∙ i.flags t x is) (λ u z ne q. i.flags u z q);
      homes = λ u r z at_u e.
          at_set tasks t x y (λ u2 z2. z2.scope ≡ Some r → get_or (set families s (Some g)) r None ≢ None) is
          (λ h. stays_some families s r f g there (i.homes t r x is (sym same_scope ∙ h)))
          (λ u2 z2 ne q h. stays_some families s r f g there (i.homes u2 r z2 q h))
          u z at_u e;
      few = let n = count_kept tasks t x y is in let few = i.few in omega (arith, n, few);
      born = let n = length-set tasks t (Some y) in let born = i.born in omega (arith, n, born);
    }

-- the joiner was told of fewer ends than there are subtasks
pub spare : (at : ℕ → ℕ → Option Link) (tasks : List (Option TaskNode)) (families : List (Option Family)) (ready : Ends) (keys : List ℕ) (room t s : ℕ) (x y : TaskNode) (f : Family) → IsForest at tasks families ready keys room → get_or tasks t None ≡ Some x → y.scope ≡ x.scope → get_or families s None ≡ Some f → OneLess (births (lives_in s) 0 tasks) (births (lives_in s) 0 (set tasks t (Some y))) t → f.ends + length (births (lives_in s) 0 (set tasks t (Some y))) < length (births (is_of s) 0 (set tasks t (Some y)))
spare at tasks families ready keys room t s x y f i is same_scope there o =
    let of : births (is_of s) 0 (set tasks t (Some y)) ≡ births (is_of s) 0 tasks = births_kept (is_of s) 0 tasks t x y is (ap (is_in s) same_scope) in
    let told = rw o.all_are at (i.told s f there) in
    let count = i.counts s f there in
    let l = length-append o.front (t ∷ o.back) in
    let m = length-append o.front o.back in
    rw (of, o.fewer_are) (omega (arith, l, m, told, count))
