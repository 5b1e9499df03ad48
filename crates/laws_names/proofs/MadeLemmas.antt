-- Two states are alike if each of their tasks and scopes is the same as the one with its name.
use Rattle.std.proofs.Common.{◌≡◌, ℕ, suc, ◌+◌, ◌-◌, ◌<◌, ◌≤◌, List, [], ◌∷◌, Bool, true, false, refl, sym, ◌∙◌, ap, length, arith, get_or, cond}
use Rattle.std.specs.List.{sum_by, remove}
use Rattle.std.proofs.Math.Dec.{ltb}
use Rattle.std.proofs.lemmas.Bool.{ltb-true}
use Rattle.std.proofs.lemmas.Bool.Decides.{nat_tests}
use Rattle.std.proofs.lemmas.List.Edits.{length-remove, get_or-remove_below, get_or-remove_above}
use Rattle.std.proofs.lemmas.List.Sums.{sum_by-cons, sum_by-remove}
use Rattle.std.proofs.lemmas.List.{get_or_past}
use Rattle.sts_model.specs.World.{World, task_at, scope_at, no_task, no_scope}
use Rattle.laws_names.specs.Names.{Names, IsAlike, AreNamed, IsOneToOne, live_part, plain_part, named_task, named_scope, IsSameTask, IsSameScope}
use Rattle.laws_names.proofs.NameLemmas.{name_below}

-- a place after another one was taken out
shift : ℕ → ℕ → ℕ
shift k j = cond (ltb k j) (j - 1) j

shift_same : (k i j : ℕ) → (i ≡ k → ⊥) → (j ≡ k → ⊥) → shift k i ≡ shift k j → i ≡ j
unfolding shift
shift_same k i j here there h = by (ltb k i) refl (ltb k j) refl h
  where
    by : (b : Bool) → ltb k i ≡ b → (c : Bool) → ltb k j ≡ c → cond b (i - 1) i ≡ cond c (j - 1) j → i ≡ j
    by true e true f same = grind (arith, nat_tests)
    by true e false f same = absurd (there (grind (arith, nat_tests)))
    by false e true f same = absurd (here (grind (arith, nat_tests)))
    by false e false f same = same

shift_below : (k j m : ℕ) → (j ≡ k → ⊥) → k < m + 1 → j < m + 1 → shift k j < m
unfolding shift
shift_below k j m other inside less = by (ltb k j) refl
  where
    by : (b : Bool) → ltb k j ≡ b → cond b (j - 1) j < m
    by true e = grind (arith, nat_tests)
    by false e = grind (arith, nat_tests)

get_shift : {X : Type 0} (ys : List X) (k j : ℕ) (d : X) → (j ≡ k → ⊥) → k < length ys → get_or (remove ys k) (shift k j) d ≡ get_or ys j d
unfolding shift
get_shift {X} ys k j d other inside = by (ltb k j) refl
  where
    by : (b : Bool) → ltb k j ≡ b → get_or (remove ys k) (cond b (j - 1) j) d ≡ get_or ys j d
    by true e =
        let less = ltb-true k j e in
        let same : j - 1 + 1 ≡ j = omega (arith, less) in
        get_or-remove_above ys k d (j - 1) (omega (arith, less)) inside ∙ ap (λ m. get_or ys m d) same
    by false e = get_or-remove_below ys k d j (grind (arith, nat_tests)) inside

-- the sum over the named ones
pub named_sum : {X : Type 0} (q r : X → ℕ) (d : X) (xs ys : List X) (f : ℕ → ℕ) → IsOneToOne f → length ys ≡ length xs → ((t : ℕ) → t < length xs → f t < length ys)
    → ((t : ℕ) → t < length xs → q (get_or ys (f t) d) ≡ r (get_or xs t d)) → sum_by q ys ≡ sum_by r xs
named_sum q r d [] [] f one long inside same = refl
named_sum q r d [] (y ∷ ys) f one long inside same = absurd (omega (arith, long))
named_sum {X} q r d (x ∷ xs) ys f one long inside same =
    let k : ℕ = f 0 in
    let within : k < length ys = inside 0 (omega arith) in
    let shorter : length (remove ys k) + 1 ≡ length ys = length-remove ys k within in
    let other : (t : ℕ) → f (suc t) ≡ k → ⊥ = λ t e. let h = one (suc t) 0 e in absurd (omega (arith, h)) in
    let rest : sum_by q (remove ys k) ≡ sum_by r xs =
    named_sum q r d xs (remove ys k) (λ t. shift k (f (suc t)))
    (λ a b e. let h = one (suc a) (suc b) (shift_same k (f (suc a)) (f (suc b)) (other a) (other b) e) in omega (arith, h))
    (omega (arith, shorter, long))
    (λ t less. shift_below k (f (suc t)) (length (remove ys k)) (other t) (omega (arith, within, shorter)) (let h = inside (suc t) (omega (arith, less)) in omega (arith, h, shorter)))
    (λ t less. ap q (get_shift ys k (f (suc t)) d (other t) within) ∙ same (suc t) (omega (arith, less))) in
    let all = sum_by-remove q ys k d within in
    let first : q (get_or ys k d) ≡ r x = same 0 (omega arith) in
    let parts = sum_by-cons r x xs in
    omega (arith, all, first, parts, rest)

-- ---- states

pub record AreSame (n : Names) (w v : World) : Type 0 where
  pub named : AreNamed n w v
  pub task : (t : ℕ) → t < length w.tasks → IsSameTask n (task_at w t) (task_at v (n.tasks t))
  pub scope : (s : ℕ) → s < length w.scopes → IsSameScope n (scope_at w s) (scope_at v (n.scopes s))

-- what is the same up to the end of two lists is the same everywhere
at_both : {X : Type 0} (Same : X → X → Type 0) (xs ys : List X) (name : ℕ → ℕ) (d : X) → length ys ≡ length xs → ((k : ℕ) → length xs ≤ k → name k ≡ k) → Same d d
    → ((k : ℕ) → k < length xs → Same (get_or xs k d) (get_or ys (name k) d)) → (k : ℕ) → Same (get_or xs k d) (get_or ys (name k) d)
at_both Same xs ys name d born later none all k = by (ltb k (length xs)) refl
  where
    by : (b : Bool) → ltb k (length xs) ≡ b → Same (get_or xs k d) (get_or ys (name k) d)
    by true e = all k (ltb-true k (length xs) e)
    by false e =
        let past : length xs ≤ k = grind (arith, nat_tests) in
        let same = later k past in
        let past_too : length ys ≤ name k = omega (arith, past, same, born) in
        rw (get_or_past xs k d past, get_or_past ys (name k) d past_too) none

pub alike_made : (n : Names) (w v : World) → AreSame n w v → IsAlike n w v
alike_made n w v h =
    record {
      named = h.named;
      task = at_both (IsSameTask n) w.tasks v.tasks n.tasks no_task h.named.tasks_born h.named.later_tasks refl h.task;
      scope = at_both (IsSameScope n) w.scopes v.scopes n.scopes no_scope h.named.scopes_born h.named.later_scopes (ap (λ m. plain_part (record no_scope { owner = m })) (sym h.named.root)) h.scope;
      task_sums = λ q. named_sum (λ x. q (live_part x)) (λ x. q (named_task n (live_part x))) no_task w.tasks v.tasks n.tasks h.named.task_names h.named.tasks_born
          (λ t less. let e = name_below n.tasks h.named.task_names (length w.tasks) h.named.later_tasks t less in let b = h.named.tasks_born in omega (arith, e, b)) (λ t less. ap q (h.task t less));
      scope_sums = λ q. named_sum (λ x. q (plain_part x)) (λ x. q (named_scope n (plain_part x))) no_scope w.scopes v.scopes n.scopes h.named.scope_names h.named.scopes_born
          (λ s less. let e = name_below n.scopes h.named.scope_names (length w.scopes) h.named.later_scopes s less in let b = h.named.scopes_born in omega (arith, e, b)) (λ s less. ap q (h.scope s less));
    }
