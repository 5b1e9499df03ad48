-- The counters are what a walk over the tasks finds.
use Rattle.std.proofs.Common.{◌≡◌, ℕ, zero, suc, ◌+◌, List, [], ◌∷◌, length, map, count_by, Bool, true, false, cond, not, Option, Some, None, nat_lt, ◌||◌}
use Rattle.std.proofs.Common.{refl, arith, ap, sym, ◌∙◌, slice_index_or}
use Rattle.std.specs.List.{list_any}
use Rattle.std.proofs.lemmas.List.Sums.{sum_by-cons}
use Rattle.sts_model.specs.declared.record.Task.{Task}
use Rattle.sts_model.specs.declared.record.Scope.{Scope}
use Rattle.sts_model.specs.World.{World, no_scope}
use Rattle.sts_model.specs.Living.{is_subtask, is_living_subtask}
use Rattle.sts_model.specs.Standing as standing
use Rattle.sts_world.specs.Lines.{Line, line, is_shut, lines}
use Rattle.sts_world.specs.Kept.{births_from, lives_in, stands, standing_tasks, standing_scopes}

some_first : (b : Bool) (c : Bool) (n : ℕ) → c ≡ nat_lt 0 n → b || c ≡ nat_lt 0 (cond b 1 0 + n)
some_first true c n e = grind arith
some_first false c n e = let zero_more : n ≡ 0 + n = omega arith in e ∙ ap (nat_lt 0) zero_more

pub finds_living : (s : ℕ) (xs : List Task) → list_any (is_living_subtask s) xs ≡ nat_lt 0 (count_by (lives_in s) (map line xs))
finds_living s [] = refl
finds_living s (x ∷ xs) = rw (sum_by-cons (λ (l : Line). cond (lives_in s l) 1 0) (line x) (map line xs)) (some_first (is_living_subtask s x) _ _ (finds_living s xs))

one_more : (b : Bool) (n k : ℕ) (xs : List ℕ) → n ≡ length xs → cond b 1 0 + n ≡ length (cond b (k ∷ xs) xs)
one_more true n k xs e = omega arith
one_more false n k xs e = omega arith

pub finds_subtasks : (s n : ℕ) (xs : List Task) → count_by (is_subtask s) xs ≡ length (births_from s n (map line xs))
finds_subtasks s n [] = refl
finds_subtasks s n (x ∷ xs) = rw (sum_by-cons (λ (t : Task). cond (is_subtask s t) 1 0) x xs) (one_more (is_subtask s x) _ n (births_from s (n + 1) (map line xs)) (finds_subtasks s (n + 1) xs))

read_shut : (ss : List Scope) (s : ℕ) → is_shut (slice_index_or ss s no_scope) ≡ slice_index_or (map is_shut ss) s true
read_shut [] s = refl
read_shut (x ∷ xs) zero = refl
read_shut (x ∷ xs) (suc s) = read_shut xs s

stands_alike : (w : World) (o : Option ℕ) → standing.stands_in w o ≡ stands (map is_shut w.scopes) o
stands_alike w None = refl
stands_alike w (Some s) = ap not (read_shut w.scopes s)

count_standing : (w : World) (xs : List Task) → count_by (standing.is_standing_task w) xs ≡ count_by (λ (x : Line). stands (map is_shut w.scopes) x.scope) (map line xs)
count_standing w [] = refl
count_standing w (x ∷ xs) =
    sum_by-cons (λ (t : Task). cond (standing.is_standing_task w t) 1 0) x xs
    ∙ ap (λ b. cond b 1 0 + count_by (standing.is_standing_task w) xs) (stands_alike w x.scope)
    ∙ ap (λ n. cond (stands (map is_shut w.scopes) x.scope) 1 0 + n) (count_standing w xs)
    ∙ sym (sum_by-cons (λ (l : Line). cond (stands (map is_shut w.scopes) l.scope) 1 0) (line x) (map line xs))

pub finds_tasks : (w : World) → standing.standing_tasks w ≡ standing_tasks (lines w)
finds_tasks w = count_standing w w.tasks

count_open : (ss : List Scope) → count_by standing.is_standing_scope ss ≡ count_by not (map is_shut ss)
count_open [] = refl
count_open (x ∷ xs) =
    sum_by-cons (λ (t : Scope). cond (standing.is_standing_scope t) 1 0) x xs
    ∙ ap (λ n. cond (not (is_shut x)) 1 0 + n) (count_open xs)
    ∙ sym (sum_by-cons (λ (b : Bool). cond (not b) 1 0) (is_shut x) (map is_shut xs))

pub finds_scopes : (w : World) → standing.standing_scopes w ≡ standing_scopes (lines w)
finds_scopes w = count_open w.scopes
