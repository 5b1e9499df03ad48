-- The births that are left to tasks.
use Rattle.std.proofs.Common.{◌≡◌, ℕ, zero, suc, ◌+◌, ◌-◌, ◌<◌, ◌≤◌, Bool, true, false, refl, ap, ◌∙◌, arith, cond, nat_eq, length}
use Rattle.std.specs.Prelude.{◌==◌}
use Rattle.std.proofs.lemmas.Bool.Decides.{nat_tests}
use Rattle.sts_code.specs.Program.{Program}
use Rattle.sts_code.specs.declared.instr.Instr.{Instr}
use Rattle.sts_model.specs.World.{World}
use Rattle.laws_calls.specs.Outside.{Outside}
use Rattle.laws_calls.specs.Tasks.{Call, Own}
use Rattle.laws_calls.specs.Steps.{Row, Steps, local_step, read_step, bound_step, or_else_step, bind_step, unbind_step, calm_step, interrupted_step, lent_step}
use Rattle.laws_calls.specs.Steps.{lent_cancelled_step, going_step, cancelled_step, expired_step, open_step, unstarted_step, close_step, attempted_step}
use Rattle.laws_calls.specs.Steps.{timeout_step, by_one_step, by_count_step, heard_step, none_step, success_step, failure_step, missed_step, get_step}
use Rattle.laws_calls.specs.Steps.{except_step, tally_step, total_step}
use Rattle.laws_calls.specs.Covers.{sum_to}

-- ---- sums

pub sum_agrees : (f g : ℕ → ℕ) (n : ℕ) → ((k : ℕ) → k < n → f k ≡ g k) → sum_to f n ≡ sum_to g n
sum_agrees f g zero same = refl
sum_agrees f g (suc n) same =
    let rest = sum_agrees f g n (λ k less. same k (omega (arith, less))) in
    let last = same n (omega arith) in
    omega (arith, rest, last)

-- one value is less
abbrev pub cut : (ℕ → ℕ) → ℕ → ℕ → ℕ → ℕ
cut f u d k = cond (k == u) (f k - d) (f k)

pub cut_other : (f : ℕ → ℕ) (u d k : ℕ) → (k ≡ u → ⊥) → cut f u d k ≡ f k
cut_other f u d k other = let e : (k == u) ≡ false = grind (arith, nat_tests) in ap (λ b. cond b (f k - d) (f k)) e

pub cut_here : (f : ℕ → ℕ) (u d : ℕ) → cut f u d u ≡ f u - d
cut_here f u d = let e : (u == u) ≡ true = grind (arith, nat_tests) in ap (λ b. cond b (f u - d) (f u)) e

pub sum_cut : (f : ℕ → ℕ) (u d n : ℕ) → u < n → d ≤ f u → sum_to (cut f u d) n + d ≡ sum_to f n
sum_cut f u d zero less few = absurd (omega (arith, less))
sum_cut f u d (suc n) less few = by (nat_eq n u) refl (λ below. sum_cut f u d n below few)
  where
    by : (b : Bool) → nat_eq n u ≡ b → (u < n → sum_to (cut f u d) n + d ≡ sum_to f n) → sum_to (cut f u d) n + cut f u d n + d ≡ sum_to f n + f n
    by true e rest =
        let same : n ≡ u = grind (arith, nat_tests) in
        let before = sum_agrees (cut f u d) f n (λ k below. cut_other f u d k (λ is. omega (arith, is, below, same))) in
        let here : cut f u d n ≡ f u - d = ap (cut f u d) same ∙ cut_here f u d in
        let last : f n ≡ f u = ap f same in
        omega (arith, before, here, last, few)
    by false e rest =
        let other : n ≡ u → ⊥ = grind (arith, nat_tests) in
        let before = rest (omega (arith, less, other)) in
        let here = cut_other f u d n other in
        omega (arith, before, here)

-- nothing is born, and nothing changes of what is left
pub same_births : (left : ℕ → ℕ) (root : Row) (w v : World) → length v.tasks ≡ length w.tasks → length v.scopes ≡ length w.scopes → length w.tasks + length w.scopes + sum_to left (length w.tasks) ≤ 1 + root.births
    → length v.tasks + length v.scopes + sum_to left (length v.tasks) ≤ 1 + root.births
same_births left root w v tasks scopes before =
    let same : sum_to left (length v.tasks) ≡ sum_to left (length w.tasks) = ap (sum_to left) tasks in
    omega (arith, tasks, scopes, before, same)

-- ---- steps

-- a step leaves the births that are left; `IsTable` takes off those that it makes
pub step_left : (p : Program) (outside : Outside) (c : Call) (own : Own) (i : Instr) (next : Own) → Steps p outside c own i next → next.left ≡ own.left
step_left p outside c own i next (local_step stays) = refl
step_left p outside c own i next read_step = refl
step_left p outside c own i next bound_step = refl
step_left p outside c own i next or_else_step = refl
step_left p outside c own i next bind_step = refl
step_left p outside c own i next unbind_step = refl
step_left p outside c own i next calm_step = refl
step_left p outside c own i next (interrupted_step may) = refl
step_left p outside c own i next (lent_step holds) = refl
step_left p outside c own i next (lent_cancelled_step holds may) = refl
step_left p outside c own i next (going_step place seen pick o free fits less) = refl
step_left p outside c own i next (cancelled_step place seen o may) = refl
step_left p outside c own i next (expired_step place seen o may timed) = refl
step_left p outside c own i next open_step = refl
step_left p outside c own i next (unstarted_step place seen o gone) = refl
step_left p outside c own i next close_step = refl
step_left p outside c own i next (attempted_step place seen may o unseen some) = refl
step_left p outside c own i next (timeout_step place seen o may timed) = refl
step_left p outside c own i next (by_one_step place seen j part end o may one way counts) = refl
step_left p outside c own i next (by_count_step place seen o may many) = refl
step_left p outside c own i next (heard_step place seen o free none) = refl
step_left p outside c own i next (none_step place seen j part end o free any way fails early) = refl
step_left p outside c own i next (success_step place seen j part counting k) = refl
step_left p outside c own i next (failure_step place seen j part counting k) = refl
step_left p outside c own i next (missed_step place seen j part k may) = refl
step_left p outside c own i next (get_step place seen j part v k way) = refl
step_left p outside c own i next (except_step place seen j part v k way) = refl
step_left p outside c own i next (tally_step place seen pick o fits) = refl
step_left p outside c own i next (total_step place seen pick o fits) = refl
