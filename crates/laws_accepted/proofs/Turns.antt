-- One task's turn, with all other tasks unchanged.
use Rattle.std.proofs.Common.{◌≡◌, ℕ, suc, ◌+◌, ◌<◌, ◌≤◌, List, [], ◌∷◌, Bool, true, false, Option, Some, None, refl, ◌∙◌, ap, length, arith, cond, nat_eq}
use Rattle.std.proofs.Common.{is_none, ◌&&◌, length-set, get_or-set_same, get_or-set_other}
use Rattle.std.proofs.lemmas.Bool.{cond_both}
use Rattle.std.proofs.lemmas.Bool.Decides.{nat_tests}
use Rattle.sts_code.specs.Program.{Program}
use Rattle.sts_code.specs.declared.instr.Instr.{Instr}
use Rattle.sts_code.specs.declared.instr.Instr.TheVariants.{Fork, Join, Close}
use Rattle.sts_rules.specs.declared.budget.Budgets.{Budgets}
use Rattle.sts_model.specs.declared.event.Fault.{Fault}
use Rattle.sts_model.specs.declared.event.Phase.{Phase}
use Rattle.sts_model.specs.declared.event.Phase.TheVariants.{Opened, Attempted, Joined, Closing, Closed}
use Rattle.sts_model.specs.declared.event.Stand.TheVariants.{Free, AtClose}
use Rattle.sts_model.specs.declared.record.Slot.{Slot}
use Rattle.sts_model.specs.declared.record.Slot.TheVariants.{Empty, Own, Lent, Sub}
use Rattle.sts_model.specs.declared.record.Frame.{Frame}
use Rattle.sts_model.specs.declared.record.Task.{Task}
use Rattle.sts_model.specs.declared.record.Scope.{Scope}
use Rattle.sts_model.specs.World.{World, task_at, scope_at, no_task, instr_at, with_task, with_scope}
use Rattle.sts_model.specs.Living.{lives, is_in, is_closed}
use Rattle.sts_model.specs.Cancelling.{raised, marked, cancel}
use Rattle.sts_model.specs.Misuse.{slot, misuse}
use Rattle.sts_model.specs.Waiting.{stand_at, stand_at_instr, stands_at_join, stands_at_close, is_closing}
use Rattle.sts_rules.specs.Budget.{budget_at, steps_of}
use Rattle.laws_runs.specs.Later.{stage, Later}
use Rattle.laws_runs.proofs.KeptLemmas.{at_raised}
use Rattle.laws_runs.proofs.SoundLemmas.{Sound}
use Rattle.laws_runs.proofs.EntryLemmas.{Has}
use Rattle.laws_runs.proofs.EnteredLemmas.{Entered}
use Rattle.laws_accepted.specs.Costs.{Peak, share_in, subtask_shares, steps_begun}
use Rattle.laws_accepted.proofs.Sums.{sum-alike}

-- two tasks that differ at most in their flags
pub record IsLike (x y : Task) : Type 0 where
  pub frame : y.frame ≡ x.frame
  pub started : y.started ≡ x.started
  pub scope : y.scope ≡ x.scope
  pub outcome : y.outcome ≡ x.outcome

pub like-refl : (x : Task) → IsLike x x
like-refl x = record { frame = refl; started = refl; scope = refl; outcome = refl }

pub like-trans : (x y z : Task) → IsLike x y → IsLike y z → IsLike x z
like-trans x y z h k = record { frame = k.frame ∙ h.frame; started = k.started ∙ h.started; scope = k.scope ∙ h.scope; outcome = k.outcome ∙ h.outcome }

pub like-lives : (x y : Task) → IsLike x y → lives y ≡ lives x
like-lives x y h = ap (λ b. b && is_none y.outcome) h.started ∙ ap (λ o. x.started && is_none o) h.outcome

-- all tasks are the same, or differ only in flags
pub record Alike (w v : World) : Type 0 where
  pub count : length v.tasks ≡ length w.tasks
  pub each : (u : ℕ) → IsLike (task_at w u) (task_at v u)

-- the task t is x now, and all others differ at most in flags
pub record Turned (w v : World) (t : ℕ) (x : Task) : Type 0 where
  pub count : length v.tasks ≡ length w.tasks
  pub here : IsLike x (task_at v t)
  pub there : (u : ℕ) → (u ≡ t → ⊥) → IsLike (task_at w u) (task_at v u)

pub alike-refl : (w : World) → Alike w w
alike-refl w = record { count = refl; each = λ u. like-refl (task_at w u) }

pub alike-trans : (w v x : World) → Alike w v → Alike v x → Alike w x
alike-trans w v x h k = record { count = k.count ∙ h.count; each = λ u. like-trans (task_at w u) (task_at v u) (task_at x u) (h.each u) (k.each u) }

pub alike-scope : (w : World) (s : ℕ) (x : Scope) → Alike w (with_scope w s x)
alike-scope w s x = record { count = refl; each = λ u. like-refl (task_at w u) }

pub alike-cancel : (w : World) (s : ℕ) → Alike w (cancel w s)
alike-cancel w s =
    cond_both (scope_at w s).cancelled w (marked w s) (λ (v : World). Alike w v)
    (λ e. alike-refl w)
    (λ e.
    record {
      count = raised_count w.tasks;
      each = λ u. at_raised (λ (task : Task). IsLike (task_at w u) task) s w.tasks u (record { frame = refl; started = refl; scope = refl; outcome = refl }) (like-refl (task_at w u));
    })
  where
    raised_count : (xs : List Task) → length (raised s xs) ≡ length xs
    raised_count [] = refl
    raised_count (x ∷ xs) = ap suc (raised_count xs)

pub turned-task : (w v : World) (t : ℕ) (x y : Task) → t < length w.tasks → Alike w v → IsLike y x → Turned w (with_task v t x) t y
turned-task w v t x y born a like =
    let n = a.count in
    record {
      count = length-set v.tasks t x ∙ a.count;
      here = let same : task_at (with_task v t x) t ≡ x = get_or-set_same v.tasks t x no_task (omega (arith, n, born)) in rw same like;
      there = λ u other. let same : task_at (with_task v t x) u ≡ task_at v u = get_or-set_other v.tasks t u x no_task other in rw same (a.each u);
    }

pub turned-then : (w v y : World) (t : ℕ) (x : Task) → Turned w v t x → Alike v y → Turned w y t x
turned-then w v y t x h k =
    record {
      count = k.count ∙ h.count;
      here = like-trans x (task_at v t) (task_at y t) h.here (k.each t);
      there = λ u other. like-trans (task_at w u) (task_at v u) (task_at y u) (h.there u other) (k.each u);
    }

-- the task goes on with this frame
pub turned-frame : (w v : World) (t : ℕ) (g : Frame) (flag : Bool) → t < length w.tasks → Alike w v → Turned w (with_task v t (record (task_at v t) { frame = g; flag = flag })) t (record (task_at w t) { frame = g })
turned-frame w v t g flag born a =
    let e = a.each t in
    turned-task w v t (record (task_at v t) { frame = g; flag = flag }) (record (task_at w t) { frame = g }) born a (record { frame = refl; started = e.started; scope = e.scope; outcome = e.outcome })

-- ---- what subtasks were given

given_in-same : (k : Peak) (budgets : List Budgets) (s : ℕ) (x y : Task) → y.scope ≡ x.scope → y.frame.function ≡ x.frame.function → share_in k budgets s y ≡ share_in k budgets s x
given_in-same k budgets s x y scope function =
    ap (λ q. cond (is_in s q) (k.part (budget_at budgets y.frame.function)) 0) scope ∙ ap (λ n. cond (is_in s x.scope) (k.part (budget_at budgets n)) 0) function

-- a value that changes for no task doesn't change for all
pub lent-same : (k : Peak) (budgets : List Budgets) (w v : World) (s : ℕ) → length v.tasks ≡ length w.tasks → ((u : ℕ) → (task_at v u).scope ≡ (task_at w u).scope) → ((u : ℕ) → (task_at v u).frame.function ≡ (task_at w u).frame.function) → subtask_shares k budgets v.tasks s ≡ subtask_shares k budgets w.tasks s
lent-same k budgets w v s count scope function =
    sum-alike (share_in k budgets s) (share_in k budgets s) w.tasks v.tasks no_task count (λ u less. given_in-same k budgets s (task_at w u) (task_at v u) (scope u) (function u))

-- a property of every task, from the property of t and those of the others
pub each-task : (P : ℕ → Type 0) (t : ℕ) → P t → ((u : ℕ) → (u ≡ t → ⊥) → P u) → (u : ℕ) → P u
each-task P t here there u = by (nat_eq u t) refl
  where
    by : (b : Bool) → nat_eq u t ≡ b → P u
    by true e = let same : u ≡ t = grind (arith, nat_tests) in rw same here
    by false e = let other : u ≡ t → ⊥ = grind (arith, nat_tests) in there u other

-- ---- who waits at a close

no_wait_at_join : (m : Option Fault) (x : Slot) → steps_begun (stands_at_join m x) ≡ 0
no_wait_at_join None Empty = refl
no_wait_at_join None (Own s) = refl
no_wait_at_join None (Lent s) = refl
no_wait_at_join None (Sub s) = refl
no_wait_at_join (Some k) Empty = refl
no_wait_at_join (Some k) (Own s) = refl
no_wait_at_join (Some k) (Lent s) = refl
no_wait_at_join (Some k) (Sub s) = refl

wait_at_close : (w : World) (x : Slot) → steps_begun (stands_at_close w x) ≤ 1
wait_at_close w (Own s) = cond_both (is_closing (scope_at w s).phase) (AtClose s) Free (λ x. steps_begun x ≤ 1) (λ e. omega arith) (λ e. omega arith)
wait_at_close w _ = omega arith

few_waits : (p : Program) (w : World) (t : ℕ) (earlier : List Budgets) (i : Instr) → steps_begun (stand_at_instr p w t (Some i)) + 1 ≤ steps_of earlier i
few_waits p w t earlier (Join x failed timeout interrupted) = let h = no_wait_at_join (misuse p w t) (slot (task_at w t).frame x) in omega (arith, h)
few_waits p w t earlier (Close x) = let h = wait_at_close w (slot (task_at w t).frame x) in omega (arith, h)
few_waits p w t earlier _ = omega arith

-- at an instruction, fewer steps were taken of it than it counts
pub waits-few : (p : Program) (w : World) (t : ℕ) (earlier : List Budgets) (i : Instr) → instr_at p (task_at w t).frame ≡ Some i → steps_begun (stand_at p w t) + 1 ≤ steps_of earlier i
waits-few p w t earlier i at = rw at (few_waits p w t earlier i)

-- no task waits at a fork
pub waits-fork : (p : Program) (w : World) (t x g : ℕ) (h : Option ℕ) → instr_at p (task_at w t).frame ≡ Some (Fork x g h) → steps_begun (stand_at p w t) ≡ 0
waits-fork p w t x g h at = rw at refl

-- a close that has begun is the same in a later state, if its owner hasn't moved
phase_stays : (a b : Phase) → is_closing a ≡ true → stage a ≤ stage b → is_closed b ≡ false → is_closing b ≡ true
phase_stays Closing Closing e le still = refl
phase_stays Closing Closed e le still = cc
phase_stays Closing Opened e le still = absurd (omega (arith, le))
phase_stays Closing Attempted e le still = absurd (omega (arith, le))
phase_stays Closing Joined e le still = absurd (omega (arith, le))
phase_stays Opened b e le still = cc
phase_stays Attempted b e le still = cc
phase_stays Joined b e le still = cc
phase_stays Closed b e le still = cc

closing_open : (a : Phase) → is_closing a ≡ true → is_closed a ≡ false
closing_open Closed e = cc
closing_open _ e = refl

pub closing-stays : (w v : World) (u x s : ℕ) → Sound w → Entered v → Later w v → (task_at v u).frame ≡ (task_at w u).frame → lives (task_at v u) ≡ true → slot (task_at w u).frame x ≡ Own s → is_closing (scope_at w s).phase ≡ true → is_closing (scope_at v s).phase ≡ true
closing-stays w v u x s o e later same alive mine closing =
    let owner = o.own u x s mine in
    let held = o.held s owner.born (closing_open (scope_at w s).phase closing) in
    let there : Has s (task_at w u).frame.entries = rw (owner.owner) at held.entry in
    let here : Has s (task_at v u).frame.entries = rw same there in
    let still = (e.opens u s alive here).still in
    phase_stays (scope_at w s).phase (scope_at v s).phase closing (later.scope s owner.born).moves.forward still

pub waits-stay : (p : Program) (w v : World) (u : ℕ) → Sound w → Entered v → Later w v → (task_at v u).frame ≡ (task_at w u).frame → lives (task_at v u) ≡ true → steps_begun (stand_at p w u) ≤ steps_begun (stand_at p v u)
waits-stay p w v u o e later same alive = rw same (by (instr_at p (task_at w u).frame))
  where
    at_close : (x : ℕ) (q : Slot) → slot (task_at w u).frame x ≡ q → steps_begun (stands_at_close w q) ≤ steps_begun (stands_at_close v q)
    at_close x (Own s) is =
        cond_both (is_closing (scope_at w s).phase) (AtClose s) Free (λ a. steps_begun a ≤ steps_begun (cond (is_closing (scope_at v s).phase) (AtClose s) Free))
        (λ h. let k = closing-stays w v u x s o e later same alive is h in rw k (omega arith))
        (λ h. omega arith)
    at_close x _ is = omega arith

    by : (q : Option Instr) → steps_begun (stand_at_instr p w u q) ≤ steps_begun (stand_at_instr p v u q)
    by None = omega arith
    by (Some (Join x failed timeout interrupted)) = let h = no_wait_at_join (misuse p w u) (slot (task_at w u).frame x) in omega (arith, h)
    by (Some (Close x)) = rw same (at_close x (slot (task_at w u).frame x) refl)
    by (Some _) = omega arith
