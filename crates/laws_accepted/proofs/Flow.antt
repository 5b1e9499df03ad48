-- A task goes on as the control paths of its function do.
use Rattle.std.proofs.Common.{◌≡◌, ℕ, suc, ◌+◌, ◌-◌, ◌<◌, ◌≤◌, inl, inr, List, [], ◌∷◌, Bool, true, false, refl, sym, ◌∙◌, ap, subst, arith, cond, not}
use Rattle.std.specs.Prelude.{nat_le, ◌==◌, unwrap_or, pos}
use Rattle.std.specs.Int.{int_wrapping_div, w64}
use Rattle.std.specs.Ordering.{int_eq}
use Rattle.std.proofs.lemmas.Bool.{cond_both, eqb-false}
use Rattle.std.proofs.lemmas.Bool.Decides.{nat_tests}
use Rattle.std.proofs.Math.Nat.{pos_of_ne-zero}
use Rattle.sts_code.specs.Program.{Program, instr_at}
use Rattle.sts_code.specs.declared.instr.Instr.{Instr}
use Rattle.sts_code.specs.declared.instr.Instr.TheVariants.{Push, Pop, Dup, Swap, Load, Store, Add, Sub, Mul, Lt, Eq, Div, Jmp, Jz, Times, Next}
use Rattle.sts_rules.specs.declared.budget.Budgets.{Budgets}
use Rattle.sts_model.specs.declared.record.Frame.{Frame}
use Rattle.sts_model.specs.declared.record.Loop.{Loop}
use Rattle.sts_model.specs.World.{code}
use Rattle.sts_model.specs.Local.{local, is_local, turns, enters, clipped, operand, goes, steps}
use Rattle.sts_code.specs.Loops.{match_of}
use Rattle.sts_model.specs.Misuse.{breaks_loop, closes_loop}
use Rattle.laws_accepted.specs.Points.{loops_of, skeleton_of}
use Rattle.sts_rules.specs.ControlPaths.{GoesTo, Repeats, EndsTurn, Skeleton, OpenEntry, Among, Loops, Follows, go, skip, enter, again, leave, Comes, start}
use Rattle.sts_rules.specs.ControlPaths.{step}
use Rattle.sts_rules.specs.Budget.{shape_of}
use Rattle.sts_model.proofs.LocalLemmas.{clipped_few}

-- from a frame to the next, a control path goes on
abbrev pub GoesOn : Program → List Budgets → Frame → Frame → Type 0
GoesOn p budgets f g = Follows (skeleton_of p budgets f) f.pc (loops_of f.loops) g.pc (loops_of g.loops)

-- ---- turns that are left

abbrev pub Positive : Loops → Type 0
Positive [] = Unit {0}
Positive (l ∷ ls) = (0 < l.1) × Positive ls

positive_step : (c : Skeleton) (pc : ℕ) (loops : Loops) (to : ℕ) (after : Loops) → Follows c pc loops to after → Positive loops → Positive after
positive_step c pc loops to after (go places e among) h = h
positive_step c pc loops to after (skip n e) h = h
positive_step c pc loops to after (enter n turns e some few) h = (some, h)
positive_step c pc loops to after (again p left e some) h = (some, h.1)
positive_step c pc loops to after (leave p e) h = h.1

-- each open loop of a point has a turn left
pub positive : (c : Skeleton) (pc : ℕ) (loops : Loops) (before : ℕ) (es : List OpenEntry) → Comes c pc loops before es → Positive loops
positive c pc loops before es start = tt
positive c pc loops before es (step {pc = from} {loops = ls} {before = b} {entries = os} r s) = positive_step c from ls pc loops s (positive c from ls b os r)

-- ---- one instruction

-- over a jump, or to the next place
pub goes_to : (p : Program) (budgets : List Budgets) (f : Frame) (i : Instr) (places : List ℕ) (to : ℕ) → instr_at (code p f) f.pc ≡ i → shape_of f.pc i ≡ GoesTo places → Among places to → Follows (skeleton_of p budgets f) f.pc (loops_of f.loops) to (loops_of f.loops)
goes_to p budgets f i places to at shape among = go places (ap (shape_of f.pc) at ∙ shape) among

times_goes : (p : Program) (budgets : List Budgets) (f : Frame) (n : ℕ) → instr_at (code p f) f.pc ≡ Times n → GoesOn p budgets f (enters (code p f) f (clipped n (operand f 0)))
times_goes p budgets f n at =
    let shape : (skeleton_of p budgets f).shape f.pc ≡ Repeats n = ap (shape_of f.pc) at in
    let m : ℕ = clipped n (operand f 0) in
    cond_both (m == 0) (goes f (unwrap_or (match_of (code p f) f.pc) 0 + 1) 1 []) (record (steps f 1 []) { loops = record { at = f.pc; left = m } ∷ f.loops }) (λ (g : Frame). GoesOn p budgets f g)
    (λ e. skip n shape)
    (λ e. enter n m shape (pos_of_ne-zero (eqb-false m 0 e)) (clipped_few n (operand f 0)))

one_left : (n : ℕ) → 0 < n → nat_le n 1 ≡ true → n ≡ 1
one_left n some e = let le : n ≤ 1 = grind (arith, nat_tests) in omega arith

more_left : (n : ℕ) → nat_le n 1 ≡ false → 1 < n
more_left n e = grind (arith, nat_tests)

next_goes : (p : Program) (budgets : List Budgets) (f : Frame) (ls : List Loop) → f.loops ≡ ls → instr_at (code p f) f.pc ≡ Next → not (closes_loop (code p f) f.pc ls) ≡ false → Positive (loops_of ls) → Follows (skeleton_of p budgets f) f.pc (loops_of ls) (turns f ls).pc (loops_of (turns f ls).loops)
next_goes p budgets f [] same at closes some = cc
next_goes p budgets f (l ∷ ls) same at closes some =
    let shape : (skeleton_of p budgets f).shape f.pc ≡ EndsTurn = ap (shape_of f.pc) at in
    cond_both (nat_le l.left 1) (record (steps f 0 []) { loops = ls }) (record f { pc = l.at + 1; loops = record l { left = l.left - 1 } ∷ ls }) (λ (g : Frame). Follows (skeleton_of p budgets f) f.pc ((l.at, l.left) ∷ loops_of ls) g.pc (loops_of g.loops))
    (λ e.
    let one : 1 ≡ l.left = sym (one_left l.left some.0 e) in
    subst (λ n. Follows (skeleton_of p budgets f) f.pc ((l.at, n) ∷ loops_of ls) (f.pc + 1) (loops_of ls)) one (leave l.at shape))
    (λ e.
    let more = more_left l.left e in
    let back : suc (l.left - 1) ≡ l.left = omega (arith, more) in
    let some_left : 0 < l.left - 1 = omega (arith, more) in
    subst (λ n. Follows (skeleton_of p budgets f) f.pc ((l.at, n) ∷ loops_of ls) (l.at + 1) ((l.at, l.left - 1) ∷ loops_of ls)) back (again l.at (l.left - 1) shape some_left))

-- a local instruction
pub local_goes : (p : Program) (budgets : List Budgets) (f : Frame) (i : Instr) → is_local i ≡ true → instr_at (code p f) f.pc ≡ i → breaks_loop p f i ≡ false → Positive (loops_of f.loops) → GoesOn p budgets f (local (code p f) i f)
local_goes p budgets f (Div to) is at fine some =
    cond_both (int_eq (operand f 0) (pos 0)) (goes f to 2 []) (steps f 2 (int_wrapping_div w64 (operand f 1) (operand f 0) ∷ [])) (λ (g : Frame). GoesOn p budgets f g)
    (λ e. goes_to p budgets f (Div to) (to ∷ (f.pc + 1) ∷ []) to at refl (inl refl))
    (λ e. goes_to p budgets f (Div to) (to ∷ (f.pc + 1) ∷ []) (f.pc + 1) at refl (inr (inl refl)))
local_goes p budgets f (Jmp to) is at fine some = goes_to p budgets f (Jmp to) (to ∷ []) to at refl (inl refl)
local_goes p budgets f (Jz to) is at fine some = goes_to p budgets f (Jz to) (to ∷ (f.pc + 1) ∷ []) (cond (int_eq (operand f 0) (pos 0)) to (f.pc + 1)) at refl (by (int_eq (operand f 0) (pos 0)))
  where
    by : (b : Bool) → Among (to ∷ (f.pc + 1) ∷ []) (cond b to (f.pc + 1))
    by true = inl refl
    by false = inr (inl refl)
local_goes p budgets f (Times n) is at fine some = times_goes p budgets f n at
local_goes p budgets f Next is at fine some = next_goes p budgets f f.loops refl at fine some
local_goes p budgets f (Push k) is at fine some = goes_to p budgets f (Push k) ((f.pc + 1) ∷ []) (f.pc + 1) at refl (inl refl)
local_goes p budgets f Pop is at fine some = goes_to p budgets f Pop ((f.pc + 1) ∷ []) (f.pc + 1) at refl (inl refl)
local_goes p budgets f Dup is at fine some = goes_to p budgets f Dup ((f.pc + 1) ∷ []) (f.pc + 1) at refl (inl refl)
local_goes p budgets f Swap is at fine some = goes_to p budgets f Swap ((f.pc + 1) ∷ []) (f.pc + 1) at refl (inl refl)
local_goes p budgets f (Load x) is at fine some = goes_to p budgets f (Load x) ((f.pc + 1) ∷ []) (f.pc + 1) at refl (inl refl)
local_goes p budgets f (Store x) is at fine some = goes_to p budgets f (Store x) ((f.pc + 1) ∷ []) (f.pc + 1) at refl (inl refl)
local_goes p budgets f Add is at fine some = goes_to p budgets f Add ((f.pc + 1) ∷ []) (f.pc + 1) at refl (inl refl)
local_goes p budgets f Sub is at fine some = goes_to p budgets f Sub ((f.pc + 1) ∷ []) (f.pc + 1) at refl (inl refl)
local_goes p budgets f Mul is at fine some = goes_to p budgets f Mul ((f.pc + 1) ∷ []) (f.pc + 1) at refl (inl refl)
local_goes p budgets f Lt is at fine some = goes_to p budgets f Lt ((f.pc + 1) ∷ []) (f.pc + 1) at refl (inl refl)
local_goes p budgets f Eq is at fine some = goes_to p budgets f Eq ((f.pc + 1) ∷ []) (f.pc + 1) at refl (inl refl)
local_goes p budgets f _ is at fine some = cc
