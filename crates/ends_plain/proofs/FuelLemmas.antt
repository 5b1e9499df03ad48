-- Own steps of a task end: each makes its fuel smaller.
use Rattle.std.proofs.Common.{◌≡◌, ℕ, zero, suc, ◌+◌, ◌-◌, ◌*◌, ◌<◌, ◌≤◌, List, [], ◌∷◌, Bool, true, false, Option, Some, None}
use Rattle.std.proofs.Common.{refl, ◌∙◌, ap, length, arith, cond, not, find, drop}
use Rattle.std.specs.Prelude.{pos, nat_le, is_none, is_some, unwrap_or, ◌==◌, slice_get, slice_range}
use Rattle.std.specs.List.{range_with_len, sum_by}
use Rattle.std.specs.Int.{int_wrapping_div, w64}
use Rattle.std.specs.Ordering.{int_eq}
use Rattle.std.proofs.Math.Nat.{mul-lt-mul_of_pos_right, mul-le-mul_right, add-mul, one-mul}
use Rattle.std.proofs.lemmas.Bool.{ltb-true, leb-false, or_parts, not-false}
use Rattle.std.proofs.lemmas.List.Sums.{get_or-le-sum_by}
use Rattle.std.proofs.lemmas.Option.{slice_get_within, get_or_from_slice_get}
use Rattle.sts_code.proofs.LoopLemmas.{at_match}
use Rattle.sts_code.specs.Loops.{match_of, is_balanced, is_at}
use Rattle.sts_code.specs.Program.{Program}
use Rattle.sts_code.specs.declared.instr.Instr.{Instr}
use Rattle.sts_code.specs.declared.instr.Instr.TheVariants as instr
use Rattle.sts_code.specs.declared.limits.TheConstants.{MAX_LOOPS}
use Rattle.sts_model.specs.declared.record.Entry.TheVariants as entry
use Rattle.sts_model.specs.declared.record.Bound.{Bound}
use Rattle.sts_model.specs.declared.record.Frame.{Frame}
use Rattle.sts_model.specs.declared.record.Loop.{Loop}
use Rattle.sts_model.specs.World.{code, instr_at}
use Rattle.sts_model.specs.Environment.{read}
use Rattle.sts_model.specs.Local.{local, operand, goes, steps, truth, clipped, enters, turns}
use Rattle.sts_model.specs.Misuse.{breaks_loop, closes_loop}
use Rattle.laws_names.specs.Names.{Names, named_frame}
use Rattle.ends_plain.specs.Own.{is_own}
use Rattle.sts_model.proofs.LocalLemmas.{clipped_few}

-- the frame after an own instruction, with these scoped values
abbrev pub after_own : List Bound → List Instr → Instr → Frame → Frame
after_own bs is (instr.Bind k) f = record (steps f 1 []) { entries = entry.Binding k (operand f 0) ∷ f.entries }
after_own bs is instr.Unbind f = record (steps f 0 []) { entries = drop 1 f.entries }
after_own bs is (instr.Read k) f = steps f 0 (unwrap_or (read bs k) (pos 0) ∷ [])
after_own bs is (instr.Bound k) f = steps f 0 (truth (is_some (read bs k)) ∷ [])
after_own bs is (instr.OrElse k) f = steps f 1 (unwrap_or (read bs k) (operand f 0) ∷ [])
after_own bs is i f = local is i f

-- ---- loops

found_past : (test : ℕ → Bool) (a n m : ℕ) → find test (range_with_len a n) ≡ Some m → a ≤ m
found_past test a zero m e = cc
found_past test a (suc n) m e = by (test a) e (λ h. found_past test (a + 1) n m h)
  where
    by : (b : Bool) → cond b (Some a) (find test (range_with_len (a + 1) n)) ≡ Some m → (find test (range_with_len (a + 1) n) ≡ Some m → a + 1 ≤ m) → a ≤ m
    by true h rest = let same : a ≡ m = cc in omega (arith, same)
    by false h rest = let past = rest h in omega (arith, past)

-- the match of a `times` comes after it
match_past : (is : List Instr) (at m : ℕ) → match_of is at ≡ Some m → at < m
match_past is at m e = let h = found_past (λ q. is_balanced (slice_range is at (q + 1))) (at + 1) (length is - (at + 1)) m e in omega (arith, h)

skips : (at : ℕ) (o : Option ℕ) → is_none o ≡ false → ((m : ℕ) → o ≡ Some m → at < m) → at < unwrap_or o 0 + 1
skips at None e past = cc
skips at (Some m) e past = let h = past m refl in omega (arith, h)

-- the innermost loop began before the `next` that closes it
closes_past : (is : List Instr) (pc : ℕ) (l : Loop) (ls : List Loop) → not (closes_loop is pc (l ∷ ls)) ≡ false → l.at < pc
closes_past is pc l ls e = match_past is l.at pc (at_match (match_of is l.at) pc (not-false (is_at (match_of is l.at) pc) e))

-- ---- fuel

turns_of : Instr → ℕ
turns_of (instr.Times n) = n
turns_of i = 0

-- no `times` of the code asks for more turns
most_turns : List Instr → ℕ
most_turns is = sum_by turns_of is

-- a step to a later place is worth more than all that can follow in a loop that begins between, if d
-- loops more can be open at once
worth : ℕ → ℕ → ℕ → ℕ
worth n k zero = 1
worth n k (suc d) = 1 + (1 + k) * (n * worth n k d)

worth_some : (n k d : ℕ) → 0 < worth n k d
unfolding worth
worth_some n k zero = omega arith
worth_some n k (suc d) = omega arith

-- how many loops more can be open
free : List Loop → ℕ
free ls = MAX_LOOPS - length ls

-- after the loops that are open: the places past each `times`, and the turns that are left
loops_fuel : ℕ → ℕ → List Loop → ℕ
loops_fuel n k [] = 0
loops_fuel n k (l ∷ ls) = loops_fuel n k ls + (n - (l.at + 1)) * worth n k (free ls) + (l.left - 1) * (n * worth n k (free (l ∷ ls)))

pub frame_fuel : List Instr → Frame → ℕ
frame_fuel is f = loops_fuel (length is) (most_turns is) f.loops + (length is - f.pc) * worth (length is) (most_turns is) (free f.loops)

-- frames that differ only by names have as much
pub frame_fuel_named : (n : Names) (is : List Instr) (f : Frame) → frame_fuel is (named_frame n f) ≡ frame_fuel is f
unfolding frame_fuel
frame_fuel_named n is f = refl

-- ---- numbers

less_here : (x a b n k d : ℕ) → a < b → x + a * worth n k d < x + b * worth n k d
less_here x a b n k d less = let h : a * worth n k d < b * worth n k d = mul-lt-mul_of_pos_right less (worth_some n k d) in further x (a * worth n k d) (b * worth n k d) h
  where
    further : (z u v : ℕ) → u < v → z + u < z + v
    further z u v h = omega arith

one_more : (a x : ℕ) → (1 + a) * x ≡ x + a * x
one_more a x = add-mul 1 a x ∙ ap (λ y. y + a * x) (one-mul x)

opened : (base p q r x kx w t : ℕ) → t ≡ w + p → w ≡ 1 + (x + kx) → q ≤ kx → r ≤ x → base + p + q + r < base + t
opened base p q r x kx w t e f g h = omega arith

-- ---- each own step takes some

forward_less : (is : List Instr) (f g : Frame) → f.pc < length is → f.pc < g.pc → g.loops ≡ f.loops → frame_fuel is g < frame_fuel is f
unfolding frame_fuel
forward_less is f g inside past same =
    let n = length is in
    let k = most_turns is in
    let fewer : n - g.pc < n - f.pc = omega (arith, inside, past) in
    rw same (less_here (loops_fuel n k f.loops) (n - g.pc) (n - f.pc) n k (free f.loops) fewer)

push_less : (n k pc t : ℕ) (ls : List Loop) → pc < n → t ≤ k → length ls < MAX_LOOPS
    → loops_fuel n k (record { at = pc; left = t } ∷ ls) + (n - (pc + 1)) * worth n k (free (record { at = pc; left = t } ∷ ls)) < loops_fuel n k ls + (n - pc) * worth n k (free ls)
unfolding loops_fuel free worth
push_less n k pc t ls inside few room =
    let d : ℕ = MAX_LOOPS - length (record { at = pc; left = t } ∷ ls) in
    let deeper : MAX_LOOPS - length ls ≡ suc d = omega (arith, room) in
    let w : ℕ = worth n k (suc d) in
    let x : ℕ = n * worth n k d in
    let left : n - pc ≡ 1 + (n - (pc + 1)) = omega (arith, inside) in
    let all : (n - pc) * w ≡ w + (n - (pc + 1)) * w = ap (λ (y : ℕ). y * w) left ∙ one_more (n - (pc + 1)) w in
    let worth_is : w ≡ 1 + (x + k * x) = ap (λ (y : ℕ). 1 + y) (one_more k x) in
    let fewer : t - 1 ≤ k = omega (arith, few) in
    let turned : (t - 1) * x ≤ k * x = mul-le-mul_right x fewer in
    let some : n - (pc + 1) ≤ n = omega arith in
    let inner : (n - (pc + 1)) * worth n k d ≤ x = mul-le-mul_right (worth n k d) some in
    rw deeper (opened (loops_fuel n k ls) ((n - (pc + 1)) * w) ((t - 1) * x) ((n - (pc + 1)) * worth n k d) x (k * x) w ((n - pc) * w) all worth_is turned inner)

pop_less : (n k pc : ℕ) (l : Loop) (ls : List Loop) → pc < n → l.at < pc
    → loops_fuel n k ls + (n - (pc + 1)) * worth n k (free ls) < loops_fuel n k (l ∷ ls) + (n - pc) * worth n k (free (l ∷ ls))
unfolding loops_fuel
pop_less n k pc l ls inside past =
    let fewer : n - (pc + 1) < n - (l.at + 1) = omega (arith, inside, past) in
    let h = less_here (loops_fuel n k ls) (n - (pc + 1)) (n - (l.at + 1)) n k (free ls) fewer in
    weaker _ _ _ _ h
  where
    weaker : (a b c d : ℕ) → a < b → a < b + c + d
    weaker a b c d less = omega arith

turn_less : (n k pc : ℕ) (l : Loop) (ls : List Loop) → pc < n → 1 < l.left
    → loops_fuel n k (record l { left = l.left - 1 } ∷ ls) + (n - (l.at + 1)) * worth n k (free (record l { left = l.left - 1 } ∷ ls)) < loops_fuel n k (l ∷ ls) + (n - pc) * worth n k (free (l ∷ ls))
unfolding loops_fuel free
turn_less n k pc l ls inside more =
    let v : ℕ = worth n k (MAX_LOOPS - length (l ∷ ls)) in
    let x : ℕ = n * v in
    let left : l.left - 1 ≡ 1 + (l.left - 1 - 1) = omega (arith, more) in
    let all : (l.left - 1) * x ≡ x + (l.left - 1 - 1) * x = ap (λ (y : ℕ). y * x) left ∙ one_more (l.left - 1 - 1) x in
    let fewer : n - (l.at + 1) < n = omega (arith, inside) in
    let again : (n - (l.at + 1)) * v < x = mul-lt-mul_of_pos_right fewer (worth_some n k (MAX_LOOPS - length (l ∷ ls))) in
    turned (loops_fuel n k ls + (n - (l.at + 1)) * worth n k (MAX_LOOPS - length ls)) ((l.left - 1 - 1) * x) ((n - (l.at + 1)) * v) x ((l.left - 1) * x) ((n - pc) * v) all again
  where
    turned : (base q r x t s : ℕ) → t ≡ x + q → r < x → base + q + r < base + t + s
    turned base q r x t s e less = omega arith

times_few : (is : List Instr) (pc n : ℕ) → slice_get is pc ≡ Some (instr.Times n) → n ≤ most_turns is
unfolding most_turns turns_of
times_few is pc n at =
    let there = get_or_from_slice_get is pc (instr.Times n) instr.Ret at in
    let h = get_or-le-sum_by turns_of is pc instr.Ret (slice_get_within is pc (instr.Times n) at) in
    rw there at h

enters_less : (is : List Instr) (f : Frame) (t : ℕ) → f.pc < length is → t ≤ most_turns is → is_none (match_of is f.pc) ≡ false → length f.loops < MAX_LOOPS → frame_fuel is (enters is f t) < frame_fuel is f
unfolding frame_fuel
enters_less is f t inside few matched room = by (t == 0)
  where
    by : (b : Bool) → frame_fuel is (cond b (goes f (unwrap_or (match_of is f.pc) 0 + 1) 1 []) (record (steps f 1 []) { loops = record { at = f.pc; left = t } ∷ f.loops })) < frame_fuel is f
    by true = forward_less is f (goes f (unwrap_or (match_of is f.pc) 0 + 1) 1 []) inside (skips f.pc (match_of is f.pc) matched (λ m h. match_past is f.pc m h)) refl
    by false = push_less (length is) (most_turns is) f.pc t f.loops inside few room

turns_less : (is : List Instr) (f : Frame) (ls : List Loop) → f.pc < length is → not (closes_loop is f.pc ls) ≡ false → f.loops ≡ ls → frame_fuel is (turns f ls) < frame_fuel is f
unfolding frame_fuel
turns_less is f [] inside closes same = cc
turns_less is f (l ∷ ls) inside closes same = rw same (by (nat_le l.left 1) refl)
  where
    by : (b : Bool) → nat_le l.left 1 ≡ b → frame_fuel is (cond b (record (steps f 0 []) { loops = ls }) (record f { pc = l.at + 1; loops = record l { left = l.left - 1 } ∷ ls }))
        < loops_fuel (length is) (most_turns is) (l ∷ ls) + (length is - f.pc) * worth (length is) (most_turns is) (free (l ∷ ls))
    by true last = pop_less (length is) (most_turns is) f.pc l ls inside (closes_past is f.pc l ls closes)
    by false last = turn_less (length is) (most_turns is) f.pc l ls inside (leb-false l.left 1 last)

pub own_less : (p : Program) (bs : List Bound) (f : Frame) (i : Instr) → is_own f i ≡ true → instr_at p f ≡ Some i → breaks_loop p f i ≡ false → frame_fuel (code p f) (after_own bs (code p f) i f) < frame_fuel (code p f) f
own_less p bs f (instr.Div to) e at fine = by (int_eq (operand f 0) (pos 0))
  where
    by : (b : Bool) → frame_fuel (code p f) (cond b (goes f to 2 []) (steps f 2 (int_wrapping_div w64 (operand f 1) (operand f 0) ∷ []))) < frame_fuel (code p f) f
    by true = forward_less (code p f) f (goes f to 2 []) (slice_get_within (code p f) f.pc (instr.Div to) at) (ltb-true f.pc to e) refl
    by false = forward_less (code p f) f (steps f 2 (int_wrapping_div w64 (operand f 1) (operand f 0) ∷ [])) (slice_get_within (code p f) f.pc (instr.Div to) at) (omega arith) refl
own_less p bs f (instr.Jmp to) e at fine = forward_less (code p f) f (goes f to 0 []) (slice_get_within (code p f) f.pc (instr.Jmp to) at) (ltb-true f.pc to e) refl
own_less p bs f (instr.Jz to) e at fine = forward_less (code p f) f (goes f (cond (int_eq (operand f 0) (pos 0)) to (f.pc + 1)) 1 []) (slice_get_within (code p f) f.pc (instr.Jz to) at) (by (int_eq (operand f 0) (pos 0))) refl
  where
    by : (b : Bool) → f.pc < cond b to (f.pc + 1)
    by true = ltb-true f.pc to e
    by false = omega arith
own_less p bs f (instr.Times n) e at fine =
    let parts = or_parts (is_none (match_of (code p f) f.pc)) (nat_le MAX_LOOPS (length f.loops)) fine in
    let few = times_few (code p f) f.pc n at in
    let clips = clipped_few n (operand f 0) in
    enters_less (code p f) f (clipped n (operand f 0)) (slice_get_within (code p f) f.pc (instr.Times n) at) (omega (arith, few, clips)) parts.0 (leb-false MAX_LOOPS (length f.loops) parts.1)
own_less p bs f instr.Next e at fine = turns_less (code p f) f f.loops (slice_get_within (code p f) f.pc instr.Next at) fine refl
own_less p bs f i e at fine =
    let next : (after_own bs (code p f) i f).pc ≡ f.pc + 1 = cc in
    let same : (after_own bs (code p f) i f).loops ≡ f.loops = cc in
    forward_less (code p f) f (after_own bs (code p f) i f) (slice_get_within (code p f) f.pc i at) (omega (arith, next)) same
