-- Causes at an instruction that only pops and pushes.
use Rattle.std.proofs.Common.{◌≡◌, ℕ, ◌+◌, Bool, true, false, Option, Some, None, List, length, cond, leb, refl, sym, ap, subst, ◌∙◌, ◌-◌, ◌≤◌, [], ◌∷◌, ◌<◌}
use Rattle.std.proofs.Common.{IfSome, arith}
use Rattle.std.specs.List.{All}
use Rattle.std.proofs.lemmas.Bool.{le-ltb, or_from, false≢true}
use Rattle.std.proofs.Math.Bool.{or-false}
use Rattle.sts_code.specs.Program.{Program, routine}
use Rattle.sts_code.specs.Facts.{pops, pushes}
use Rattle.sts_code.specs.declared.instr.Instr.{Instr}
use Rattle.sts_code.specs.declared.instr.Instr.TheVariants.{Push, Pop, Dup, Swap, Load, Store, Add, Sub, Mul, Lt, Eq, Bound, OrElse, Interrupted, Div, Jmp, Jz}
use Rattle.sts_code.specs.declared.instr.Instr.TheVariants.{Times, Next, Join, Case, Ret, Fail}
use Rattle.sts_rules.specs.declared.typing.Cause.{Cause}
use Rattle.sts_rules.specs.declared.typing.Cause.TheVariants.{FallsOff, BackJump, LoopMismatch}
use Rattle.sts_rules.specs.TypeState.{TypeState, heads}
use Rattle.sts_rules.specs.Causes.{falls_off, jumps_back, mismatches, is_other_loop, lacks_operands, overflows, join_overflows}
use Rattle.sts_rules.specs.Edges.{follows, back_of, moved}
use Rattle.sts_types.specs.declared.arrival.Arrival.{Arrival}
use Rattle.sts_types.specs.Arrivals.{Arrive, at_height}
use Rattle.sts_types.specs.Simple.{is_simple, is_straight, IsShort}
use Rattle.sts_types.proofs.Fitting.{one_of, after_leads, lead_missed, IsLed}

-- facts of a straight instruction; the instructions are gone through once for all of them
straight_facts : (code : List Instr) (pc : ℕ) (s : TypeState) (i : Instr) → is_straight i ≡ true → (falls_off code pc i ≡ leb (length code) (pc + 1)) × (jumps_back pc i ≡ false) × (mismatches code pc i s ≡ is_other_loop code (heads s.loops) (pc + 1))
straight_facts code pc s (Div to) e = absurd (false≢true e)
straight_facts code pc s (Jmp to) e = absurd (false≢true e)
straight_facts code pc s (Jz to) e = absurd (false≢true e)
straight_facts code pc s (Times n) e = absurd (false≢true e)
straight_facts code pc s Next e = absurd (false≢true e)
straight_facts code pc s (Join x failed timeout interrupted) e = absurd (false≢true e)
straight_facts code pc s (Case h success failed) e = absurd (false≢true e)
straight_facts code pc s Ret e = absurd (false≢true e)
straight_facts code pc s Fail e = absurd (false≢true e)
straight_facts code pc s _ e = (or-false (leb (length code) (pc + 1)), refl, or-false (is_other_loop code (heads s.loops) (pc + 1)))

three : (x y z a b : Bool) (p q r : Cause) → x ≡ a → y ≡ false → z ≡ b → cond a (Some p) (cond b (Some r) None) ≡ one_of x y z p q r None
three x y z a b p q r e f g = rw (e, f, g) refl

-- it falls off, or the loops around the next place are others
pub straight_lead : (code : List Instr) (pc : ℕ) (i : Instr) (s : TypeState) → is_straight i ≡ true → cond (leb (length code) (pc + 1)) (Some FallsOff) (cond (is_other_loop code (heads s.loops) (pc + 1)) (Some LoopMismatch) None) ≡ one_of (falls_off code pc i) (jumps_back pc i) (mismatches code pc i s) FallsOff BackJump LoopMismatch None
straight_lead code pc i s e =
    let facts = straight_facts code pc s i e in
    three (falls_off code pc i) (jumps_back pc i) (mismatches code pc i s) (leb (length code) (pc + 1)) (is_other_loop code (heads s.loops) (pc + 1)) FallsOff BackJump LoopMismatch facts.0 facts.1 facts.2

-- facts of an instruction that only pops and pushes, likewise
simple_facts : (p : Program) (f pc : ℕ) (code : List Instr) (s : TypeState) (i : Instr) → is_simple i ≡ true → (is_straight i ≡ true) × (None ≡ after_leads p f pc i s) × (join_overflows s i ≡ false) × (follows p code pc i s ≡ (pc + 1, moved p i s) ∷ []) × (back_of i s ≡ None)
simple_facts p f pc code s (Push k) e = (refl, refl, refl, refl, refl)
simple_facts p f pc code s Pop e = (refl, refl, refl, refl, refl)
simple_facts p f pc code s Dup e = (refl, refl, refl, refl, refl)
simple_facts p f pc code s Swap e = (refl, refl, refl, refl, refl)
simple_facts p f pc code s (Load x) e = (refl, refl, refl, refl, refl)
simple_facts p f pc code s (Store x) e = (refl, refl, refl, refl, refl)
simple_facts p f pc code s Add e = (refl, refl, refl, refl, refl)
simple_facts p f pc code s Sub e = (refl, refl, refl, refl, refl)
simple_facts p f pc code s Mul e = (refl, refl, refl, refl, refl)
simple_facts p f pc code s Lt e = (refl, refl, refl, refl, refl)
simple_facts p f pc code s Eq e = (refl, refl, refl, refl, refl)
simple_facts p f pc code s (Bound k) e = (refl, refl, refl, refl, refl)
simple_facts p f pc code s (OrElse k) e = (refl, refl, refl, refl, refl)
simple_facts p f pc code s Interrupted e = (refl, refl, refl, refl, refl)
simple_facts p f pc code s _ e = absurd (false≢true e)

-- no later cause holds
pub none_later : (p : Program) (f pc : ℕ) (i : Instr) (s : TypeState) → is_simple i ≡ true → None ≡ after_leads p f pc i s
none_later p f pc i s e = (simple_facts p f pc [] s i e).1

-- ---- the short way

fits_in : (p : Program) (i : Instr) (s : TypeState) (n : ℕ) → join_overflows s i ≡ false → n ≡ s.height - pops p i + pushes i → n ≤ 32 → overflows p i s ≡ false
fits_in p i s n e count few = or_from _ _ (le-ltb 32 (s.height - pops p i + pushes i) (subst (λ m. m ≤ 32) count few)) e

-- what is tested on the short way is enough
pub short : (p : Program) (f pc : ℕ) (i : Instr) (s : TypeState) (code : List Instr) (n : ℕ) → is_simple i ≡ true → code ≡ (routine p f).code → lacks_operands p i s ≡ false → n ≡ s.height - pops p i + pushes i → n ≤ 32 → None ≡ cond (leb (length code) (pc + 1)) (Some FallsOff) (cond (is_other_loop code (heads s.loops) (pc + 1)) (Some LoopMismatch) None) → IsShort p f pc i s n
short p f pc i s code n e is some_operands count few none =
    let facts = simple_facts p f pc code s i e in
    record {
      simple = e;
      none = sym (facts.1 ∙ lead_missed p f pc i s (led facts.2 facts.0) refl);
      count = count;
      few = few;
    }
  where
    led : join_overflows s i ≡ false → is_straight i ≡ true → IsLed p f pc i s code None
    led fits straight = record { same = is; some_operands = some_operands; room = fits_in p i s n fits count few; is = none ∙ straight_lead code pc i s straight }

-- one edge leads on to the next place
pub short_follows : (p : Program) (f : ℕ) (code : List Instr) (pc : ℕ) (i : Instr) (s : TypeState) (n : ℕ) → IsShort p f pc i s n → follows p code pc i s ≡ (pc + 1, at_height n s) ∷ []
short_follows p f code pc i s n h = (simple_facts p f pc code s i h.simple).3 ∙ ap (λ m. (pc + 1, at_height m s) ∷ []) (sym h.count)

-- it ends no turn of a loop
pub short_back : (p : Program) (f pc : ℕ) (i : Instr) (s : TypeState) (n : ℕ) → IsShort p f pc i s n → back_of i s ≡ None
short_back p f pc i s n h = (simple_facts p f pc [] s i h.simple).4

-- the answer of the test, about the typestate itself
pub short_is : (p : Program) (f pc : ℕ) (i : Instr) (s s' : TypeState) (n : ℕ) (o : Option ℕ) → s' ≡ s → IfSome o (IsShort p f pc i s') → o ≡ Some n → IsShort p f pc i s n
short_is p f pc i s s' n o same h is = subst (λ x. IsShort p f pc i x n) same (subst (λ x. IfSome x (IsShort p f pc i s')) is h)

pub short_place : (p : Program) (f : ℕ) (code : List Instr) (pc : ℕ) (i : Instr) (s : TypeState) (n places : ℕ) → IsShort p f pc i s n → All (λ e. e.0 < places) (follows p code pc i s) → pc + 1 < places
short_place p f code pc i s n places h all = subst (All (λ e. e.0 < places)) (short_follows p f code pc i s n h) all 0 (0, s) (omega arith)

pub short_arrives : (p : Program) (f : ℕ) (code : List Instr) (pc : ℕ) (i : Instr) (s : TypeState) (n : ℕ) (table after : List (Arrival TypeState)) → IsShort p f pc i s n → Arrive table ((pc + 1, at_height n s) ∷ []) after → Arrive table (follows p code pc i s) after
short_arrives p f code pc i s n table after h is = subst (λ es. Arrive table es after) (sym (short_follows p f code pc i s n h)) is
