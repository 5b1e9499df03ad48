-- The places after local instructions.
use Rattle.std.proofs.Common.{◌≡◌, ℕ, ◌+◌, ◌-◌, ◌≤◌, inl, inr, List, [], ◌∷◌, ◌++◌, length, map, drop, true, false, Option, Some, None, refl, sym, ◌∙◌, ap}
use Rattle.std.proofs.Common.{arith, unwrap_or, length-append, length-drop}
use Rattle.std.specs.Prelude.{ℤ, pos, is_none, nat_le, option_map, option_to_list, ◌==◌}
use Rattle.std.specs.Int.{int_wrapping_div, w64}
use Rattle.std.specs.Ordering.{int_eq}
use Rattle.std.proofs.lemmas.Bool.{cond_both, or_parts, not-false}
use Rattle.std.proofs.lemmas.Bool.Decides.{nat_tests}
use Rattle.sts_code.specs.Program.{Program, routine}
use Rattle.sts_code.specs.declared.instr.Instr.{Instr}
use Rattle.sts_code.specs.declared.instr.Instr.TheVariants.{Push, Pop, Dup, Swap, Load, Store, Add, Sub, Mul, Lt, Eq, Div, Jmp, Jz, Times, Next}
use Rattle.sts_model.specs.declared.record.Frame.{Frame}
use Rattle.sts_model.specs.declared.record.Loop.{Loop}
use Rattle.sts_rules.specs.declared.typing.TypedLoop.{TypedLoop}
use Rattle.sts_model.specs.World.{World, code}
use Rattle.sts_model.specs.Local.{local, is_local, goes, steps, operand, clipped, turns}
use Rattle.sts_code.specs.Loops.{match_of, is_at}
use Rattle.sts_code.specs.Facts.{pops, pushes}
use Rattle.sts_rules.specs.TypeState.{TypeState}
use Rattle.sts_rules.specs.Causes as cause
use Rattle.sts_rules.specs.Edges.{follows, moved}
use Rattle.sts_rules.specs.Flow.{Leads}
use Rattle.sts_code.proofs.LoopLemmas.{match_of_bound, at_match}
use Rattle.laws_accepted.specs.Typed.{closes}
use Rattle.laws_accepted.proofs.Stands.{Stands, Lands, Keeps, lands-operands, fits-onward, not_closing}

-- ---- operands

-- there are enough operands for the pops
pub enough : (p : Program) (i : Instr) (s : TypeState) → cause.lacks_operands p i s ≡ false → pops p i ≤ s.height
enough p i s e = grind (arith, nat_tests)

-- pops n operands and pushes others
pub height-moved : (ops pushed : List ℤ) (n height : ℕ) → length ops ≡ height → length (pushed ++ drop n ops) ≡ height - n + length pushed
height-moved ops pushed n height e =
    let a = length-append pushed (drop n ops) in
    let b = length-drop n ops in
    omega (arith, a, b, e)

-- an instruction that goes on to the next place, and pops and pushes as typed
pub lands-moved : (p : Program) (w : World) (f g : Frame) (i : Instr) (s : TypeState) (n : ℕ) (pushed : List ℤ) → Stands p w f i s → ((x : ℕ) → closes (Some i) x ≡ false) → follows p (routine p f.function).code f.pc i s ≡ (f.pc + 1, moved p i s) ∷ [] → Keeps f g → g.pc ≡ f.pc + 1 → g.operands ≡ pushed ++ drop n f.operands → (pops p i ≤ s.height → s.height - n + length pushed ≡ s.height - pops p i + pushes i) → Lands p w f g
lands-moved p w f g i s n pushed h none one k next now arithmetic =
    lands-operands p w f g i s (s.height - pops p i + pushes i) h none k
    (ap length now ∙ height-moved f.operands pushed n s.height h.fits.height ∙ arithmetic (enough p i s h.clear.operands))
    (rw one (inl (sym next, refl)))

-- ---- branches

lands-div : (p : Program) (w : World) (f : Frame) (to : ℕ) (s : TypeState) → Stands p w f (Div to) s → Lands p w f (local (code p f) (Div to) f)
lands-div p w f to s h =
    let two : 2 ≤ s.height = enough p (Div to) s h.clear.operands in
    cond_both (int_eq (operand f 0) (pos 0)) (goes f to 2 []) (steps f 2 (int_wrapping_div w64 (operand f 1) (operand f 0) ∷ [])) (λ (g : Frame). Lands p w f g)
    (λ e.
    lands-operands p w f (goes f to 2 []) (Div to) s (s.height - 2) h (λ x. refl) (record { function = refl; loops = refl; entries = refl; slots = refl })
    (let n = height-moved f.operands [] 2 s.height h.fits.height in omega (arith, n)) (inr (inl (refl, refl))))
    (λ e.
    lands-operands p w f (steps f 2 (int_wrapping_div w64 (operand f 1) (operand f 0) ∷ [])) (Div to) s (s.height - 1) h (λ x. refl) (record { function = refl; loops = refl; entries = refl; slots = refl })
    (let n = height-moved f.operands (int_wrapping_div w64 (operand f 1) (operand f 0) ∷ []) 2 s.height h.fits.height in omega (arith, n, two)) (inl (refl, refl)))

lands-jz : (p : Program) (w : World) (f : Frame) (to : ℕ) (s : TypeState) → Stands p w f (Jz to) s → Lands p w f (local (code p f) (Jz to) f)
lands-jz p w f to s h =
    let long = height-moved f.operands [] 1 s.height h.fits.height in
    cond_both (int_eq (operand f 0) (pos 0)) to (f.pc + 1) (λ (n : ℕ). Lands p w f (goes f n 1 []))
    (λ e. lands-operands p w f (goes f to 1 []) (Jz to) s (s.height - 1 + 0) h (λ x. refl) (record { function = refl; loops = refl; entries = refl; slots = refl }) (omega (arith, long)) (inr (inl (refl, refl))))
    (λ e. lands-operands p w f (goes f (f.pc + 1) 1 []) (Jz to) s (s.height - 1 + 0) h (λ x. refl) (record { function = refl; loops = refl; entries = refl; slots = refl }) (omega (arith, long)) (inl (refl, refl)))

-- ---- loops

past-match : (o : Option ℕ) (x : TypeState) → is_none o ≡ false → Leads (map (λ to. (to, x)) (option_to_list (option_map (λ q. q + 1) o))) (unwrap_or o 0 + 1) x
past-match None x e = cc
past-match (Some q) x e = inl (refl, refl)

lands-times : (p : Program) (w : World) (f : Frame) (n : ℕ) (s : TypeState) → Stands p w f (Times n) s → Lands p w f (local (code p f) (Times n) f)
lands-times p w f n s h =
    let long = height-moved f.operands [] 1 s.height h.fits.height in
    let matched : is_none (match_of (code p f) f.pc) ≡ false = (or_parts _ _ (or_parts _ _ h.clear.loops).0).0 in
    let turns : ℕ = clipped n (operand f 0) in
    cond_both (turns == 0) (goes f (unwrap_or (match_of (code p f) f.pc) 0 + 1) 1 []) (record (steps f 1 []) { loops = record { at = f.pc; left = turns } ∷ f.loops }) (λ (g : Frame). Lands p w f g)
    (λ e.
    lands-operands p w f (goes f (unwrap_or (match_of (code p f) f.pc) 0 + 1) 1 []) (Times n) s (s.height - 1 + 0) h (λ x. refl) (record { function = refl; loops = refl; entries = refl; slots = refl }) (omega (arith, long))
    (inr (past-match (match_of (code p f) f.pc) (moved p (Times n) s) matched)))
    (λ e.
    let opened : TypeState = record (moved p (Times n) s) { loops = record { at = f.pc; entries = length s.entries } ∷ s.loops } in
    record {
      function = refl;
      state = opened;
      reached = h.leads (f.pc + 1) opened (inl (refl, refl));
      fits = fits-onward p w f (record (steps f 1 []) { loops = record { at = f.pc; left = turns } ∷ f.loops }) s opened h.fits (not_closing p f (Times n) h.at (λ x. refl)) refl refl refl refl refl (omega (arith, long)) (ap (λ l. f.pc ∷ l) h.fits.loops);
    })

-- the loops that are left
tails : (xs : List ℕ) (ys : List TypedLoop) (x : ℕ) → x ∷ xs ≡ map (λ (l : TypedLoop). l.at) ys → xs ≡ map (λ (l : TypedLoop). l.at) (drop 1 ys)
tails xs [] x e = cc
tails xs (y ∷ ys) x e = cc

-- the innermost loop ends here
closes_here : (p : Program) (w : World) (f : Frame) (s : TypeState) → Stands p w f Next s → cause.closes_loop (routine p f.function).code f.pc s.loops ≡ true
closes_here p w f s h = not-false (cause.closes_loop (routine p f.function).code f.pc s.loops) (or_parts _ _ (or_parts _ _ h.clear.loops).0).0

lands-turn : (p : Program) (w : World) (f : Frame) (s : TypeState) (l : Loop) (ls : List Loop) → Stands p w f Next s → f.loops ≡ l ∷ ls → (xs : List TypedLoop) → s.loops ≡ xs → Lands p w f (turns f (l ∷ ls))
lands-turn p w f s l ls h e [] none = let d : map (λ (y : Loop). y.at) (l ∷ ls) ≡ map (λ (y : TypedLoop). y.at) [] = rw (e, none) at h.fits.loops in cc
lands-turn p w f s l ls h e (x ∷ xs) some =
    let heads : map (λ (y : Loop). y.at) (l ∷ ls) ≡ map (λ (y : TypedLoop). y.at) (x ∷ xs) = rw (e, some) at h.fits.loops in
    let same : l.at ≡ x.at = cc in
    let still = not_closing p f Next h.at (λ y. refl) in
    let closing : is_at (match_of (code p f) x.at) f.pc ≡ true = rw some at (closes_here p w f s h) in
    cond_both (nat_le l.left 1) (record (steps f 0 []) { loops = ls }) (record f { pc = l.at + 1; loops = record l { left = l.left - 1 } ∷ ls }) (λ (g : Frame). Lands p w f g)
    (λ d.
    let left : TypeState = record s { loops = drop 1 s.loops } in
    record {
      function = refl;
      state = left;
      reached = h.leads (f.pc + 1) left (inl (refl, refl));
      fits = fits-onward p w f (record (steps f 0 []) { loops = ls }) s left h.fits still refl refl refl refl refl h.fits.height (rw some (tails _ (x ∷ xs) l.at heads));
    })
    (λ d.
    record {
      function = refl;
      state = s;
      reached = h.back (l.at + 1) (rw (some, same) refl) (rw same (match_of_bound (code p f) x.at f.pc (at_match (match_of (code p f) x.at) f.pc closing)));
      fits = fits-onward p w f (record f { pc = l.at + 1; loops = record l { left = l.left - 1 } ∷ ls }) s s h.fits still refl refl refl refl refl h.fits.height (rw some heads);
    })

lands-next : (p : Program) (w : World) (f : Frame) (s : TypeState) → Stands p w f Next s → (ls : List Loop) → f.loops ≡ ls → Lands p w f (turns f ls)
lands-next p w f s h [] e =
    none s.loops refl (closes_here p w f s h)
  where
    none : (xs : List TypedLoop) → s.loops ≡ xs → cause.closes_loop (routine p f.function).code f.pc s.loops ≡ true → Lands p w f f
    none [] d c = let never : cause.closes_loop (routine p f.function).code f.pc [] ≡ true = rw d at c in cc
    none (x ∷ xs) d c = let never : map (λ (y : Loop). y.at) [] ≡ map (λ (y : TypedLoop). y.at) (x ∷ xs) = rw (e, d) at h.fits.loops in cc
lands-next p w f s h (l ∷ ls) e = lands-turn p w f s l ls h e s.loops refl

-- ---- all local instructions

pub lands-local : (p : Program) (w : World) (f : Frame) (i : Instr) (s : TypeState) → Stands p w f i s → is_local i ≡ true → Lands p w f (local (code p f) i f)
lands-local p w f (Push k) s h is = lands-moved p w f _ (Push k) s 0 (k ∷ []) h (λ x. refl) refl (record { function = refl; loops = refl; entries = refl; slots = refl }) refl refl (λ e. omega arith)
lands-local p w f Pop s h is = lands-moved p w f _ Pop s 1 [] h (λ x. refl) refl (record { function = refl; loops = refl; entries = refl; slots = refl }) refl refl (λ e. omega arith)
lands-local p w f Dup s h is = lands-moved p w f _ Dup s 0 (operand f 0 ∷ []) h (λ x. refl) refl (record { function = refl; loops = refl; entries = refl; slots = refl }) refl refl (λ e. omega (arith, e))
lands-local p w f Swap s h is = lands-moved p w f _ Swap s 2 (operand f 1 ∷ operand f 0 ∷ []) h (λ x. refl) refl (record { function = refl; loops = refl; entries = refl; slots = refl }) refl refl (λ e. omega (arith, e))
lands-local p w f (Load x) s h is = lands-moved p w f _ (Load x) s 0 (_ ∷ []) h (λ y. refl) refl (record { function = refl; loops = refl; entries = refl; slots = refl }) refl refl (λ e. omega arith)
lands-local p w f (Store x) s h is = lands-moved p w f _ (Store x) s 1 [] h (λ y. refl) refl (record { function = refl; loops = refl; entries = refl; slots = refl }) refl refl (λ e. omega arith)
lands-local p w f Add s h is = lands-moved p w f _ Add s 2 (_ ∷ []) h (λ x. refl) refl (record { function = refl; loops = refl; entries = refl; slots = refl }) refl refl (λ e. omega (arith, e))
lands-local p w f Sub s h is = lands-moved p w f _ Sub s 2 (_ ∷ []) h (λ x. refl) refl (record { function = refl; loops = refl; entries = refl; slots = refl }) refl refl (λ e. omega (arith, e))
lands-local p w f Mul s h is = lands-moved p w f _ Mul s 2 (_ ∷ []) h (λ x. refl) refl (record { function = refl; loops = refl; entries = refl; slots = refl }) refl refl (λ e. omega (arith, e))
lands-local p w f Lt s h is = lands-moved p w f _ Lt s 2 (_ ∷ []) h (λ x. refl) refl (record { function = refl; loops = refl; entries = refl; slots = refl }) refl refl (λ e. omega (arith, e))
lands-local p w f Eq s h is = lands-moved p w f _ Eq s 2 (_ ∷ []) h (λ x. refl) refl (record { function = refl; loops = refl; entries = refl; slots = refl }) refl refl (λ e. omega (arith, e))
lands-local p w f (Div to) s h is = lands-div p w f to s h
lands-local p w f (Jmp to) s h is = lands-operands p w f _ (Jmp to) s s.height h (λ x. refl) (record { function = refl; loops = refl; entries = refl; slots = refl }) h.fits.height (inl (refl, refl))
lands-local p w f (Jz to) s h is = lands-jz p w f to s h
lands-local p w f (Times n) s h is = lands-times p w f n s h
lands-local p w f Next s h is = lands-next p w f s h f.loops refl
lands-local p w f i s h is = cc
