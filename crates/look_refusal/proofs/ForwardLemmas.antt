-- The edges of an instruction lead to later places, and a turn goes back to no later one.
use Rattle.std.proofs.Common.{◌≡◌, ℕ, ◌+◌, ◌-◌, ◌<◌, ◌≤◌, inl, inr, IfSome, List, [], ◌∷◌, ◌++◌, map, reverse, length, get_or, Bool, true, false, ◌||◌, Option, Some, None, Ok, Err, option_map, option_to_list, slice_get, leb, leb-false, refl, sym, ap, ◌∙◌, subst, arith}
use Rattle.std.specs.List.{All, list_any, range_with_len}
use Rattle.std.proofs.lemmas.List.{get_or-reverse, length-reverse}
use Rattle.std.proofs.lemmas.List.FromFn.{get_or-range_with_len, length-range_with_len}
use Rattle.std.proofs.lemmas.List.Elements.{All-filter, All-head}
use Rattle.sts_code.proofs.CheckedLemmas.{no_test}
use Rattle.sts_code.specs.Program.{Program, routine, instr_at}
use Rattle.laws_words.proofs.ListLemmas.{found_passes}
use Rattle.sts_code.specs.declared.instr.Instr.{Instr}
use Rattle.sts_code.specs.declared.instr.Instr.TheVariants.{Div, Jmp, Jz, Times, Next, Join, Case, Ret, Fail}
use Rattle.sts_code.specs.Facts.{targets}
use Rattle.sts_code.specs.Loops.{match_of}
use Rattle.sts_types.proofs.MatchingLemmas.{ends}
use Rattle.sts_rules.specs.declared.typing.Cause.{Cause}
use Rattle.sts_rules.specs.declared.typing.Cause.TheVariants as cause
use Rattle.sts_rules.specs.declared.typing.TypedLoop.{TypedLoop}
use Rattle.sts_rules.specs.Around.{around, is_inside}
use Rattle.sts_budget.specs.declared.change.Resource.{Resource}
use Rattle.sts_budget.specs.declared.change.Resource.TheVariants.{Steps}
use Rattle.sts_budget.specs.Change.{cause_of}
use Rattle.sts_rules.specs.Causes.{causes, holds, least_cause, jumps_back}
use Rattle.sts_rules.specs.Edges.{edges, follows, to_optional, moved, or_cause, back_of, typing}
use Rattle.sts_rules.specs.Flow.{Reaches, Leads}
use Rattle.sts_rules.specs.TypeState.{TypeState, heads}
use Rattle.sts_types.proofs.PromisingLemmas.{loops_around}
use Rattle.sts_types.proofs.CauseLemmas.{or_cause_ok}

-- ---- places

-- each place is a later one
abbrev ArePast : ℕ → List ℕ → Type 0
ArePast pc [] = Unit {0}
ArePast pc (to ∷ rest) = (pc < to) × ArePast pc rest

are_past : (pc : ℕ) (places : List ℕ) → list_any (λ to. leb to pc) places ≡ false → ArePast pc places
are_past pc [] e = tt
are_past pc (to ∷ rest) e = by (leb to pc) refl e (λ h. are_past pc rest h)
  where
    by : (b : Bool) → leb to pc ≡ b → b || list_any (λ to. leb to pc) rest ≡ false → (list_any (λ to. leb to pc) rest ≡ false → ArePast pc rest) → (pc < to) × ArePast pc rest
    by true is e more = absurd (cc)
    by false is e more = (leb-false to pc is, more e)

-- ---- edges

-- each edge leads to a later place
abbrev AreLater : ℕ → List (ℕ × TypeState) → Type 0
AreLater pc [] = Unit {0}
AreLater pc (e ∷ es) = (pc < e.0) × AreLater pc es

later : (pc : ℕ) (es : List (ℕ × TypeState)) (to : ℕ) (x : TypeState) → AreLater pc es → Leads es to x → pc < to
later pc [] to x h l = absurd l
later pc (e ∷ es) to x h (inl l) = subst (λ (k : ℕ). pc < k) l.0 h.0
later pc (e ∷ es) to x h (inr l) = later pc es to x h.1 l

skip_later : (code : List Instr) (pc : ℕ) (s : TypeState) (o : Option ℕ) → match_of code pc ≡ o → AreLater pc (map (λ to. (to, s)) (option_to_list (option_map (λ q. q + 1) o)))
skip_later code pc s None e = tt
skip_later code pc s (Some q) e = let after = (ends code pc q e).after in (omega arith, tt)

join_later : (pc : ℕ) (failed timeout : Option ℕ) (interrupted : ℕ) (a b c : TypeState) → ArePast pc (option_to_list failed ++ (option_to_list timeout ++ interrupted ∷ [])) → AreLater pc (to_optional failed a ++ to_optional timeout b ++ (interrupted, c) ∷ [])
join_later pc None None i a b c h = h
join_later pc None (Some t) i a b c h = h
join_later pc (Some f) None i a b c h = h
join_later pc (Some f) (Some t) i a b c h = h

follow_later : (p : Program) (code : List Instr) (pc : ℕ) (i : Instr) (s : TypeState) → ArePast pc (targets i) → AreLater pc (follows p code pc i s)
follow_later p code pc (Div t) s h = (omega arith, h)
follow_later p code pc (Jmp t) s h = h
follow_later p code pc (Jz t) s h = (omega arith, h)
follow_later p code pc (Times n) s h = (omega arith, skip_later code pc (moved p (Times n) s) (match_of code pc) refl)
follow_later p code pc (Join x failed timeout i) s h = (omega arith, join_later pc failed timeout i _ _ _ h)
follow_later p code pc (Case x a b) s h = (omega arith, h)
follow_later p code pc Ret s h = tt
follow_later p code pc Fail s h = tt
follow_later p code pc _ s h = (omega arith, tt)

-- ---- causes

no_back_jump : (p : Program) (f pc : ℕ) (i : Instr) (s : TypeState) → least_cause p f pc i s ≡ None → jumps_back pc i ≡ false
no_back_jump p f pc i s e =
    let t = holds p f pc i s in
    let a = no_test (t cause.StackUnder) cause.StackUnder _ e in
    let b = no_test (t cause.StackOver) cause.StackOver _ a.1 in
    let c = no_test (t cause.FallsOff) cause.FallsOff _ b.1 in
    (no_test (t cause.BackJump) cause.BackJump _ c.1).0

-- if no cause holds at an instruction, its edges lead to later places
pub forward : (p : Program) (f pc : ℕ) (s : TypeState) (out : List (ℕ × TypeState)) (to : ℕ) (x : TypeState) → edges p f pc s ≡ Ok out → Leads out to x → pc < to
forward p f pc s out to x e l =
    let i : Instr = instr_at (routine p f).code pc in
    let o = or_cause_ok (least_cause p f pc i s) (follows p (routine p f).code pc i s) out e in
    let past : ArePast pc (targets i) = are_past pc (targets i) (no_back_jump p f pc i s o.0) in
    later pc out to x (subst (λ es. AreLater pc es) o.1 (follow_later p (routine p f).code pc i s past)) l

differs : (o : Option Cause) (es : List (ℕ × TypeState)) (c : Cause) → or_cause o es ≡ Err c → o ≡ Some c
differs None es c e = absurd (cc)
differs (Some d) es c e = let same : d ≡ c = cc in ap (λ (y : Cause). Some y) same

-- unequal ways are no cause of an instruction by itself
pub never_differs : (p : Program) (f pc : ℕ) (s : TypeState) → edges p f pc s ≡ Err cause.StatesDiffer → ⊥
never_differs p f pc s e =
    let i : Instr = instr_at (routine p f).code pc in
    let o = differs (least_cause p f pc i s) (follows p (routine p f).code pc i s) cause.StatesDiffer e in
    let holds_here : holds p f pc i s cause.StatesDiffer ≡ true = found_passes (holds p f pc i s) causes cause.StatesDiffer o in
    absurd (cc)

-- nor is that a budget is passed
pub never_budget : (p : Program) (f pc : ℕ) (s : TypeState) (k : Resource) → edges p f pc s ≡ Err (cause_of k) → ⊥
never_budget p f pc s k e =
    let i : Instr = instr_at (routine p f).code pc in
    let o = differs (least_cause p f pc i s) (follows p (routine p f).code pc i s) (cause_of k) e in
    never k i (found_passes (holds p f pc i s) causes (cause_of k) o)
  where
    never : (k : Resource) (i : Instr) → holds p f pc i s (cause_of k) ≡ true → ⊥
    never Steps i h = absurd (cc)
    never _ i h = absurd (cc)

-- ---- turns

before_in_range : (pc : ℕ) → All (λ q. q < pc) (reverse (range_with_len 0 pc))
before_in_range pc k d lt =
    let xs : List ℕ = range_with_len 0 pc in
    let long : length xs ≡ pc = length-range_with_len 0 pc in
    let short : k < length xs = omega (arith, length-reverse xs) in
    let there : length xs - 1 - k < pc = omega arith in
    let is : get_or (reverse xs) k d ≡ 0 + (length xs - 1 - k) = get_or-reverse xs k d short ∙ get_or-range_with_len 0 pc (length xs - 1 - k) d there in
    omega (arith, is)

-- a loop around a place begins before it
around_before : (code : List Instr) (pc q : ℕ) (rest : List ℕ) → around code pc ≡ q ∷ rest → q < pc
around_before code pc q rest e = All-head (λ x. x < pc) q rest (subst (λ xs. All (λ x. x < pc) xs) e (All-filter (is_inside code pc) (λ x. x < pc) (reverse (range_with_len 0 pc)) (before_in_range pc)))

-- a turn goes back to no later place
pub turns_back : (p : Program) (f pc : ℕ) (i : Instr) (s : TypeState) (q : ℕ) → Reaches (typing p f) pc s → back_of i s ≡ Some q → q ≤ pc
turns_back p f pc Next s q r e = by s.loops e (loops_around p f pc s r)
  where
    by : (ls : List TypedLoop) → option_map (λ (l : TypedLoop). l.at + 1) (slice_get ls 0) ≡ Some q → heads ls ≡ around (routine p f).code pc → q ≤ pc
    by [] e h = cc
    by (l ∷ ls) e h =
        let same : l.at + 1 ≡ q = cc in
        let lt = around_before (routine p f).code pc l.at (heads ls) (sym h) in
        omega arith
turns_back p f pc _ s q r e = cc

pub turn_fits : (p : Program) (f pc : ℕ) (i : Instr) (s : TypeState) → Reaches (typing p f) pc s → pc ≤ 4096 → IfSome (back_of i s) (λ q. q < 4294967296)
turn_fits p f pc i s r short = by (back_of i s) refl
  where
    by : (o : Option ℕ) → back_of i s ≡ o → IfSome o (λ q. q < 4294967296)
    by None e = tt
    by (Some q) e = let le = turns_back p f pc i s q r e in omega arith
