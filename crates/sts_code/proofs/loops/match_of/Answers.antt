use Rattle.std.proofs.Common.{◌≡◌, ℕ, ◌+◌, ◌-◌, ◌<◌, ◌≤◌, ◌∙◌, List, Bool, true, false, None, cond, count_by, drop, find, length, slice_index_or, slice_range, take, ap, refl, sym, arith}
use mir.Val.{bool_byte}
use Rattle.std.specs.List.{range_with_len}
use Rattle.std.proofs.lemmas.Bool.{eq-eqb, ne_eqb}
use Rattle.sts_code.specs.declared.instr.Instr.{Instr}
use Rattle.sts_code.specs.Loops as def
use Rattle.sts_code.proofs.LoopLemmas.{as_count, counted_more, counts_on, find_next, find_here}
use Rattle.sts_code.proofs.loops.match_of.Goals as goal

-- past the end nothing is found
find_past : (test : ℕ → Bool) (q n : ℕ) → n ≤ q → find test (range_with_len q (n - q)) ≡ None
find_past test q n past =
    let none : n - q ≡ 0 = omega arith in ap (λ m. find test (range_with_len q m)) none

-- the first instruction is counted
counts_one : (test : Instr → Bool) (code : List Instr) (at : ℕ) (d : Instr) (next : ℕ) (b : Bool) → at < length code → next ≡ bool_byte b → b ≡ test (slice_index_or code at d) → next ≡ count_by test (slice_range code at (at + 1))
counts_one test code at d next b inside is same =
    let none : at - at ≡ 0 = omega arith in
    let empty : count_by test (slice_range code at at) ≡ 0 = ap (λ m. count_by test (take m (drop at code))) none in
    let one : next ≡ cond (test (slice_index_or code at d)) 1 0 = is ∙ as_count b ∙ ap (λ x. cond x 1 0) same in
    let more = counted_more test code at at d (omega arith) inside in
    omega (arith, one, empty, more)

-- the loop from `at` on ends at q
abbrev ends_at : List Instr → ℕ → ℕ → Bool
ends_at code at = λ q. def.is_balanced (slice_range code at (q + 1))

pub returns-then-at-code-clause-value : goal.returns-then-at-code-clause-value
returns-then-at-code-clause-value c =
    sym (find_past (ends_at c.args.code.now c.args.at) (c.args.at + 1) (length c.args.code.now) (omega (arith, c.if-at-code.true)))

pub loop-q-init : goal.loop-q-init
loop-q-init c =
    record {
      rest = refl;
      times = counts_one def.is_times c.args.code.now c.args.at _ _ _ c.if-at-code.false c.from-times.ensures c.is_times.ensures;
      nexts = counts_one def.is_next c.args.code.now c.args.at _ _ _ c.if-at-code.false c.from-nexts.ensures c.is_next.ensures;
      past = omega arith;
    }

pub returns-clause-value : goal.returns-clause-value
returns-clause-value c =
    sym (find_past (ends_at c.args.code.now c.args.at) c.loop-q.q (length c.args.code.now) c.loop-q-test.false) ∙ c.loop-q.invariant.rest

pub returns-then-times-nexts-clause-value : goal.returns-then-times-nexts-clause-value
returns-then-times-nexts-clause-value c =
    let times = counts_on def.is_times c.args.code.now c.args.at c.loop-q.q _ _ _ _ c.loop-q.invariant.past c.loop-q-test.true
    c.loop-q.invariant.times c.from-times-in-loop-q.ensures c.is_times-in-loop-q.ensures in
    let nexts = counts_on def.is_next c.args.code.now c.args.at c.loop-q.q _ _ _ _ c.loop-q.invariant.past c.loop-q-test.true
    c.loop-q.invariant.nexts c.from-nexts-in-loop-q.ensures c.is_next-in-loop-q.ensures in
    let here : ends_at c.args.code.now c.args.at c.loop-q.q ≡ true = eq-eqb _ _ (sym nexts ∙ sym c.if-times-nexts.true ∙ times) in
    sym (find_here (ends_at c.args.code.now c.args.at) c.loop-q.q (length c.args.code.now) c.loop-q-test.true here) ∙ c.loop-q.invariant.rest

pub loop-q-preserved : goal.loop-q-preserved
loop-q-preserved c =
    let times = counts_on def.is_times c.args.code.now c.args.at c.loop-q.q _ _ _ _ c.loop-q.invariant.past c.loop-q-test.true
    c.loop-q.invariant.times c.from-times-in-loop-q.ensures c.is_times-in-loop-q.ensures in
    let nexts = counts_on def.is_next c.args.code.now c.args.at c.loop-q.q _ _ _ _ c.loop-q.invariant.past c.loop-q-test.true
    c.loop-q.invariant.nexts c.from-nexts-in-loop-q.ensures c.is_next-in-loop-q.ensures in
    let not_here : ends_at c.args.code.now c.args.at c.loop-q.q ≡ false = ne_eqb _ _ (λ e. c.if-times-nexts.false (times ∙ sym e ∙ sym nexts)) in
    record {
      rest = sym (find_next (ends_at c.args.code.now c.args.at) c.loop-q.q (length c.args.code.now) c.loop-q-test.true not_here) ∙ c.loop-q.invariant.rest;
      times = times;
      nexts = nexts;
      past = omega arith;
    }
