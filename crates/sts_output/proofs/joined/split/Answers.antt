use Rattle.std.proofs.Common.{◌≡◌, true, false, ◌++◌, take, ap, sym, append-nil, ◌∙◌}
use Rattle.sts_output.specs.Joined.{Halves, is_mark}
use Rattle.sts_output.proofs.Splits.{at_mark, splits_on}
use Rattle.sts_output.proofs.joined.split.Goals as goal

pub returns-then-eq : goal.returns-then-eq
returns-then-eq c =
    let line = c.in-Some.line.now in
    let is = c.eq.ensures ∙ ap (λ xs. lib.Pointwise.pointwise lib.Dec.eqb line xs) c.as_slice.ensures in
    let marked : is_mark line ≡ true = sym is ∙ c.if-eq.true in
    let here = at_mark c.loop-line.rest.now line c.in-Some.after.now c.in-Some.ensures.lines marked in
    record {
      text = sym (c.loop-line.invariant.text ∙ ap (λ (h : Halves). take c.loop-line.before c.args.input.now ++ h.text) here ∙ append-nil _);
      trace = sym (c.loop-line.invariant.trace ∙ ap (λ (h : Halves). h.trace) here);
    }

pub loop-line-preserved : goal.loop-line-preserved
loop-line-preserved c =
    let so_far = c.loop-line.invariant in
    let line = c.in-Some.line.now in
    let is = c.eq.ensures ∙ ap (λ xs. lib.Pointwise.pointwise lib.Dec.eqb line xs) c.as_slice.ensures in
    let unmarked : is_mark line ≡ false = sym is ∙ c.if-eq.false in
    let on = splits_on c.args.input.now c.loop-line.rest.now line c.in-Some.after.now c.loop-line.before
    c.in-Some.ensures.lines unmarked so_far.read so_far.text so_far.trace in
    record { read = on.0; text = on.1; trace = on.2 }
