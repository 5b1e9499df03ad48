use Rattle.std.proofs.Common.{rules, ◌≡◌, ◌<◌, length, Some, None, sym, ◌∙◌}
use Rattle.sts_text.proofs.DigitLemmas.{more_digits, too_many}
use Rattle.sts_text.proofs.numbers.value_of.Goals as goal

pub returns-in_err-value : goal.returns-in_err-value
returns-in_err-value c =
    let l = c.loop-digit in
    let small : l.digit-index < length c.args.word.now = search rules in
    let gives : c.with_digit.result ≡ None = search rules in
    c.from_residual.ensures ∙ sym (too_many c.args.word.now l.digit-index l.value l.invariant.is small (sym c.with_digit.ensures ∙ gives))

pub loop-digit-preserved : goal.loop-digit-preserved
loop-digit-preserved c =
    let l = c.loop-digit in
    let small : l.digit-index < length c.args.word.now = search rules in
    let gives : c.with_digit.result ≡ Some c.in_ok-value.value = search rules in
    let h = more_digits c.args.word.now l.digit-index l.value c.in_ok-value.value l.invariant.is small (sym c.with_digit.ensures ∙ gives) in
    record { is = h.0; fits = h.1 }
