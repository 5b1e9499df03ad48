use Rattle.std.proofs.Common.{◌≡◌, ◌<◌, true, false, ap, sym, ◌∙◌, arith}
use Rattle.sts_asm.specs.Source.{name_at}
use Rattle.look_text.specs.Labels.{is_named}
use Rattle.look_text.proofs.FailLemmas.{earlier_more}
use Rattle.look_text.proofs.failing.is_earlier.Goals as goal

pub returns-then-is_named : goal.returns-then-is_named
returns-then-is_named c =
    let small : c.loop-earlier.earlier < c.args.function = omega arith in
    let named : is_named (name_at c.args.outline.now c.loop-earlier.earlier) c.args.word.now ≡ true =
    ap (λ x. is_named x c.args.word.now) (sym c.name.ensures) ∙ sym c.is_named.ensures ∙ c.if-is_named.true in
    sym (c.loop-earlier.invariant ∙ earlier_more c.args.outline.now c.args.function c.loop-earlier.earlier c.args.word.now true small named)

pub loop-earlier-preserved : goal.loop-earlier-preserved
loop-earlier-preserved c =
    let small : c.loop-earlier.earlier < c.args.function = omega arith in
    let named : is_named (name_at c.args.outline.now c.loop-earlier.earlier) c.args.word.now ≡ false =
    ap (λ x. is_named x c.args.word.now) (sym c.name.ensures) ∙ sym c.is_named.ensures ∙ c.if-is_named.false in
    c.loop-earlier.invariant ∙ earlier_more c.args.outline.now c.args.function c.loop-earlier.earlier c.args.word.now false small named
