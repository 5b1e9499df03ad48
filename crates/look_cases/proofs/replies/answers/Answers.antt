use Rattle.std.proofs.Common.{◌≡◌, ◌+◌, ◌∷◌, [], sym, subst, rules, arith}
use Rattle.std.proofs.lemmas.Grind.{common_steps}
use Rattle.look_cases.specs.Lines.{AreReplies}
use Rattle.sts_text.specs.Words.{lines}
use Rattle.look_cases.proofs.Answered.{IsAnswered, at_start, one_more, at_end}
use Rattle.look_cases.proofs.replies.answers.Goals as goal

pub loop-line-init : goal.loop-line-init
loop-line-init c = subst (λ xs. IsAnswered c.args.input.now c.args.input.now xs 1) (sym c.new-out.ensures.items) (at_start c.args.input.now)

pub loop-line-preserved : goal.loop-line-preserved
loop-line-preserved c =
    let r = c.in_ok-push_reply.ensures in
    subst (λ xs. IsAnswered c.args.input.now c.in-Some.after.now xs (c.loop-line.number + 1)) (sym r.2)
    (one_more c.args.input.now c.loop-line.rest.now c.in-Some.line.now c.in-Some.after.now c.loop-line.out.items r.0 c.loop-line.number
    c.loop-line.invariant c.in-Some.ensures.lines c.in-Some.ensures.shorter r.1)

pub returns : goal.returns
returns c =
    let rest = c.loop-line.rest.now in
    let last : lines rest ≡ rest ∷ [] = first_of (search rules, grind (arith, common_steps)) in
    let r = c.in_ok-push_reply-2.ensures in
    subst (λ xs. AreReplies (lines c.args.input.now) xs) (sym r.2)
    (at_end c.args.input.now rest c.loop-line.out.items r.0 c.loop-line.number c.loop-line.invariant last r.1)
