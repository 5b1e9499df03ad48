use Rattle.std.proofs.Common.{rules, [], ◌∙◌}
use Rattle.std.proofs.lemmas.Result.{err_from_is_err_and}
use Rattle.sts_text.specs.Words.{lines}
use Rattle.sts_asm.proofs.TextLemmas.{outline_fails, outline_read, closed_open, closed_well}
use Rattle.sts_asm.proofs.text.read_text.Goals as goal

pub returns-in_err-line_at : goal.returns-in_err-line_at
returns-in_err-line_at c =
    let p = err_from_is_err_and c.from_residual.result c.from_residual.ensures.1 in
    let e = c.in_err-line_at.field-0.0 in
    let l = c.loop-line in
    rw (p.1, p.2) (outline_fails l.at l.outline e c.in-Some.line.now (lines c.in-Some.after.now) l.rest.now c.args.text.now l.invariant.read
    c.in-Some.ensures.lines c.in_err-line_at.ensures.steps)

pub returns-in_err-line_at-2 : goal.returns-in_err-line_at-2
returns-in_err-line_at-2 c =
    let p = err_from_is_err_and c.from_residual-in_err-line_at-2.result c.from_residual-in_err-line_at-2.ensures.1 in
    let e = c.in_err-line_at-2.field-0.0 in
    let l = c.loop-line in
    rw (p.1, p.2) (outline_fails l.at l.outline e l.rest.now [] l.rest.now c.args.text.now l.invariant.read (search rules) c.in_err-line_at-2.ensures.steps)

pub returns-then-is_open : goal.returns-then-is_open
returns-then-is_open c =
    let l = c.loop-line in
    outline_read l.at l.outline c.line_at-2.new.outline l.rest.now c.args.text.now l.invariant.read l.invariant.number (search rules)
    c.in_ok-line_at-2.ensures.steps
    ∙ closed_open l.at c.line_at-2.new.outline c.is_open.result c.is_open.ensures c.if-is_open.true

pub returns : goal.returns
returns c =
    let l = c.loop-line in
    outline_read l.at l.outline c.line_at-2.new.outline l.rest.now c.args.text.now l.invariant.read l.invariant.number (search rules)
    c.in_ok-line_at-2.ensures.steps
    ∙ closed_well l.at c.line_at-2.new.outline c.is_open.result c.is_open.ensures c.if-is_open.false
