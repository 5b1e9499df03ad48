use Rattle.std.proofs.Common.{rules, []}
use Rattle.std.proofs.lemmas.Result.{err_from_is_err_and}
use Rattle.sts_text.specs.Words.{lines}
use Rattle.sts_asm.proofs.TextLemmas.{outline_fails}
use Rattle.sts_asm.proofs.TakenLemmas.{fault_taken, line_few, read_first, read_next, read_last, read_open}
use Rattle.sts_asm.proofs.text.read_kept.Goals as goal

pub loop-line-init : goal.loop-line-init
loop-line-init c =
    record {
      read = read_first c.args.outline.now c.args.all.now.items c.args.text.now c.requires.new c.requires.none;
      number = search rules;
      count = search rules;
      size = search rules;
      few = search rules;
    }

pub keep_ended-requires : goal.keep_ended-requires
keep_ended-requires c =
    let l = c.loop-line in
    line_few l.at l.invariant.read.full l.outline c.line_at.new.outline l.all.items c.in-Some.line.now l.invariant.read.taken c.in_ok-line_at.ensures.steps

pub keep_ended-requires-2 : goal.keep_ended-requires-2
keep_ended-requires-2 c =
    let l = c.loop-line in
    line_few l.at l.invariant.read.full l.outline c.line_at-2.new.outline l.all.items l.rest.now l.invariant.read.taken c.in_ok-line_at-2.ensures.steps

pub loop-line-preserved : goal.loop-line-preserved
loop-line-preserved c =
    let l = c.loop-line in
    record {
      read = read_next l.at l.outline c.line_at.new.outline c.keep_ended.new.outline l.all.items c.keep_ended.new.all.items
          c.in-Some.line.now l.rest.now c.in-Some.after.now c.args.text.now l.invariant.read c.in-Some.ensures.lines
          c.in_ok-line_at.ensures.steps c.in_ok-keep_ended.ensures.taken;
      number = search rules;
      count = search rules;
      size = search rules;
      few = search rules;
    }

pub returns-in_err-line_at : goal.returns-in_err-line_at
returns-in_err-line_at c =
    let p = err_from_is_err_and c.from_residual.result c.from_residual.ensures.1 in
    let e = c.in_err-line_at.field-0.0 in
    let l = c.loop-line in
    let h = l.invariant.read in
    rw (p.1, p.2) (outline_fails l.at h.full e c.in-Some.line.now (lines c.in-Some.after.now) l.rest.now c.args.text.now h.read
    c.in-Some.ensures.lines (fault_taken l.at h.full l.outline l.all.items c.in-Some.line.now e h.taken c.in_err-line_at.ensures.steps))

pub returns-in_err-line_at-2 : goal.returns-in_err-line_at-2
returns-in_err-line_at-2 c =
    let p = err_from_is_err_and c.from_residual-in_err-line_at-2.result c.from_residual-in_err-line_at-2.ensures.1 in
    let e = c.in_err-line_at-2.field-0.0 in
    let l = c.loop-line in
    let h = l.invariant.read in
    rw (p.1, p.2) (outline_fails l.at h.full e l.rest.now [] l.rest.now c.args.text.now h.read (search rules)
    (fault_taken l.at h.full l.outline l.all.items l.rest.now e h.taken c.in_err-line_at-2.ensures.steps))

pub returns-then-is_open : goal.returns-then-is_open
returns-then-is_open c =
    let l = c.loop-line in
    read_open l.at l.outline c.line_at-2.new.outline c.keep_ended-2.new.outline l.all.items c.keep_ended-2.new.all.items l.rest.now
    c.args.text.now c.is_open.result l.invariant.read l.invariant.number (search rules) c.in_ok-line_at-2.ensures.steps
    c.in_ok-keep_ended-2.ensures.taken c.is_open.ensures c.if-is_open.true

pub returns : goal.returns
returns c =
    let l = c.loop-line in
    let r = read_last l.at l.outline c.line_at-2.new.outline c.keep_ended-2.new.outline l.all.items c.keep_ended-2.new.all.items l.rest.now
    c.args.text.now c.is_open.result l.invariant.read l.invariant.number (search rules) c.in_ok-line_at-2.ensures.steps
    c.in_ok-keep_ended-2.ensures.taken c.in_ok-keep_ended-2.ensures.all c.is_open.ensures c.if-is_open.false in
    rw r.whole (r.taken, r.count)
