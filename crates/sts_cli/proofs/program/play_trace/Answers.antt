use Rattle.std.proofs.Common.{refl}
use Rattle.sts_asm.specs.Text.{judged}
use Rattle.sts_output.specs.declared.assembled.Assembled.TheVariants.{Nothing}
use Rattle.sts_output.proofs.ReasonLemmas.{own_line}
use Rattle.sts_cli.proofs.program.play_trace.Goals as goal

pub returns-clause-output : goal.returns-clause-output
returns-clause-output g c = c.in_ok-status.ensures.output

pub returns-clause-note : goal.returns-clause-note
returns-clause-note g c =
    let name = c.args.text.name.now in
    let text = c.args.text.text.now in
    let program = c.args.remarks.now.notes.program.now in
    rw c.idle.ensures.notes
    (own_line program c.in_ok-status.status name text (judged text) Nothing c.play_and_keep.new.assembled c.fault.result _ _ _ c.in_ok-status.ensures.fault refl
    c.fault.ensures c.status.ensures.line)
