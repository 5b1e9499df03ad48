use Rattle.std.proofs.Common.{ap, subst, ◌∙◌}
use Rattle.sts_asm.specs.Text.{judged}
use Rattle.sts_output.specs.Kept.{kept_fault}
use Rattle.sts_output.specs.Reasons.{Adds}
use Rattle.sts_output.proofs.ReasonLemmas.{faulty_reason, own_fault}
use Rattle.sts_cli.proofs.program.run_texts.Goals as goal

pub returns-clause-output : goal.returns-clause-output
returns-clause-output g c = c.in_ok-status.ensures.output

pub returns-clause-note : goal.returns-clause-note
returns-clause-note g c = λ three.
    let leaves = c.in_ok-status.ensures.fault three in
    let own = own_fault (judged c.args.texts.now.program.items) _ _ leaves.0 (ap kept_fault c.new-aside.ensures.0) in
    let line = c.remark.ensures (leaves.1 ∙ c.new-aside.ensures.1) in
    rw (← c.in_ok-status.ensures.notes three) (subst (Adds _ _) (faulty_reason _ c.in_ok-status.status _ _ _ _ _ three own) line)
