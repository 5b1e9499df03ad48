use Rattle.sts_output.proofs.StopLemmas.{written_or_memory}
use Rattle.look_page.proofs.printing.print.Goals as goal

pub returns-in-Verify : goal.returns-in-Verify
returns-in-Verify c =
    rw c.in-Verify.is
    (written_or_memory c.verified.result c.write_shown.result _ _ c.verified.ensures.output c.write_shown.ensures)

pub returns-in-List : goal.returns-in-List
returns-in-List c =
    rw c.in-List.is
    (written_or_memory c.listed.result c.write_shown-in-List.result _ _ c.listed.ensures.output c.write_shown-in-List.ensures)

pub returns-in-Plain : goal.returns-in-Plain
returns-in-Plain c =
    rw c.in-Plain.is
    (written_or_memory c.after_trace.result c.write_shown-in-Plain.result _ _ c.after_trace.ensures.output c.write_shown-in-Plain.ensures)
