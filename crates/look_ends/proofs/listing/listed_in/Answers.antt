use Rattle.std.proofs.Common.{subst}
use Rattle.sts_output.specs.Stops.{Says}
use Rattle.look_end_lines.specs.Form.{IsFaultIn}
use Rattle.look_ends.proofs.ListingLemmas.{fault_lists, program_lists}
use Rattle.look_ends.proofs.listing.listed_in.Goals as goal

pub returns-in-Ok : goal.returns-in-Ok
returns-in-Ok g c =
    program_lists (g.F.EndsForm.shows c.args.form.now) _ _ _ c.args.text.now c.args.wanted c.args.number c.in-Ok.program c.of_program.result
    c.in_ok-outline.ensures.program c.in_ok-names-in-Ok.ensures c.in-Ok.ensures c.of_program.ensures

pub returns-in-Err-Shown : goal.returns-in-Err-Shown
returns-in-Err-Shown g c =
    let form = g.F.EndsForm.shows c.args.form.now in
    let text = c.args.text.now in
    let fault = subst (λ e. Says (IsFaultIn form c.in_ok-outline.field-0.program text) e) c.in-Err-Shown.field-0-is c.in-Err-Shown.ensures in
    let only = rw c.in-Err-Shown.field-0-is at c.alone.ensures in
    fault_lists form _ _ text c.args.wanted c.args.number c.in-Err-Shown.output c.alone.result c.in_ok-outline.ensures.program only fault
