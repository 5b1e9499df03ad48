use Rattle.std.proofs.Common.{◌∙◌}
use Rattle.sts_types.proofs.ComparingLemmas.{are_same_loops, are_same_entries}
use Rattle.look_refusal.proofs.parts.is_same_part.Goals as goal

pub returns-in-Loops : goal.returns-in-Loops
returns-in-Loops c =
    rw c.in-Loops.is
    (are_same_loops c.as_slice.result.now c.as_slice-in-Loops.result.now c.args.one.now.loops c.args.other.now.loops c.eq.result
    (c.as_slice.ensures ∙ c.loops.ensures) (c.as_slice-in-Loops.ensures ∙ c.loops-in-Loops.ensures) c.eq.ensures)

pub returns-in-Open : goal.returns-in-Open
returns-in-Open c =
    rw c.in-Open.is
    (are_same_entries c.as_slice-in-Open.result.now c.as_slice-in-Open-2.result.now c.args.one.now.entries c.args.other.now.entries c.eq-in-Open.result
    (c.as_slice-in-Open.ensures ∙ c.entries.ensures) (c.as_slice-in-Open-2.ensures ∙ c.entries-in-Open.ensures) c.eq-in-Open.ensures)
