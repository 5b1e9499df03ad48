use Rattle.std.proofs.Common.{append_assoc, refl}
use Rattle.std.proofs.lemmas.Result.{on_ok_weaker}
use Rattle.sts_output.proofs.printed.budget_lines.Goals as goal

pub returns : goal.returns
returns c =
    on_ok_weaker c.budget_line-4.result
    (λ last. rw last (rw c.in_ok-budget_line-3.ensures (rw c.in_ok-budget_line-2.ensures (rw c.in_ok-budget_line.ensures (simp append_assoc refl)))))
    c.budget_line-4.ensures
