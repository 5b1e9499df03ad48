use Rattle.std.proofs.Common.{ap, ◌∙◌, append_assoc}
use Rattle.sts_output.proofs.file_error.unwritten_line.Goals as goal

pub returns : goal.returns
returns c =
    simp append_assoc (ap (λ v. v.items) c.into_bytes.ensures.value ∙ c.in_ok-concat.ensures.ok)
