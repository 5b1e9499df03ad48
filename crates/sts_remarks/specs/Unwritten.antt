-- The line that says why standard output was not written (this project's own).
use Rattle.std.specs.Prelude.{ℕ, List, Option, Some, None, codes}
use Rattle.std.specs.declared.io.ErrorKind.{ErrorKind}
use Rattle.std.specs.declared.io.ErrorKind.TheVariants.{BrokenPipe}
use Rattle.sts_output.specs.Reasons as output

-- nothing is said if its reader has gone
abbrev pub unwritten_line : List ℕ → ErrorKind → Option (List ℕ)
unwritten_line program BrokenPipe = None
unwritten_line program kind =
    Some (output.unwritten_line program (codes "standard output") (output.kind_words kind))
