use Rattle.std.specs.Prelude.{Some, is_some}
use Rattle.sts_pool.proofs.workers.run_with_journal.Given as goal

abbrev pub ghosts-run_on : goal.ghosts-run_on
ghosts-run_on g a = record { program = a.book.program; is_written = is_some a.book.journal; outside = Some a.outside }
