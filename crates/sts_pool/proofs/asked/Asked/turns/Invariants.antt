use Rattle.std.specs.Prelude.{◌≡◌, true}
use Rattle.sts_pool.specs.Book.{is_free}
use Rattle.sts_pool.proofs.asked.Asked.turns.Given as goal

abbrev pub invariant-loop : goal.invariant-loop
invariant-loop g l = is_free l.self l.task ≡ true
