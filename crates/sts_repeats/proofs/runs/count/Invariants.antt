use Rattle.std.proofs.Common.{◌≡◌, ◌≤◌, length, take, Bool}
use Rattle.std.specs.Prelude.{count_by}
use Rattle.std.specs.Fn.{FnReturnsAt}
use Rattle.sts_repeats.specs.Spread.{spread}
use Rattle.sts_repeats.proofs.runs.count.Given as goal

abbrev pub invariant-loop-run : goal.invariant-loop-run
invariant-loop-run g l =
    (l.count ≤ length (spread (take l.run-index l.runs)))
    × ((p : _ → Bool) → ((x : _) (b : Bool) → FnReturnsAt g.F.Fn l.test x b → b ≡ p x) → l.count ≡ count_by p (spread (take l.run-index l.runs)))
