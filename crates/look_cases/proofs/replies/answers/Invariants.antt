use Rattle.std.proofs.Common.{length}
use Rattle.look_cases.proofs.Answered.{IsAnswered}
use Rattle.look_cases.proofs.replies.answers.Given as goal

abbrev pub invariant-loop-line : goal.invariant-loop-line
invariant-loop-line l = IsAnswered l.input l.rest l.out.items l.number

abbrev pub decreases-loop-line : goal.decreases-loop-line
decreases-loop-line l = length l.rest
