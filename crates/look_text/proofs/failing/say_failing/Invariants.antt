use Rattle.std.proofs.Common.{◌≡◌, List, ℕ, ◌++◌, length}
use Rattle.std.specs.Prelude.{codes}
use Rattle.look_text.specs.declared.wanted.Expected.TheVariants.{First}
use Rattle.look_text.specs.Failing.{first_failing, passes}
use Rattle.look_text.proofs.FailLemmas.{said_if}
use Rattle.look_text.proofs.failing.say_failing.Given as goal

-- the words so far were said, and pass
abbrev pub invariant-loop-word : goal.invariant-loop-word
invariant-loop-word l =
    (told : List ℕ) × (l.out.items ≡ l.fn.out.items ++ told)
    × (said_if told (first_failing (passes l.fn.text l.fn.outline l.fn.error.function l.fn.error.cause) l.wanted l.left)
    ≡ said_if (codes "at") (first_failing (passes l.fn.text l.fn.outline l.fn.error.function l.fn.error.cause) First l.fn.words))

abbrev pub decreases-loop-word : goal.decreases-loop-word
decreases-loop-word l = length l.left
