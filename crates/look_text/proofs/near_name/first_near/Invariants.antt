use Rattle.std.proofs.Common.{◌≡◌, length}
use Rattle.std.specs.Prelude.{find}
use Rattle.sts_text.specs.Words.{lines}
use Rattle.sts_asm.specs.Source.{names_at}
use Rattle.look_text.specs.Near.{is_near}
use Rattle.look_text.specs.NearName.{names_given}
use Rattle.look_text.proofs.near_name.first_near.Given as goal

-- no name so far is near
abbrev pub invariant-loop-after : goal.invariant-loop-after
invariant-loop-after l =
    find (is_near l.nearness l.word) (names_given (names_at l.place.outline.now l.place.function) l.place.wanted (lines l.rest))
    ≡ find (is_near l.nearness l.word) (names_given (names_at l.place.outline.now l.place.function) l.place.wanted (lines l.text))

abbrev pub decreases-loop-after : goal.decreases-loop-after
decreases-loop-after l = length l.rest
