use Rattle.std.proofs.Common.{subst}
use Rattle.laws_accepted.specs.Typed.{OnlyRoomIsWanted}
use Rattle.laws_accepted.proofs.TypedRuns.{accepted_as}
use Rattle.laws_accepted.proofs.TypedLaws as laws
use Rattle.laws_accepted.proofs.typed.only_room_is_wanted.Goals as goal

pub returns : goal.returns
returns c =
    subst OnlyRoomIsWanted c.program-program.ensures.value
    (laws.only_room_is_wanted c.program-program.result.now
    (accepted_as _ _ c.program-program.ensures.value c.functions.ensures.checked c.program-program.ensures.accepted c.typing_promises.ensures))
