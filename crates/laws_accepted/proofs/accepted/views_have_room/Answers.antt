use Rattle.laws_accepted.proofs.Views as laws
use Rattle.laws_accepted.proofs.accepted.views_have_room.Goals as goal

pub returns : goal.returns
returns c =
    laws.views_have_room c.args.verified.now c.standing_is_seen.ensures c.bindings_are_seen.ensures c.room_is_left.ensures
