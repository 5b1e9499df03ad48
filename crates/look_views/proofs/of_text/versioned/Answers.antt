use Rattle.std.proofs.Common.{refl}
use Rattle.look_views.proofs.of_text.versioned.Goals as goal

pub returns : goal.returns
returns c = c.with_member.ensures _ _ c.object_of-line.ensures refl
