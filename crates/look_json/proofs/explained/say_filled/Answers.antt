use Rattle.std.proofs.Common.{refl}
use Rattle.look_json.proofs.explained.say_filled.Goals as goal

pub returns : goal.returns
returns c = c.push_made.ensures _ c.said-value.ensures refl
