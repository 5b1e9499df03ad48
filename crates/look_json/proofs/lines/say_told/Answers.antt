use Rattle.look_json.proofs.Plain.{told_plain}
use Rattle.look_json.proofs.lines.say_told.Goals as goal

pub returns : goal.returns
returns c = c.push_made.ensures _ c.told-value.ensures (told_plain c.args.events.now c.args.line.now)
