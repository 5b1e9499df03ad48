use Rattle.look_ends_json.proofs.EndFloats.{found_end_plain}
use Rattle.look_ends_json.proofs.ends.say_found_end.Goals as goal

pub returns : goal.returns
returns c = c.push_made.ensures _ c.found_end.ensures (found_end_plain c.args.told.names.now c.args.told.program.now c.args.place c.args.found.now)
