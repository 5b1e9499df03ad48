use Rattle.look_ends_json.proofs.CallFloats.{call_end_plain}
use Rattle.look_ends_json.proofs.calls.say_call_end.Goals as goal

pub returns : goal.returns
returns c = c.push_made.ensures _ c.call_end.ensures (call_end_plain c.args.told.names.now c.args.told.program.now c.args.place c.args.one.now)
