use Rattle.look_ends_json.proofs.EndFloats.{sampled_end_plain}
use Rattle.look_ends_json.proofs.ends.say_sampled_end.Goals as goal

pub returns : goal.returns
returns c =
    c.push_made.ensures _ c.sampled_end-end.ensures
    (sampled_end_plain c.args.told.names.now c.args.told.program.now c.args.place c.args.found.now c.args.times)
