use Rattle.look_ends_json.proofs.EndFloats.{sample_plain}
use Rattle.look_ends_json.proofs.Lines.{lines_then}
use Rattle.look_ends_json.specs.Outcome.{missing}
use Rattle.look_ends_json.proofs.ends.say_sample.Goals as goal

pub returns : goal.returns
returns c =
    let sampled = c.args.sampled in
    let sample = sampled.sample.now in
    let found = rw (c.as_slice-found.ensures.value, c.as_slice-times.ensures.value) at c.in_ok-say_sampled.ensures in
    let plain = sample_plain sampled.schedules sampled.seed sample.unfinished (missing sampled.number sample.found.items) in
    lines_then c.push_made.result _ _ _ _ _ found (c.push_made.ensures _ c.sample.ensures plain)
