use Rattle.look_ends_json.proofs.CallFloats.{calls_plain}
use Rattle.look_ends_json.proofs.Lines.{lines_then}
use Rattle.look_ends_json.specs.Outcome.{missing}
use Rattle.look_ends_json.proofs.calls.say_calls.Goals as goal

pub returns : goal.returns
returns c =
    let called = c.args.called in
    let found = called.calls.now in
    let ends = rw c.as_slice.ensures.value at c.in_ok-say_call_ends.ensures in
    let plain = calls_plain called.is_refused found.states found.is_cut_off (missing called.number found.found.items) in
    lines_then c.push_made.result _ _ _ _ _ ends (c.push_made.ensures _ c.calls.ensures plain)
