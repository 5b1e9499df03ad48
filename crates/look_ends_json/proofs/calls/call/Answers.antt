use Rattle.look_ends_json.proofs.calls.call.Goals as goal

pub returns : goal.returns
returns c =
    let arguments = rw c.as_slice.ensures.value at c.integers-arguments.ensures in
    let one = c.with_list-value.ensures _ _ c.call_head-value.ensures arguments in
    c.with_member.ensures _ _ one c.ended.ensures
