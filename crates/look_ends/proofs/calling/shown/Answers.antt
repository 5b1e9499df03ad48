use Rattle.look_ends.proofs.calling.shown.Goals as goal

pub returns : goal.returns
returns g c =
    let trace = rw c.as_slice.ensures.value at c.trace_of_call-trace.ensures in
    c.listing_of.ensures _ _ c.of_calls-bytes.ensures trace
