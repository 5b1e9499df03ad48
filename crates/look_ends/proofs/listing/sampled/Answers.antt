use Rattle.look_ends.proofs.listing.sampled.Goals as goal

pub returns : goal.returns
returns g c =
    let trace = rw c.as_slice.ensures.value at c.trace_of-trace.ensures in
    c.listing_of.ensures _ _ c.of_sample-bytes.ensures trace
