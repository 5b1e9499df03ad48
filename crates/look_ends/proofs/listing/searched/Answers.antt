use Rattle.look_ends.proofs.listing.searched.Goals as goal

pub returns : goal.returns
returns g c =
    let trace = rw c.as_slice.ensures.value at c.trace_of-trace.ensures in
    let made = c.listing_of.ensures _ _ c.of_search-bytes.ensures trace in
    rw c.status_of.ensures at made
