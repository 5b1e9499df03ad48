use Rattle.look_ends_json.proofs.EndFloats.{search_plain}
use Rattle.look_ends_json.proofs.Lines.{lines_then}
use Rattle.look_ends_json.specs.Outcome.{missing}
use Rattle.look_ends_json.proofs.ends.say_search.Goals as goal

pub returns : goal.returns
returns c =
    let searched = c.args.searched in
    let ends = searched.ends.now in
    let found = rw c.as_slice-found.ensures.value at c.in_ok-say_found.ensures in
    let plain = search_plain searched.is_refused ends.states ends.whole ends.by_calls (missing searched.number ends.found.items) in
    lines_then c.push_made.result _ _ _ _ _ found (c.push_made.ensures _ c.search.ensures plain)
