use Rattle.std.proofs.lemmas.Option.{get_or_from_slice_get, slice_get_within}
use Rattle.std.proofs.Common.{◌≡◌, sym, true, get_or, ◌≤◌, length, arith}
use Rattle.ends_table.specs.Led.{DecidedLeads, decides}
use Rattle.ends_table.proofs.PlaceLemmas.{parts_more}
use Rattle.ends_table.proofs.MissingLemmas.{by_ok, on_ok}
use Rattle.ends_table.proofs.around.Around.by_each.Goals as goal

pub loop-i-preserved : goal.loop-i-preserved
loop-i-preserved c none =
    let x = c.at.result.now in
    let is : x ≡ get_or c.args.seen.now.parts c.loop-i.i x =
    sym (get_or_from_slice_get c.args.seen.now.parts c.loop-i.i x x c.at.ensures) in
    parts_more c.args.seen.now c.loop-i.i x (λ k part e. decides c.args.by c.args.seen.now part e ≡ true → DecidedLeads
    c.args.self.now.states.now c.args.self.now.own.now c.args.place c.args.seen.now c.args.failed k part e) is
    (c.loop-i.invariant (c.in_ok-note.ensures.before none))
    (by_ok c.by_ends_of-step.result (c.in_ok-note.ensures.step none) c.by_ends_of-step.ensures)

pub returns : goal.returns
returns c =
    let all : length c.args.seen.now.parts ≤ c.loop-i.i = omega arith in
    on_ok c.none.result c.none.ensures (λ none. λ i part e may.
    let less = slice_get_within c.args.seen.now.parts i part may.known in
    c.loop-i.invariant none i part e (omega (arith, less, all)) may)
