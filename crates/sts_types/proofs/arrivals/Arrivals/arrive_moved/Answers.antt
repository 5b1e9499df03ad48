use Rattle.std.proofs.Common.{◌∙◌, sym, ap}
use Rattle.sts_types.specs.Arrivals.{at_height}
use Rattle.sts_types.proofs.Marking.{arrived}
use Rattle.sts_types.proofs.arrivals.Arrivals.arrive_moved.Goals as goal

pub returns-clause-table : goal.returns-clause-table
returns-clause-table c =
    let same = sym (ap (at_height c.args.height) c.self.invariant.2) ∙ ap (at_height c.args.height) (ap (λ a. a.state) c.self.view_is) in
    arrived c.self.inside.kept.items c.as_slice.result.now c.self.inside.marks.items c.args.self.now.table c.args.place c.index.result.now
    c.merged.result _ (at_height c.args.height c.args.self.now.state) c.as_slice.ensures.value (ap (λ a. a.table) c.self.view_is)
    c.requires.place c.index.ensures same c.merged.ensures.merged
