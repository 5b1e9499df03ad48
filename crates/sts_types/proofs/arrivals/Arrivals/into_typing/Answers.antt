use Rattle.std.proofs.Common.{length, sym, ap, ◌∙◌}
use Rattle.std.proofs.lemmas.List.{length-map}
use Rattle.sts_types.specs.Arrivals.{arrival_of, state_in}
use Rattle.sts_types.proofs.Marking.{only_there}
use Rattle.sts_types.proofs.arrivals.Arrivals.into_typing.Goals as goal

pub returns-clause-long : goal.returns-clause-long
returns-clause-long c =
    length-map c.self.inside.marks.items (state_in c.self.inside.kept.items)
    ∙ sym (length-map c.self.inside.marks.items (arrival_of c.self.inside.kept.items))
    ∙ ap length (ap (λ a. a.table) c.self.view_is)

pub returns-clause-each : goal.returns-clause-each
returns-clause-each c = λ place s is. only_there c.self.inside.kept.items c.self.inside.marks.items c.args.self.table place s
    (ap (λ a. a.table) c.self.view_is) is
