use Rattle.std.proofs.Common.{sym, ◌∙◌, ap}
use Rattle.std.specs.Prelude.{option_map}
use Rattle.sts_tree.specs.Forest.{scope_of}
use Rattle.sts_tree.proofs.HoldingLemmas.{map_at}
use Rattle.sts_tree.proofs.Rows.{scope_at}
use Rattle.sts_tree.proofs.forest.Forest.scope.Goals as goal

pub returns-in-None : goal.returns-in-None
returns-in-None g c = rw (← c.self.view_is) (sym (map_at scope_of c.self.inside.scopes.slots c.args.s ∙ ap (option_map scope_of) (sym c.in-None.ensures)))

pub returns-in-Some : goal.returns-in-Some
returns-in-Some g c = rw (← c.self.view_is) (sym (scope_at c.self.inside.scopes.slots c.args.s c.in-Some.r.now (sym c.in-Some.ensures)))
