use Rattle.std.proofs.Common.{◌≡◌, ℕ, List, arith}
use Rattle.sts_budget.specs.declared.change.Resource.{Resource}
use Rattle.sts_budget.specs.declared.change.Resource.TheVariants.{Steps, Tasks, Scopes, Binds}
use Rattle.sts_budget.specs.declared.pass.Pass.{Pass}
use Rattle.sts_budget.specs.Together.{IsPassOf, rows_of, width}
use Rattle.sts_budget.proofs.TogetherLemmas.{HasRows, each, hands, has_rows}
use Rattle.sts_budget.proofs.together.Tables.handed.Goals.{After-pass_of-binds}
use Rattle.sts_budget.proofs.together.Tables.handed.Goals as goal

-- the table of a resource is one that its pass may read
readable : (g : _) (c : After-pass_of-binds g) (k : Resource) (p : Pass) (best : List (List ℕ)) → IsPassOf c.args.source.now k p → best ≡ rows_of c.args.self.now k → HasRows (width g.row.N k) c.args.pc best p.resource p.earlier.now p.code.now p.layout.now p.most
readable g c k p best is same = has_rows c.args.source.now k p is (rows_of c.args.self.now k) best same g.row.N c.args.pc c.requires.ready c.requires.fits c.requires.in_code (c.requires.rows k)

pub values_of-requires : goal.values_of-requires
values_of-requires g c =
    let h = (goal.at.values_of-requires g c).After-pass_of-binds in
    (omega (arith, c.requires.small), (omega (arith, c.requires.small), readable g h Steps _ _ c.pass_of-steps.ensures c.as_slice.ensures.value))

pub values_of-requires-2 : goal.values_of-requires-2
values_of-requires-2 g c =
    let h = (goal.at.values_of-requires-2 g c).After-pass_of-binds in
    (omega (arith, c.requires.small), (omega (arith, c.requires.small), readable g h Tasks _ _ c.pass_of-tasks.ensures c.as_slice-2.ensures.value))

pub values_of-requires-3 : goal.values_of-requires-3
values_of-requires-3 g c =
    let h = (goal.at.values_of-requires-3 g c).After-pass_of-binds in
    (omega (arith, c.requires.small), (omega (arith, c.requires.small), readable g h Scopes _ _ c.pass_of-scopes.ensures c.as_slice-3.ensures.value))

pub values_of-requires-4 : goal.values_of-requires-4
values_of-requires-4 g c =
    let h = (goal.at.values_of-requires-4 g c).After-pass_of-binds in
    (omega (arith, c.requires.small), (omega (arith, c.requires.small), readable g h Binds _ _ c.pass_of-binds.ensures c.as_slice-4.ensures.value))

pub returns : goal.returns
returns g c = each _
    (hands c.args.source.now Steps _ c.pass_of-steps.ensures _ _ c.as_slice.ensures.value 1 c.args.pc _ c.values_of.ensures)
    (hands c.args.source.now Tasks _ c.pass_of-tasks.ensures _ _ c.as_slice-2.ensures.value g.row.N c.args.pc _ c.values_of-2.ensures)
    (hands c.args.source.now Scopes _ c.pass_of-scopes.ensures _ _ c.as_slice-3.ensures.value g.row.N c.args.pc _ c.values_of-3.ensures)
    (hands c.args.source.now Binds _ c.pass_of-binds.ensures _ _ c.as_slice-4.ensures.value g.row.N c.args.pc _ c.values_of-4.ensures)
