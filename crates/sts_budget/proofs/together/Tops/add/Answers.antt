use Rattle.std.proofs.Common.{rules, ◌≡◌, ◌+◌, ◌<◌, ℕ, List, length, refl, arith}
use Rattle.sts_budget.specs.declared.change.Resource.{Resource}
use Rattle.sts_budget.specs.declared.change.Resource.TheVariants.{Steps, Tasks, Scopes, Binds}
use Rattle.sts_budget.specs.declared.pass.Pass.{Pass}
use Rattle.sts_budget.specs.Change.{depth_of}
use Rattle.sts_budget.specs.Ready.{names_in}
use Rattle.sts_budget.specs.Together.{IsPassOf, rows_of, top_of, width}
use Rattle.sts_budget.proofs.TogetherLemmas.{MayAdd, as_many, each, may_add, topped}
use Rattle.sts_budget.proofs.together.Tops.add.Goals.{After-len-depth, After-pass_of-binds}
use Rattle.sts_budget.proofs.together.Tops.add.Goals as goal

-- as many entries are open there
deep : (g : _) (c : After-len-depth g) → c.len-depth.result ≡ length (names_in c.args.source.now.layout.now c.args.pc)
deep g c = as_many _ _ _ c.len-depth.ensures.len c.entries.ensures

-- the place may be added to the greatest sums of a resource
may : (g : _) (c : After-pass_of-binds g) (k : Resource) (p : Pass) (best : List (List ℕ)) → IsPassOf c.args.source.now k p → best ≡ rows_of c.args.tables.now k → (depth : ℕ) → depth ≡ depth_of k (names_in c.args.source.now.layout.now c.args.pc) → MayAdd (width g.row.N k) c.args.pc depth c.head-head.result best (top_of c.args.self.now k) p.resource p.earlier.now p.code.now p.layout.now p.most
may g c k p best is same depth deep = may_add c.args.source.now k p is (rows_of c.args.tables.now k) best same g.row.N c.args.pc c.requires.ready c.requires.fits c.requires.in_code depth c.head-head.result (top_of c.args.self.now k) c.requires.small deep c.head-head.ensures (c.requires.whole k) (c.requires.so_far k)

pub add_place-requires : goal.add_place-requires
add_place-requires g c =
    let h = goal.at.add_place-requires g c in
    (omega (arith, c.requires.small), may g h.After-pass_of-binds Steps _ _ c.pass_of-steps.ensures c.deref.ensures.value _ refl)

pub add_place-requires-2 : goal.add_place-requires-2
add_place-requires-2 g c =
    let h = goal.at.add_place-requires-2 g c in
    (omega (arith, c.requires.small), may g h.After-pass_of-binds Tasks _ _ c.pass_of-tasks.ensures c.deref-2.ensures.value _ (deep g h.After-len-depth))

pub add_place-requires-3 : goal.add_place-requires-3
add_place-requires-3 g c =
    let h = goal.at.add_place-requires-3 g c in
    (omega (arith, c.requires.small), may g h.After-pass_of-binds Scopes _ _ c.pass_of-scopes.ensures c.deref-3.ensures.value _ (deep g h.After-len-depth))

pub add_place-requires-4 : goal.add_place-requires-4
add_place-requires-4 g c =
    let h = goal.at.add_place-requires-4 g c in
    (omega (arith, c.requires.small), may g h.After-pass_of-binds Binds _ _ c.pass_of-binds.ensures c.deref-4.ensures.value _ (deep g h.After-len-depth))

pub returns : goal.returns
returns g c = λ yes. each _
    (topped c.args.source.now Steps _ c.pass_of-steps.ensures _ _ c.deref.ensures.value (c.args.pc + 1) c.add_place.new.top
    (c.add_place.ensures.next c.if-not-add_place.false))
    (topped c.args.source.now Tasks _ c.pass_of-tasks.ensures _ _ c.deref-2.ensures.value (c.args.pc + 1) c.add_place-2.new.top
    (c.add_place-2.ensures.next c.if-not-add_place-2.false))
    (topped c.args.source.now Scopes _ c.pass_of-scopes.ensures _ _ c.deref-3.ensures.value (c.args.pc + 1) c.add_place-3.new.top
    (c.add_place-3.ensures.next c.if-not-add_place-3.false))
    (topped c.args.source.now Binds _ c.pass_of-binds.ensures _ _ c.deref-4.ensures.value (c.args.pc + 1) c.add_place-4.new.top
    (c.add_place-4.ensures.next yes))

pub head-head-requires : goal.head-head-requires
head-head-requires g c =
    let lt : c.args.pc < length c.args.source.now.layout.now.typing.now.loops.heads = omega (arith, c.requires.ready.heads_long, c.requires.in_code) in
    search (rules, lt)

pub entries-requires : goal.entries-requires
entries-requires g c = omega (arith, c.requires.ready.states_long, c.requires.in_code)
