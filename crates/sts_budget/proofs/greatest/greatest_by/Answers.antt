use Rattle.std.proofs.Common.{rules, ◌≡◌, List, ◌<◌, ◌≤◌, ◌+◌, ◌-◌, length, sym, subst, arith, ap, ◌∙◌}
use Rattle.sts_rules.specs.Budget.{skeleton}
use Rattle.sts_budget.specs.Change.{own_of, limit_of, depth_of}
use Rattle.sts_budget.specs.Last.{IsTop, IsTopped}
use Rattle.sts_budget.specs.Ready.{flows_in}
use Rattle.sts_budget.specs.Table.{IsPartial}
use Rattle.sts_rules.specs.declared.typing.TypedEntry.{TypedEntry}
use Rattle.sts_budget.specs.TypedNames.{names}
use Rattle.sts_budget.proofs.LastTurns.{exceeds, bases_none, top_none, finished, own_within, limit_small}
use Rattle.sts_budget.proofs.TogetherLemmas.{adds}
use Rattle.sts_budget.proofs.greatest.greatest_by.Goals.{In-Some}
use Rattle.sts_budget.proofs.greatest.greatest_by.Goals as goal

-- the table has the greatest sums of all places
whole : (g : _) (c : In-Some g) → IsPartial (skeleton c.args.pass.now.earlier.now c.args.pass.now.code.now) (flows_in c.args.pass.now.resource c.args.pass.now.earlier.now c.args.pass.now.code.now c.args.pass.now.layout.now) (length c.args.pass.now.code.now) c.in-Some.best.items
whole g c = rw c.in-Some.is at (c.in_ok-best.ensures {u = tt})

pub returns-in-None : goal.returns-in-None
returns-in-None g c =
    let most_is : c.args.pass.now.most ≡ limit_of c.args.pass.now.resource - own_of c.args.pass.now.resource = c.requires.most in
    exceeds c.args.pass.now.resource c.args.pass.now.earlier.now c.args.pass.now.code.now c.args.pass.now.layout.now c.requires.ready _
    most_is (rw c.in-None.is at (c.in_ok-best.ensures {u = tt}))

pub table-requires : goal.table-requires
table-requires g c = (omega (arith, c.requires.small), (c.requires.ready, (c.requires.most, (c.requires.small, c.requires.fits))))

pub loop-pc-init : goal.loop-pc-init
loop-pc-init g c =
    let h = goal.at.loop-pc-init g c in
    let p = c.args.pass.now in
    let made = c.in_ok-top.ensures {u = tt} in (
      bases_none p.resource p.earlier.now p.code.now p.layout.now c.requires.ready c.in-Some.best.items (whole g h.In-Some) c.in_ok-top.top.bases.items
          made.0,
      subst (IsTop p.resource p.earlier.now p.code.now p.layout.now c.in-Some.best.items 0) (sym made.1)
          (top_none p.resource p.earlier.now p.code.now p.layout.now c.requires.ready c.in-Some.best.items (whole g h.In-Some)),
      omega (arith, made.1),
    )

pub add_place-requires : goal.add_place-requires
add_place-requires g c =
    let p = c.args.pass.now in
    let depth = c.depth_of-depth.ensures.value ∙ ap (λ (es : List TypedEntry). depth_of p.resource (names es)) c.entries.ensures in (
      omega (arith, c.requires.small),
      adds p.resource p.earlier.now p.code.now p.layout.now p.most g.row.N c.loop-pc.pc _ _ c.in-Some.best.items _
          c.as_slice.ensures.value c.loop-pc.top c.requires.ready c.requires.most c.requires.small c.requires.fits c.loop-pc-test.true depth
          c.head-head.ensures (whole g (goal.at.add_place-requires g c).In-Some) c.loop-pc.invariant,
    )

pub returns-then-not-add_place : goal.returns-then-not-add_place
returns-then-not-add_place g c =
    let most_is : c.args.pass.now.most ≡ limit_of c.args.pass.now.resource - own_of c.args.pass.now.resource = c.requires.most in
    exceeds c.args.pass.now.resource c.args.pass.now.earlier.now c.args.pass.now.code.now c.args.pass.now.layout.now c.requires.ready _
    most_is (c.add_place.ensures.over c.if-not-add_place.true)

pub loop-pc-preserved : goal.loop-pc-preserved
loop-pc-preserved g c = subst (λ rows. IsTopped c.args.pass.now rows (c.loop-pc.pc + 1) c.add_place.new.top) c.as_slice.ensures.value
    (c.add_place.ensures.next c.if-not-add_place.false)

pub returns : goal.returns
returns g c =
    let p = c.args.pass.now in
    let n : c.loop-pc.pc ≡ length p.code.now = omega arith in
    let top = subst (λ q. IsTop p.resource p.earlier.now p.code.now p.layout.now c.in-Some.best.items q c.loop-pc.top.greatest) n c.loop-pc.invariant.1 in
    let t = finished p.resource p.earlier.now p.code.now p.layout.now c.requires.ready c.in-Some.best.items (whole g (goal.at.returns g c).In-Some)
    c.loop-pc.top.greatest top in
    let le : c.own_of.result + c.loop-pc.top.greatest ≤ limit_of p.resource =
    omega (arith, c.own_of.ensures, c.loop-pc.invariant.2, c.requires.most, own_within p.resource) in
    (rw c.own_of.ensures t, le)

pub head-head-requires : goal.head-head-requires
head-head-requires g c =
    let lt : c.loop-pc.pc < length c.args.pass.now.layout.now.typing.now.loops.heads = omega (arith, c.requires.ready.heads_long, c.loop-pc-test.true) in
    search (rules, lt)

pub overflow_cast-result : goal.overflow_cast-result
overflow_cast-result g c = omega (arith, c.loop-pc.invariant.2, c.requires.most, limit_small c.args.pass.now.resource)

pub overflow_add-result : goal.overflow_add-result
overflow_add-result g c = omega (
  arith,
  c.loop-pc.invariant.2,
  c.requires.most,
  c.own_of.ensures,
  own_within c.args.pass.now.resource,
  limit_small c.args.pass.now.resource,
)
