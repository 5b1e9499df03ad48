use Rattle.std.proofs.Common.{◌+◌, ◌∙◌, arith, sym, subst, Vec, Option, ℕ, Global}
use Rattle.sts_types.proofs.LoopMarking.{AreHeads, ends_read, ends_long, end_within, heads_begin, heads_marked, heads_kept, tables_made}
use Rattle.sts_types.proofs.loops.Tables.new.Goals as goal
use Rattle.sts_types.proofs.loops.Tables.new.Goals.{in-Some, in_default}

pub index-requires : goal.index-requires
index-requires c = omega (arith, ends_long c.args.code.now c.in_ok-ends.ends.items c.in_ok-ends.ensures, c.loop-at-test.true)

pub mark-requires-clause-inside : goal.mark-requires-clause-inside
mark-requires-clause-inside c =
    let e = ends_read c.args.code.now c.in_ok-ends.ends.items c.loop-at.at _ c.in_ok-ends.ensures c.loop-at-test.true c.index.ensures in
    omega (arith, (end_within c.args.code.now c.loop-at.at c.in-Some.end (sym e ∙ c.in-Some.is)).1, c.loop-at.invariant.long)

pub mark-requires-clause-after : goal.mark-requires-clause-after
mark-requires-clause-after c =
    let e = ends_read c.args.code.now c.in_ok-ends.ends.items c.loop-at.at _ c.in_ok-ends.ensures c.loop-at-test.true c.index.ensures in
    omega (arith, (end_within c.args.code.now c.loop-at.at c.in-Some.end (sym e ∙ c.in-Some.is)).0)

pub loop-at-init : goal.loop-at-init
loop-at-init c = heads_begin c.args.code.now c.in_ok-heads.heads.items c.in_ok-heads.ensures

pub loop-at-preserved : goal.loop-at-preserved
loop-at-preserved c =
    let code = c.args.code.now in
    let e = ends_read code c.in_ok-ends.ends.items c.loop-at.at _ c.in_ok-ends.ensures c.loop-at-test.true c.index.ensures in
    elim c.match-index.branch [
      | in-Some w ↦ subst (λ (v : Vec (Option ℕ) Global). AreHeads code v.items (c.loop-at.at + 1)) (sym w.heads-is) (heads_marked code
          c.loop-at.heads.items w.mark.new.heads.items c.loop-at.at w.in-Some.end c.loop-at.invariant (omega (arith, w.mark.ensures.len))
          (sym e ∙ w.in-Some.is) w.mark.ensures.marked)
      | in_default w ↦ subst (λ (v : Vec (Option ℕ) Global). AreHeads code v.items (c.loop-at.at + 1)) (sym w.heads-is)
          (heads_kept code c.loop-at.heads.items c.loop-at.at c.loop-at.invariant (sym e ∙ w.in_default.is))
    ]

pub returns : goal.returns
returns c = tables_made c.args.code.now c.in_ok-ends.ends.items c.loop-at.heads.items c.loop-at.at c.in_ok-ends.ensures c.loop-at-test.false c.loop-at.invariant
