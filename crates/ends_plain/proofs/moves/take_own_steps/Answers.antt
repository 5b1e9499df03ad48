use Rattle.std.proofs.Common.{◌≡◌, ◌-◌, ◌∙◌, sym, arith}
use Rattle.ends_plain.proofs.SettleLemmas.{settled_none, settled_some}
use Rattle.ends_plain.proofs.moves.take_own_steps.Goals as goal

pub returns-in_default : goal.returns-in_default
returns-in_default c =
    let none = sym c.own_step.ensures ∙ c.in_default.is in
    sym (settled_none c.loop-left.left c.args.setting.now c.loop-left.config none) ∙ c.loop-left.invariant

pub loop-left-preserved : goal.loop-left-preserved
loop-left-preserved c =
    let left = c.loop-left.left in
    let some = sym c.own_step.ensures ∙ c.in-Some.is in
    rw c.in_ok-apply_event.ensures (settled_some left (left - 1) c.args.setting.now c.loop-left.config c.in-Some.t (omega arith) some ∙ c.loop-left.invariant)

pub returns : goal.returns
returns c =
    let none : c.loop-left.left ≡ 0 = omega arith in
    rw none at c.loop-left.invariant
