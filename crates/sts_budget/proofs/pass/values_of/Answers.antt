use Rattle.std.proofs.Common.{◌≡◌, ◌<◌, ◌∙◌, length, min, get_or, pos, sym, ap, arith}
use Rattle.sts_code.specs.declared.instr.Instr.TheVariants.{Push, Next, Ret}
use Rattle.sts_code.specs.Program.{instr_at}
use Rattle.sts_budget.specs.Handing.{value_by}
use Rattle.sts_budget.specs.Table.{read}
use Rattle.sts_budget.specs.TypedNames.{names}
use Rattle.sts_budget.proofs.HandedValues.{hands_own, hands_changed}
use Rattle.std.proofs.lemmas.List.{get_or_default}
use Rattle.sts_budget.proofs.pass.values_of.Goals as goal

pub returns-then-is_ordinary : goal.returns-then-is_ordinary
returns-then-is_ordinary g c =
    let within : c.args.pc < length c.args.best.now = omega (arith, c.requires.rows, c.requires.in_code) in
    λ d lt. hands_own c.args.pass.now.resource c.args.pass.now.earlier.now c.args.pass.now.code.now c.args.pass.now.layout.now
    c.args.best.now c.args.pc d within (get_or c.args.pass.now.code.now c.args.pc (Push (pos 0)))
    (get_or_default c.args.pass.now.code.now c.args.pc _ Ret c.requires.in_code) c.index-best-pc.result c.index-best-pc.is
    c.own_step.result _ (sym c.is_ordinary.ensures ∙ c.if-is_ordinary.true) c.own_step.ensures (c.risen.ensures d lt)

pub returns-in-Next : goal.returns-in-Next
returns-in-Next g c =
    let instr : Next ≡ instr_at c.args.pass.now.code.now c.args.pc =
    sym c.in-Next.is ∙ get_or_default c.args.pass.now.code.now c.args.pc _ Ret c.requires.in_code in
    λ d lt. c.loop_values.ensures d lt ∙ ap (λ i. min (value_by c.args.pass.now.resource c.args.pass.now.earlier.now
    c.args.pass.now.code.now c.args.pass.now.layout.now (read c.args.best.now) c.args.pc i d) 18446744073709551615) instr

pub returns-in_default : goal.returns-in_default
returns-in_default g c =
    let within : c.args.pc < length c.args.best.now = omega (arith, c.requires.rows, c.requires.in_code) in
    λ d lt. hands_changed c.args.pass.now.resource c.args.pass.now.earlier.now c.args.pass.now.code.now c.args.pass.now.layout.now
    c.args.best.now c.args.pc d within (get_or c.args.pass.now.code.now c.args.pc (Push (pos 0)))
    (get_or_default c.args.pass.now.code.now c.args.pc _ Ret c.requires.in_code) c.index-best-pc-in_default.result
    c.index-best-pc-in_default.is (names c.entries-entries.result.now) c.change_of-change.result c.depth_of.result _
    c.in_default.not-Next (ap names c.entries-entries.ensures) c.change_of-change.ensures c.depth_of.ensures.value
    (c.values_after.ensures d lt)
