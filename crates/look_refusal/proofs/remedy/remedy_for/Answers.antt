use Rattle.std.proofs.Common.{length, ap, sym, subst, arith, ◌∙◌}
use Rattle.look_refusal.specs.declared.remedy.Remedy.{Remedy}
use Rattle.look_refusal.specs.Remedies.{IsRemedy, fixed, typed}
use Rattle.look_refusal.proofs.RemedyLemmas.{typed_place, same_remedy}
use Rattle.look_refusal.proofs.remedy.remedy_for.Goals as goal

pub state_at-requires-clause-reached : goal.state_at-requires-clause-reached
state_at-requires-clause-reached c =
    let refusal = c.args.refusal.now in
    (typed_place refusal.program refusal.function refusal.pc refusal.cause (sym c.fixed_remedy.ensures ∙ c.in_default.is) c.requires).1

pub state_at-requires-clause-clear : goal.state_at-requires-clause-clear
state_at-requires-clause-clear c =
    let refusal = c.args.refusal.now in
    (typed_place refusal.program refusal.function refusal.pc refusal.cause (sym c.fixed_remedy.ensures ∙ c.in_default.is) c.requires).2

pub instr_here-instr-requires : goal.instr_here-instr-requires
instr_here-instr-requires c =
    let refusal = c.args.refusal.now in
    let place = typed_place refusal.program refusal.function refusal.pc refusal.cause (sym c.fixed_remedy.ensures ∙ c.in_default.is) c.requires in
    omega (arith, place.0, ap length c.code_of-code.ensures.value)

pub returns : goal.returns
returns c =
    let p = c.args.refusal.now.program in
    let f = c.args.refusal.now.function in
    let pc = c.args.refusal.now.pc in
    let same = same_remedy p f pc _ c.args.refusal.now.cause c.profile.result c.code_of-code.result.now c.instr_here-instr.result c.typed_remedy.result
    c.profile.ensures c.code_of-code.ensures.value c.instr_here-instr.ensures c.typed_remedy.ensures in
    subst (λ (r : Remedy). IsRemedy p f pc c.args.refusal.now.cause r) (sym same) (typed _ (sym c.fixed_remedy.ensures ∙ c.in_default.is) c.in_ok-state.ensures)

pub returns-in-Some : goal.returns-in-Some
returns-in-Some c = fixed c.in-Some.remedy (sym c.fixed_remedy.ensures ∙ c.in-Some.is)
