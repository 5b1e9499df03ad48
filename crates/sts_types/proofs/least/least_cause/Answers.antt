use Rattle.std.proofs.Common.{◌≡◌, ◌∙◌, sym, ap}
use Rattle.sts_rules.specs.Causes.{is_illegal}
use Rattle.sts_types.proofs.Fitting.{IsLed, IsSlotted, under_found, over_found, lead_found, lead_missed, depth_found, slot_found, illegal_found}
use Rattle.sts_types.proofs.Fitting.{structure_found, slot_missed}
use Rattle.sts_types.proofs.SimpleLemmas.{none_later}
use Rattle.sts_types.proofs.least.least_cause.Goals.{After-lead_cause-lead, After-slot_cause-slot, After-is_illegal}
use Rattle.sts_types.proofs.least.least_cause.Goals as goal

led : (c : After-lead_cause-lead) → (let at = c.args.site.now in IsLed at.program.now at.function at.pc at.instr c.args.state.now at.loops.now c.lead_cause-lead.result)
led c = record {
  same = c.requires.site.code;
  some_operands = sym c.lacks_operands.ensures ∙ c.if-lacks_operands.false;
  room = sym c.overflows.ensures ∙ c.if-overflows.false;
  is = c.lead_cause-lead.ensures;
}

slotted : (c : After-slot_cause-slot) → (let at = c.args.site.now in IsSlotted at.program.now at.function at.pc at.instr c.args.state.now at.loops.now c.lead_cause-lead.result c.slot_cause-slot.result)
slotted c = record {
  led = record {
    same = c.requires.site.code;
    some_operands = sym c.lacks_operands.ensures ∙ c.if-lacks_operands.false;
    room = sym c.overflows.ensures ∙ c.if-overflows.false;
    is = c.lead_cause-lead.ensures;
  };
  none = sym c.is_some.ensures ∙ c.if-is_some.false;
  flat = sym c.is_too_deep.ensures ∙ c.if-is_too_deep.false;
  is = c.slot_cause-slot.ensures;
}

-- the answer of the test of V12
illegal_is : (c : After-is_illegal) → is_illegal c.args.site.now.program.now.profile c.args.site.now.instr c.args.state.now ≡ c.is_illegal.result
illegal_is c = ap (λ profile. is_illegal profile c.args.site.now.instr c.args.state.now) (sym c.profile.ensures) ∙ sym c.is_illegal.ensures

pub returns-then-lacks_operands : goal.returns-then-lacks_operands
returns-then-lacks_operands c =
    let at = c.args.site.now in
    under_found at.program.now at.function at.pc at.instr c.args.state.now (sym c.lacks_operands.ensures ∙ c.if-lacks_operands.true)

pub returns-then-overflows : goal.returns-then-overflows
returns-then-overflows c =
    let at = c.args.site.now in
    over_found at.program.now at.function at.pc at.instr c.args.state.now (sym c.lacks_operands.ensures ∙ c.if-lacks_operands.false)
    (sym c.overflows.ensures ∙ c.if-overflows.true)

pub returns-then-is_some : goal.returns-then-is_some
returns-then-is_some c = lead_found _ _ _ _ _ (led (goal.at.returns-then-is_some c).After-lead_cause-lead) (sym c.is_some.ensures ∙ c.if-is_some.true)

pub returns-then-is_simple : goal.returns-then-is_simple
returns-then-is_simple c =
    let at = c.args.site.now in
    none_later at.program.now at.function at.pc at.instr c.args.state.now (sym c.is_simple.ensures ∙ c.if-is_simple.true)
    ∙ lead_missed _ _ _ _ _ (led (goal.at.returns-then-is_simple c).After-lead_cause-lead) (sym c.is_some.ensures ∙ c.if-is_some.false)

pub returns-then-is_too_deep : goal.returns-then-is_too_deep
returns-then-is_too_deep c =
    depth_found _ _ _ _ _ (led (goal.at.returns-then-is_too_deep c).After-lead_cause-lead) (sym c.is_some.ensures ∙ c.if-is_some.false) (sym
    c.is_too_deep.ensures ∙ c.if-is_too_deep.true)

pub returns-then-is_some-2 : goal.returns-then-is_some-2
returns-then-is_some-2 c = slot_found _ _ _ _ _ (slotted (goal.at.returns-then-is_some-2 c).After-slot_cause-slot) (sym c.is_some-2.ensures ∙
    c.if-is_some-2.true)

pub returns-then-is_illegal : goal.returns-then-is_illegal
returns-then-is_illegal c =
    let h = goal.at.returns-then-is_illegal c in
    illegal_found _ _ _ _ _ (slotted h.After-slot_cause-slot) (sym c.is_some-2.ensures ∙ c.if-is_some-2.false) (illegal_is h.After-is_illegal ∙
    c.if-is_illegal.true)

pub returns-then-breaks_structure : goal.returns-then-breaks_structure
returns-then-breaks_structure c =
    let h = goal.at.returns-then-breaks_structure c in
    structure_found _ _ _ _ _ (slotted h.After-slot_cause-slot) (sym c.is_some-2.ensures ∙ c.if-is_some-2.false) (illegal_is h.After-is_illegal ∙
    c.if-is_illegal.false)
    (sym c.breaks_structure.ensures ∙ c.if-breaks_structure.true)

pub returns : goal.returns
returns c =
    let h = goal.at.returns c in
    c.late_cause.ensures
    ∙ slot_missed _ _ _ _ _ (slotted h.After-slot_cause-slot) (sym c.is_some-2.ensures ∙ c.if-is_some-2.false) (illegal_is h.After-is_illegal ∙
    c.if-is_illegal.false)
    (sym c.breaks_structure.ensures ∙ c.if-breaks_structure.false)
