use Rattle.std.proofs.Common.{◌≡◌, ◌<◌, ◌+◌, ◌∙◌, pos, length, get_or, false, sym, ap, subst, arith, rules, inl, refl}
use Rattle.sts_code.specs.declared.instr.Instr.TheVariants.{Push, Ret}
use Rattle.sts_code.specs.Program.{instr_at}
use Rattle.sts_rules.specs.ControlPaths.{Among}
use Rattle.sts_budget.specs.declared.change.Resource.{Resource}
use Rattle.sts_budget.specs.declared.change.Resource.TheVariants.{Steps}
use Rattle.sts_budget.specs.Handing.{is_ordinary, is_quiet}
use Rattle.sts_code.specs.Facts.{goes_straight_on}
use Rattle.sts_budget.specs.Together.{rows_of, sums_of, width, most}
use Rattle.sts_budget.proofs.HandOn.{quiet_spread, sent_at, carried_spread, leads_at, leads_in, not_quiet}
use Rattle.std.proofs.lemmas.List.{get_or_default}
use Rattle.sts_budget.proofs.Sorts.{straight}
use Rattle.sts_budget.proofs.TogetherLemmas.{fits_width, most_small}
use Rattle.sts_budget.proofs.together.Tables.hand_on.Goals.{After-only_steps}
use Rattle.sts_budget.proofs.together.Tables.hand_on.Goals as goal

-- the instruction hands on sums
busy : (g : _) (c : After-only_steps g) → (get_or c.args.source.now.code.now c.args.pc (Push (pos 0)) ≡ instr_at c.args.source.now.code.now c.args.pc) × (is_quiet (instr_at c.args.source.now.code.now c.args.pc) ≡ false)
busy g c = not_quiet c.args.source.now.code.now c.args.pc _ c.requires.in_code c.is_quiet.ensures c.if-is_quiet.false

pub handed-values-requires : goal.handed-values-requires
handed-values-requires g c = search (rules, c.requires.ready, c.requires.small, c.requires.fits, c.requires.in_code, c.requires.rows)

pub send_on-requires : goal.send_on-requires
send_on-requires g c =
    let s = c.args.source.now in
    let (at, quiet) = busy g (goal.at.send_on-requires g c).After-only_steps in
    let inside = λ (k : Resource). leads_at k s.earlier.now s.code.now s.layout.now c.requires.ready c.args.pc _ at quiet
    (length (rows_of c.args.self.now k)) (c.requires.rows k) in
    let short : c.args.pc < 4096 = omega (arith, c.requires.in_code, c.requires.ready.short) in
    let named : (k : Resource) → length s.layout.now.typing.now.states ≡ length (rows_of c.args.self.now k) =
    λ k. c.requires.ready.states_long ∙ sym (c.requires.rows k) in
    search (rules, inside, short, named, c.requires.small, c.requires.fits)

pub step_on-requires : goal.step_on-requires
step_on-requires g c =
    let s = c.args.source.now in
    let (at, quiet) = busy g (goal.at.step_on-requires g c).After-only_steps in
    let goes = sym (ap goes_straight_on at) ∙ c.only_steps.ensures.straight c.if-only_steps.true in
    let next : c.args.pc + 1 < length s.code.now = leads_in Steps s.earlier.now s.code.now s.layout.now c.requires.ready c.args.pc (c.args.pc + 1) quiet
    (subst (λ ps. Among ps (c.args.pc + 1)) (straight (instr_at s.code.now c.args.pc) c.args.pc goes) (inl refl)) in
    let inside : (k : Resource) → c.args.pc + 1 < length (rows_of c.args.self.now k) =
    λ k. (let long = c.requires.rows k in omega (arith, next, long)) in
    search (rules, inside, c.requires.small)

pub returns-then-only_steps : goal.returns-then-only_steps
returns-then-only_steps g c = λ yes k.
    (let s = c.args.source.now in
    let (at, quiet) = busy g (goal.at.returns-then-only_steps g c).After-only_steps in
    let ordinary = sym (ap is_ordinary at) ∙ c.only_steps.ensures.ordinary c.if-only_steps.true in
    let goes = sym (ap goes_straight_on at) ∙ c.only_steps.ensures.straight c.if-only_steps.true in
    carried_spread k s.earlier.now s.code.now s.layout.now c.requires.ready (width g.row.N k) c.args.pc (rows_of c.args.self.now k)
    (rows_of c.step_on.new.self k) (fits_width g.row.N s.layout.now c.requires.fits k) quiet ordinary goes (c.step_on.ensures yes k))

pub returns-then-is_quiet : goal.returns-then-is_quiet
returns-then-is_quiet g c = λ yes k.
    (let at : get_or c.args.source.now.code.now c.args.pc (Push (pos 0)) ≡ instr_at c.args.source.now.code.now c.args.pc =
    get_or_default c.args.source.now.code.now c.args.pc _ Ret c.requires.in_code in
    quiet_spread k c.args.source.now.earlier.now c.args.source.now.code.now c.args.source.now.layout.now c.requires.ready c.args.pc
    (rows_of c.args.self.now k) (sym (ap is_quiet at) ∙ sym c.is_quiet.ensures ∙ c.if-is_quiet.true))

pub returns : goal.returns
returns g c = λ yes k.
    (let s = c.args.source.now in
    let (at, quiet) = busy g (goal.at.returns g c).After-only_steps in
    sent_at k s.earlier.now s.code.now s.layout.now c.requires.ready c.args.pc _ at quiet (width g.row.N k) (most k) (sums_of c.handed-values.result k)
    (rows_of c.args.self.now k) (fits_width g.row.N s.layout.now c.requires.fits k) (c.handed-values.ensures k) (rows_of c.send_on.new.self k)
    (most_small k) (c.send_on.ensures yes k))
