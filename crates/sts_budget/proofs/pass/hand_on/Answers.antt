use Rattle.std.proofs.Common.{◌≡◌, ◌<◌, ℕ, pos, length, get_or, min, false, sym, ap, ◌∙◌, subst, arith}
use Rattle.sts_code.specs.Program.{instr_at}
use Rattle.sts_code.specs.declared.instr.Instr.TheVariants.{Push, Ret}
use Rattle.sts_budget.specs.Handing.{handed_value, is_quiet}
use Rattle.sts_budget.specs.Table.{read}
use Rattle.std.proofs.lemmas.List.{get_or_default}
use Rattle.sts_budget.proofs.HandOn.{quiet_spread, not_quiet, sent_at, over_at, leads_at}
use Rattle.sts_budget.proofs.LastTurns.{limit_small}
use Rattle.sts_budget.proofs.pass.hand_on.Goals.{After-values_of-values}
use Rattle.sts_budget.proofs.pass.hand_on.Goals as goal

-- the instruction hands on sums, and these are they
known : (g : _) (c : After-values_of-values g) → (get_or c.args.pass.now.code.now c.args.pc (Push (pos 0)) ≡ instr_at c.args.pass.now.code.now c.args.pc) × (is_quiet (instr_at c.args.pass.now.code.now c.args.pc) ≡ false)
    × ((d : ℕ) → d < g.row.N → get_or c.values_of-values.result d 0 ≡ min (handed_value c.args.pass.now.resource c.args.pass.now.earlier.now c.args.pass.now.code.now c.args.pass.now.layout.now (read c.args.best.now.items) c.args.pc d) 18446744073709551615)
known g c =
    let p = c.args.pass.now in
    let (at, quiet) = not_quiet p.code.now c.args.pc _ c.requires.in_code c.is_quiet.ensures c.if-is_quiet.false in
    (at, quiet, subst (λ rows. (d : ℕ) → d < g.row.N → get_or c.values_of-values.result d 0 ≡ min (handed_value p.resource p.earlier.now p.code.now p.layout.now (read rows) c.args.pc d) 18446744073709551615) c.as_slice.ensures.value c.values_of-values.ensures)

pub values_of-values-requires : goal.values_of-values-requires
values_of-values-requires g c = (
  omega (arith, c.requires.small),
  (
    omega (arith, c.requires.small),
    (c.requires.ready, (c.requires.fits, (c.requires.in_code, ap length c.as_slice.ensures.value ∙ c.requires.rows))),
  ),
)

pub send_on-requires : goal.send_on-requires
send_on-requires g c =
    let p = c.args.pass.now in
    let (at, quiet, sums) = known g (goal.at.send_on-requires g c).After-values_of-values in
    let inside = leads_at p.resource p.earlier.now p.code.now p.layout.now c.requires.ready c.args.pc _ at quiet _ c.requires.rows in
    let named = c.requires.ready.states_long ∙ sym c.requires.rows in
    let short : c.args.pc < 4096 = omega (arith, c.requires.in_code, c.requires.ready.short) in
    (omega (arith, c.requires.small), (omega (arith, c.requires.small), (short, (inside, (named, c.requires.fits)))))

pub returns-clause-spread : goal.returns-clause-spread
returns-clause-spread g c = λ t.
    (let p = c.args.pass.now in
    let (at, quiet, sums) = known g (goal.at.returns-clause-spread g c).After-values_of-values in
    sent_at p.resource p.earlier.now p.code.now p.layout.now c.requires.ready c.args.pc _ at quiet g.row.N p.most c.values_of-values.result
    c.args.best.now.items c.requires.fits sums c.send_on.new.best.items (omega (arith, c.requires.most, limit_small p.resource)) (c.send_on.ensures.sent t))

pub returns-clause-over : goal.returns-clause-over
returns-clause-over g c = λ t.
    (let p = c.args.pass.now in
    let (at, quiet, sums) = known g (goal.at.returns-clause-over g c).After-values_of-values in
    over_at p.resource p.earlier.now p.code.now p.layout.now c.requires.ready c.args.pc _ at quiet g.row.N p.most c.values_of-values.result
    c.args.best.now.items c.requires.fits sums c.requires.in_code (c.send_on.ensures.over t))

pub returns-then-is_quiet-clause-spread : goal.returns-then-is_quiet-clause-spread
returns-then-is_quiet-clause-spread g c = λ t.
    (let at : get_or c.args.pass.now.code.now c.args.pc (Push (pos 0)) ≡ instr_at c.args.pass.now.code.now c.args.pc =
    get_or_default c.args.pass.now.code.now c.args.pc _ Ret c.requires.in_code in
    quiet_spread c.args.pass.now.resource c.args.pass.now.earlier.now c.args.pass.now.code.now c.args.pass.now.layout.now c.requires.ready
    c.args.pc c.args.best.now.items (sym (ap is_quiet at) ∙ sym c.is_quiet.ensures ∙ c.if-is_quiet.true))
