use Rattle.std.proofs.Common.{◌<◌, ◌≤◌, ◌+◌, ℕ, inl, inr, length, get_or, ap, sym, subst, arith}
use Rattle.std.proofs.lemmas.Bool.{cases_eq, cases_lt}
use Rattle.std.proofs.lemmas.List.{get_or_past}
use Rattle.sts_rules.specs.TypeState.{TypeState}
use Rattle.sts_types.specs.Arrivals.{none}
use Rattle.sts_budget.proofs.layout.lay_out.Goals as goal

pub loop-pc-preserved : goal.loop-pc-preserved
loop-pc-preserved c = (longest, omega (arith, c.max-deepest.ensures, c.len.ensures.bound, c.loop-pc.invariant.1))
  where
    here : length (get_or c.args.typing.now.states c.loop-pc.pc none).entries ≤ c.max-deepest.result
    here = let is = ap length c.entries.ensures in omega (arith, c.max-deepest.ensures, c.len.ensures.len)

    longest : (k : ℕ) → k < c.loop-pc.pc + 1 → length (get_or c.args.typing.now.states k none).entries ≤ c.max-deepest.result
    longest k lt = elim (cases_eq k c.loop-pc.pc) [
      | inl e ↦ subst (λ q. length (get_or c.args.typing.now.states q none).entries ≤ c.max-deepest.result) (sym e) here
      | inr ne ↦ (let le = c.loop-pc.invariant.0 k (omega arith) in omega (arith, c.max-deepest.ensures))
    ]

pub returns-clause-deepest : goal.returns-clause-deepest
returns-clause-deepest c = (longest, c.loop-pc.invariant.1)
  where
    longest : (k : ℕ) → length (get_or c.args.typing.now.states k none).entries ≤ c.loop-pc.deepest
    longest k = elim (cases_lt k (length c.args.typing.now.states)) [
      | inl lt ↦ c.loop-pc.invariant.0 k (omega (arith, c.len-pc-end.ensures))
      | inr ge ↦ (let past = ap (λ (s : TypeState). length s.entries) (get_or_past c.args.typing.now.states k none ge) in omega arith)
    ]
