use Rattle.std.proofs.Common.{◌≤◌, ℕ, length, sym, subst, arith}
use Rattle.sts_rules.specs.Around.{around}
use Rattle.sts_budget.specs.Change.{IsMost}
use Rattle.sts_budget.specs.Ready.{names_in}
use Rattle.sts_budget.proofs.FourKindLemmas.{own_is_most}
use Rattle.sts_budget.proofs.LastTurns.{own_within}
use Rattle.sts_budget.proofs.greatest.peak.Goals as goal

pub returns-then-pass-eq0 : goal.returns-then-pass-eq0
returns-then-pass-eq0 c =
    let none_open : (pc : ℕ) → length (names_in c.args.pass.now.layout.now pc) ≤ 0 =
    λ pc. subst (λ n. length (names_in c.args.pass.now.layout.now pc) ≤ n) c.if-pass-eq0.true (c.requires.ready.deep pc) in
    let most = own_is_most c.args.pass.now.earlier.now c.args.pass.now.code.now (around c.args.pass.now.code.now) c.requires.ready.good
    (names_in c.args.pass.now.layout.now) c.requires.ready.known c.args.pass.now.resource c.requires.no_steps none_open in (
      subst (IsMost c.args.pass.now.resource c.args.pass.now.earlier.now c.args.pass.now.code.now) (sym c.own_of.ensures) most,
      omega
          (arith, own_within c.args.pass.now.resource, c.own_of.ensures),
    )
