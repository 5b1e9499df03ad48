use Rattle.ends_table.proofs.MissingLemmas.{on_ok}
use Rattle.std.proofs.Common.{ℕ, subst}
use Rattle.std.specs.Prelude.{unwrap_or}
use Rattle.ends_table.specs.Led.{JoinsLead}
use Rattle.ends_table.proofs.StepLemmas.{joins_lead}
use Rattle.ends_table.proofs.around.Around.join.Goals as goal

pub returns : goal.returns
returns c =
    let a = c.args.self.now in
    let place = c.in_ok-scope.scope.place in
    let seen = c.in_ok-scope.scope.seen.now in
    on_ok c.joins.result c.joins.ensures (λ led. let by_failed =
    subst (λ (f : ℕ). JoinsLead a.states.now a.own.now place seen f c.target-timeout.result) c.target-failed.ensures led in
    let by_both =
    subst (λ (t : ℕ). JoinsLead a.states.now a.own.now place seen (unwrap_or c.args.failed 0) t) c.target-timeout.ensures by_failed in
    joins_lead a.program.now a.outside a.call.now a.states.now a.own.now c.args.slot c.args.interrupted c.args.failed c.args.timeout place
    seen c.in_ok-scope.ensures by_both c.in_ok-attempt.ensures)
