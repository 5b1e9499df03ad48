use Rattle.std.proofs.Common.{◌≡◌, true, false, sym, ◌∙◌}
use Rattle.ends_table.proofs.StepLemmas.{fork_leads}
use Rattle.ends_table.proofs.MissingLemmas.{on_ok}
use Rattle.ends_table.proofs.around.Around.fork.Goals as goal

pub returns-then-not-is_cancelled : goal.returns-then-not-is_cancelled
returns-then-not-is_cancelled c =
    let a = c.args.self.now in
    fork_leads a.program.now a.outside a.call.now a.states.now a.own.now c.args.slot c.args.function c.args.handle _ _ c.in_ok-scope.ensures
    (λ gone. let never : true ≡ false = sym gone ∙ sym c.is_cancelled.ensures ∙ c.if-not-is_cancelled.true in cc)

pub returns : goal.returns
returns c =
    let a = c.args.self.now in
    on_ok c.unstarted.result c.unstarted.ensures (λ leads. fork_leads a.program.now a.outside a.call.now a.states.now a.own.now c.args.slot
    c.args.function c.args.handle _ _ c.in_ok-scope.ensures (λ gone. leads))
