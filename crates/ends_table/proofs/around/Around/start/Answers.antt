use Rattle.std.proofs.Common.{◌≡◌, true, false, sym, ◌∙◌}
use Rattle.ends_table.proofs.StepLemmas.{fork_starts}
use Rattle.ends_table.proofs.MissingLemmas.{on_ok}
use Rattle.ends_table.proofs.around.Around.start.Goals as goal

pub returns-then-is_cancelled : goal.returns-then-is_cancelled
returns-then-is_cancelled c =
    let a = c.args.self.now in
    fork_starts a.program.now a.outside a.call.now a.states.now a.own.now a.table.now c.args.slot c.args.function c.args.handle _ _
    c.in_ok-scope.ensures (λ free. let never : true ≡ false = sym c.if-is_cancelled.true ∙ c.is_cancelled.ensures ∙ free in cc)

pub returns : goal.returns
returns c =
    let a = c.args.self.now in
    on_ok c.started.result c.started.ensures (λ starts. fork_starts a.program.now a.outside a.call.now a.states.now a.own.now a.table.now
    c.args.slot c.args.function c.args.handle _ _ c.in_ok-scope.ensures (λ free. starts))
