use Rattle.std.proofs.Common.{subst}
use Rattle.std.proofs.lemmas.Result.{IfOk-weaker}
use Rattle.laws_calls.specs.Steps.{Leads, to}
use Rattle.ends_table.proofs.StepLemmas.{read_leads, bound_leads, or_else_leads, bind_leads, unbind_leads}
use Rattle.ends_table.proofs.around.Around.after_scoped.Goals as goal

pub returns-in-Read : goal.returns-in-Read
returns-in-Read c =
    let a = c.args.self.now in
    rw c.in-Read.is (IfOk-weaker c.after_read.result _ _ (λ f is leads. read_leads a.program.now a.outside a.call.now a.states.now a.own.now
    c.in-Read.key (subst (λ g. Leads a.states.now (to a.own.now g)) is leads)) c.after_read.ensures)

pub returns-in-Bound : goal.returns-in-Bound
returns-in-Bound c =
    let a = c.args.self.now in
    rw c.in-Bound.is (IfOk-weaker c.after_bound.result _ _ (λ f is leads. bound_leads a.program.now a.outside a.call.now a.states.now
    a.own.now c.in-Bound.key (subst (λ g. Leads a.states.now (to a.own.now g)) is leads)) c.after_bound.ensures)

pub returns-in-OrElse : goal.returns-in-OrElse
returns-in-OrElse c =
    let a = c.args.self.now in
    rw c.in-OrElse.is (IfOk-weaker c.after_or_else.result _ _ (λ f is leads. or_else_leads a.program.now a.outside a.call.now a.states.now
    a.own.now c.in-OrElse.key (subst (λ g. Leads a.states.now (to a.own.now g)) is leads)) c.after_or_else.ensures)

pub returns-in-Bind : goal.returns-in-Bind
returns-in-Bind c =
    let a = c.args.self.now in
    rw c.in-Bind.is (IfOk-weaker c.bound.result _ _ (λ f is leads. bind_leads a.program.now a.outside a.call.now a.states.now a.own.now
    c.in-Bind.key (subst (λ g. Leads a.states.now (to a.own.now g)) is leads)) c.bound.ensures)

pub returns-in-Unbind : goal.returns-in-Unbind
returns-in-Unbind c =
    let a = c.args.self.now in
    rw c.in-Unbind.is (IfOk-weaker c.left.result _ _ (λ f is leads. unbind_leads a.program.now a.outside a.call.now a.states.now a.own.now
    (subst (λ g. Leads a.states.now (to a.own.now g)) is leads)) c.left.ensures)
