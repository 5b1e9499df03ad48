use Rattle.std.proofs.Common.{◌≡◌, count_by, sym, subst}
use Rattle.std.proofs.lemmas.Result.{IfOk-weaker}
use Rattle.sts_model.specs.Run.{is_step}
use Rattle.sts_pool.specs.Outside.{IsGiven}
use Rattle.sts_pool.specs.Report.{IsReport}
use Rattle.sts_pool.proofs.workers.run.Goals as goal

pub returns-clause-report : goal.returns-clause-report
returns-clause-report g c =
    IfOk-weaker c.run_with_journal.result _ _
    (λ r is. subst (λ es. IsReport c.args.verified.now es r.end) (sym is.held) is.report) c.run_with_journal.ensures.report

pub returns-clause-given : goal.returns-clause-given
returns-clause-given g c =
    IfOk-weaker c.run_with_journal.result _ _
    (λ r is. subst (IsGiven g.O.Outside.gives c.args.outside) (sym is.held) is.came) c.run_with_journal.ensures.report

pub returns-clause-steps : goal.returns-clause-steps
returns-clause-steps g c =
    IfOk-weaker c.run_with_journal.result _ _
    (λ r is. subst (λ es. r.steps ≡ count_by is_step es) (sym is.held) is.steps) c.run_with_journal.ensures.report
