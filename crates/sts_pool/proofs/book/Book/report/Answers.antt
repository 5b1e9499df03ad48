use Rattle.std.proofs.Common.{◌≡◌, List, [], count_by, subst, ap, ◌∙◌}
use Rattle.std.specs.Prelude.{unwrap_or}
use Rattle.sts_model.specs.declared.event.Event.{Event}
use Rattle.sts_model.specs.Run.{is_step}
use Rattle.sts_pool.specs.Book.{BookSeen, MayBe}
use Rattle.sts_pool.specs.Report.{IsReport, IsUnfinished}
use Rattle.sts_pool.proofs.Books.{unfinished}
use Rattle.sts_pool.proofs.Kept.{ends}
use Rattle.sts_pool.proofs.book.Book.report.Goals as goal

pub returns-clause-report : goal.returns-clause-report
returns-clause-report c =
    let told = ends c.self.inside.machine c.self.inside.journal c.self.inside.outside c.self.inside.out.items _ c.root_end.result
    c.in-Some.end c.self.invariant c.root_end.ensures.stands c.in-Some.is in
    subst (λ (b : BookSeen). (events : List Event) → MayBe b events → IsReport b.program events c.in-Some.end
    × (c.steps.result ≡ count_by is_step events)) c.self.view_is
    (λ events may. ((told events may).0, c.steps.ensures.seen ∙ (told events may).1))

pub returns-clause-journal : goal.returns-clause-journal
returns-clause-journal c = c.into_entries.ensures ∙ ap (λ (b : BookSeen). unwrap_or b.journal []) c.self.view_is

pub returns-in_default-clause-unfinished : goal.returns-in_default-clause-unfinished
returns-in_default-clause-unfinished c =
    subst (λ (b : BookSeen). (events : List Event) → MayBe b events → IsUnfinished b.program events) c.self.view_is
    (λ events may. unfinished c.self.inside.machine events c.root_end.result may.stands (c.root_end.ensures.stands events may.stands) c.in_default.is)
