use Rattle.std.proofs.Common.{◌≡◌, subst}
use Rattle.std.specs.Prelude.{IfSome}
use Rattle.sts_pool.specs.Book.{BookSeen, MayBe}
use Rattle.sts_pool.proofs.Kept.{shown}
use Rattle.sts_pool.proofs.book.Book.journal.Goals as goal

pub returns-clause-value : goal.returns-clause-value
returns-clause-value c = subst (λ (b : BookSeen). IfSome b.journal (λ entries. c.written.result.now ≡ entries)) c.self.view_is c.written.ensures

pub returns-clause-stands : goal.returns-clause-stands
returns-clause-stands c =
    subst (λ (b : BookSeen). IfSome b.journal (MayBe b)) c.self.view_is
    (shown c.self.inside.machine c.self.inside.journal c.self.inside.outside c.self.inside.out.items _ c.self.invariant)
