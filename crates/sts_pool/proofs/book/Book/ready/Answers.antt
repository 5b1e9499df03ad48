use Rattle.sts_model.specs.Run.{after}
use Rattle.sts_model.specs.Waiting.{can_step}
use Rattle.laws_runs.specs.Runs.{In}
use Rattle.sts_machine.specs.Turned.{Picks}
use Rattle.sts_pool.proofs.Kept.{told}
use Rattle.sts_pool.proofs.book.Book.ready.Goals as goal

pub returns : goal.returns
returns c =
    told c.self.inside.machine c.self.inside.journal c.self.inside.outside c.self.inside.out.items _ c.args.self.now c.self.view_is
    (λ b events. In (λ w. Picks (can_step b.program w) c.ready.result) (after b.program events)) c.self.invariant
    (λ events may. c.ready.ensures.stands events may.stands)
