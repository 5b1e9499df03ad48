use Rattle.std.proofs.Common.{◌≡◌}
use Rattle.sts_model.specs.Run.{after}
use Rattle.sts_model.specs.World.{task_at}
use Rattle.laws_runs.specs.Runs.{In}
use Rattle.sts_pool.proofs.Kept.{told}
use Rattle.sts_pool.proofs.book.Book.root_end.Goals as goal

pub returns : goal.returns
returns c =
    told c.self.inside.machine c.self.inside.journal c.self.inside.outside c.self.inside.out.items _ c.args.self.now c.self.view_is
    (λ b events. In (λ w. c.root_end.result ≡ (task_at w 0).outcome) (after b.program events)) c.self.invariant
    (λ events may. c.root_end.ensures.stands events may.stands)
