use Rattle.std.proofs.Common.{◌≡◌, true, sym, ◌∙◌, subst}
use Rattle.laws_live.specs.Waiting.{live_can_step}
use Rattle.sts_pool.specs.Book.{BookSeen}
use Rattle.sts_pool.proofs.Books.{free_parts}
use Rattle.sts_pool.proofs.book.Book.check_out.Goals as goal

pub slice-requires : goal.slice-requires
slice-requires c =
    let t = c.in_ok-task.task in
    let before = c.args.self.now in
    let claimed = c.self.view_is ∙ c.in_ok-task.ensures.out in
    let could = (free_parts (live_can_step before.machine.program before.machine.live t) before.out t c.in_ok-task.ensures.free).0 in
    subst (λ (b : BookSeen). live_can_step b.machine.program b.machine.live t ≡ true) (sym claimed) could
