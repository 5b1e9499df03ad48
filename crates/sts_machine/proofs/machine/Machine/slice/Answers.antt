use Rattle.std.proofs.Common.{◌≡◌, true, sym, subst}
use Rattle.laws_live.specs.Waiting.{live_can_step}
use Rattle.sts_machine.specs.Machine.{Seen}
use Rattle.sts_machine.specs.Slice.{IsReached}
use Rattle.sts_machine.proofs.Putting.{lawful, reached}
use Rattle.sts_machine.proofs.machine.Machine.slice.Goals as goal

pub cut-requires-clause-reached : goal.cut-requires-clause-reached
cut-requires-clause-reached c =
    let can = subst (λ (s : Seen). live_can_step s.program s.live c.args.task ≡ true) (sym c.self.view_is) c.requires in
    subst (IsReached c.self.inside.verified.now c.args.task) (sym c.frame.ensures)
    (reached c.self.inside.verified.now c.self.inside.store c.self.inside.steps c.self.invariant c.args.task can)

pub cut-requires-clause-lawful : goal.cut-requires-clause-lawful
cut-requires-clause-lawful c =
    lawful c.self.inside.verified.now c.self.inside.store c.self.inside.steps c.self.invariant
