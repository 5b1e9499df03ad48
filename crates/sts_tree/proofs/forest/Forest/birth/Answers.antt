use Rattle.std.proofs.Common.{sym, ◌∙◌}
use Rattle.sts_tree.specs.Stored.{task_of}
use Rattle.sts_tree.proofs.HoldingLemmas.{key_seen}
use Rattle.sts_tree.proofs.forest.Forest.birth.Goals as goal

pub returns : goal.returns
returns g c t is =
    let held = c.self.inside.tasks.held in
    c.birth.ensures.value t (sym (key_seen task_of held.slots held.keys t) ∙ (rw (← c.self.view_is) at is))
