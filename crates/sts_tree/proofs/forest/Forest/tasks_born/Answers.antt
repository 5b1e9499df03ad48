use Rattle.std.proofs.Common.{sym, ◌∙◌}
use Rattle.std.proofs.lemmas.List.{length-map}
use Rattle.std.specs.Prelude.{option_map}
use Rattle.sts_tree.specs.Stored.{task_of}
use Rattle.sts_tree.proofs.forest.Forest.tasks_born.Goals as goal

pub returns-clause-value : goal.returns-clause-value
returns-clause-value g c = rw (← c.self.view_is) (c.born.ensures.value ∙ sym (length-map c.self.inside.tasks.held.slots (option_map task_of)))
