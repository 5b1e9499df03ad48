use Rattle.std.proofs.Common.{rules, sym, ◌∙◌}
use Rattle.std.proofs.lemmas.Fn.{filter_same}
use Rattle.sts_pool.proofs.book.remove_task.Goals as goal

pub returns-then-is_alone-clause-items : goal.returns-then-is_alone-clause-items
returns-then-is_alone-clause-items c =
    c.clear.ensures.items ∙ sym (rw c.as_slice.ensures.value at (c.is_alone.ensures c.if-is_alone.true))

pub returns-clause-items : goal.returns-clause-items
returns-clause-items c = filter_same _ _ _ (λ x b f' k. search rules) _ _ c.retain.ensures.filtered
