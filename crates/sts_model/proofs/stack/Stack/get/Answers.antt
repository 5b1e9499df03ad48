use Rattle.std.proofs.Common.{arith, ap, sym, length}
use Rattle.sts_model.proofs.ListLemmas.{read_reverse, past_reverse}
use Rattle.sts_model.proofs.stack.Stack.get.Goals as goal

pub overflow_sub-result : goal.overflow_sub-result
overflow_sub-result g c = omega (arith, c.if-n-len.true)

pub overflow_sub-result-then-n-len : goal.overflow_sub-result-then-n-len
overflow_sub-result-then-n-len g c = omega (arith, c.if-n-len.true)

pub offset_bounds-deref-len : goal.offset_bounds-deref-len
offset_bounds-deref-len g c = omega (arith, c.len-len.ensures.value, ap length c.deref.ensures.0)

pub bounds-deref-len : goal.bounds-deref-len
bounds-deref-len g c =
    omega (arith, c.if-n-len.true, c.len-len.ensures.value, ap length c.deref.ensures.0)

pub returns-then-n-len : goal.returns-then-n-len
returns-then-n-len g c =
    sym (read_reverse c.self.inside.values.items _ _ _ c.args.n _ c.self.view_is c.deref.ensures.0
    c.len-len.ensures.value c.if-n-len.true c.index-deref-len.is)

pub returns-else-n-len : goal.returns-else-n-len
returns-else-n-len g c =
    sym (past_reverse c.self.inside.values.items _ _ c.args.n c.self.view_is
    c.len-len.ensures.value c.if-n-len.false)
