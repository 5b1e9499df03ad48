use Rattle.std.proofs.Common.{◌+◌, ◌∙◌, sym}
use Rattle.sts_rules.specs.TypeState.{heads}
use Rattle.sts_types.proofs.Nesting.{same_at, differs_at}
use Rattle.sts_types.proofs.loops.CodeLoops.begins.Goals as goal

pub returns-then-begins_at : goal.returns-then-begins_at
returns-then-begins_at c = c.are_around.ensures ∙ sym
    (same_at c.args.self.now (c.args.pc + 1) c.args.pc (heads c.args.loops.now) (c.begins_at.ensures.0 c.if-begins_at.true))

pub returns-else-begins_at : goal.returns-else-begins_at
returns-else-begins_at c = c.if-begins_at.false ∙ sym
    (differs_at c.args.self.now (c.args.pc + 1) c.args.pc (heads c.args.loops.now) (λ e. (let yes = c.begins_at.ensures.1 e in cc)))
