use Rattle.std.proofs.Common.{rules, sym, subst}
use Rattle.sts_asm.specs.Kept.{Kept, IsKept}
use Rattle.sts_asm.proofs.SettledLemmas.{settled_then, settled_else}
use Rattle.sts_asm.proofs.kept.settled.Goals as goal

pub returns-then-is_err : goal.returns-then-is_err
returns-then-is_err c d short =
    settled_else c.look_up.result c.args.functions.now d c.args.kept c.look_up.new.self (search rules) c.look_up.ensures.others c.look_up.ensures.same short

pub returns : goal.returns
returns c d short =
    let k : Kept = c.look_up.new.self in
    let kept = settled_then c.look_up.result c.args.functions.now d c.args.kept k c.new.result c.new-2.result.items (search rules)
    (search rules) c.look_up.ensures.others c.look_up.ensures.steps short in
    subst (λ (x : Kept). IsKept c.args.functions.now d (record x { labels = c.new.result; again = c.new-2.result.items })) (sym c.kept.view_is) kept
