use Rattle.std.proofs.Common.{◌+◌, ◌∙◌, sym, ap, arith, drop, bytes_eq, is_none}
use Rattle.sts_rules.specs.Around.{around}
use Rattle.sts_rules.specs.TypeState.{heads}
use Rattle.sts_types.proofs.Nesting.{same_at, differs_at, at_end, heads_more, heads_end, is_not, is_it, none_is}
use Rattle.sts_types.proofs.loops.CodeLoops.are_around.Goals as goal

pub returns-then-ne : goal.returns-then-ne
returns-then-ne c =
    let code = c.args.self.now in
    let more = heads_more c.args.loops.now c.loop-i.i c.get_or-at.result _ (omega (arith, c.len-i-end.ensures.len, c.loop-i-test.true)) c.get_or-at.ensures in
    let other = is_not c.head.result c.get_or-at.result.at c.ne.result c.ne.ensures c.if-ne.true in
    let no = differs_at code c.loop-i.place c.get_or-at.result.at (drop (c.loop-i.i + 1) (heads c.args.loops.now)) (λ e. other (c.head.ensures ∙ e)) in
    sym no ∙ ap (bytes_eq (around code c.loop-i.place)) (sym more) ∙ c.loop-i.invariant

pub loop-i-preserved : goal.loop-i-preserved
loop-i-preserved c =
    let code = c.args.self.now in
    let more = heads_more c.args.loops.now c.loop-i.i c.get_or-at.result _ (omega (arith, c.len-i-end.ensures.len, c.loop-i-test.true)) c.get_or-at.ensures in
    let it = is_it c.head.result c.get_or-at.result.at c.ne.result c.ne.ensures c.if-ne.false in
    let yes = same_at code c.loop-i.place c.get_or-at.result.at (drop (c.loop-i.i + 1) (heads c.args.loops.now)) (sym c.head.ensures ∙ it) in
    sym yes ∙ ap (bytes_eq (around code c.loop-i.place)) (sym more) ∙ c.loop-i.invariant

pub returns : goal.returns
returns c =
    let code = c.args.self.now in
    let past = heads_end c.args.loops.now c.loop-i.i (omega (arith, c.len-i-end.ensures.len, c.loop-i-test.false)) in
    none_is c.head-2.result c.is_none.result c.is_none.ensures ∙ ap is_none c.head-2.ensures ∙ sym (at_end code c.loop-i.place) ∙ ap
    (bytes_eq (around code c.loop-i.place)) (sym past) ∙ c.loop-i.invariant
