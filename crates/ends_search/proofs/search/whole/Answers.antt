use Rattle.std.proofs.Common.{◌<◌, length, sym, ◌∙◌, arith}
use Rattle.ends_search.proofs.StateLemmas.{kept_at, starts}
use Rattle.ends_search.proofs.search.whole.Goals as goal

pub returns-then-place-eq0-clause-some : goal.returns-then-place-eq0-clause-some
returns-then-place-eq0-clause-some g c =
    let s = c.args.space.now in
    rw c.if-place-eq0.true (sym (starts (g.S.StateMachine.next c.args.setting.now) s.first s.origins.items s.first))

pub index-requires-in-Some : goal.index-requires-in-Some
index-requires-in-Some g c =
    let kept = kept_at c.requires.space c.args.place c.requires.within c.index.result.now c.index.ensures in
    let less : c.in-Some.mark < length c.args.space.now.kept.items = kept.there c.in-Some.mark c.in-Some.is in
    omega (arith, less)

pub returns-in-Some-clause-some : goal.returns-in-Some-clause-some
returns-in-Some-clause-some g c =
    let kept = kept_at c.requires.space c.args.place c.requires.within c.index.result.now c.index.ensures in
    c.index-in-Some.ensures ∙ kept.same c.in-Some.mark c.in-Some.is c.index-in-Some.result.now
