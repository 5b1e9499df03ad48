use Rattle.std.proofs.Common.{◌<◌, ◌∙◌, length, sym, arith, inr}
use Rattle.std.proofs.lemmas.List.{get_or_default}
use Rattle.std.proofs.lemmas.Result.{IfOk-weaker}
use Rattle.ends_search.specs.Search.{states_of}
use Rattle.ends_search.proofs.search.is_at.Goals as goal

pub returns : goal.returns
returns g c =
    let s = c.args.space.now in
    let other = c.in_ok-other.other in
    let states = states_of (g.S.StateMachine.next c.args.setting.now) s.first s.origins.items in
    let within : c.args.place < length states = omega (arith, c.requires.within, c.requires.space.searched.traced.as_many) in
    IfOk-weaker c.is_like.result _ _
    (λ r alike same. record {
      other = other;
      there = (c.args.place, within, get_or_default states c.args.place other s.first within ∙ sym c.in_ok-other.ensures);
      same = inr (alike same);
    })
    c.is_like.ensures
