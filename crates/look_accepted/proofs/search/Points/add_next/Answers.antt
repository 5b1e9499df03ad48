use Rattle.std.proofs.Common.{◌≡◌, ◌<◌, ◌++◌, ◌∙◌, ℕ, List, length, Some, inl, inr, sym, subst}
use Rattle.std.specs.List.{All}
use Rattle.std.proofs.lemmas.Result.{on_ok_weaker}
use Rattle.sts_code.specs.Facts.{targets}
use Rattle.sts_rules.specs.Around.{next_place}
use Rattle.look_accepted.specs.declared.point.Point.{Point}
use Rattle.look_accepted.specs.Points.{IsAlong, Adds}
use Rattle.look_accepted.proofs.Searching.{adds_none, adds_both}
use Rattle.look_accepted.proofs.search.Points.add_next.Goals.{After-by_loop}
use Rattle.look_accepted.proofs.search.Points.add_next.Goals as goal

pub add_along-requires-clause-next : goal.add_along-requires-clause-next
add_along-requires-clause-next c =
    subst (All (λ to. to < length c.args.typing.now.states)) (sym (c.as_slice.ensures.value ∙ c.next_places-places.ensures)) c.requires.places

first : (c : After-by_loop) → Adds c.args.self.now.found.items (IsAlong c.args.typing.now c.args.instr c.args.point (targets c.args.instr ++ next_place c.args.point.pc c.args.instr)) c.add_along.new.self.found.items
first c = subst (λ (xs : List ℕ). Adds c.args.self.now.found.items (IsAlong c.args.typing.now c.args.instr c.args.point xs) c.add_along.new.self.found.items)
    (c.as_slice.ensures.value ∙ c.next_places-places.ensures) c.in_ok-add_along.ensures

pub returns-in-Some : goal.returns-in-Some
returns-in-Some c = on_ok_weaker c.add.result (λ g. adds_both (first (goal.at.returns-in-Some c).After-by_loop) g
    (λ y. elim [ inl a ↦ inl a | inr e ↦ inr (cc) ]) (λ y. elim [ inl a ↦ inl a | inr e ↦ inr (cc) ])) c.add.ensures

pub returns-in-None : goal.returns-in-None
returns-in-None c = adds_both (first (goal.at.returns-in-None c).After-by_loop) (adds_none _ (λ (y : Point). c.by_loop.result ≡ Some y) (λ y e. cc))
    (λ y. elim [ inl a ↦ inl a | inr e ↦ inr (cc) ])
    (λ y. elim [ inl a ↦ inl a | inr e ↦ inr (cc) ])
