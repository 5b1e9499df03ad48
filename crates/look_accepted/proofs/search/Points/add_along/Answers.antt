use Rattle.std.proofs.Common.{◌≡◌, ℕ, List, [], get_or, take, sym, subst}
use Rattle.std.proofs.lemmas.List.{take_more, take_all}
use Rattle.look_accepted.specs.declared.point.Point.{Point}
use Rattle.look_accepted.specs.Points.{IsAlong, Adds}
use Rattle.look_accepted.proofs.Searching.{adds_none, adds_along}
use Rattle.look_accepted.proofs.search.Points.add_along.Goals as goal

pub loop-to-init : goal.loop-to-init
loop-to-init c = adds_none c.args.self.now.found.items (IsAlong c.args.typing.now c.args.instr c.args.point []) (λ y k. absurd k.1.0)

pub along-requires-clause-to : goal.along-requires-clause-to
along-requires-clause-to c = c.requires.next c.loop-to.to-index 0 c.loop-to-test.true

pub loop-to-preserved : goal.loop-to-preserved
loop-to-preserved c =
    let places : List ℕ = c.args.places.now in
    let i = c.loop-to.to-index in
    let old = c.args.self.now.found.items in
    let new = c.add.new.self.found.items in
    subst (λ (xs : List ℕ). Adds old (IsAlong c.args.typing.now c.args.instr c.args.point xs) new) (sym (take_more places i 0 c.loop-to-test.true))
    (adds_along c.args.typing.now c.args.instr c.args.point (take i places) (get_or places i 0) c.loop-to.invariant
    (subst (λ (x : Point). Adds c.loop-to.self.found.items (λ y. x ≡ y) new) c.along.ensures c.in_ok-add.ensures))

pub returns : goal.returns
returns c = subst (λ (xs : List ℕ). Adds c.args.self.now.found.items (IsAlong c.args.typing.now c.args.instr c.args.point xs) c.loop-to.self.found.items)
    (take_all c.loop-to.to-index c.args.places.now c.loop-to-test.false) c.loop-to.invariant
