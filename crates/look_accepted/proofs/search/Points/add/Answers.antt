use Rattle.std.proofs.Common.{◌≡◌, subst}
use Rattle.std.specs.List.{Contains}
use Rattle.look_accepted.specs.declared.point.Point.{Point}
use Rattle.look_accepted.proofs.Searching.{adds_none, adds_one}
use Rattle.look_accepted.proofs.search.Points.add.Goals as goal

pub returns-then-has : goal.returns-then-has
returns-then-has c = adds_none c.args.self.now.found.items (λ (y : Point). c.args.point ≡ y)
    (λ y same. subst (Contains c.args.self.now.found.items) same (c.has.ensures c.if-has.true))

pub returns : goal.returns
returns c = adds_one c.args.self.now.found.items c.push-2.new.self.items c.args.point c.in_ok-push-2.ensures.items
