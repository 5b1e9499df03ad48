use Rattle.std.specs.Prelude.{is_none}
use Rattle.std.proofs.Common.{not, true, refl, rules, ◌≡◌, ◌<◌, length, arith}
use Rattle.sts_world.specs.Chains.{link_at}
use Rattle.sts_world.proofs.Chaining.{same_front, both_none, read_link}
use Rattle.sts_world.proofs.chains.BindingChains.same_bindings.Goals as goal

twice : not (not true) ≡ true
twice = refl

-- the links that are compared
links : (c : goal.Else-ne)
    → (c.index.result.now ≡ link_at c.self.inside.links.items c.in-Some.place)
    × (c.index-in-Some.result.now ≡ link_at c.other.inside.links.items c.in-Some-at_there.place_there)
links c =
    let bound : c.in-Some.place < length c.self.inside.links.items = omega (arith, c.loop-at.invariant.within) in
    let bound_there : c.in-Some-at_there.place_there < length c.other.inside.links.items = omega (arith, c.loop-at.invariant.within_there) in (
      read_link c.self.inside.links.items c.in-Some.place _ bound c.index.ensures,
      read_link c.other.inside.links.items c.in-Some-at_there.place_there _ bound_there c.index-in-Some.ensures,
    )

pub loop-at-preserved : goal.loop-at-preserved
loop-at-preserved c =
    let l = links c in
    let bounds : c.index.result.now.bound ≡ c.index-in-Some.result.now.bound = search rules in
    record {
      within = omega arith;
      within_there = omega arith;
      rest = λ h. c.loop-at.invariant.rest (same_front c.self.inside.links.items c.other.inside.links.items c.loop-at.younger
          c.loop-at.younger_there c.in-Some.place c.in-Some-at_there.place_there c.loop-at.at c.loop-at.at_there c.index.result.now
          c.index-in-Some.result.now c.in-Some.is c.in-Some-at_there.is (omega arith) (omega arith) l.0 l.1 bounds h);
    }

pub returns : goal.returns
returns c e =
    rw (← c.self.view_is, ← c.other.view_is) (c.loop-at.invariant.rest (both_none c.self.inside.links.items c.other.inside.links.items
    c.loop-at.younger c.loop-at.younger_there c.loop-at.at c.loop-at.at_there c.in_default.is
    (let none : is_none c.loop-at.at_there ≡ true = rw (c.is_none.ensures, e) twice in none)))
