use Rattle.std.proofs.Common.{◌≡◌, [], length, refl, subst, arith}
use Rattle.look_refusal.specs.Leads.{AreNoted}
use Rattle.look_refusal.proofs.Noting.{noted_none, noted_end}
use Rattle.look_refusal.proofs.leads.find_leads.Goals as goal

pub loop-from-init : goal.loop-from-init
loop-from-init c = noted_none c.args.search.now (length c.args.search.now.code.now) c.in_ok-lists.lists.items c.in_ok-lists.ensures refl

pub returns : goal.returns
returns c =
    let all : c.loop-from.from ≡ length c.args.search.now.code.now = omega arith in
    noted_end c.args.search.now c.requires c.loop-from.lists.items
    (subst (λ k. AreNoted c.args.search.now k [] c.loop-from.lists.items) all c.loop-from.invariant)
