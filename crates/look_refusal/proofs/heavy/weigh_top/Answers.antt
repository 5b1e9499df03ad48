use Rattle.std.proofs.Common.{◌≤◌, ◌+◌, inl, inr, arith}
use Rattle.sts_budget.specs.Change.{own_of}
use Rattle.look_refusal.proofs.Most.{top_most, top_heavy}
use Rattle.look_refusal.proofs.heavy.weigh_top.Goals as goal

pub returns-in_ok-weigh-in-Some : goal.returns-in_ok-weigh-in-Some
returns-in_ok-weigh-in-Some c =
    let s = c.args.search.now in
    let h = c.in_ok-weigh-in-Some.field-0 in
    let ensured = c.in_ok-weigh-in-Some.ensures {u = tt} in
    let weight : own_of s.resource + c.args.top.most ≤ h.weight = omega (arith, ensured.weight, c.in-Some.ensures) in
    record {
      weighed = ensured.weighed;
      most = top_most s c.args.trail.now c.args.top.place c.args.top.most h.weight c.requires.top c.requires.trail c.requires.ready weight;
    }

pub returns-in-None : goal.returns-in-None
returns-in-None c =
    let s = c.args.search.now in
    let t = c.args.trail.now in
    let top = c.args.top in
    elim c.in-None.ensures [
      | inl light ↦ inl (top_most s t top.place top.most _ c.requires.top c.requires.trail c.requires.ready light)
      | inr over ↦ inr (top_heavy s t top.place top.most c.requires.top c.requires.trail c.requires.ready c.requires.lie over)
    ]
