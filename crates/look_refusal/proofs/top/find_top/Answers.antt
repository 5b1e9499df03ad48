use Rattle.std.proofs.Common.{◌+◌, length, inl, refl, ap, sym, subst, arith}
use Rattle.look_refusal.specs.Top.{AreFulls}
use Rattle.look_refusal.proofs.Fulls.{fulls_more, full_wide}
use Rattle.look_refusal.proofs.top.find_top.Goals as goal

pub loop-pc-init : goal.loop-pc-init
loop-pc-init c = (
  (ap length c.new-fulls.ensures.items, λ pc lt. absurd (omega arith)),
  record
      { none_more = λ pc lt m. absurd (omega arith); there = inl refl },
)

pub returns-in-None : goal.returns-in-None
returns-in-None c = full_wide c.args.search.now c.requires.ready c.args.trail.now c.requires.trail c.loop-pc.pc (omega arith) (c.in-None.ensures {u = tt})

pub loop-pc-preserved : goal.loop-pc-preserved
loop-pc-preserved c = (
  subst (AreFulls c.args.search.now c.args.trail.now (c.loop-pc.pc + 1)) (sym (c.in_ok-push-in-Some.ensures {u = tt}).items) (fulls_more
      c.args.search.now c.args.trail.now c.loop-pc.pc c.in-Some.full c.loop-pc.fulls.items c.loop-pc.invariant.0
      (c.in-Some.ensures {u = tt})),
  c.higher-top.ensures,
)
