use Rattle.std.proofs.Common.{◌-◌, arith, refl}
use Rattle.look_refusal.proofs.Backwards.{out_step}
use Rattle.look_refusal.proofs.walk.back_out.Goals as goal

pub back_to-end-requires-clause-fits : goal.back_to-end-requires-clause-fits
back_to-end-requires-clause-fits c = omega (arith, c.requires.fits)

pub returns : goal.returns
returns c = out_step c.args.search.now c.requires.ready c.args.trail.now c.requires.trail (c.args.around.turns - 1) c.args.around
    c.args.turn c.back_to-end.result c.back.result c.back_to.result c.args.shares.now c.back_to-end.new.shares c.back.new.shares
    c.back_to.new.shares c.requires.around c.requires.begins c.requires.spot refl c.back_to-end.ensures.step c.back.ensures
    c.back_to.ensures.step c.back_to.ensures.parts
