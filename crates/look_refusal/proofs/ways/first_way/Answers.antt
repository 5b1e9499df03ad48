use Rattle.look_refusal.proofs.WayLemmas.{first_way, first_found}
use Rattle.look_refusal.proofs.ways.first_way.Goals as goal

pub returns-then-to-eq0 : goal.returns-then-to-eq0
returns-then-to-eq0 c = first_way c.args.program.now c.args.function c.args.to c.entry.result c.if-to-eq0.true c.entry.ensures

pub returns : goal.returns
returns c = first_found c.args.program.now c.args.function c.args.to c.find_way.result c.if-to-eq0.false c.find_way.ensures
