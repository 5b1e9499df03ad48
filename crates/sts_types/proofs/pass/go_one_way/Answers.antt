use Rattle.sts_types.proofs.Arriving.{arrive_only}
use Rattle.sts_types.proofs.pass.go_one_way.Goals as goal

pub returns : goal.returns
returns c = arrive_only _ _ _ c.requires.one c.in_ok-arrive_along.ensures.table
