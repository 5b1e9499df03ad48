use Rattle.sts_types.proofs.Stacks.{within_array, one_more}
use Rattle.sts_types.proofs.same.above.Goals as goal

pub bounds-as_slice-below : goal.bounds-as_slice-below
bounds-as_slice-below g c = within_array c.as_slice.result.now c.args.stack.now c.as_slice.ensures c.args.below c.requires

pub returns : goal.returns
returns g c = one_more c.as_slice.result.now c.args.stack.now c.as_slice.ensures c.args.below c.requires c.index-as_slice-below.result c.index-as_slice-below.is
