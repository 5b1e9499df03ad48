use Rattle.std.proofs.Common.{rules, ◌<◌, length}
use Rattle.sts_model.proofs.ListLemmas.{within_array}
use Rattle.sts_model.proofs.stack.Stack.set_last.Goals as goal

pub offset_bounds-as_mut_slice-last : goal.offset_bounds-as_mut_slice-last
offset_bounds-as_mut_slice-last g c =
    let within : c.args.last < length c.as_mut_slice.result.now =
    within_array c.self.inside.values.items _ _ _ c.self.view_is c.as_mut_slice.ensures.value c.requires in
    search rules

pub bounds-as_mut_slice-last : goal.bounds-as_mut_slice-last
bounds-as_mut_slice-last g c =
    within_array c.self.inside.values.items _ _ _ c.self.view_is c.as_mut_slice.ensures.value c.requires
