use Rattle.look_ends_json.proofs.ends.sampled_end.Goals as goal

pub returns : goal.returns
returns c = c.with_member.ensures _ _ c.found_end-value.ensures c.value_of-count.ensures
