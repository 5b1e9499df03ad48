use Rattle.laws_names.specs.Names.{Names, named_entry}
use Rattle.ends_plain.specs.Named.{names_of}
use Rattle.ends_plain.proofs.NamedLemmas.{same_frame, stacks_named}
use Rattle.ends_plain.proofs.names.same_frames.Goals as goal

pub returns : goal.returns
returns c e =
    let n : Names = names_of c.args.names.now in
    same_frame n c.args.ours.now c.args.theirs.now c.if-ours-theirs.false c.if-ours-theirs-2.false
    (c.same_stacks.ensures c.if-not-same_stacks.false) (c.same_slices.ensures c.if-not-same_slices.false)
    (c.same_stacks-2.ensures c.if-not-same_stacks-2.false)
    (stacks_named (named_entry n) c.args.ours.now.entries c.args.theirs.now.entries c.as_slice.result.now c.as_slice-2.result.now
    c.as_slice.ensures c.as_slice-2.ensures (c.same_entries.ensures c.if-not-same_entries.false))
    (c.same_slots.ensures e)
