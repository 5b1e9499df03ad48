use Rattle.std.proofs.Common.{◌≡◌, map, take}
use Rattle.laws_names.specs.Names.{named_entry}
use Rattle.ends_plain.specs.Named.{names_of}
use Rattle.ends_plain.proofs.names.same_entries.Given as goal

abbrev pub invariant-loop-i : goal.invariant-loop-i
invariant-loop-i l = take l.i l.theirs ≡ map (named_entry (names_of l.names)) (take l.i l.ours)
