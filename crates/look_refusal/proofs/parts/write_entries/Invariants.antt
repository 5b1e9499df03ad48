use Rattle.std.proofs.Common.{◌≡◌, ◌++◌, string_bytes, drop, take}
use Rattle.std.specs.List.{flat_map, AllByRecursion}
use Rattle.look_refusal.specs.Differences as def
use Rattle.look_refusal.specs.Reading.{IsHeldEntry}
use Rattle.look_refusal.proofs.parts.write_entries.Given as goal

abbrev pub invariant-loop-n : goal.invariant-loop-n
invariant-loop-n l = record {
  words : string_bytes l.out ++ flat_map def.entry_words (drop l.n l.entries) ≡ string_bytes l.fn.out ++ flat_map def.entry_words l.entries;
  held : AllByRecursion IsHeldEntry (take l.n l.entries);
}
