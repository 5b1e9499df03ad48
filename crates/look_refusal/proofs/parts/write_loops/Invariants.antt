use Rattle.std.proofs.Common.{◌≡◌, ◌++◌, string_bytes, drop, take}
use Rattle.std.specs.List.{flat_map, AllByRecursion}
use Rattle.look_refusal.specs.Differences as def
use Rattle.look_refusal.specs.Reading.{IsHeldLoop}
use Rattle.look_refusal.proofs.parts.write_loops.Given as goal

abbrev pub invariant-loop-n : goal.invariant-loop-n
invariant-loop-n l = record {
  words : string_bytes l.out ++ flat_map def.loop_words (drop l.n l.loops) ≡ string_bytes l.fn.out ++ flat_map def.loop_words l.loops;
  held : AllByRecursion IsHeldLoop (take l.n l.loops);
}
