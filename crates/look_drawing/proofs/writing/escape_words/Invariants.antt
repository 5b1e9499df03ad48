use Rattle.std.proofs.Common.{◌≡◌, ◌++◌}
use Rattle.std.specs.List.{flat_map}
use Rattle.std.specs.String.{string_bytes}
use Rattle.look_drawing.specs.Writing.{escaped_char}
use Rattle.look_drawing.proofs.writing.escape_words.Given as goal

-- those so far
abbrev pub invariant-loop-c : goal.invariant-loop-c
invariant-loop-c l = string_bytes l.out ≡ string_bytes l.fn.out ++ flat_map escaped_char l.yielded
