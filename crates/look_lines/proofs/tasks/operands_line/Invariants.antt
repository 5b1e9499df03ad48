use Rattle.std.proofs.Common.{◌≡◌, ◌++◌, drop, codes}
use Rattle.std.specs.List.{flat_map}
use Rattle.std.specs.String.{string_bytes}
use Rattle.look_lines.specs.Lines as def
use Rattle.look_lines.proofs.tasks.operands_line.Given as goal

-- what is written, and the words of the rest
abbrev pub invariant-loop-value : goal.invariant-loop-value
invariant-loop-value g l =
    let words = def.operand_words (g.N.Naming.names l.naming) in
    string_bytes l.out ++ flat_map words (drop l.value-index l.operands) ≡ string_bytes l.fn.out ++ (codes "  operands" ++ flat_map words l.operands)
