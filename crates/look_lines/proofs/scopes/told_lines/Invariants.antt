use Rattle.std.proofs.Common.{◌≡◌, ◌++◌, drop}
use Rattle.std.specs.String.{string_bytes}
use Rattle.look_lines.specs.Lines as def
use Rattle.look_lines.proofs.scopes.told_lines.Given as goal

-- what is written, and the lines of the rest
abbrev pub invariant-loop-told : goal.invariant-loop-told
invariant-loop-told g l = string_bytes l.out ++ def.told_lines (g.N.Naming.names l.naming) (drop l.told-index l.completions) ≡ string_bytes l.fn.out ++ def.told_lines (g.N.Naming.names l.naming) l.completions
