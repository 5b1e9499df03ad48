use Rattle.std.proofs.Common.{◌≡◌, ◌++◌, drop}
use Rattle.std.specs.String.{string_bytes}
use Rattle.look_lines.specs.Lines as def
use Rattle.look_lines.proofs.scopes.scope_lines.Given as goal

-- what is written, and the lines of the rest
abbrev pub invariant-loop-s : goal.invariant-loop-s
invariant-loop-s g l = string_bytes l.out ++ def.scope_lines (g.N.Naming.names l.naming) l.wanted l.records (drop l.s l.records.scopes) l.s ≡ string_bytes l.fn.out ++ def.scope_lines (g.N.Naming.names l.naming) l.wanted l.records l.records.scopes 0
