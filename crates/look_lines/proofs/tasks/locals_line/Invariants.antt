use Rattle.std.proofs.Common.{◌≡◌, ◌++◌, drop, codes}
use Rattle.std.specs.String.{string_bytes}
use Rattle.look_lines.specs.Lines as def
use Rattle.look_lines.proofs.tasks.locals_line.Given as goal

-- what is written, and the words of the rest
abbrev pub invariant-loop-x : goal.invariant-loop-x
invariant-loop-x g l = string_bytes l.out ++ def.local_words (g.N.Naming.names l.naming) (drop l.x l.locals) l.x ≡ string_bytes l.fn.out ++ (codes "  locals" ++ def.local_words (g.N.Naming.names l.naming) l.locals 0)
