use Rattle.std.proofs.Common.{◌≡◌, ◌++◌, drop}
use Rattle.std.specs.String.{string_bytes}
use Rattle.look_lines.specs.Lines as def
use Rattle.look_lines.proofs.tasks.key_words.Given as goal

-- what is written, and the words of the rest
abbrev pub invariant-loop-k : goal.invariant-loop-k
invariant-loop-k g l = string_bytes l.out ++ def.key_words (g.N.Naming.names l.naming) l.records l.t (drop l.k-index l.keys) ≡ string_bytes l.fn.out ++ def.key_words (g.N.Naming.names l.naming) l.records l.t l.keys
