use Rattle.std.proofs.Common.{◌≡◌, ◌++◌, drop, map}
use Rattle.std.specs.Prelude.{option_map}
use Rattle.look_names.specs.Marked.{name_in}
use Rattle.look_names.proofs.names.line_names.Given as goal

-- the names so far, and those of the rest
abbrev pub invariant-loop-line : goal.invariant-loop-line
invariant-loop-line l = map (λ x. option_map (λ s. s.now) x) l.names.items ++ map name_in (map (λ x. x.now) (drop l.line-index l.text_lines)) ≡ map name_in (map (λ x. x.now) l.text_lines)
