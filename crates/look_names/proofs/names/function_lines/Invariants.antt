use Rattle.std.proofs.Common.{◌≡◌, ◌++◌, drop, map}
use Rattle.std.specs.Prelude.{filter}
use Rattle.look_names.specs.Marked.{begins_function}
use Rattle.look_names.proofs.names.function_lines.Given as goal

-- those so far, and those of the rest
abbrev pub invariant-loop-line : goal.invariant-loop-line
invariant-loop-line l = map (λ x. x.now) l.found.items ++ filter begins_function (map (λ x. x.now) (drop l.line-index l.text_lines)) ≡ filter begins_function (map (λ x. x.now) l.text_lines)
