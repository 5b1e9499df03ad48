use Rattle.std.proofs.Common.{◌≡◌, take, drop}
use Rattle.std.specs.List.{list_any}
use Rattle.std.specs.Str.{bytes_eq}
use Rattle.sts_asm.specs.Outline.{Draft}
use Rattle.look_text.specs.Failing.{is_earlier}
use Rattle.look_text.proofs.failing.is_earlier.Given as goal

-- no function so far has the name
abbrev pub invariant-loop-earlier : goal.invariant-loop-earlier
invariant-loop-earlier l = is_earlier l.outline l.function l.word ≡ list_any (λ (d : Draft). bytes_eq d.name l.word) (drop l.earlier (take l.function l.outline.done))
