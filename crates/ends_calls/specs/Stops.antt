-- The states at which runs stop (this project's own).
use Rattle.std.specs.Prelude.{Option, IfSome}
use Rattle.ends_search.specs.Search.{IsWay}
use Rattle.ends_plain.specs.Configs.{next, can, start}
use Rattle.ends_plain.specs.Listed.{IsEndOf}
use Rattle.ends_plain.specs.declared.config.Setting.{Setting}
use Rattle.ends_calls.specs.declared.stop.Shared.{Shared}
use Rattle.ends_calls.specs.declared.stop.Stop.{Stop}
use Rattle.ends_calls.specs.declared.stop.Traced.{Traced}

-- its events lead from the first state to its state
abbrev pub IsStop : Setting → Stop → Type 0
IsStop g s = IsWay (next g) (can g) (start g) s.trace s.config

abbrev pub IsMarked : Setting → Option Shared → Type 0
IsMarked g shared = IfSome shared (λ (s : Shared). IsStop g s.stop)

-- the end is one of the program, and the beginning leads to its state
abbrev pub IsTraced : Setting → Traced → Type 0
IsTraced g t = IfSome t.found (IsEndOf g) × IsMarked g t.shared
