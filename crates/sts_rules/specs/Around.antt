-- The places that an instruction may lead to, and the loops around a place (this project's own).
use Rattle.std.specs.Prelude.{ℕ, ◌+◌, List, [], ◌∷◌, Bool, false, ◌&&◌, Option, Some}
use Rattle.std.specs.Prelude.{None, nat_le, reverse, filter, drop, option_map, option_to_list}
use Rattle.std.specs.Prelude.{if◌then◌else◌}
use Rattle.std.specs.List.{range_with_len}
use Rattle.sts_code.specs.Facts.{falls_through}
use Rattle.sts_code.specs.Program.{instr_at}
use Rattle.sts_code.specs.declared.instr.Instr.{Instr}
use Rattle.sts_code.specs.declared.instr.Instr.TheVariants.{Times, Next}
use Rattle.sts_code.specs.Loops.{match_of, is_times}

abbrev pub next_place : ℕ → Instr → List ℕ
next_place pc i = if falls_through i then (pc + 1) ∷ [] else []

-- the place after a `times` that makes no turn
abbrev pub skipped_to : List Instr → ℕ → Instr → List ℕ
skipped_to code pc (Times n) = option_to_list (option_map (λ q. q + 1) (match_of code pc))
skipped_to code pc _ = []

-- ---- loops around a place

abbrev pub reaches_to : ℕ → Option ℕ → Bool
reaches_to pc None = false
reaches_to pc (Some q) = nat_le pc q

-- is the place inside the loop of a `times` at p, up to the match of that `times`?
abbrev pub is_inside : List Instr → ℕ → ℕ → Bool
is_inside code pc p = is_times (instr_at code p) && reaches_to pc (match_of code p)

-- the loops around a place, the innermost first: each `times` before it, unless its match is before
-- it too; a `times` without match is around no place
abbrev pub around : List Instr → ℕ → List ℕ
around code pc = filter (is_inside code pc) (reverse (range_with_len 0 pc))

-- the `times` of the loops that are open after falling through
abbrev pub open_after : ℕ → Instr → List ℕ → List ℕ
open_after pc (Times n) heads = pc ∷ heads
open_after pc Next heads = drop 1 heads
open_after pc _ heads = heads
