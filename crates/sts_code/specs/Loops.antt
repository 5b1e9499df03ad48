-- The ends of the loops of a function's code (this project's own).
use Rattle.std.specs.Prelude.{ℕ, ◌+◌, ◌-◌, List, length, Bool, true, false, Option, Some, None}
use Rattle.std.specs.Prelude.{◌==◌, slice_range, count_by, find}
use Rattle.std.specs.List.{range_with_len}
use Rattle.sts_code.specs.declared.instr.Instr.{Instr}
use Rattle.sts_code.specs.declared.instr.Instr.TheVariants.{Times, Next}

abbrev pub is_times : Instr → Bool
is_times (Times n) = true
is_times _ = false

abbrev pub is_next : Instr → Bool
is_next Next = true
is_next _ = false

-- does it have the same number of `next` as of `times`?
abbrev pub is_balanced : List Instr → Bool
is_balanced is = count_by is_next is == count_by is_times is

-- the match of the `times` at p: the least q past it such that p to q are balanced
abbrev pub match_of : List Instr → ℕ → Option ℕ
match_of code p =
    find (λ q. is_balanced (slice_range code p (q + 1))) (range_with_len (p + 1)
    (length code - (p + 1)))

-- is it there, and this?
abbrev pub is_at : Option ℕ → ℕ → Bool
is_at None q = false
is_at (Some m) q = m == q
