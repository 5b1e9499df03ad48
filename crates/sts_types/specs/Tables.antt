-- Tables of the loops of a function's code (this project's own).
use Rattle.std.specs.Prelude.{◌≡◌, ℕ, ◌<◌, List, length, true, if◌then◌else◌, Option, None}
use Rattle.std.specs.Prelude.{slice_get, slice_index_or}
use Rattle.sts_code.specs.declared.instr.Instr.{Instr}
use Rattle.sts_code.specs.Loops.{match_of, is_times}
use Rattle.sts_rules.specs.Around.{around}
use Rattle.sts_code.specs.Program.{instr_at}

-- for each place the match of a `times` there, and the innermost loop around it
pub record Tables : Type 0 where
  pub ends : List (Option ℕ)
  pub heads : List (Option ℕ)

-- the innermost loop around a place
abbrev pub head : List Instr → ℕ → Option ℕ
head code pc = slice_get (around code pc) 0

-- the match of a `times` at p, if there is one
abbrev pub end_at : List Instr → ℕ → Option ℕ
end_at code p = if is_times (instr_at code p) then match_of code p else None

-- the tables are those of this code
pub record AreTablesOf (code : List Instr) (t : Tables) : Type 0 where
  pub ends_long : length t.ends ≡ length code
  pub heads_long : length t.heads ≡ length code
  pub ends : (p : ℕ) → p < length code → is_times (instr_at code p) ≡ true
      → slice_index_or t.ends p None ≡ match_of code p
  pub heads : (q : ℕ) → q < length code → slice_index_or t.heads q None ≡ head code q
