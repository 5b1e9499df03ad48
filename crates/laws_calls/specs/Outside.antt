-- What may come to a task from outside (this project's own): interrupts, and a cancel of its scope.
use Rattle.std.specs.Prelude.{ℕ, Bool, false, ◌||◌, nat_lt, if◌then◌else◌}
pub use Rattle.laws_calls.specs.declared.table.Outside.{Outside}

-- interrupts alone
abbrev pub only_interrupts : ℕ → Outside
only_interrupts n = record { interrupts = n; cancels = false }

-- what a birth of a task or of a scope counts: only a table that allows cancels counts births
abbrev pub per_birth : Outside → ℕ
per_birth outside = if outside.cancels then 1 else 0

-- may the flag of a task be set?
abbrev pub may_flag : Outside → Bool
may_flag outside = outside.cancels || nat_lt 0 outside.interrupts
