-- What a slot of a task holds, under local names (this project's own). An open scope goes by its
-- place among the open scopes of the task, the outermost first. A subtask goes by its place among
-- those of its scope, in fork order.
use Rattle.std.specs.Prelude.{ℕ, Bool, false, ◌==◌}
pub use Rattle.laws_calls.specs.declared.table.Held.{Held}
pub use Rattle.laws_calls.specs.declared.table.Held.TheVariants.{Empty, Lent, Own, Sub}

-- is it the scope at this place, or a subtask of it?
abbrev pub is_at : ℕ → Held → Bool
is_at n (Own place) = place == n
is_at n (Sub place part) = place == n
is_at n _ = false
