-- A joiner's counters are enough to answer (this project's own).
use Rattle.std.specs.Prelude.{◌≡◌, ℕ, ◌+◌, List, [], ◌∷◌, ◌++◌, length}
use Rattle.sts_code.specs.declared.instr.Joiner.{Joiner}
use Rattle.sts_model.specs.declared.event.End.{End}
use Rattle.sts_model.specs.Joining.{cancels, result_of}
use Rattle.sts_model.specs.Told.{told, tell, result_told, cancels_told}

-- a joiner's counters for these ends: one more end updates them, they count all ends, and they give
-- the answer of `join` and whether the scope is cancelled
pub record IsEnough (joiner : Joiner) (ends : List End) (end : End) (subtasks : ℕ) : Type 0 where
  pub more : told joiner (ends ++ end ∷ []) ≡ tell joiner (told joiner ends) end
  pub count : (told joiner ends).successes + (told joiner ends).failures ≡ length ends
  pub result : result_of joiner ends subtasks ≡ result_told joiner (told joiner ends) subtasks
  pub cancels : cancels joiner ends ≡ cancels_told joiner (told joiner ends)
