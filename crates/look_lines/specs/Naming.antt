-- What the lines of a state say of a value, a function, a place and a run (this project's own).
use Rattle.std.specs.Prelude.{ℕ, ℤ, List, []}
use Rattle.std.specs.Fmt.{signed_decimal}
use Rattle.sts_code.specs.Program.{Program, routine}
use Rattle.sts_model.specs.declared.record.Task.{Task}
use Rattle.sts_output.specs.Printed.{state_line}
use Rattle.sts_plain.specs.declared.misstep.PlainState.{PlainState}

pub record Naming : Type 0 where
  pub value : ℤ → List ℕ
  pub function : Program → ℕ → List ℕ
  -- after the number of a task's place
  pub place : Task → List ℕ
  -- the line of a run's state
  pub state : Program → PlainState → List ℕ

-- with numbers, the names in the program, and no lines of a text
abbrev pub plain : Naming
plain = record {
  value = signed_decimal;
  function = λ p f. (routine p f).name;
  place = λ task. [];
  state = state_line;
}
