-- The forms in which the ends of a text are shown (this project's own).
use Rattle.std.specs.Prelude.{◌≡◌, ℕ, List, Bool, Option, Result, Err}
use Rattle.sts_code.specs.Program.{Program}
use Rattle.sts_asm.specs.declared.fault.AsmError.{AsmError}
use Rattle.sts_output.specs.Output.{Output}
use Rattle.ends_plain.specs.declared.config.Found.{Found}
use Rattle.ends_plain.specs.declared.config.Setting.{Setting}
use Rattle.look_calls.specs.declared.found.CallEnd.{CallEnd}

pub record EndsForm : Type 0 where
  -- The bytes for a search: by the text, what was searched, whether the program is refused, and the
  -- number of the end that is asked for. Then come the ends, how many states were found, and whether
  -- these are all schedules. Last come the states of a search by calls that found no other end.
  pub of_search : List ℕ → Setting → Bool → Option ℕ → List Found → ℕ → Bool → Option ℕ → List ℕ
  -- The bytes for random schedules: by the text, the program, how many schedules there were, and
  -- their seed. Then come the number of the end that is asked for, the ends, and how often each came.
  -- Last comes how many schedules came to none.
  pub of_sample : List ℕ → Program → ℕ → ℕ → Option ℕ → List Found → List ℕ → ℕ → List ℕ
  -- The bytes for the ends of calls: by the text, the program, whether it is refused, and the number
  -- of the end that is asked for. Then come the ends, how many states were found, and whether the
  -- search stopped.
  pub of_calls : List ℕ → Program → Bool → Option ℕ → List CallEnd → ℕ → Bool → List ℕ
  -- the output for a fault of the text
  pub of_text_fault : AsmError → List ℕ → Output

-- the output for the fault of a text that was read
pub record IsFaultIn (form : EndsForm) (read : Result Program AsmError) (text : List ℕ)
    (output : Output) : Type 0 where
  pub error : AsmError
  pub fault : read ≡ Err error
  pub printed : output ≡ form.of_text_fault error text
