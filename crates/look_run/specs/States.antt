-- The state of a run, with the lines and the names of a text (this project's own).
use Rattle.std.specs.Prelude.{ℕ, List, ◌++◌, codes}
use Rattle.std.specs.Fmt.{decimal}
use Rattle.sts_code.specs.Program.{Program}
use Rattle.sts_model.specs.declared.event.End.{End}
use Rattle.sts_model.specs.declared.event.End.TheVariants.{Success, Failed}
use Rattle.sts_model.specs.declared.event.Fault.{Fault}
use Rattle.sts_output.specs.Printed.{fault_word}
use Rattle.sts_plain.specs.declared.misstep.PlainState.{PlainState}
use Rattle.sts_plain.specs.declared.misstep.PlainState.TheVariants as plain
use Rattle.look_names.specs.Words.{function_words, said_words, value_words}

-- `task 1 in kid, line 3: close s0`, the last words as they are in the text
abbrev pub task_place : List ℕ → Program → ℕ → ℕ → ℕ → List ℕ
task_place text p t f pc =
    codes "task " ++ decimal t ++ codes " in " ++ function_words text p f ++ codes ", "
    ++ said_words text f pc

-- `success V` or `failed C`
abbrev pub end_words : List ℕ → End → List ℕ
end_words text (Success v) = codes "success " ++ value_words text v
end_words text (Failed c) = codes "failed " ++ value_words text c

abbrev pub end_line : List ℕ → End → List ℕ
end_line text end = end_words text end ++ codes "\n"

-- `fault Structure, task 1 in kid, line 3: close s0`
abbrev pub fault_line : List ℕ → Program → Fault → ℕ → ℕ → ℕ → List ℕ
fault_line text p kind t f pc =
    codes "fault " ++ fault_word kind ++ codes ", " ++ task_place text p t f pc ++ codes "\n"

-- `running`, `success V`, `failed C` or a fault
abbrev pub state_line : List ℕ → Program → PlainState → List ℕ
state_line text p plain.Running = codes "running\n"
state_line text p (plain.Ended end) = end_line text end
state_line text p (plain.Fault kind t f pc) = fault_line text p kind t f pc
