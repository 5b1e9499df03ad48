-- What is said of a value, a function, a place and a run, with the lines and the names of a text
-- (this project's own).
use Rattle.std.specs.Prelude.{ℕ, ◌-◌, Bool, List, ◌++◌, codes, not, ◌&&◌, if◌then◌else◌}
use Rattle.std.specs.Fmt.{decimal}
use Rattle.sts_code.specs.Program.{Program}
use Rattle.sts_model.specs.declared.event.End.{End}
use Rattle.sts_model.specs.declared.event.End.TheVariants.{Success, Failed}
use Rattle.sts_model.specs.declared.event.Fault.{Fault}
use Rattle.sts_model.specs.declared.record.Task.{Task}
use Rattle.sts_model.specs.Living.{lives}
use Rattle.sts_output.specs.Printed.{ended, fault_word}
use Rattle.sts_plain.specs.declared.misstep.PlainState.{PlainState}
use Rattle.sts_plain.specs.declared.misstep.PlainState.TheVariants as plain
use Rattle.look_lines.specs.Naming.{Naming}
use Rattle.look_names.specs.Words.{function_words, place_words, value_words}

-- ---- the line of a place

-- `, line 12`, which is that of the instruction at the place
abbrev pub at_line : List ℕ → ℕ → ℕ → List ℕ
at_line text f pc = codes ", " ++ place_words text f pc

-- `, after line 12`, which is that of the instruction before the place
abbrev pub after_line : List ℕ → ℕ → ℕ → List ℕ
after_line text f pc = codes ", after " ++ place_words text f (pc - 1)

-- was the task started, and has it ended?
abbrev pub has_ended : Task → Bool
has_ended task = task.started && not (lives task)

-- the line of the next instruction of a task; after its end that of its last one
abbrev pub task_at_line : List ℕ → Task → List ℕ
task_at_line text task =
    if has_ended task then after_line text task.frame.function task.frame.pc
    else at_line text task.frame.function task.frame.pc

-- ---- the state of a run

abbrev pub end_line : List ℕ → End → List ℕ
end_line text (Success v) = ended (codes "success " ++ value_words text v)
end_line text (Failed c) = ended (codes "failed " ++ value_words text c)

-- `fault KIND task T in NAME at PC, line 12`
abbrev pub fault_line : List ℕ → Program → Fault → ℕ → ℕ → ℕ → List ℕ
fault_line text p kind t f pc =
    ended (codes "fault " ++ fault_word kind ++ codes " task " ++ decimal t ++ codes " in "
    ++ function_words text p f ++ codes " at " ++ decimal pc ++ at_line text f pc)

-- the line that `sts plain` prints, with lines and names
abbrev pub state_line : List ℕ → Program → PlainState → List ℕ
state_line text p plain.Running = codes "running\n"
state_line text p (plain.Ended end) = end_line text end
state_line text p (plain.Fault kind t f pc) = fault_line text p kind t f pc

-- `look view` says it so
abbrev pub named : List ℕ → Naming
named text = record {
  value = value_words text;
  function = function_words text;
  place = task_at_line text;
  state = state_line text;
}
