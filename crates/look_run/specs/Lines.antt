-- The lines that say the state of a run after a trace, with the lines and the names of its text
-- (this project's own).
use Rattle.std.specs.Prelude.{ℕ, ◌+◌, ◌-◌, List, [], ◌∷◌, ◌++◌, if◌then◌else◌}
use Rattle.std.specs.Prelude.{Option, Some, None, codes, length, map, slice_get}
use Rattle.std.specs.Fmt.{decimal}
use Rattle.sts_text.specs.Words.{lines}
use Rattle.sts_code.specs.Program.{Program}
use Rattle.sts_model.specs.declared.event.Fault.{Fault}
use Rattle.sts_model.specs.declared.event.Stand.{Stand}
use Rattle.sts_model.specs.declared.event.Stand.TheVariants.{Free, AtJoin, AtClose}
use Rattle.sts_model.specs.declared.record.Task.{Task}
use Rattle.sts_model.specs.Living.{is_living_subtask, lives}
use Rattle.sts_model.specs.Waiting.{can_step, stand_at}
use Rattle.sts_model.specs.World.{World, task_at}
use Rattle.sts_output.specs.Shown.{shown_byte}
use Rattle.sts_plain.specs.declared.misstep.PlainState.{PlainState}
use Rattle.sts_plain.specs.declared.misstep.PlainState.TheVariants as plain
use Rattle.sts_trace.specs.declared.error.TraceError.{TraceError}
use Rattle.sts_trace.specs.declared.error.TraceError.TheVariants as trace
use Rattle.look_refusal.specs.Sentences.{remedy_sentence}
use Rattle.look_run.specs.Remedies.{remedy}
use Rattle.look_run.specs.Sentences.{trace_sentence}
use Rattle.look_run.specs.States.{state_line, task_place}

-- ---- the state

-- what to do about a fault of a living task
abbrev pub remedy_line : Program → World → Fault → ℕ → List ℕ
remedy_line p w kind t =
    if lives (task_at w t) then remedy_sentence (remedy p w t kind) ++ codes "\n" else []

-- what to do about the fault of a run, if it has one
abbrev pub remedy_part : Program → World → PlainState → List ℕ
remedy_part p w (plain.Fault kind t f pc) = remedy_line p w kind t
remedy_part p w state = []

-- the state of the run, and what to do about its fault, if this is the world before it
abbrev pub state_lines : List ℕ → Program → World → PlainState → List ℕ
state_lines text p w state = state_line text p state ++ remedy_part p w state

-- ---- who waits where

-- the task's number, if it is a living subtask of the scope
abbrev pub subtask_word : World → ℕ → ℕ → List ℕ
subtask_word w s t = if is_living_subtask s (task_at w t) then codes " " ++ decimal t else []

-- the living subtasks of the scope among these tasks, numbered from t on
abbrev pub subtask_words : World → ℕ → List Task → ℕ → List ℕ
subtask_words w s [] t = []
subtask_words w s (x ∷ xs) t = subtask_word w s t ++ subtask_words w s xs (t + 1)

-- `waits at join of scope 0 for 1 3`
abbrev pub wait_for : World → List ℕ → ℕ → List ℕ
wait_for w word s =
    codes "waits at " ++ word ++ codes " of scope " ++ decimal s ++ codes " for"
    ++ subtask_words w s w.tasks 0

-- what a task that can't step waits for; a task at no scope can step
abbrev pub wait_words : World → Stand → List ℕ
wait_words w Free = []
wait_words w (AtJoin s) = wait_for w (codes "join") s
wait_words w (AtClose s) = wait_for w (codes "close") s

-- the state of a living task
abbrev pub life_words : Program → World → ℕ → List ℕ
life_words p w t = if can_step p w t then codes "ready" else wait_words w (stand_at p w t)

-- `task 0 in main, line 12: join s0 - - intr (waits at join of scope 0 for 1 3)`
abbrev pub task_line : List ℕ → Program → World → ℕ → List ℕ
task_line text p w t =
    task_place text p t (task_at w t).frame.function (task_at w t).frame.pc ++ codes " ("
    ++ life_words p w t ++ codes ")\n"

-- a line for a task that lives
abbrev pub living_line : List ℕ → Program → World → ℕ → List ℕ
living_line text p w t = if lives (task_at w t) then task_line text p w t else []

-- the lines of the living tasks among these, numbered from t on
abbrev pub living_lines : List ℕ → Program → World → List Task → ℕ → List ℕ
living_lines text p w [] t = []
living_lines text p w (x ∷ xs) t = living_line text p w t ++ living_lines text p w xs (t + 1)

-- ---- a fault of a trace

abbrev pub trace_number : TraceError → ℕ
trace_number (trace.BadLine n) = 1
trace_number (trace.BadNumber n) = 2
trace_number trace.NoNewline = 3
trace_number trace.Memory = 4

-- the number of the line of a fault; bytes after the last newline are the last line
abbrev pub line_number : List ℕ → TraceError → ℕ
line_number text (trace.BadLine n) = n
line_number text (trace.BadNumber n) = n
line_number text trace.NoNewline = length (lines text)
line_number text trace.Memory = 0

abbrev pub shown_line : Option (List ℕ) → List ℕ
shown_line None = []
shown_line (Some line) = map shown_byte line

-- `error T1, line 2: "stp 0"`, and what is wrong
abbrev pub trace_fault_lines : List ℕ → TraceError → List ℕ
trace_fault_lines text e =
    codes "error T" ++ decimal (trace_number e) ++ codes ", line " ++ decimal (line_number text e)
    ++ codes ": \"" ++ shown_line (slice_get (lines text) (line_number text e - 1)) ++ codes "\"\n"
    ++ trace_sentence e ++ codes "\n"
