-- What `look tell` prints for a text and a trace, and the status that goes with it (this project's
-- own).
use Rattle.std.specs.Prelude.{◌≡◌, ◌⊎◌, ℕ, ◌+◌, List, [], ◌∷◌, ◌++◌, take, fold, codes, Option}
use Rattle.std.specs.Prelude.{Some, None, Result, Ok, Err, if◌then◌else◌}
use Rattle.sts_code.specs.Program.{Program}
use Rattle.sts_model.specs.declared.event.End.{End}
use Rattle.sts_model.specs.declared.event.Event.{Event}
use Rattle.sts_model.specs.declared.record.Task.{Task}
use Rattle.sts_model.specs.Living.{lives}
use Rattle.sts_model.specs.Waiting.{can_step}
use Rattle.sts_model.specs.World.{task_at}
use Rattle.sts_asm.specs.Text.{judged}
use Rattle.sts_asm.specs.declared.fault.AsmError.{AsmError}
use Rattle.sts_plain.specs.Seen.{shown}
use Rattle.sts_trace.specs.Reading.{trace_read}
use Rattle.sts_trace.specs.declared.error.TraceError.{TraceError}
use Rattle.sts_output.specs.Output.{Output, memory_output, state_status}
use Rattle.look_lines.specs.Lines.{is_heard}
use Rattle.look_refusal.specs.Output.{fault_output}
use Rattle.look_run.specs.Output.{trace_fault_output}
use Rattle.look_options.specs.declared.stories.TellOptions.{TellOptions}
use Rattle.look_tell.specs.Line.{lines_from}
use Rattle.look_run.specs.States.{end_words}
use Rattle.look_tell.specs.Story.{Story, begun, next, program_of, world_of}
use Rattle.look_tell.specs.Words.{task_words}

-- ---- the end of each task

-- the end of a task that doesn't live, and whether the joiner of its scope was told
abbrev pub outcome_words : List ℕ → Story → ℕ → Option End → List ℕ
outcome_words text s t None = codes "never starts"
outcome_words text s t (Some end) =
    end_words text end
    ++ (if is_heard (world_of s) t (task_at (world_of s) t).scope then [] else codes ", not told")

abbrev pub life_words : List ℕ → Story → ℕ → List ℕ
life_words text s t =
    if lives (task_at (world_of s) t)
    then (if can_step (program_of s) (world_of s) t then codes "ready" else codes "waits")
    else outcome_words text s t (task_at (world_of s) t).outcome

-- `task 2, handle(1): success 1`
abbrev pub end_line : List ℕ → Story → ℕ → List ℕ
end_line text s t = task_words text s t ++ codes ": " ++ life_words text s t ++ codes "\n"

-- the lines of these tasks, numbered from t on
abbrev pub end_lines : List ℕ → Story → List Task → ℕ → List ℕ
end_lines text s [] t = []
end_lines text s (x ∷ xs) t = end_line text s t ++ end_lines text s xs (t + 1)

-- ---- all of it

-- the story after these events
abbrev pub story_after : TellOptions → Program → List Event → Story
story_after o p events = fold (next o.strict) (begun p) events

-- the lines of the events, from a story before them to one after them; a strict story ends with the
-- end of each task
abbrev pub told_lines : List ℕ → TellOptions → Story → Story → List Event → List ℕ
told_lines text o before after events =
    lines_from text o 1 before events
    ++ (if o.strict then end_lines text after (world_of after).tasks 0 else [])

abbrev pub story_lines : List ℕ → TellOptions → Program → List Event → List ℕ
story_lines text o p events = told_lines text o (begun p) (story_after o p events) events

-- 5 for a story that stopped, or else the status of the run's state: 0 if the root succeeded, 1 if
-- it failed, otherwise 5
abbrev pub story_status : Story → ℕ
story_status s = if s.stopped then 5 else state_status (shown s.watched.state)

-- the story of these events up to the last one that is asked for
abbrev pub story_output : List ℕ → TellOptions → Program → List Event → Output
story_output text o p events = record {
  bytes = story_lines text o p (take o.last events);
  status = story_status (story_after o p (take o.last events));
}

-- the output for the events that a trace spells, or for its first fault
abbrev pub traced_output
    : TellOptions → Program → List ℕ → List ℕ → Result (List Event) TraceError → Output
traced_output o p text trace (Ok events) = story_output text o p events
traced_output o p text trace (Err e) = trace_fault_output trace e

-- a fault of the text comes before one of the trace; no verdict is asked for
abbrev pub Tells : TellOptions → Result Program AsmError → List ℕ → List ℕ → Output → Type 0
Tells o (Ok p) text trace output = output ≡ traced_output o p text trace (trace_read trace)
Tells o (Err e) text trace output = output ≡ fault_output e text

-- the story of a run of a text, or that memory ran out
abbrev pub IsStoryOf : TellOptions → List ℕ → List ℕ → Output → Type 0
IsStoryOf o text trace output = Tells o (judged text) text trace output ⊎ (output ≡ memory_output)
