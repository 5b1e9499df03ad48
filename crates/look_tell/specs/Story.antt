-- A story of a run: the machine, and the arguments that each task was forked with (this project's
-- own).
use Rattle.std.specs.Prelude.{ℕ, ◌-◌, ℤ, List, [], ◌∷◌, ◌++◌, length, drop, reverse, Bool, false}
use Rattle.std.specs.Prelude.{◌&&◌, not, fold, Option, Some, None, if◌then◌else◌, slice_index_or}
use Rattle.sts_code.specs.Program.{Program, routine}
use Rattle.sts_code.specs.declared.instr.Instr.{Instr}
use Rattle.sts_code.specs.declared.instr.Instr.TheVariants.{Fork}
use Rattle.sts_model.specs.declared.event.Event.{Event}
use Rattle.sts_model.specs.declared.event.Event.TheVariants as event
use Rattle.sts_model.specs.declared.record.Frame.{Frame}
use Rattle.sts_model.specs.Living.{lives}
use Rattle.sts_model.specs.Run.{counts}
use Rattle.sts_model.specs.World.{World, instr_at, task_at}
use Rattle.look_lines.specs.Watched.{Watched, after_event, watched}

pub record Story : Type 0 where
  pub watched : Watched
  -- the arguments of each task that was ever born, by birth number
  pub given : List (List ℤ)
  -- no further event has lines
  pub stopped : Bool

-- before the first event: `main` has no arguments
abbrev pub begun : Program → Story
begun p = record { watched = watched p []; given = [] ∷ []; stopped = false }

abbrev pub world_of : Story → World
world_of s = s.watched.last

abbrev pub program_of : Story → Program
program_of s = s.watched.program

-- where a task is
abbrev pub function_of : Story → ℕ → ℕ
function_of s t = (task_at (world_of s) t).frame.function

abbrev pub pc_of : Story → ℕ → ℕ
pc_of s t = (task_at (world_of s) t).frame.pc

-- the arguments that a task was forked with
abbrev pub given_to : Story → ℕ → List ℤ
given_to s t = slice_index_or s.given t []

-- ---- one event more

-- the topmost operands, the top last, as many as the function takes
abbrev pub fork_arguments : Program → Frame → ℕ → List ℤ
fork_arguments p f g = drop (length f.operands - (routine p g).args) (reverse f.operands)

-- the arguments of the task that an instruction forks, if it forks one
abbrev pub arguments_at : Program → Frame → Option Instr → Option (List ℤ)
arguments_at p f (Some (Fork s g h)) = Some (fork_arguments p f g)
arguments_at p f _ = None

-- those of the task that an event forks
abbrev pub arguments_by : Program → World → Event → Option (List ℤ)
arguments_by p w (event.Step t) =
    if lives (task_at w t)
    then arguments_at p (task_at w t).frame (instr_at p (task_at w t).frame) else None
arguments_by p w _ = None

abbrev pub with_arguments : List (List ℤ) → Option (List ℤ) → List (List ℤ)
with_arguments given None = given
with_arguments given (Some args) = given ++ args ∷ []

abbrev pub is_idle : Story → Event → Bool
is_idle s e = not (counts s.watched.program s.watched.state e)

-- after one event more; a strict story stops at an idle event
abbrev pub one_more : Bool → Story → Event → Story
one_more strict s e = record {
  watched = after_event s.watched e;
  given = with_arguments s.given (arguments_by (program_of s) (world_of s) e);
  stopped = strict && is_idle s e;
}

-- a story that has stopped doesn't go on
unfoldable pub next : Bool → Story → Event → Story
next strict s e = if s.stopped then s else one_more strict s e

-- the story after these events, whether each counts or not
abbrev pub after_events : Program → List Event → Story
after_events p events = fold (next false) (begun p) events
