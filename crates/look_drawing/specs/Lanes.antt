-- The tasks in a column (this project's own).
use Rattle.std.specs.Prelude.{ℕ, ◌+◌, ℤ, Bool, true, false, not, ◌&&◌, if◌then◌else◌, List, ◌∷◌, [], ◌++◌, Option, Some, None, codes, length, nat_lt}
use Rattle.std.specs.Fmt.{decimal}
use Rattle.sts_code.specs.Program.{Program}
use Rattle.sts_model.specs.declared.event.End.{End}
use Rattle.sts_model.specs.declared.event.End.TheVariants.{Success, Failed}
use Rattle.sts_model.specs.declared.record.Task.{Task}
use Rattle.sts_model.specs.Living.{lives}
use Rattle.sts_model.specs.Waiting.{can_step}
use Rattle.sts_model.specs.World.{World, task_at, scope_at}
use Rattle.look_lines.specs.Lines.{is_heard, stand_words}
use Rattle.look_names.specs.Words.{value_words}
use Rattle.look_drawing.specs.declared.marks.Mark.{Mark}
use Rattle.look_drawing.specs.declared.marks.Mark.TheVariants as mark
use Rattle.look_drawing.specs.declared.writing.Room.{Room}
use Rattle.look_drawing.specs.Place.{lane, over_lane}
use Rattle.look_drawing.specs.Writing.{fitted_text, mark_at}

-- ---- how a task stands

-- a line while it lives
abbrev pub life_mark : Bool → Mark
life_mark true = mark.Ready
life_mark false = mark.Waits

-- a mark if it doesn't live any more, by its end and by whether the joiner was told of it
abbrev pub rest_mark : Bool → Option End → Mark
rest_mark is_heard None = mark.NeverStarted
rest_mark true (Some (Success v)) = mark.Success
rest_mark true (Some (Failed c)) = mark.Failed
rest_mark false (Some end) = mark.Unheard

-- was it born, and does it not live?
abbrev pub rests : World → ℕ → Bool
rests w t = nat_lt t (length w.tasks) && not (lives (task_at w t))

-- `task T`, and its state
abbrev pub told : Program → World → ℕ → List ℕ
told p w t = codes "task " ++ decimal t ++ stand_words p w t

-- the room to the right of the last column
abbrev pub value_room : Room
value_room = record { letters = 21; size = 11 }

-- a value or a code next to the mark of an end, with the name that the text gives it
abbrev pub named_value : List ℕ → ℕ → ℕ → ℤ → List ℕ
named_value text x t v =
    fitted_text (codes "value") (x + 22) (lane t + 4) (value_words text v) value_room

-- the value or the code that it ended with
abbrev pub value_text : List ℕ → ℕ → ℕ → Option End → List ℕ
value_text text x t None = []
value_text text x t (Some (Success v)) = named_value text x t v
value_text text x t (Some (Failed c)) = named_value text x t c

-- a mark of a task, described by its state
abbrev pub task_mark : Program → World → ℕ → ℕ → Mark → List ℕ
task_mark p w x t m = mark_at m x (lane t) (told p w t)

abbrev pub life : Program → World → ℕ → ℕ → List ℕ
life p w x t = task_mark p w x t (life_mark (can_step p w t))

abbrev pub rest : List ℕ → Program → World → ℕ → ℕ → List ℕ
rest text p w x t =
    task_mark p w x t (rest_mark (is_heard w t (task_at w t).scope) (task_at w t).outcome)
    ++ value_text text x t (task_at w t).outcome

-- a task that lives in this column, or that lived or wasn't born in the column before
abbrev pub stand : List ℕ → Program → World → World → ℕ → ℕ → List ℕ
stand text p before w x t =
    if lives (task_at w t) then life p w x t
    else (if rests before t then [] else rest text p w x t)

-- ---- what became of it

-- from one height to another
abbrev pub fork_path : ℕ → ℕ → ℕ → List ℕ
fork_path x from to =
    codes "<path class='fork' d='M" ++ decimal x ++ codes " " ++ decimal from
    ++ codes "V" ++ decimal to ++ codes "'/>\n"

-- from the lane of the task that forked it
abbrev pub fork_line : World → ℕ → ℕ → Option ℕ → List ℕ
fork_line w x t None = []
fork_line w x t (Some s) = fork_path x (lane (scope_at w s).owner) (lane t)

abbrev pub birth : World → World → ℕ → ℕ → List ℕ
birth before w x t =
    if nat_lt t (length before.tasks) then [] else fork_line w x t (task_at w t).scope

abbrev pub interrupted : World → World → ℕ → ℕ → List ℕ
interrupted before w x t =
    if (task_at w t).flag && not (task_at before t).flag
    then mark_at mark.Interrupted x (over_lane t)
    (codes "task " ++ decimal t ++ codes " interrupted")
    else []

abbrev pub task_cell : List ℕ → Program → World → World → ℕ → ℕ → List ℕ
task_cell text p before w x t =
    birth before w x t ++ (stand text p before w x t ++ interrupted before w x t)

-- the cells of these tasks, numbered from t on
abbrev pub task_cells : List ℕ → Program → World → World → ℕ → List Task → ℕ → List ℕ
task_cells text p before w x [] t = []
task_cells text p before w x (task ∷ tasks) t =
    task_cell text p before w x t ++ task_cells text p before w x tasks (t + 1)
