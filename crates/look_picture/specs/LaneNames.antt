-- The names of the lanes (this project's own).
use Rattle.std.specs.Prelude.{ℕ, ◌+◌, List, ◌∷◌, [], ◌++◌, Option, codes}
use Rattle.std.specs.Fmt.{decimal}
use Rattle.sts_model.specs.declared.record.Task.{Task}
use Rattle.sts_model.specs.World.{task_at}
use Rattle.look_lines.specs.Lines.{under_words}
use Rattle.look_tell.specs.Story.{Story, world_of}
use Rattle.look_tell.specs.Words.{called_words}
use Rattle.look_drawing.specs.declared.writing.Room.{Room}
use Rattle.look_drawing.specs.Place.{lane}
use Rattle.look_drawing.specs.Writing.{fitted_text, text_end, text_start}

-- `task T under S`
abbrev pub task_name : ℕ → Option ℕ → List ℕ
task_name t scope =
    text_start (codes "name") 196 (lane t)
    ++ (codes "task " ++ decimal t ++ codes " under " ++ (under_words scope ++ text_end))

-- the room to the left of the lanes
abbrev pub call_room : Room
call_room = record { letters = 31; size = 10 }

-- its function and the arguments that it was forked with, below
abbrev pub call_name : List ℕ → Story → ℕ → List ℕ
call_name text s t =
    fitted_text (codes "code") 196 (lane t + 13) (called_words text s t) call_room

abbrev pub lane_name : List ℕ → Story → ℕ → List ℕ
lane_name text s t = task_name t (task_at (world_of s) t).scope ++ call_name text s t

-- the names of these tasks' lanes, numbered from t on
abbrev pub lane_names : List ℕ → Story → List Task → ℕ → List ℕ
lane_names text s [] t = []
lane_names text s (task ∷ tasks) t = lane_name text s t ++ lane_names text s tasks (t + 1)
