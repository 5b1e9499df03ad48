-- The words for a task, for the place that it is at, and for a list of tasks (this project's own).
use Rattle.std.specs.Prelude.{ℕ, ℤ, List, [], ◌∷◌, ◌++◌, codes, Bool, if◌then◌else◌}
use Rattle.std.specs.Fmt.{decimal}
use Rattle.sts_code.specs.Program.{Program}
use Rattle.sts_model.specs.Living.{is_living_subtask}
use Rattle.sts_model.specs.World.{task_at}
use Rattle.sts_world.specs.Kept.{births}
use Rattle.sts_world.specs.Lines as counted
use Rattle.look_names.specs.Words.{arguments_words, function_words, said_words, value_words}
use Rattle.look_tell.specs.Story.{Story, function_of, given_to, pc_of, program_of, world_of}

-- a value, a function, and the instruction at a place, with the names that the text gives them
unfoldable pub shown_value : List ℕ → ℤ → List ℕ
shown_value text v = value_words text v

unfoldable pub shown_function : List ℕ → Program → ℕ → List ℕ
shown_function text p f = function_words text p f

unfoldable pub shown_sentence : List ℕ → ℕ → ℕ → List ℕ
shown_sentence text f pc = said_words text f pc

-- `handle(1)`
unfoldable pub called_words : List ℕ → Story → ℕ → List ℕ
called_words text s t =
    shown_function text (program_of s) (function_of s t) ++ arguments_words text (given_to s t)

-- `task 2, handle(1)`
unfoldable pub task_words : List ℕ → Story → ℕ → List ℕ
task_words text s t =
    codes "task " ++ decimal t ++ codes ", " ++ called_words text s t

-- `task 2, handle(1), line 5: ret`
unfoldable pub place_words : List ℕ → Story → ℕ → List ℕ
place_words text s t =
    task_words text s t ++ codes ", "
    ++ shown_sentence text (function_of s t) (pc_of s t)

-- a task that lives, with these words before it
abbrev pub living_word : List ℕ → Story → Bool → List ℕ → ℕ → List ℕ
living_word text s lives lead t = if lives then lead ++ task_words text s t else []

-- the words before the next one that lives
abbrev pub next_lead : Bool → List ℕ → List ℕ
next_lead lives lead = if lives then codes " and " else lead

-- the living ones of these tasks, if they are subtasks of the scope, with ` and ` between them, and
-- with these words before the first
abbrev pub living_among : List ℕ → Story → ℕ → List ℕ → List ℕ → List ℕ
living_among text s scope lead [] = []
living_among text s scope lead (t ∷ ts) =
    living_word text s (is_living_subtask scope (task_at (world_of s) t)) lead t
    ++ living_among text s scope
    (next_lead (is_living_subtask scope (task_at (world_of s) t)) lead) ts

-- the living subtasks of the scope, in the order of their births; nothing if none lives
unfoldable pub living_words : List ℕ → Story → List ℕ → ℕ → List ℕ
living_words text s lead scope =
    living_among text s scope lead (births scope (counted.lines (world_of s)).tasks)
