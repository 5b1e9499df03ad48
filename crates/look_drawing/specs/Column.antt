-- What the column of an event shows (this project's own).
use Rattle.std.specs.Prelude.{ℕ, ◌+◌, ◌==◌, Bool, true, false, if◌then◌else◌, List, [], ◌++◌, length, codes}
use Rattle.std.specs.Fmt.{decimal}
use Rattle.sts_code.specs.Program.{Program}
use Rattle.sts_model.specs.declared.event.Event.{Event}
use Rattle.sts_model.specs.declared.event.Event.TheVariants as event
use Rattle.sts_model.specs.World.{World}
use Rattle.sts_plain.specs.declared.misstep.PlainState.{PlainState}
use Rattle.sts_plain.specs.declared.misstep.PlainState.TheVariants as plain
use Rattle.sts_plain.specs.Seen.{shown}
use Rattle.sts_output.specs.Printed.{state_line}
use Rattle.look_lines.specs.Watched.{Watched}
use Rattle.look_lines.specs.declared.watch.Applied.{Applied}
use Rattle.look_drawing.specs.declared.marks.Mark.TheVariants as mark
use Rattle.look_drawing.specs.declared.writing.Room.{Room}
use Rattle.look_drawing.specs.Brackets.{scope_cells}
use Rattle.look_drawing.specs.Lanes.{task_cells}
use Rattle.look_drawing.specs.Place.{column, lane, number_line}
use Rattle.look_drawing.specs.Words.{next_word, step_word}
use Rattle.look_drawing.specs.Writing.{fitted_start, mark_at}

-- all cells of a world in a column, with the changes since the column before
abbrev pub cells : List ℕ → Program → World → World → ℕ → List ℕ
cells text p before w x =
    task_cells text p before w x w.tasks 0 ++ scope_cells before w x w.scopes 0

-- a step of this task that was a fault
abbrev pub fault_mark : Watched → ℕ → ℕ → List ℕ
fault_mark m x t = mark_at mark.Fault x (lane t) (state_line m.program (shown m.state))

-- the cells of a column; a fault is drawn alone, in its own column, and nothing is drawn after it
abbrev pub standing : List ℕ → Watched → Watched → ℕ → Bool → PlainState → List ℕ
standing text before m x is_counted (plain.Fault kind t f pc) =
    if is_counted then fault_mark m x t else []
standing text before m x is_counted _ = cells text m.program before.last m.last x

-- the dot of a step in its task's lane, with these words
abbrev pub step_dot : List ℕ → ℕ → ℕ → List ℕ
step_dot words x t = mark_at mark.Step x (lane t) words

-- the dot, and the word of the step's instruction
unfoldable pub step_mark : List ℕ → Watched → ℕ → ℕ → List ℕ
step_mark words before x t =
    step_dot words x t ++ step_word x t (next_word before.program before.last t)

-- a step that counts
abbrev pub stepped : List ℕ → Watched → ℕ → Event → Bool → List ℕ
stepped words before x (event.Step t) true = step_mark words before x t
stepped words before x _ _ = []

-- the words of an event, then its number
abbrev pub number_words : List ℕ → List ℕ → List ℕ
number_words words digits =
    codes "<title>" ++ words ++ codes "</title>" ++ digits ++ codes "</text>\n"

-- the room for a number above its column
abbrev pub number_room : Room
number_room = record { letters = 3; size = 10 }

-- the digits of an event's number above the lanes
abbrev pub digits_text : List ℕ → Bool → ℕ → List ℕ → List ℕ
digits_text words brief at digits =
    fitted_start (codes "number") (column brief at) (number_line brief at + 4) (length digits)
    number_room
    ++ number_words words digits

-- the event's number above the lanes
abbrev pub number : List ℕ → Bool → ℕ → ℕ → List ℕ
number words brief at n = digits_text words brief at (decimal n)

-- a stroke through the number of an event that doesn't count
abbrev pub idle_mark : List ℕ → Bool → ℕ → Bool → List ℕ
idle_mark words brief at is_counted =
    if is_counted then []
    else mark_at mark.Idle (column brief at) (number_line brief at) words

-- the number, with its stroke
unfoldable pub event_number : List ℕ → Bool → ℕ → Applied → List ℕ
event_number words brief at a =
    number words brief at a.number ++ idle_mark words brief at a.is_counted

-- an event with these words in this column, from what was seen before it and what is seen after it
abbrev pub event_column : List ℕ → List ℕ → Watched → Watched → Bool → ℕ → Applied → List ℕ
event_column text words before m brief at a =
    event_number words brief at a
    ++ (standing text before m (column brief at) a.is_counted (shown m.state)
    ++ stepped words before (column brief at) a.event a.is_counted)

-- an event after these many columns, unless it has no words
abbrev pub maybe_column : List ℕ → List ℕ → Watched → Watched → Bool → ℕ → Applied → List ℕ
maybe_column text words before m brief n a =
    if length words == 0 then [] else event_column text words before m brief (n + 1) a

-- the number of columns then
abbrev pub one_more : List ℕ → ℕ → ℕ
one_more words n = if length words == 0 then n else n + 1

-- the column before the first event that has one; nothing changed there
abbrev pub first_column : List ℕ → Watched → List ℕ
first_column text m = standing text m m (column false 0) false (shown m.state)
