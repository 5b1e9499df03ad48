-- A run as a picture: a lane for each task, a column for each event (this project's own).
use Rattle.std.specs.Prelude.{ℕ, ◌+◌, Bool, List, ◌∷◌, [], ◌++◌, length, take, drop, codes, Option}
use Rattle.sts_code.specs.Program.{Program}
use Rattle.sts_model.specs.declared.event.End.{End}
use Rattle.sts_model.specs.declared.event.Event.{Event}
use Rattle.sts_plain.specs.declared.misstep.PlainState.{PlainState}
use Rattle.sts_plain.specs.declared.misstep.PlainState.TheVariants as plain
use Rattle.sts_plain.specs.Seen.{shown}
use Rattle.sts_output.specs.Output.{Output, state_status}
use Rattle.sts_output.specs.Printed.{state_line, steps_line}
use Rattle.look_lines.specs.Form.{Form, IsShownOf, plain_form}
use Rattle.look_lines.specs.Views.{applied}
use Rattle.look_lines.specs.Watched.{Watched, watched}
use Rattle.look_run.specs.States.{end_words}
use Rattle.look_tell.specs.Story.{Story, after_events, world_of}
use Rattle.look_drawing.specs.declared.marks.Mark.{Mark}
use Rattle.look_drawing.specs.declared.window.Drawn.{Drawn}
use Rattle.look_drawing.specs.Column.{first_column, maybe_column, one_more}
use Rattle.look_drawing.specs.Frame.{backdrop, foot, head}
use Rattle.look_drawing.specs.Legend.{keys}
use Rattle.look_drawing.specs.Windows.{left_out, shown_events}
use Rattle.look_drawing.specs.Writing.{escaped_line}
use Rattle.look_options.specs.declared.pictures.DrawOptions.{DrawOptions}
use Rattle.look_picture.specs.declared.title.FileNames.{FileNames}
use Rattle.look_picture.specs.LaneNames.{lane_names}
use Rattle.look_picture.specs.Title.{title_words}
use Rattle.look_picture.specs.Told.{event_words}

-- the columns of these events, after n columns and if those events came before
abbrev pub columns_from : List ℕ → Bool → Program → ℕ → List Event → List Event → List ℕ
columns_from text brief p n done [] = []
columns_from text brief p n done (e ∷ es) =
    maybe_column text (event_words text brief (length done + 1) (after_events p done) e)
    (watched p done) (watched p (done ++ e ∷ [])) brief n (applied p done e)
    ++ columns_from text brief p
    (one_more (event_words text brief (length done + 1) (after_events p done) e) n)
    (done ++ e ∷ []) es

-- the number of columns after them
abbrev pub count_from : List ℕ → Bool → Program → ℕ → List Event → List Event → ℕ
count_from text brief p n done [] = n
count_from text brief p n done (e ∷ es) =
    count_from text brief p
    (one_more (event_words text brief (length done + 1) (after_events p done) e) n)
    (done ++ e ∷ []) es

-- the column before the first event, and one after each that has words; the first events are skipped
abbrev pub columns : List ℕ → Bool → Program → ℕ → List Event → List ℕ
columns text brief p skipped events =
    first_column text (watched p (take skipped events))
    ++ columns_from text brief p 0 (take skipped events) (drop skipped events)

-- how many events have a column
abbrev pub count : List ℕ → Bool → Program → ℕ → List Event → ℕ
count text brief p skipped events =
    count_from text brief p 0 (take skipped events) (drop skipped events)

-- ---- what stands round them

-- the end of a run, with the name of its value or code
abbrev pub end_line : List ℕ → End → List ℕ
end_line text end = escaped_line (end_words text end)

-- the state of the run
abbrev pub run_line : List ℕ → Program → PlainState → List ℕ
run_line text p (plain.Ended end) = end_line text end
run_line text p state = state_line p state

-- the files, the state of the run, the steps that it took, and which events are left out
abbrev pub heading : Option FileNames → List ℕ → Watched → Drawn → List ℕ
heading files text m d =
    title_words files
    ++ (run_line text m.program (shown m.state) ++ (codes " " ++ (steps_line m.steps ++ left_out d)))

-- the names of the lanes, and the legend
abbrev pub below : List ℕ → Story → List Mark → List ℕ
below text s keys =
    lane_names text s (world_of s).tasks 0 ++ foot (length (world_of s).tasks) keys

-- these many columns under this heading, between the grid and the legend with these keys
abbrev pub framed_under : List ℕ → List ℕ → Story → Bool → ℕ → List ℕ → List Mark → List ℕ
framed_under heading text s brief n columns keys =
    head heading s.watched brief n (length keys)
    ++ (backdrop heading s.watched brief n ++ (columns ++ below text s keys))

-- these many columns under the heading, with these keys in the legend
abbrev pub framed_with
    : Option FileNames → List ℕ → Story → Drawn → Bool → ℕ → List ℕ → List Mark → List ℕ
framed_with files text s d brief n columns keys =
    framed_under (heading files text s.watched d) text s brief n columns keys

-- these many columns in their frame; the legend has the marks that they have
abbrev pub framed : Option FileNames → List ℕ → Story → Drawn → Bool → ℕ → List ℕ → List ℕ
framed files text s d brief n columns = framed_with files text s d brief n columns (keys columns)

unfoldable pub picture
    : Option FileNames → List ℕ → Bool → Program → Drawn → List Event → List ℕ
picture files text brief p d events =
    framed files text (after_events p events) d brief (count text brief p d.before events)
    (columns text brief p d.before events)

-- the status of the state of a story's run: 0 if the root succeeded, 1 if it failed, otherwise 5
abbrev pub status_of : Story → ℕ
status_of s = state_status (shown s.watched.state)

-- these many columns in their frame, and the status
abbrev pub sheet_output
    : Option FileNames → List ℕ → Story → Drawn → Bool → ℕ → List ℕ → Output
sheet_output files text s d brief n columns = record {
  bytes = framed files text s d brief n columns;
  status = status_of s;
}

-- the picture of a run of these events, with the lines and the names of the text
abbrev pub drawn_output
    : Option FileNames → List ℕ → Bool → Program → Drawn → List Event → Output
drawn_output files text brief p d events = record {
  bytes = picture files text brief p d events;
  status = status_of (after_events p events);
}

-- the picture of a run up to the last event that is shown
abbrev pub picture_output
    : Option FileNames → List ℕ → DrawOptions → Program → List Event → Output
picture_output files text o p events =
    drawn_output files text o.brief p (shown_events o.window (length events))
    (take (shown_events o.window (length events)).last events)

abbrev pub picture_form : Option FileNames → List ℕ → DrawOptions → Form
picture_form files text o = plain_form (λ p events. picture_output files text o p events)

-- what `look draw` prints for a text and a trace, which may be files, or that memory ran out
abbrev pub IsPictureOf : DrawOptions → Option FileNames → List ℕ → List ℕ → Output → Type 0
IsPictureOf o files text trace output = IsShownOf (picture_form files text o) text trace output
