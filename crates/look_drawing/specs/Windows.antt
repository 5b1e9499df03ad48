-- Which events of a trace a picture shows (this project's own).
use Rattle.std.specs.Prelude.{ℕ, ◌+◌, ◌-◌, ◌==◌, min, if◌then◌else◌, List, [], ◌++◌, codes}
use Rattle.std.specs.Prelude.{Option, Some, None}
use Rattle.std.specs.Fmt.{decimal}
use Rattle.look_drawing.specs.declared.window.Drawn.{Drawn}
use Rattle.look_options.specs.declared.pictures.Window.{Window}
use Rattle.look_drawing.specs.declared.window.TheConstants.{MOST_COLUMNS}

-- the last ones of this many events, or those of a window that are there; a run is drawn up to the
-- last of them
abbrev pub shown_events : Option Window → ℕ → Drawn
shown_events None n = record { before = n - MOST_COLUMNS; last = n; all = n }
shown_events (Some window) n = record {
  before = min (window.first - 1) (min window.last n);
  last = min window.last n;
  all = n;
}

-- one event is left out
unfoldable pub one_left_out : ℕ → List ℕ
one_left_out n = codes " (event " ++ (decimal n ++ codes " left out)\n")

-- the events from one number to another are left out
unfoldable pub some_left_out : ℕ → ℕ → List ℕ
some_left_out first last =
    codes " (events " ++ (decimal first ++ (codes " to " ++ (decimal last ++ codes " left out)\n")))

abbrev pub left_out_words : ℕ → ℕ → List ℕ
left_out_words first last = if first == last then one_left_out first else some_left_out first last

abbrev pub earlier_words : ℕ → List ℕ
earlier_words before = if before == 0 then [] else left_out_words 1 before

abbrev pub later_words : ℕ → ℕ → List ℕ
later_words last all = if last == all then [] else left_out_words (last + 1) all

-- which events are left out, if any are
abbrev pub left_out : Drawn → List ℕ
left_out d = earlier_words d.before ++ later_words d.last d.all
