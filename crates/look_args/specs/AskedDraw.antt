-- Which events `draw` is asked for (this project's own).
use Rattle.std.specs.Prelude.{ℕ, Bool, List, ◌==◌, ◌&&◌, nat_le, drop, slice_index, Option, Some}
use Rattle.std.specs.Prelude.{None, if◌then◌else◌, codes, option_map, option_and_then}
use Rattle.std.specs.List.{after_first, before_first}
use Rattle.clap.specs.Words.{Text, Row, first_of}
use Rattle.look_options.specs.declared.pictures.Window.{Window}
use Rattle.look_options.specs.declared.pictures.DrawOptions.{DrawOptions}
use Rattle.look_args.specs.AskedEnds.{is_true, number}

abbrev pub is_dot : ℕ → Bool
is_dot b = b == 46

-- the number after one more dot
abbrev pub last_of : Text → Option ℕ
last_of text = if is_dot (slice_index text 0) then number (drop 1 text) else None

-- the events from a first to a last number, if the first is at least 1 and not above the last
abbrev pub ordered : ℕ → ℕ → Option Window
ordered first last =
    if nat_le 1 first && nat_le first last then Some (record { first = first; last = last })
    else None

-- the events that `A..B` names, by the digits before and after the two dots
abbrev pub window_of : Text → Option Window
window_of text =
    option_and_then (λ first. option_and_then (λ last. ordered first last)
    (last_of (after_first is_dot text))) (number (before_first is_dot text))

-- the window of the option, if the option is given
abbrev pub window_by : Option Text → Option (Option Window)
window_by None = Some None
window_by (Some text) = option_map Some (window_of text)

abbrev pub window_at : List Row → Option (Option Window)
window_at rows = window_by (first_of (codes "events") rows)

-- the options of `draw`, if the window is one
abbrev pub draw_at : List Row → Option DrawOptions
draw_at rows =
    option_map (λ window. record {
      window = window;
      brief = is_true (first_of (codes "brief") rows);
    }) (window_at rows)
