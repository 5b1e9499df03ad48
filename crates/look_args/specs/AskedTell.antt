-- Which events `tell` is asked for (this project's own).
use Rattle.std.specs.Prelude.{ℕ, List, Option, option_and_then, option_map, codes}
use Rattle.clap.specs.Words.{Row, first_of}
use Rattle.look_options.specs.declared.stories.TellOptions.{TellOptions}
use Rattle.look_args.specs.declared.asked.AskedTell.{AskedTell}
use Rattle.look_args.specs.declared.asked.TheConstants.{FIRST_EVENT, LAST_EVENT}
use Rattle.look_args.specs.AskedEnds.{is_true, number_at}

-- the options with this first and this last event
abbrev pub tell_by : List Row → ℕ → ℕ → TellOptions
tell_by rows first last = record {
  each = is_true (first_of (codes "each") rows);
  strict = is_true (first_of (codes "strict") rows);
  first = first;
  last = last;
}

abbrev pub tell_wanted_at : List Row → Option TellOptions
tell_wanted_at rows =
    option_and_then (λ first. option_map (λ last. tell_by rows first last)
    (number_at (codes "TO") LAST_EVENT rows)) (number_at (codes "FROM") FIRST_EVENT rows)

-- as lines of JSON or not
abbrev pub told_by : List Row → TellOptions → AskedTell
told_by rows wanted = record { wanted = wanted; json = is_true (first_of (codes "json") rows) }

abbrev pub tell_at : List Row → Option AskedTell
tell_at rows = option_map (told_by rows) (tell_wanted_at rows)
