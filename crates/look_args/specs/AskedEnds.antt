-- What `ends` is asked for, read off the words by `clap`'s own definitions (this project's own).
use Rattle.std.specs.Prelude.{ℕ, Bool, false, not, List, Option, Some, None, option_map, option_and_then}
use Rattle.std.specs.Prelude.{slice_get, codes, if◌then◌else◌, is_some, ◌||◌, ◌^◌, ◌-◌}
use Rattle.std.specs.Str.{bytes_eq}
use Rattle.clap.specs.Words.{Text, Row, all_of, first_of}
use Rattle.sts_text.specs.Number.{digits_up_to}
use Rattle.look_options.specs.declared.ends.Manner.{Manner}
use Rattle.look_options.specs.declared.ends.Manner.TheVariants.{All, Sample, Calls}
use Rattle.look_options.specs.declared.ends.EndsOptions.{EndsOptions}
use Rattle.look_options.specs.declared.ends.Limits.{Limits}
use Rattle.look_args.specs.declared.asked.AskedEnds.{AskedEnds}
use Rattle.look_args.specs.declared.asked.Kept.{Kept}
use Rattle.look_args.specs.declared.asked.TheConstants.{FIRST_SEED}

-- the number of an end and the name of a file
abbrev pub KeptWords : Type 0
KeptWords = ℕ × Text

abbrev pub kept_words : Kept → KeptWords
kept_words k = (k.number, k.file.now)

-- which ends, the one whose trace is kept, and whether they are printed as lines of JSON
pub record SaidEnds : Type 0 where
  pub wanted : EndsOptions
  pub kept : Option KeptWords
  pub json : Bool

abbrev pub said_ends : AskedEnds → SaidEnds
said_ends a =
    record { wanted = a.wanted; kept = option_map kept_words a.kept; json = a.json }

-- ---- what the options say

abbrev pub most_of_a_number : ℕ
most_of_a_number = 2 ^ 32 - 1

abbrev pub number : Text → Option ℕ
number text = digits_up_to most_of_a_number text

abbrev pub number_or : ℕ → Option Text → Option ℕ
number_or otherwise None = Some otherwise
number_or otherwise (Some text) = number text

-- the number of an option, or another one if the option isn't given
abbrev pub number_at : Text → ℕ → List Row → Option ℕ
number_at id otherwise rows = number_or otherwise (first_of id rows)

-- the number of an option, if the option is given
abbrev pub maybe_number : Option Text → Option (Option ℕ)
maybe_number None = Some None
maybe_number (Some text) = option_map Some (number text)

-- when a search stops
abbrev pub limits_at : List Row → Option Limits
limits_at rows =
    option_and_then (λ states. option_map (λ seconds. record { states = states; seconds = seconds })
    (maybe_number (first_of (codes "seconds") rows))) (maybe_number (first_of (codes "most") rows))

-- all schedules, or this number of random ones
abbrev pub manner_by : Limits → ℕ → Option Text → Option Manner
manner_by limits seed None = Some (All limits)
manner_by limits seed (Some text) = option_map (λ n. Sample n seed) (number text)

abbrev pub manner_at : List Row → Option Manner
manner_at rows =
    option_and_then (λ limits. option_and_then (λ seed. manner_by limits seed (first_of (codes "sample") rows))
    (number_at (codes "seed") FIRST_SEED rows)) (limits_at rows)

-- an option without a value is given as `true`
abbrev pub is_true : Option Text → Bool
is_true None = false
is_true (Some text) = bytes_eq text (codes "true")

-- is an option given that `--calls` doesn't go with?
abbrev pub is_beside_calls : List Row → Bool
is_beside_calls rows =
    is_some (first_of (codes "sample") rows)
    || (is_some (first_of (codes "seed") rows) || is_some (first_of (codes "seconds") rows))

abbrev pub calls_at : List Row → Option Manner
calls_at rows =
    if is_beside_calls rows then None
    else option_map (λ n. Calls n) (maybe_number (first_of (codes "most") rows))

-- the calls if they are asked for, or the schedules
abbrev pub calls_or_manner_at : List Row → Option Manner
calls_or_manner_at rows =
    if is_true (first_of (codes "calls") rows) then calls_at rows else manner_at rows

abbrev pub ends_wanted_by : List Row → ℕ → Manner → EndsOptions
ends_wanted_by rows n manner = record {
  expiries = not (is_true (first_of (codes "no-expiries") rows));
  interrupts = n;
  manner = manner;
}

abbrev pub ends_wanted_at : List Row → Option EndsOptions
ends_wanted_at rows =
    option_and_then (λ n. option_map (λ m. ends_wanted_by rows n m) (calls_or_manner_at rows))
    (number_at (codes "interrupts") 0 rows)

-- a number, then a file
abbrev pub kept_of : List Text → Option KeptWords
kept_of words =
    option_and_then (λ n. option_map (λ file. (n, file)) (slice_get words 1))
    (option_and_then number (slice_get words 0))

abbrev pub kept_at : Option (List Text) → Option (Option KeptWords)
kept_at None = Some None
kept_at (Some words) = option_map Some (kept_of words)

abbrev pub ends_by : List Row → EndsOptions → Option KeptWords → SaidEnds
ends_by rows wanted kept =
    record { wanted = wanted; kept = kept; json = is_true (first_of (codes "json") rows) }

abbrev pub ends_at : List Row → Option SaidEnds
ends_at rows =
    option_and_then (λ w. option_map (ends_by rows w) (kept_at (all_of (codes "trace") rows)))
    (ends_wanted_at rows)
