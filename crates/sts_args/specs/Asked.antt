-- The request of a command line, read by `clap`'s own definitions (this project's own).
use Rattle.std.specs.Prelude.{◌≡◌, ◌==◌, ◌<◌, ◌≤◌, ℕ, List, [], ◌∷◌, length, filter_map, Option}
use Rattle.std.specs.Prelude.{Some, None, IsSomeAnd, option_map, option_and_then}
use Rattle.std.specs.Prelude.{Bool, if◌then◌else◌, ◌||◌, codes}
use Rattle.std.specs.Str.{bytes_eq}
use Rattle.clap.specs.Words.{Text, Row, fault_of, first_of, subcommand_of}
use Rattle.sts_text.specs.Number.{digits_up_to}
use Rattle.sts_args.specs.declared.asked.Line.{Line}
use Rattle.sts_args.specs.declared.asked.Line.TheVariants as line
use Rattle.sts_args.specs.Command.{program}

-- the command's name and its files in order, without those of options; none for the joined form
abbrev pub asked : Line → Option (Text × List Text)
asked line.Joined = None
asked (line.Verify file) = Some (codes "verify", file.now ∷ [])
asked (line.List file) = Some (codes "list", file.now ∷ [])
asked (line.Plain file trace) = Some (codes "plain", file.now ∷ trace.now ∷ [])
asked (line.Replay file trace) = Some (codes "replay", file.now ∷ trace.now ∷ [])
asked (line.Run file workers outside trace) = Some (codes "run", file.now ∷ [])

-- the options of a command
pub record Options : Type 0 where
  pub workers : Option ℕ
  pub outside : Option Text
  pub trace : Option Text

abbrev pub no_options : Options
no_options = record { workers = None; outside = None; trace = None }

-- the options that a line has, which only `run` takes
abbrev pub options : Line → Options
options (line.Run file workers outside trace) = record {
  workers = Some workers;
  outside = option_map (λ t. t.now) outside;
  trace = option_map (λ t. t.now) trace;
}
options _ = no_options

abbrev pub takes_trace : Text → Bool
takes_trace name = bytes_eq name (codes "plain") || bytes_eq name (codes "replay")

-- the files that a command takes
abbrev pub ids_of : Text → List Text
ids_of name = if takes_trace name then codes "FILE" ∷ codes "TRACE" ∷ [] else codes "FILE" ∷ []

-- the texts under these ids
abbrev pub texts_at : List Row → List Text → List Text
texts_at rows ids = filter_map (λ id. first_of id rows) ids

abbrev pub given : Text × List Row → Text × List Text
given (name, rows) = (name, texts_at rows (ids_of name))

abbrev pub is_run : Text → Bool
is_run name = bytes_eq name (codes "run")

-- a number but 0
abbrev pub unless_none : ℕ → Option ℕ
unless_none n = if n == 0 then None else Some n

-- the number of workers, from 1 to 16, that digits write
abbrev pub workers_written : Text → Option ℕ
workers_written text = option_and_then unless_none (digits_up_to 16 text)

abbrev pub workers_at : List Row → Option ℕ
workers_at rows = option_and_then workers_written (first_of (codes "workers") rows)

abbrev pub options_at : List Row → Options
options_at rows = record {
  workers = workers_at rows;
  outside = first_of (codes "outside") rows;
  trace = first_of (codes "trace") rows;
}

abbrev pub options_given : Text × List Row → Options
options_given (name, rows) = if is_run name then options_at rows else no_options

-- the line is of a command, with the files and the options that it was given
pub record IsGiven (c : Text × List Row) (l : Line) : Type 0 where
  pub files : asked l ≡ Some (given c)
  pub options : options l ≡ options_given c

-- the line is that of the command that was found
abbrev pub IsLineOf : Option (Text × List Row) → Line → Type 0
IsLineOf found l = IsSomeAnd found (λ c. IsGiven c l)

-- a line that asks for `run` asks for 1 to 16 workers
abbrev pub HasWorkers : Line → Type 0
HasWorkers (line.Run file workers outside trace) = (1 ≤ workers) × (workers ≤ 16)
HasWorkers _ = Unit {0}

-- the request of the words: the joined form if only the program's name is there; otherwise, if
-- `clap` finds no fault, the command that it finds
pub data Asks (words : List Text) (l : Line) : Type 0 where
  joined : length words ≤ 1 → l ≡ line.Joined → Asks words l
  commanded : 1 < length words → fault_of program words ≡ []
      → IsLineOf (subcommand_of program words) l → Asks words l
