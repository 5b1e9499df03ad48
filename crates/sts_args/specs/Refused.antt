-- Why a command line asks for nothing, by `clap`'s own definitions (this project's own).
use Rattle.std.specs.Prelude.{◌≡◌, ◌≢◌, ◌⊎◌, ◌<◌, ◌&&◌, ◌||◌, Bool, false, true, List, [], length}
use Rattle.std.specs.Prelude.{Option, Some, None, is_some, if◌then◌else◌, codes}
use Rattle.std.specs.List.{list_all}
use Rattle.std.specs.Str.{bytes_eq}
use Rattle.clap.specs.Words.{Text, Row, Kinds, IsAmong, fault_of, first_of, subcommand_of}
use Rattle.clap.specs.declared.error.kind.ErrorKind.{ErrorKind}
use Rattle.clap.specs.declared.error.kind.ErrorKind.TheVariants as kind
use Rattle.sts_args.specs.declared.asked.LineError.{LineError}
use Rattle.sts_args.specs.declared.asked.LineError.TheVariants as error
use Rattle.sts_args.specs.Asked.{ids_of, is_run, takes_trace, workers_at}
use Rattle.sts_args.specs.Command.{program}

-- the message for an error of `clap` of this kind
abbrev pub TellsKind : ErrorKind → LineError → Type 0
TellsKind k error.Memory = Unit {0}
TellsKind k (error.Help text) = k ≡ kind.DisplayHelp
TellsKind k (error.Usage text) = (k ≢ kind.DisplayHelp) × (k ≢ kind.OutOfMemory)

abbrev pub is_command : Text → Bool
is_command name = bytes_eq name (codes "verify")
    || (bytes_eq name (codes "list") || (takes_trace name || is_run name))

-- `run` is given from 1 to 16 workers
abbrev pub has_workers : Text → List Row → Bool
has_workers name rows = if is_run name then is_some (workers_at rows) else true

-- the words name a command of the program, all files that it takes, and a number of workers if it
-- takes one
abbrev pub is_whole : Option (Text × List Row) → Bool
is_whole None = false
is_whole (Some (name, rows)) = is_command name
    && (list_all (λ id. is_some (first_of id rows)) (ids_of name) && has_workers name rows)

-- a usage fault comes only if this doesn't hold
abbrev pub BlamesUnless : Bool → LineError → Type 0
BlamesUnless whole error.Memory = Unit {0}
BlamesUnless whole (error.Help text) = ⊥
BlamesUnless whole (error.Usage text) = whole ≡ false

-- one of the kinds is a mistake, and not a call for help
abbrev pub HasMistake : Kinds → Type 0
HasMistake kinds = (k : ErrorKind) × IsAmong k kinds × (k ≢ kind.DisplayHelp)

-- words follow the program's name, and ask for help
abbrev pub AsksForHelp : List Text → Type 0
AsksForHelp words = (1 < length words) × IsAmong kind.DisplayHelp (fault_of program words)

-- `clap` finds no fault, and the words name no command of the program with all its files, or no
-- number of workers from 1 to 16 (only the second case ever comes)
abbrev pub NamesNothing : List Text → Type 0
NamesNothing words = (fault_of program words ≡ [])
    × (is_whole (subcommand_of program words) ≡ false)

-- words follow the program's name, and `clap` finds a fault other than that they ask for help
abbrev pub IsMistaken : List Text → Type 0
IsMistaken words = (1 < length words) × (HasMistake (fault_of program words) ⊎ NamesNothing words)

abbrev pub Refuses : List Text → LineError → Type 0
Refuses words error.Memory = Unit {0}
Refuses words (error.Help text) = AsksForHelp words
Refuses words (error.Usage text) = IsMistaken words
