-- The request of a command line, or why it has none, read by `clap`'s own definitions (this
-- project's own).
use Rattle.std.specs.Prelude.{◌≡◌, ◌≢◌, ◌⊎◌, ◌&&◌, ◌||◌, Bool, true, false, if◌then◌else◌, List, [], ◌∷◌}
use Rattle.std.specs.Prelude.{filter_map, Option, Some, None, IsSomeAnd, is_some, codes}
use Rattle.std.specs.Borrow.{Bor}
use Rattle.std.specs.List.{list_all}
use Rattle.std.specs.Str.{bytes_eq}
use Rattle.clap.specs.Words.{Text, Row, Kinds, IsAmong, fault_of, first_of, subcommand_of}
use Rattle.clap.specs.declared.error.kind.ErrorKind.{ErrorKind}
use Rattle.clap.specs.declared.error.kind.ErrorKind.TheVariants as kind
use Rattle.sts_args.specs.declared.asked.LineError.{LineError}
use Rattle.sts_args.specs.declared.asked.LineError.TheVariants as error
use Rattle.look_options.specs.declared.views.ViewOptions.{ViewOptions}
use Rattle.look_options.specs.declared.pictures.DrawOptions.{DrawOptions}
use Rattle.look_args.specs.declared.asked.Asked.{Asked}
use Rattle.look_args.specs.declared.asked.AskedTell.{AskedTell}
use Rattle.look_args.specs.declared.asked.AskedView.{AskedView}
use Rattle.look_args.specs.declared.asked.Asked.TheVariants as asked
use Rattle.look_args.specs.declared.asked.ExplainForm.{ExplainForm}
use Rattle.look_args.specs.declared.asked.ExplainForm.TheVariants.{Words, Places, Json}
use Rattle.look_args.specs.AskedDraw.{draw_at}
use Rattle.look_args.specs.AskedEnds.{SaidEnds, ends_at, is_true, said_ends}
use Rattle.look_args.specs.AskedTell.{tell_at}
use Rattle.look_args.specs.Command.{program}

-- what a line says: the command, its files in order, and the options of `view`, `explain`, `draw`,
-- `tell` and `ends`
pub record Said : Type 0 where
  pub name : Text
  pub files : List Text
  pub view : Option AskedView
  pub form : Option ExplainForm
  pub draw : Option DrawOptions
  pub tell : Option AskedTell
  pub ends : Option SaidEnds

-- the file that is named, if one is
abbrev pub named : Option (Bor Text) → List Text
named None = []
named (Some path) = path.now ∷ []

-- a command with these files, and no options
abbrev pub optionless : Text → List Text → Said
optionless name files = record {
  name = name;
  files = files;
  view = None;
  form = None;
  draw = None;
  tell = None;
  ends = None;
}

abbrev pub said : Asked → Said
said (asked.View file trace view) =
    record (optionless (codes "view") (file.now ∷ trace.now ∷ [])) { view = Some view }
said (asked.Explain file trace form) =
    record (optionless (codes "explain") (file.now ∷ named trace)) { form = Some form }
said (asked.Draw file trace draw) =
    record (optionless (codes "draw") (file.now ∷ trace.now ∷ [])) { draw = Some draw }
said (asked.Tell file trace tell) =
    record (optionless (codes "tell") (file.now ∷ trace.now ∷ [])) { tell = Some tell }
said (asked.Ends file ends) =
    record (optionless (codes "ends") (file.now ∷ [])) { ends = Some (said_ends ends) }
said (asked.Cases file) = optionless (codes "cases") (file.now ∷ [])

abbrev pub is_set : Text → List Row → Bool
is_set id rows = is_true (first_of id rows)

abbrev pub wanted_at : List Row → ViewOptions
wanted_at rows = record {
  each = is_set (codes "each") rows;
  full = is_set (codes "full") rows;
  living = is_set (codes "living") rows;
}

abbrev pub view_at : List Row → AskedView
view_at rows = record { wanted = wanted_at rows; json = is_set (codes "json") rows }

abbrev pub is_view : Text → Bool
is_view name = bytes_eq name (codes "view")

abbrev pub is_explain : Text → Bool
is_explain name = bytes_eq name (codes "explain")

-- the form of an explanation, if no more than one of a trace, `lines` and `json` is given
abbrev pub form_by : Bool → Bool → Bool → Option ExplainForm
form_by trace false false = Some Words
form_by false true false = Some Places
form_by false false true = Some Json
form_by trace lines json = None

abbrev pub form_at : List Row → Option ExplainForm
form_at rows =
    form_by (is_some (first_of (codes "TRACE") rows)) (is_set (codes "lines") rows)
    (is_set (codes "json") rows)

abbrev pub is_draw : Text → Bool
is_draw name = bytes_eq name (codes "draw")

abbrev pub is_tell : Text → Bool
is_tell name = bytes_eq name (codes "tell")

abbrev pub is_ends : Text → Bool
is_ends name = bytes_eq name (codes "ends")

-- does a command need a trace?
abbrev pub wants_trace : Text → Bool
wants_trace name = is_view name || (is_draw name || is_tell name)

-- does a command take one file alone?
abbrev pub takes_one : Text → Bool
takes_one name = is_ends name || bytes_eq name (codes "cases")

-- the files that a command may be given
abbrev pub files_of : Text → List Text
files_of name =
    if takes_one name then codes "FILE" ∷ [] else codes "FILE" ∷ codes "TRACE" ∷ []

-- the files that a command is given
abbrev pub files_at : Text → List Row → List Text
files_at name rows = filter_map (λ id. first_of id rows) (files_of name)

abbrev pub given : Text × List Row → Said
given (name, rows) = record {
  name = name;
  files = files_at name rows;
  view = if is_view name then Some (view_at rows) else None;
  form = if is_explain name then form_at rows else None;
  draw = if is_draw name then draw_at rows else None;
  tell = if is_tell name then tell_at rows else None;
  ends = if is_ends name then ends_at rows else None;
}

-- a command is asked for, with the files and the options that it was given
abbrev pub IsGiven : Text × List Row → Asked → Type 0
IsGiven c a = said a ≡ given c

-- the command that was found is asked for
abbrev pub IsLineOf : Option (Text × List Row) → Asked → Type 0
IsLineOf found a = IsSomeAnd found (λ c. IsGiven c a)

-- the request of the words: if `clap` finds no fault, the command that it finds
pub record Asks (words : List Text) (a : Asked) : Type 0 where
  pub faultless : fault_of program words ≡ []
  pub line : IsLineOf (subcommand_of program words) a

-- ---- why they ask for nothing

abbrev pub is_command : Text → Bool
is_command name = wants_trace name || (is_explain name || takes_one name)

-- the files that a command has to be given
abbrev pub ids_of : Text → List Text
ids_of name = if wants_trace name then codes "FILE" ∷ codes "TRACE" ∷ [] else codes "FILE" ∷ []

-- the options of `ends` have numbers
abbrev pub has_numbers : Text → List Row → Bool
has_numbers name rows = if is_ends name then is_some (ends_at rows) else true

-- the option of `draw` has the form of a window
abbrev pub has_window : Text → List Row → Bool
has_window name rows = if is_draw name then is_some (draw_at rows) else true

-- `explain` has one form
abbrev pub has_form : Text → List Row → Bool
has_form name rows = if is_explain name then is_some (form_at rows) else true

-- the events of `tell` have numbers
abbrev pub has_events : Text → List Row → Bool
has_events name rows = if is_tell name then is_some (tell_at rows) else true

-- the words name a command of the program, the files that it has to be given and no other one, and
-- the numbers that its options need
abbrev pub is_whole : Option (Text × List Row) → Bool
is_whole None = false
is_whole (Some (name, rows)) = is_command name
    && (list_all (λ id. is_some (first_of id rows)) (ids_of name)
    && (has_form name rows
    && (has_window name rows && (has_events name rows && has_numbers name rows))))

-- the message for an error of `clap` of this kind: the words of help or of the version, or a mistake
abbrev pub TellsKind : ErrorKind → LineError → Type 0
TellsKind k error.Memory = Unit {0}
TellsKind k (error.Help text) = (k ≡ kind.DisplayHelp) ⊎ (k ≡ kind.DisplayVersion)
TellsKind k (error.Usage text) =
    (k ≢ kind.DisplayHelp) × (k ≢ kind.DisplayVersion) × (k ≢ kind.OutOfMemory)

-- the words ask for help, or for the version
abbrev pub AsksForWords : List Text → Type 0
AsksForWords words = IsAmong kind.DisplayHelp (fault_of program words)
    ⊎ IsAmong kind.DisplayVersion (fault_of program words)

-- one of the kinds is a mistake
abbrev pub HasMistake : Kinds → Type 0
HasMistake kinds = (k : ErrorKind) × IsAmong k kinds
    × (k ≢ kind.DisplayHelp) × (k ≢ kind.DisplayVersion)

-- `clap` finds no fault, yet the words name no command of the program with its files
abbrev pub NamesNothing : List Text → Type 0
NamesNothing words = (fault_of program words ≡ [])
    × (is_whole (subcommand_of program words) ≡ false)

-- `clap` finds a fault, other than that the words ask for help or for the version
abbrev pub IsMistaken : List Text → Type 0
IsMistaken words = HasMistake (fault_of program words) ⊎ NamesNothing words

abbrev pub Refuses : List Text → LineError → Type 0
Refuses words error.Memory = Unit {0}
Refuses words (error.Help text) = AsksForWords words
Refuses words (error.Usage text) = IsMistaken words
