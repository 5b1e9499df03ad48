-- The wrong word or byte of a line, in its place (this project's own).
use Rattle.std.specs.Prelude.{◌≡◌, ℕ, ◌+◌, ◌<◌, List, [], ◌∷◌, ◌++◌, Option, Some, None, length}
use Rattle.std.specs.Prelude.{drop, slice_get, codes, if◌then◌else◌, ◌&&◌, ◌==◌}
use Rattle.std.specs.Fmt.{decimal}
use Rattle.std.specs.Str.{bytes_eq}
use Rattle.sts_asm.specs.Marks.{Names}
use Rattle.sts_asm.specs.Outline.{Outline, Sentence, is_allowed}
use Rattle.sts_asm.specs.Source.{line_at, names_at, sentences_of, words_at}
use Rattle.sts_asm.specs.declared.fault.AsmKind.{AsmKind}
use Rattle.sts_asm.specs.declared.fault.AsmKind.TheVariants.{NotAscii, UnknownLabel, BadOperands}
use Rattle.sts_list.specs.Spelling.{after_spaces}
use Rattle.look_text.specs.Inside.{is_inside}
use Rattle.look_text.specs.Colon.{colon_part}
use Rattle.look_text.specs.Java.{java_word}
use Rattle.look_text.specs.Near.{meant}
use Rattle.look_text.specs.NearName.{near_in}
use Rattle.look_text.specs.Names.{functions_stop, line_stop, lines_stop, unknown_name}
use Rattle.look_text.specs.Wanted.{Stop, wrong_place}
use Rattle.look_text.specs.declared.wanted.Expected.{Expected}
use Rattle.look_text.specs.Functions.{functions_of}
use Rattle.look_text.specs.Sentences.{wanted_sentence, join_form}

-- ` [seven]`, or ` []` if a word is missing
abbrev pub bracketed : Option (List ℕ) → List ℕ
bracketed None = codes " []"
bracketed (Some word) = codes " [" ++ word ++ codes "]"

-- `did you mean push?`
abbrev pub meant_line : Option (List ℕ) → List ℕ
meant_line None = []
meant_line (Some known) = codes "did you mean " ++ known ++ codes "?\n"

-- `Java's awaitAll is awaitall here`
abbrev pub java_line : List ℕ → List ℕ → List ℕ
java_line word known = codes "Java's " ++ word ++ codes " is " ++ known ++ codes " here\n"

-- the word here for a word of Java, or else the word that may be meant
abbrev pub guess_line : Expected → List ℕ → Option (List ℕ) → List ℕ
guess_line wanted word None = meant_line (meant wanted word)
guess_line wanted word (Some known) = java_line word known

-- the word that may be meant, if a word is there
abbrev pub meant_words : Expected → Option (List ℕ) → List ℕ
meant_words wanted None = []
meant_words wanted (Some word) = guess_line wanted word (java_word wanted word)

-- `: expected S, F or U`
abbrev pub expected_words : Expected → List ℕ
expected_words wanted = codes ": expected " ++ wanted_sentence wanted ++ codes "\n"

-- what is expected, and the word that may be meant
abbrev pub wanted_words : Expected → Option (List ℕ) → List ℕ
wanted_words wanted word = expected_words wanted ++ meant_words wanted word

-- ` push [seven]: expected a number from -9223372036854775808 to 9223372036854775807`
abbrev pub stop_words : Stop → List ℕ
stop_words s = after_spaces s.before ++ bracketed s.word ++ wanted_words s.wanted s.word

-- the line of a fault that is of one word
abbrev pub wrong_line : Option Stop → List ℕ
wrong_line None = []
wrong_line (Some s) = codes "at" ++ stop_words s

-- `at jz [there]: expected a label before an instruction of this function`
abbrev pub named_line : Stop → List ℕ
named_line s = codes "at" ++ stop_words s

-- the first of these lines with a word that names nothing
pub record StopsAt (names : Names) (lines : List Sentence) (s : Sentence) : Type 0 where
  pub stop : Stop
  pub here : line_stop names s.words ≡ Some stop
  pub first : lines_stop names lines ≡ Some stop

-- the first function with a word that names nothing, and its first line with one
pub record IsFirst (o : Outline) (f : ℕ) (s : Sentence) : Type 0 where
  pub within : f < length o.done
  pub stops : StopsAt (names_at o f) (sentences_of (slice_get o.done f)) s
  pub unknown : unknown_name o ≡ functions_stop o.functions (drop f o.done)
  pub near : (text : List ℕ) → near_in text o o.done ≡ near_in text o (drop f o.done)

-- each word of the text that should name something does
pub record AllNamed (o : Outline) : Type 0 where
  pub unknown : unknown_name o ≡ None
  pub near : (text : List ℕ) → near_in text o o.done ≡ None

-- the line of an unknown name, and that of the name that may be meant, from the functions of a text,
-- if they were read
abbrev pub unknown_line : List ℕ → Option Outline → List ℕ
unknown_line text None = []
unknown_line text (Some o) = wrong_line (unknown_name o) ++ meant_line (near_in text o o.done)

-- the first byte of a byte order mark in UTF-8
abbrev pub byte_hint : ℕ → ℕ → List ℕ
byte_hint column byte =
    if column == 1 && byte == 239
    then codes " (perhaps a byte order mark: save the text as UTF-8 without one)" else []

-- `at column 7: byte 200`
abbrev pub byte_words : ℕ → ℕ → List ℕ
byte_words column byte =
    codes "at column " ++ decimal column ++ codes ": byte " ++ decimal byte
    ++ byte_hint column byte ++ codes "\n"

-- the first byte of a line that isn't allowed; the line's first column has this number
abbrev pub byte_line : ℕ → List ℕ → List ℕ
byte_line column [] = []
byte_line column (byte ∷ rest) =
    if is_allowed byte then byte_line (column + 1) rest else byte_words column byte

abbrev pub byte_line_of : Option (List ℕ) → List ℕ
byte_line_of None = []
byte_line_of (Some line) = byte_line 1 line

-- the form of a line that begins with these words; only `join` has a form here, as its labels are
-- known by their order
abbrev pub form_line : List (List ℕ) → List ℕ
form_line [] = []
form_line (word ∷ rest) = if bytes_eq word (codes "join") then join_form ++ codes "\n" else []

-- the form of the line, for the fault of an operand or of a name
abbrev pub form_part : AsmKind → List (List ℕ) → List ℕ
form_part BadOperands words = form_line words
form_part UnknownLabel words = form_line words
form_part kind words = []

-- the wrong word or byte of a fault in its place, if the fault is about one
abbrev pub place_part : AsmKind → List ℕ → ℕ → List ℕ
place_part UnknownLabel text line = unknown_line text (functions_of text)
place_part NotAscii text line = byte_line_of (line_at text line)
place_part kind text line =
    wrong_line (wrong_place kind (is_inside text line) (words_at text line))

-- what is wrong in the line of a fault, and the form of the line or of a label
abbrev pub wrong_part : AsmKind → List ℕ → ℕ → List ℕ
wrong_part kind text line =
    place_part kind text line ++ form_part kind (words_at text line) ++ colon_part kind text line
