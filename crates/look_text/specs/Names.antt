-- The word of a line that names nothing: a label that isn't in its function, or a function that
-- isn't in the text (this project's own).
use Rattle.std.specs.Prelude.{◌≡◌, ℕ, Bool, true, ◌||◌, List, [], ◌∷◌, Option, Some, None, is_some}
use Rattle.std.specs.Prelude.{Ok, Err, option_map, if◌then◌else◌, codes}
use Rattle.std.specs.Option.{option_or}
use Rattle.std.specs.Str.{bytes_eq}
use Rattle.sts_asm.specs.Line.{mnemonic_of, instr_of}
use Rattle.sts_asm.specs.Marks.{Mark, Names, marked}
use Rattle.sts_asm.specs.Outline.{Sentence, Draft, Outline}
use Rattle.sts_asm.specs.Source.{outlined, sentence_at, names_at}
use Rattle.sts_asm.specs.Text.{judged}
use Rattle.sts_asm.specs.declared.fault.AsmKind.TheVariants.{UnknownLabel}
use Rattle.sts_asm.specs.declared.fault.AsmError.{AsmError}
use Rattle.look_text.specs.declared.wanted.Expected.{Expected}
use Rattle.look_text.specs.declared.wanted.Expected.TheVariants as w
use Rattle.look_text.specs.Wanted.{Stop, behind, first_wrong, after, of_mnemonic}
use Rattle.look_text.specs.WrongWord.{Stops}

-- is this a label that is known?
abbrev pub is_label : Names → List ℕ → Bool
is_label names word = is_some (marked names.labels word)

-- or `-` for none?
abbrev pub is_maybe_label : Names → List ℕ → Bool
is_maybe_label names word = bytes_eq word (codes "-") || is_label names word

-- does the word name what is expected there? If no name is expected, any word does.
abbrev pub names_some : Names → Expected → List ℕ → Bool
names_some names w.Label word = is_label names word
names_some names w.Function word = is_some (marked names.functions word)
names_some names w.JoinFailed word = is_maybe_label names word
names_some names w.JoinTimeout word = is_maybe_label names word
names_some names w.JoinInterrupted word = is_label names word
names_some names w.CaseSuccess word = is_label names word
names_some names w.CaseFailed word = is_label names word
names_some names wanted word = true

-- what is expected instead of a name that isn't in the text
abbrev pub known : Expected → Expected
known w.Function = w.KnownFunction
known wanted = w.KnownLabel

-- the first word that names nothing, if there is one
abbrev pub name_stop : Names → Expected → List (List ℕ) → Option Stop
name_stop names wanted [] = None
name_stop names wanted (word ∷ rest) =
    if names_some names wanted word
    then option_map (behind word) (name_stop names (after wanted word) rest)
    else Some (first_wrong (known wanted) word)

-- the first one of a line, after the first word of its instruction
abbrev pub line_stop : Names → List (List ℕ) → Option Stop
line_stop names [] = None
line_stop names (word ∷ rest) =
    option_map (behind word) (name_stop names (of_mnemonic (mnemonic_of word)) rest)

-- the first of these lines
abbrev pub lines_stop : Names → List Sentence → Option Stop
lines_stop names [] = None
lines_stop names (s ∷ rest) = option_or (line_stop names s.words) (lines_stop names rest)

-- the first of these functions
abbrev pub functions_stop : List Mark → List Draft → Option Stop
functions_stop functions [] = None
functions_stop functions (d ∷ rest) =
    option_or (lines_stop (record { labels = d.labels; functions = functions }) d.code)
    (functions_stop functions rest)

-- the first of a text
abbrev pub unknown_name : Outline → Option Stop
unknown_name o = functions_stop o.functions o.done

-- The first word of a text that names nothing is in the line where the assembler finds an unknown
-- name, and is the word that it finds.
abbrev pub UnknownNamesStop : Type 0
UnknownNamesStop =
    (text : List ℕ) (o : Outline) (e : AsmError) → outlined text ≡ Ok o → judged text ≡ Err e
    → e.kind ≡ UnknownLabel
    → (f : ℕ) × (pc : ℕ) × (s : Sentence) × (t : Stop)
    × (sentence_at o f pc ≡ Some s) × (s.line ≡ e.line) × (unknown_name o ≡ Some t)
    × Stops (instr_of (Some (names_at o f))) UnknownLabel s.words t
