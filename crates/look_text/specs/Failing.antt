-- The word at which a program check fails, in its place (this project's own).
use Rattle.std.specs.Prelude.{ℕ, List, [], ◌∷◌, ◌++◌, take, Bool, true, false, not, ◌&&◌, nat_lt}
use Rattle.std.specs.Prelude.{nat_le, Option, Some, None, is_some, option_map, if◌then◌else◌}
use Rattle.std.specs.List.{list_any}
use Rattle.std.specs.Str.{bytes_eq}
use Rattle.sts_code.specs.declared.checking.CodeCause.{CodeCause}
use Rattle.sts_code.specs.declared.checking.CodeCause.TheVariants as code
use Rattle.sts_code.specs.declared.checking.CodeError.{CodeError}
use Rattle.sts_code.specs.declared.limits.TheConstants.{MAX_ARGS, LAST_SLOT, MAX_TURNS, MAX_ENDS}
use Rattle.sts_text.specs.Number.{number_up_to}
use Rattle.sts_asm.specs.Operand.{slot, handle}
use Rattle.sts_asm.specs.Outline.{Draft, Sentence, Outline}
use Rattle.sts_asm.specs.Source.{sentence_at, words_at}
use Rattle.look_text.specs.Wanted.{Stop, behind, first_wrong, after}
use Rattle.look_text.specs.declared.wanted.Expected.{Expected}
use Rattle.look_text.specs.declared.wanted.Expected.TheVariants as w
use Rattle.look_text.specs.Heads.{head_at}
use Rattle.look_text.specs.Labels.{is_behind}
use Rattle.look_text.specs.Checks.{failing, is_of_head}
use Rattle.look_text.specs.Wrong.{wrong_line, form_line}

-- does an earlier function have this name?
abbrev pub is_earlier : Outline → ℕ → List ℕ → Bool
is_earlier o f name = list_any (λ (d : Draft). bytes_eq d.name name) (take f o.done)

-- a slot that there is?
abbrev pub is_slot : Option ℕ → Bool
is_slot None = false
is_slot (Some s) = nat_le s LAST_SLOT

-- or is it `_`?
abbrev pub is_handle : Option (Option ℕ) → Bool
is_handle None = false
is_handle (Some None) = true
is_handle (Some (Some s)) = nat_le s LAST_SLOT

-- a number from 1 on?
abbrev pub is_positive : Option ℕ → Bool
is_positive None = false
is_positive (Some n) = nat_lt 0 n

-- is the word in the range of what is expected?
abbrev pub is_in_range : Expected → List ℕ → Bool
is_in_range w.Byte word = is_some (number_up_to LAST_SLOT word)
is_in_range w.Turns word = is_positive (number_up_to MAX_TURNS word)
is_in_range w.Slot word = is_slot (slot word)
is_in_range w.OpenSlot word = is_slot (slot word)
is_in_range w.Count word = is_positive (number_up_to MAX_ENDS word)
is_in_range w.ForkSlot word = is_slot (slot word)
is_in_range w.Handle word = is_handle (handle word)
is_in_range w.JoinSlot word = is_slot (slot word)
is_in_range w.CaseSlot word = is_slot (slot word)
is_in_range w.TallySlot word = is_slot (slot word)
is_in_range w.Args word = is_some (number_up_to MAX_ARGS word)
is_in_range wanted word = true

-- is a label expected?
abbrev pub is_label : Expected → Bool
is_label w.Label = true
is_label w.JoinFailed = true
is_label w.JoinTimeout = true
is_label w.JoinInterrupted = true
is_label w.CaseSuccess = true
is_label w.CaseFailed = true
is_label wanted = false

-- does the word pass the check?
abbrev pub passes : List ℕ → Outline → ℕ → CodeCause → Expected → List ℕ → Bool
passes text o f code.BadTarget wanted word = not (is_label wanted && is_behind text o f word)
passes text o f code.LaterFunction w.Function word = is_earlier o f word
passes text o f code.DuplicateName w.Name word = not (is_earlier o f word)
passes text o f code.BadRange wanted word = is_in_range wanted word
passes text o f cause wanted word = true

-- what is expected instead of a word that doesn't pass
abbrev pub wanted_there : Expected → Expected
wanted_there w.Function = w.KnownFunction
wanted_there wanted = if is_label wanted then w.KnownLabel else wanted

-- the first word that doesn't pass a test, and what is expected there
abbrev pub first_failing : (Expected → List ℕ → Bool) → Expected → List (List ℕ) → Option Stop
first_failing test wanted [] = None
first_failing test wanted (word ∷ rest) =
    if test wanted word then option_map (behind word) (first_failing test (after wanted word) rest)
    else Some (first_wrong (wanted_there wanted) word)

-- the words of a line, if there is one
abbrev pub head_words : List ℕ → Option ℕ → List (List ℕ)
head_words text None = []
head_words text (Some line) = words_at text line

abbrev pub instr_words : Option Sentence → List (List ℕ)
instr_words None = []
instr_words (Some s) = s.words

-- the words of the line where a check fails
abbrev pub check_words : List ℕ → Outline → CodeError → List (List ℕ)
check_words text o e =
    if is_of_head o e.function e.pc e.cause
    then head_words text (head_at text (failing o e.function e.cause))
    else instr_words (sentence_at o e.function e.pc)

-- the first of them that doesn't pass it
abbrev pub check_stop : List ℕ → Outline → CodeError → Option Stop
check_stop text o e =
    first_failing (passes text o e.function e.cause) w.First (check_words text o e)

-- that word in its place, and the form of the line
abbrev pub check_part : List ℕ → Outline → CodeError → List ℕ
check_part text o e = wrong_line (check_stop text o e) ++ form_line (check_words text o e)

-- by the functions of a text, if they were read
abbrev pub check_lines : List ℕ → Option Outline → CodeError → List ℕ
check_lines text None e = []
check_lines text (Some o) e = check_part text o e
