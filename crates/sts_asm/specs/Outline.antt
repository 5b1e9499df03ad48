-- A text line by line: its functions with their labels and their lines of instructions, before
-- names are looked up (this project's own).
use Rattle.std.specs.Prelude.{◌≡◌, map, ℕ, ◌+◌, ◌++◌, ◌==◌, ◌-◌, Bool, true, false, not, ◌&&◌, ◌||◌}
use Rattle.std.specs.Prelude.{List, [], ◌∷◌, length, take, replicate, slice_index, slice_set}
use Rattle.std.specs.Prelude.{nat_le, Option, Some, None, is_some, Result, Ok, Err, if◌then◌else◌}
use Rattle.std.specs.Prelude.{codes}
use Rattle.std.specs.List.{list_all, before_first}
use Rattle.std.specs.Str.{bytes_eq}
use Rattle.sts_code.specs.Name.{is_name}
use Rattle.sts_code.specs.declared.profile.Profile.{Profile}
use Rattle.sts_code.specs.declared.profile.Profile.TheVariants.{One, Two}
use Rattle.sts_text.specs.Words.{lines, words}
use Rattle.sts_text.specs.Number.{number_up_to}
use Rattle.sts_code.specs.declared.instr.Instr.{Instr}
use Rattle.sts_asm.specs.declared.fault.AsmKind.{AsmKind}
use Rattle.sts_asm.specs.declared.fault.AsmKind.TheVariants.{NotAscii, UnknownWord, BadNumber}
use Rattle.sts_asm.specs.declared.fault.AsmKind.TheVariants.{BadOperands, DuplicateLabel, Unclosed}
use Rattle.sts_asm.specs.declared.fault.AsmError.{AsmError}
use Rattle.sts_asm.specs.Fault.{◌>>=◌, at_line}
use Rattle.sts_asm.specs.Marks.{Mark, marked}
use Rattle.sts_asm.specs.Operand.{number_at, name_at, finished}
use Rattle.sts_asm.specs.Line.{instr_of}

-- a line of an instruction: its number and its words
pub record Sentence : Type 0 where
  pub line : ℕ
  pub words : List (List ℕ)

-- a function as far as it was read
pub record Draft : Type 0 where
  pub name : List ℕ
  pub args : ℕ
  pub needs : List Bool
  pub labels : List Mark
  pub code : List Sentence

-- the part of a text that was read so far: its functions by name, the ended ones, and the open one
pub record Outline : Type 0 where
  pub profile : Profile
  pub functions : List Mark
  pub done : List Draft
  pub current : Option Draft

-- Each instruction is what its line says before names are known.
abbrev pub AreUnnamed : List Sentence → List Instr → Type 0
AreUnnamed lines code = map (λ (s : Sentence). instr_of None s.words) lines ≡ map (λ i. Ok i) code

-- before the first line
abbrev pub empty : Outline
empty = record { profile = One; functions = []; done = []; current = None }

-- ---- `profile` and `func`

-- the profile of a number
abbrev pub profile_of : Option ℕ → Result Profile AsmKind
profile_of None = Err BadNumber
profile_of (Some n) = if n == 1 then Ok One else (if n == 2 then Ok Two else Err BadNumber)

-- the number of the profile
abbrev pub profile_at : List (List ℕ) → Result Profile AsmKind
profile_at [] = Err BadOperands
profile_at (word ∷ rest) = profile_of (number_up_to 2 word) >>= λ p. finished p rest

-- the line `profile`, which may only be line 1
abbrev pub profiled : Outline → List (List ℕ) → Result Outline AsmKind
profiled o words = profile_at words >>= λ p. Ok (record o { profile = p })

-- the keys of a needs list, and those that further words name
abbrev pub with_keys : List Bool → List (List ℕ) → Result (List Bool) AsmKind
with_keys needs [] = Ok needs
with_keys needs (word ∷ rest) =
    number_at 15 (word ∷ []) >>= λ k. with_keys (slice_set needs k.0 true) rest

-- none of the sixteen keys
abbrev pub no_needs : List Bool
no_needs = replicate 16 false

-- one key or more
abbrev pub keys_at : List (List ℕ) → Result (List Bool) AsmKind
keys_at [] = Err BadOperands
keys_at (word ∷ rest) = with_keys no_needs (word ∷ rest)

-- `needs` and keys, or nothing
abbrev pub needs_at : List (List ℕ) → Result (List Bool) AsmKind
needs_at [] = Ok no_needs
needs_at (word ∷ rest) = if bytes_eq word (codes "needs") then keys_at rest else Err BadOperands

-- the name, the number of arguments and the needs of a function without lines
abbrev pub header_at : List (List ℕ) → Result Draft AsmKind
header_at words =
    name_at words >>= λ name. number_at 255 name.1 >>= λ args. needs_at args.1
    >>= λ needs. Ok (record { name = name.0; args = args.0; needs = needs; labels = []; code = [] })

-- a function is opened; if two functions have one name, the first counts
abbrev pub with_function : Outline → Draft → Outline
with_function o d =
    record o {
      functions = o.functions ++ record { name = d.name; at = length o.done } ∷ [];
      current = Some d;
    }

-- the line `func`, outside a function
abbrev pub begun : Outline → List (List ℕ) → Result Outline AsmKind
begun o words =
    if is_some o.current then Err Unclosed else (header_at words >>= λ d. Ok (with_function o d))

-- ---- `end`, labels and instructions

-- the line `end`, in a function
abbrev pub ended : Outline → Option Draft → List (List ℕ) → Result Outline AsmKind
ended o None rest = Err UnknownWord
ended o (Some d) rest = finished (record o { done = o.done ++ d ∷ []; current = None }) rest

-- the name of a label, if the word is a name and a colon
abbrev pub label_of : List ℕ → Option (List ℕ)
label_of word =
    if slice_index word (length word - 1) == 58 && is_name (take (length word - 1) word)
    then Some (take (length word - 1) word) else None

-- a label names the next instruction
abbrev pub with_label : Draft → List ℕ → Draft
with_label d name =
    record d { labels = d.labels ++ record { name = name; at = length d.code } ∷ [] }

-- a label that the function doesn't have yet
abbrev pub labelled : Draft → List ℕ → Result Draft AsmKind
labelled d name =
    if is_some (marked d.labels name) then Err DuplicateLabel else Ok (with_label d name)

-- a line of an instruction is added
abbrev pub with_sentence : ℕ → Draft → List (List ℕ) → Draft
with_sentence at d words = record d { code = d.code ++ record { line = at; words = words } ∷ [] }

-- a line of a function: a label, or an instruction
abbrev pub inner : ℕ → Draft → Option (List ℕ) → List ℕ → List (List ℕ) → Result Draft AsmKind
inner at d (Some name) word rest = finished name rest >>= λ name. labelled d name
inner at d None word rest =
    instr_of None (word ∷ rest) >>= λ i. Ok (with_sentence at d (word ∷ rest))

-- a label or an instruction, in a function
abbrev pub inside : ℕ → Outline → Option Draft → List ℕ → List (List ℕ) → Result Outline AsmKind
inside at o None word rest = Err UnknownWord
inside at o (Some d) word rest =
    inner at d (label_of word) word rest >>= λ e. Ok (record o { current = Some e })

-- ---- lines

-- what the words of the line of this number add
abbrev pub said : ℕ → Outline → List (List ℕ) → Result Outline AsmKind
said at o [] = Ok o
said at o (word ∷ rest) =
    if bytes_eq word (codes "func") then begun o rest
    else (if bytes_eq word (codes "end") then ended o o.current rest
    else (if at == 1 && bytes_eq word (codes "profile") then profiled o rest
    else inside at o o.current word rest))

-- a tab, a carriage return, or a byte from the space to `~`?
abbrev pub is_allowed : ℕ → Bool
is_allowed b = b == 9 || (b == 13 || (nat_le 32 b && nat_le b 126))

-- does it begin a comment?
abbrev pub is_semicolon : ℕ → Bool
is_semicolon b = b == 59

-- from the space to `~`, and no beginning of a comment?
abbrev pub is_plain : ℕ → Bool
is_plain b = (nat_le 32 b && nat_le b 126) && not (is_semicolon b)

-- adds the line of this number; its bytes are judged first, even those of a comment
abbrev pub line_read : ℕ → Outline → List ℕ → Result Outline AsmKind
line_read at o line =
    if list_all is_allowed line then said at o (words (before_first is_semicolon line))
    else Err NotAscii

-- the lines from a line on
unfoldable pub lines_read : ℕ → Outline → List (List ℕ) → Result Outline AsmError
lines_read at o [] = Ok o
lines_read at o (line ∷ more) = at_line at (line_read at o line) >>= λ p. lines_read (at + 1) p more

-- no function may be open after the last line
abbrev pub closed : ℕ → Outline → Result Outline AsmError
closed last o = if is_some o.current then Err (record { line = last; kind = Unclosed }) else Ok o

-- a whole text, while no name is looked up
abbrev pub outline_of : List ℕ → Result Outline AsmError
outline_of text = lines_read 1 empty (lines text) >>= λ o. closed (length (lines text)) o

-- ---- sizes

-- how many instructions an open function has
abbrev pub instructions : Option Draft → ℕ
instructions None = 0
instructions (Some d) = length d.code

-- the number of ended functions and of instructions in the open one
abbrev pub size_of : Outline → ℕ
size_of o = length o.done + instructions o.current
