-- The operands of a line, read from left to right up to the first place that is wrong (this
-- project's own).
use Rattle.std.specs.Prelude.{ℕ, ◌^◌, ◌-◌, ◌==◌, Bool, true, false, List, [], ◌∷◌, drop}
use Rattle.std.specs.Prelude.{slice_index, Option, Some, None, option_map, Result, Ok, Err}
use Rattle.std.specs.Prelude.{if◌then◌else◌, ℤ, codes}
use Rattle.std.specs.Str.{bytes_eq}
use Rattle.sts_code.specs.Name.{is_name}
use Rattle.sts_code.specs.declared.instr.Joiner.{Joiner}
use Rattle.sts_code.specs.declared.instr.Joiner.TheVariants.{AllSucceed, AnySucceeds, AwaitOk}
use Rattle.sts_code.specs.declared.instr.Joiner.TheVariants.{AwaitAll, Until}
use Rattle.sts_code.specs.declared.instr.Pred.{Pred}
use Rattle.sts_code.specs.declared.instr.Pred.TheVariants as pred
use Rattle.sts_code.specs.declared.instr.Kind.{Kind}
use Rattle.sts_code.specs.declared.instr.Kind.TheVariants as kinds
use Rattle.sts_text.specs.Number.{number, number_up_to, digits_up_to}
use Rattle.sts_asm.specs.declared.fault.AsmKind.{AsmKind}
use Rattle.sts_asm.specs.declared.fault.AsmKind.TheVariants.{BadNumber, BadOperands, UnknownLabel}
use Rattle.sts_asm.specs.Fault.{◌>>=◌}
use Rattle.sts_asm.specs.Marks.{Names, label_in, function_in}

-- what was read and the words after it, or what is wrong
abbrev pub Read : Type 0 → Type 0
Read A = Result (A × List (List ℕ)) AsmKind

-- the value that a word was read as; if there is none, this fault
abbrev pub wanted : {A : Type 0} → AsmKind → Option A → List (List ℕ) → Read A
wanted kind None rest = Err kind
wanted kind (Some x) rest = Ok (x, rest)

-- what a table has for a word
abbrev pub looked_up : {A : Type 0} → List (List ℕ × A) → List ℕ → Option A
looked_up [] word = None
looked_up (row ∷ rest) word = if bytes_eq word row.0 then Some row.1 else looked_up rest word

-- a number of a field that holds 0 to `most`
abbrev pub number_at : ℕ → List (List ℕ) → Read ℕ
number_at most [] = Err BadOperands
number_at most (word ∷ rest) = wanted BadNumber (number_up_to most word) rest

-- a value
abbrev pub value_at : List (List ℕ) → Read ℤ
value_at [] = Err BadOperands
value_at (word ∷ rest) = wanted BadNumber (number word) rest

-- `s` and digits
abbrev pub slot : List ℕ → Option ℕ
slot word = if slice_index word 0 == 115 then digits_up_to 255 (drop 1 word) else None

-- a slot
abbrev pub slot_at : List (List ℕ) → Read ℕ
slot_at [] = Err BadOperands
slot_at (word ∷ rest) = wanted BadOperands (slot word) rest

-- the slot of a subtask, or `_` for none
abbrev pub handle : List ℕ → Option (Option ℕ)
handle word = if bytes_eq word (codes "_") then Some None else option_map (λ s. Some s) (slot word)

-- a slot or `_`
abbrev pub handle_at : List (List ℕ) → Read (Option ℕ)
handle_at [] = Err BadOperands
handle_at (word ∷ rest) = wanted BadOperands (handle word) rest

-- a word that is a name
abbrev pub named : List ℕ → Option (List ℕ)
named word = if is_name word then Some word else None

-- a name
abbrev pub name_at : List (List ℕ) → Read (List ℕ)
name_at [] = Err BadOperands
name_at (word ∷ rest) = wanted BadOperands (named word) rest

-- the instruction that a label names
abbrev pub target_at : Option Names → List (List ℕ) → Read ℕ
target_at names words = name_at words >>= λ name. wanted UnknownLabel (label_in names name.0) name.1

-- the index of the function that a name names
abbrev pub function_at : Option Names → List (List ℕ) → Read ℕ
function_at names words =
    name_at words >>= λ name. wanted UnknownLabel (function_in names name.0) name.1

-- a label, or `-` for none
abbrev pub maybe_target_at : Option Names → List (List ℕ) → Read (Option ℕ)
maybe_target_at names [] = Err BadOperands
maybe_target_at names (word ∷ rest) =
    if bytes_eq word (codes "-") then Ok (None, rest)
    else (target_at names (word ∷ rest) >>= λ to. Ok (Some to.0, to.1))

-- the conditions of `until` that count ends, each with its number
abbrev pub until_count_at : (ℕ → Pred) → List (List ℕ) → Read Joiner
until_count_at condition words =
    number_at (2 ^ 32 - 1) words >>= λ n. Ok (Until (condition n.0), n.1)

-- the condition of `until` that compares values
abbrev pub until_value_at : List (List ℕ) → Read Joiner
until_value_at words = value_at words >>= λ v. Ok (Until (pred.AtLeast v.0), v.1)

-- what follows `until`
abbrev pub until_at : List (List ℕ) → Read Joiner
until_at [] = Err BadOperands
until_at (word ∷ rest) =
    if bytes_eq word (codes "failed") then until_count_at (λ n. pred.Failed n) rest
    else (if bytes_eq word (codes "success") then until_count_at (λ n. pred.Success n) rest
    else (if bytes_eq word (codes "atleast") then until_value_at rest
    else Err BadOperands))

-- the joiners that are one word
abbrev pub joiners : List (List ℕ × Joiner)
joiners =
    (codes "all", AllSucceed) ∷ (codes "any", AnySucceeds) ∷ (codes "awaitok", AwaitOk) ∷
    (codes "awaitall", AwaitAll) ∷ []

-- the joiner of a scope
abbrev pub joiner_at : List (List ℕ) → Read Joiner
joiner_at [] = Err BadOperands
joiner_at (word ∷ rest) =
    if bytes_eq word (codes "until") then until_at rest
    else wanted BadOperands (looked_up joiners word) rest

-- `timed`, or nothing
abbrev pub timed_at : List (List ℕ) → Read Bool
timed_at [] = Ok (false, [])
timed_at (word ∷ rest) = if bytes_eq word (codes "timed") then Ok (true, rest) else Err BadOperands

-- the states that `tally` counts
abbrev pub kinds_counted : List (List ℕ × Kind)
kinds_counted = (codes "S", kinds.S) ∷ (codes "F", kinds.F) ∷ (codes "U", kinds.U) ∷ []

-- the state of a subtask
abbrev pub kind_at : List (List ℕ) → Read Kind
kind_at [] = Err BadOperands
kind_at (word ∷ rest) = wanted BadOperands (looked_up kinds_counted word) rest

-- nothing is left over
abbrev pub finished : {A : Type 0} → A → List (List ℕ) → Result A AsmKind
finished x [] = Ok x
finished x (word ∷ rest) = Err BadOperands
