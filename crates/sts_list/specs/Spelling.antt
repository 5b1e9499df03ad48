-- The one spelling of an instruction in a listing (this project's own).
use Rattle.std.specs.Prelude.{ℕ, Bool, true, false, List, [], ◌∷◌, ◌++◌, Option, Some, None, codes}
use Rattle.std.specs.List.{flat_map}
use Rattle.std.specs.Fmt.{decimal, signed_decimal}
use Rattle.sts_code.specs.Program.{Program, routine}
use Rattle.sts_code.specs.Shape.{Operand, Value, Local, Turns, Label, MaybeLabel, InSlot, Handle}
use Rattle.sts_code.specs.Shape.{Function, State, Key, Rule, Timed, shape}
use Rattle.sts_code.specs.declared.instr.Instr.{Instr}
use Rattle.sts_code.specs.declared.instr.Joiner.{Joiner}
use Rattle.sts_code.specs.declared.instr.Joiner.TheVariants.{AllSucceed, AnySucceeds, AwaitOk}
use Rattle.sts_code.specs.declared.instr.Joiner.TheVariants.{AwaitAll, Until}
use Rattle.sts_code.specs.declared.instr.Pred.{Pred}
use Rattle.sts_code.specs.declared.instr.Pred.TheVariants.{Failed, Success, AtLeast}
use Rattle.sts_code.specs.declared.instr.Kind.{Kind}
use Rattle.sts_code.specs.declared.instr.Kind.TheVariants.{S, F, U}

-- the first word of an instruction
abbrev pub keyword : Instr → List ℕ
keyword instr = (shape instr).word

-- `L` and the number of the instruction
abbrev pub label : ℕ → List ℕ
label pc = codes "L" ++ decimal pc

-- `s` and the number of the slot
abbrev pub slot : ℕ → List ℕ
slot s = codes "s" ++ decimal s

-- a label, or `-` for none
abbrev pub maybe_label : Option ℕ → List ℕ
maybe_label None = codes "-"
maybe_label (Some pc) = label pc

-- a slot, or `_` for none
abbrev pub handle : Option ℕ → List ℕ
handle None = codes "_"
handle (Some h) = slot h

-- the state that `tally` counts
abbrev pub kind_word : Kind → List ℕ
kind_word S = codes "S"
kind_word F = codes "F"
kind_word U = codes "U"

-- what follows `until`
abbrev pub condition_words : Pred → List (List ℕ)
condition_words (Failed n) = codes "failed" ∷ decimal n ∷ []
condition_words (Success n) = codes "success" ∷ decimal n ∷ []
condition_words (AtLeast v) = codes "atleast" ∷ signed_decimal v ∷ []

-- the words of a joiner
abbrev pub joiner_words : Joiner → List (List ℕ)
joiner_words AllSucceed = codes "all" ∷ []
joiner_words AnySucceeds = codes "any" ∷ []
joiner_words AwaitOk = codes "awaitok" ∷ []
joiner_words AwaitAll = codes "awaitall" ∷ []
joiner_words (Until condition) = codes "until" ∷ condition_words condition

-- `timed`, or nothing
abbrev pub timed_words : Bool → List (List ℕ)
timed_words true = codes "timed" ∷ []
timed_words false = []

-- the words of an operand
abbrev pub operand_words : Program → Operand → List (List ℕ)
operand_words p (Value k) = signed_decimal k ∷ []
operand_words p (Local x) = decimal x ∷ []
operand_words p (Turns n) = decimal n ∷ []
operand_words p (Label to) = label to ∷ []
operand_words p (MaybeLabel to) = maybe_label to ∷ []
operand_words p (InSlot role x) = slot x ∷ []
operand_words p (Handle h) = handle h ∷ []
operand_words p (Function f) = (routine p f).name ∷ []
operand_words p (State kind) = kind_word kind ∷ []
operand_words p (Key k) = decimal k ∷ []
operand_words p (Rule joiner) = joiner_words joiner
operand_words p (Timed timed) = timed_words timed

-- the words of these operands
abbrev pub words_of : Program → List Operand → List (List ℕ)
words_of p [] = []
words_of p (operand ∷ []) = operand_words p operand
words_of p (operand ∷ more) = operand_words p operand ++ words_of p more

-- the words after the first
abbrev pub operands : Program → Instr → List (List ℕ)
operands p instr = words_of p (shape instr).operands

-- each word after a space
abbrev pub after_spaces : List (List ℕ) → List ℕ
after_spaces words = flat_map (λ word. 32 ∷ word) words

-- the words of an instruction, one space apart
abbrev pub spelled : Program → Instr → List ℕ
spelled p instr = keyword instr ++ after_spaces (operands p instr)
