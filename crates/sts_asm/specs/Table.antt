-- The instruction table: which words spell which instruction (this project's own).
use Rattle.std.specs.Prelude.{◌≡◌, ℕ, ◌^◌, ◌-◌, ◌↔◌, Bool, true, false, List, [], ◌∷◌, ◌++◌, Option}
use Rattle.std.specs.Prelude.{Some, None, Ok, codes}
use Rattle.sts_code.specs.Name.{is_name}
use Rattle.sts_code.specs.Shape.{Operand, Value, Local, Turns, Label, MaybeLabel, InSlot, Handle}
use Rattle.sts_code.specs.Shape.{Function, State, Key, Rule, Timed, shape}
use Rattle.sts_code.specs.declared.instr.Instr.{Instr}
use Rattle.sts_code.specs.declared.instr.Joiner.{Joiner}
use Rattle.sts_code.specs.declared.instr.Joiner.TheVariants.{AllSucceed, AnySucceeds, AwaitOk}
use Rattle.sts_code.specs.declared.instr.Joiner.TheVariants.{AwaitAll, Until}
use Rattle.sts_code.specs.declared.instr.Pred.TheVariants.{Failed, Success, AtLeast}
use Rattle.sts_code.specs.declared.instr.Kind.{Kind}
use Rattle.sts_code.specs.declared.instr.Kind.TheVariants.{S, F, U}
use Rattle.sts_text.specs.Number.{number, number_up_to}
use Rattle.sts_asm.specs.Marks.{Names, label_in, function_in}
use Rattle.sts_asm.specs.Operand.{slot}
use Rattle.sts_asm.specs.Line.{instr_of}

-- ---- operands

-- a name that names this instruction
abbrev pub IsLabel : Option Names → ℕ → List ℕ → Type 0
IsLabel names to word = (is_name word ≡ true) × (label_in names word ≡ Some to)

-- a label, or `-` for none
abbrev pub IsMaybeLabel : Option Names → Option ℕ → List ℕ → Type 0
IsMaybeLabel names None word = word ≡ codes "-"
IsMaybeLabel names (Some to) word = IsLabel names to word

-- a name that names this function
abbrev pub IsFunction : Option Names → ℕ → List ℕ → Type 0
IsFunction names f word = (is_name word ≡ true) × (function_in names word ≡ Some f)

-- a slot, or `_` for none
abbrev pub IsHandle : Option ℕ → List ℕ → Type 0
IsHandle None word = word ≡ codes "_"
IsHandle (Some h) word = slot word ≡ Some h

-- the state of a subtask
abbrev pub IsKind : Kind → List ℕ → Type 0
IsKind S word = word ≡ codes "S"
IsKind F word = word ≡ codes "F"
IsKind U word = word ≡ codes "U"

-- the words of a joiner
abbrev pub IsJoiner : Joiner → List (List ℕ) → Type 0
IsJoiner AllSucceed words = words ≡ codes "all" ∷ []
IsJoiner AnySucceeds words = words ≡ codes "any" ∷ []
IsJoiner AwaitOk words = words ≡ codes "awaitok" ∷ []
IsJoiner AwaitAll words = words ≡ codes "awaitall" ∷ []
IsJoiner (Until (Failed n)) words =
    (w : List ℕ) × (words ≡ codes "until" ∷ codes "failed" ∷ w ∷ [])
    × (number_up_to (2 ^ 32 - 1) w ≡ Some n)
IsJoiner (Until (Success n)) words =
    (w : List ℕ) × (words ≡ codes "until" ∷ codes "success" ∷ w ∷ [])
    × (number_up_to (2 ^ 32 - 1) w ≡ Some n)
IsJoiner (Until (AtLeast v)) words =
    (w : List ℕ) × (words ≡ codes "until" ∷ codes "atleast" ∷ w ∷ []) × (number w ≡ Some v)

-- `timed`, or nothing
abbrev pub IsTimed : Bool → List (List ℕ) → Type 0
IsTimed true words = words ≡ codes "timed" ∷ []
IsTimed false words = words ≡ []

-- one word, for which this holds
abbrev pub IsWord : (List ℕ → Type 0) → List (List ℕ) → Type 0
IsWord Is words = (w : List ℕ) × (words ≡ w ∷ []) × Is w

-- These words spell this operand.
abbrev pub IsOperand : Option Names → Operand → List (List ℕ) → Type 0
IsOperand names (Value k) words = IsWord (λ w. number w ≡ Some k) words
IsOperand names (Local x) words = IsWord (λ w. number_up_to 255 w ≡ Some x) words
IsOperand names (Turns n) words = IsWord (λ w. number_up_to (2 ^ 16 - 1) w ≡ Some n) words
IsOperand names (Label to) words = IsWord (IsLabel names to) words
IsOperand names (MaybeLabel to) words = IsWord (IsMaybeLabel names to) words
IsOperand names (InSlot role x) words = IsWord (λ w. slot w ≡ Some x) words
IsOperand names (Handle h) words = IsWord (IsHandle h) words
IsOperand names (Function f) words = IsWord (IsFunction names f) words
IsOperand names (State kind) words = IsWord (IsKind kind) words
IsOperand names (Key k) words = IsWord (λ w. number_up_to 255 w ≡ Some k) words
IsOperand names (Rule joiner) words = IsJoiner joiner words
IsOperand names (Timed timed) words = IsTimed timed words

-- These words spell these operands, one after another.
abbrev pub AreOperands : Option Names → List Operand → List (List ℕ) → Type 0
AreOperands names [] words = words ≡ []
AreOperands names (operand ∷ more) words =
    (own : List (List ℕ)) × (rest : List (List ℕ)) × (words ≡ own ++ rest)
    × IsOperand names operand own × AreOperands names more rest

-- ---- instructions

-- These words spell this instruction, as its row says.
abbrev pub Spells : Option Names → Instr → List (List ℕ) → Type 0
Spells names instr words =
    (rest : List (List ℕ)) × (words ≡ (shape instr).word ∷ rest)
    × AreOperands names (shape instr).operands rest

-- An instruction that is read is one that the table has for its words.
abbrev pub ReadByTable : Type 0
ReadByTable =
    (names : Option Names) (words : List (List ℕ)) (instr : Instr)
    → (instr_of names words ≡ Ok instr) ↔ Spells names instr words
