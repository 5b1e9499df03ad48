-- The word that makes a line wrong, by the reading of the line and of all other lines that begin
-- like it (this project's own).
use Rattle.std.specs.Prelude.{◌≡◌, ◌≢◌, ◌⊎◌, ℕ, ◌-◌, List, [], ◌∷◌, ◌++◌, take, Option, Some, None}
use Rattle.std.specs.Prelude.{Result, Ok, Err}
use Rattle.sts_text.specs.Words.{lines}
use Rattle.sts_asm.specs.Outline.{Outline, empty, lines_read, said}
use Rattle.sts_asm.specs.Source.{outlined, words_at}
use Rattle.sts_asm.specs.declared.fault.AsmKind.{AsmKind}
use Rattle.sts_asm.specs.declared.fault.AsmKind.TheVariants.{BadNumber, BadOperands}
use Rattle.sts_asm.specs.declared.fault.AsmError.{AsmError}
use Rattle.look_text.specs.declared.wanted.Expected.TheVariants.{First}
use Rattle.look_text.specs.Wanted.{Stop, stop}

-- Whatever comes after these words, reading finds this fault.
abbrev pub Settles : {X : Type 0} → (List (List ℕ) → Result X AsmKind) → AsmKind
    → List (List ℕ) → Type 0
Settles read kind words = (more : List (List ℕ)) → read (words ++ more) ≡ Err kind

-- Some words can come after these so that reading doesn't find this fault.
abbrev pub Allows : {X : Type 0} → (List (List ℕ) → Result X AsmKind) → AsmKind
    → List (List ℕ) → Type 0
Allows read kind words = (more : List (List ℕ)) × (read (words ++ more) ≢ Err kind)

-- The word that causes the fault of these words. The words before it allow a line without the
-- fault; with this word every line has it. If no word causes it, one is missing after the last.
pub data IsWrong {X : Type 0} (read : List (List ℕ) → Result X AsmKind) (kind : AsmKind)
    (words before : List (List ℕ)) : Option (List ℕ) → Type 0 where
  wrong : (word : List ℕ) → (rest : List (List ℕ)) → words ≡ before ++ word ∷ rest
      → Allows read kind before → Settles read kind (before ++ word ∷ [])
      → IsWrong read kind words before (Some word)
  missing : words ≡ before → Allows read kind before → IsWrong read kind words before None

-- a line stops being as expected where reading finds its fault
abbrev pub Stops : {X : Type 0} → (List (List ℕ) → Result X AsmKind) → AsmKind
    → List (List ℕ) → Stop → Type 0
Stops read kind words s = IsWrong read kind words s.before s.word

-- a fault of an operand
abbrev pub IsOfOperand : AsmKind → Type 0
IsOfOperand kind = (kind ≡ BadNumber) ⊎ (kind ≡ BadOperands)

-- The first word of a line that isn't what is expected there is the word where the assembler finds
-- the fault of an operand, after the lines before.
abbrev pub OperandsStop : Type 0
OperandsStop =
    (text : List ℕ) (e : AsmError) → outlined text ≡ Err e → IsOfOperand e.kind
    → (o : Outline) × (lines_read 1 empty (take (e.line - 1) (lines text)) ≡ Ok o)
    × Stops (said e.line o) e.kind (words_at text e.line) (stop First (words_at text e.line))
