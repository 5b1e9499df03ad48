-- What is kept of the functions of a text while it is assembled: a line is dropped when its function
-- ends, unless it is read again (this project's own).
use Rattle.std.specs.Prelude.{◌≡◌, ◌≤◌, ◌++◌, ℕ, Bool, false, List, [], ◌∷◌, length, take, drop}
use Rattle.std.specs.Prelude.{replicate, Option, Some, None, Result, Ok, Err, if◌then◌else◌}
use Rattle.std.specs.List.{list_all}
use Rattle.sts_code.specs.Checks.{program_fault}
use Rattle.sts_code.specs.Program.{Program, Routine}
use Rattle.sts_code.specs.declared.instr.Instr.{Instr}
use Rattle.sts_asm.specs.declared.fault.AsmKind.{AsmKind}
use Rattle.sts_asm.specs.declared.fault.AsmError.{AsmError}
use Rattle.sts_asm.specs.Fault.{◌>>=◌, FailsAt}
use Rattle.sts_asm.specs.Line.{has_names, instr_of}
use Rattle.sts_asm.specs.Marks.{Mark}
use Rattle.sts_asm.specs.Outline.{Sentence, Draft, Outline, AreUnnamed, no_needs}
use Rattle.sts_asm.specs.Text as text
use Rattle.sts_asm.specs.Text.{each, instr_at, checked}

-- a function that has ended: its instructions, and the lines that are read again
pub record Kept : Type 0 where
  pub name : List ℕ
  pub args : ℕ
  pub needs : List Bool
  pub labels : List Mark
  pub again : List Sentence
  pub code : List Instr

-- the lines whose instructions name a label or a function
abbrev pub naming_lines : List Sentence → List Instr → List Sentence
naming_lines [] code = []
naming_lines (line ∷ lines) [] = []
naming_lines (line ∷ lines) (instr ∷ code) =
    if has_names instr then line ∷ naming_lines lines code else naming_lines lines code

-- does what was read name a label or a function?
abbrev pub is_naming_read : Result Instr AsmKind → Bool
is_naming_read (Ok i) = has_names i
is_naming_read (Err kind) = false

-- Is each of the lines an instruction that names a label or a function?
abbrev pub are_naming : List Sentence → Bool
are_naming lines = list_all (λ (s : Sentence). is_naming_read (instr_of None s.words)) lines

-- an instruction, if it names nothing
abbrev pub without_names : Instr → Option Instr
without_names i = if has_names i then None else Some i

-- the instructions, those that name something read again from the lines
abbrev pub filled : (Sentence → Result Instr AsmError) → List Sentence → List Instr
    → Result (List Instr) AsmError
filled read [] code = Ok code
filled read (line ∷ again) [] = Ok []
filled read (line ∷ again) (i ∷ code) =
    if has_names i then (read line >>= λ j. filled read again code >>= λ is. Ok (j ∷ is))
    else (filled read (line ∷ again) code >>= λ is. Ok (i ∷ is))

-- a function, its names looked up
abbrev pub routine_of : List Mark → Kept → Result Routine AsmError
routine_of functions k =
    filled (instr_at (record { labels = k.labels; functions = functions })) k.again k.code
    >>= λ code. Ok (record { name = k.name; args = k.args; needs = k.needs; code = code })

-- The lines of a function were dropped, except those that name a label or a function.
pub record IsShortened (d : Draft) (k : Kept) : Type 0 where
  pub name : k.name ≡ d.name
  pub args : k.args ≡ d.args
  pub needs : k.needs ≡ d.needs
  pub labels : k.labels ≡ d.labels
  pub unnamed : AreUnnamed d.code k.code
  pub again : k.again ≡ naming_lines d.code k.code

-- This is kept of a function that ended when these functions were there: once all functions of the
-- text are known, it gives what the function's lines give.
abbrev pub IsKept : List Mark → Draft → Kept → Type 0
IsKept functions d k =
    (later : List Mark) → routine_of (functions ++ later) k ≡ text.routine_of (functions ++ later) d

-- This is kept of each of the functions.
abbrev pub AreKept : List Mark → List Draft → List Kept → Type 0
AreKept functions [] [] = Unit {0}
AreKept functions [] (k ∷ ks) = ⊥
AreKept functions (d ∷ ds) [] = ⊥
AreKept functions (d ∷ ds) (k ∷ ks) = IsKept functions d k × AreKept functions ds ks

-- a function without a name and without lines
abbrev pub no_draft : Draft
no_draft = record { name = []; args = 0; needs = no_needs; labels = []; code = [] }

-- an outline from which the first functions were taken
abbrev pub without_first : ℕ → Outline → Outline
without_first count o = record o { done = replicate count no_draft ++ drop count o.done }

-- This is left of an outline, and this is kept of the functions that were taken from it.
pub record AreTaken (o p : Outline) (ks : List Kept) : Type 0 where
  pub few : length ks ≤ length o.done
  pub left : p ≡ without_first (length ks) o
  pub kept : AreKept o.functions (take (length ks) o.done) ks

-- A whole text was read, and all its functions were taken; or its first fault was found.
abbrev pub AllTaken : {X : Type 0} → Result X AsmError → Outline → List Kept
    → Result Outline AsmError → Type 0
AllTaken (Ok x) left ks (Ok o) = AreTaken o left ks × (length ks ≡ length o.done)
AllTaken (Ok x) left ks (Err e) = ⊥
AllTaken (Err e) left ks read = FailsAt e e.kind read

-- the program of functions that were kept, or its first unknown name, or the check that fails
abbrev pub program_of : Outline → List Kept → Result Program AsmError
program_of o ks =
    each (routine_of o.functions) ks >>= λ rs. checked o.profile rs (program_fault rs)
