-- What is wrong with a text, in lines that editors, make and CI jump by (this project's own).
use Rattle.std.specs.Prelude.{◌≡◌, ◌≢◌, ◌⊎◌, ℕ, List, [], ◌∷◌, ◌++◌, codes, Result, Ok, Err}
use Rattle.std.specs.List.{flat_map}
use Rattle.sts_code.specs.Program.{Program}
use Rattle.sts_text.specs.Words.{lines}
use Rattle.sts_asm.specs.Text.{judged}
use Rattle.sts_asm.specs.declared.fault.AsmError.{AsmError}
use Rattle.sts_output.specs.Output.{Output, memory_output}
use Rattle.sts_rules.specs.Refusal.{IsAccepted, IsRefusal}
use Rattle.sts_rules.specs.declared.typing.Cause.{Cause}
use Rattle.sts_rules.specs.declared.typing.Cause.TheVariants.{StatesDiffer}
use Rattle.look_accepted.specs.declared.notes.Note.{Note}
use Rattle.look_accepted.specs.Lines.{note_lines}
use Rattle.look_accepted.specs.Notes.{AreNotes}
use Rattle.look_names.specs.Names.{outline_of}
use Rattle.look_refusal.specs.Output.{IsExplanation}
use Rattle.look_refusal.specs.Ways.{Meets}
use Rattle.look_refusal.specs.declared.ways.Meeting.{Meeting}
use Rattle.look_refusal.specs.declared.ways.WayOrigin.{WayOrigin}
use Rattle.look_refusal.specs.declared.ways.WayOrigin.TheVariants.{Beginning, Edge, Turn}
use Rattle.look_text.specs.Lines.{fault_lines}
use Rattle.look_places.specs.Faults.{fault_code, fault_line, refusal_code}
use Rattle.look_places.specs.Marks.{Source, line_of, mark}

-- ---- a line

-- `FILE:LINE:COLUMN: V13: what to do`
abbrev pub problem : Source → ℕ → List ℕ → List ℕ → List ℕ
problem s line code message =
    mark s line ++ codes ": " ++ code ++ codes ": " ++ message ++ codes "\n"

-- `FILE:LINE:COLUMN: note: WORDS`
abbrev pub note : Source → ℕ → List ℕ → List ℕ
note s line words = mark s line ++ codes ": note: " ++ words ++ codes "\n"

-- nothing, if there are no words
abbrev pub note_if : Source → ℕ → List ℕ → List ℕ
note_if s line [] = []
note_if s line (b ∷ bs) = note s line (b ∷ bs)

-- ---- an explanation

abbrev pub notes : Source → ℕ → List (List ℕ) → List ℕ
notes s line words = flat_map (note_if s line) words

abbrev pub below : Source → ℕ → List ℕ → List (List ℕ) → List ℕ
below s line code [] = []
below s line code (message ∷ more) = problem s line code message ++ notes s line more

-- the lines of an explanation: the first says where it is, the second what to do, and each other
-- one is a note
abbrev pub reported : Source → ℕ → List ℕ → List (List ℕ) → List ℕ
reported s line code [] = []
reported s line code (place ∷ rest) = below s line code rest

-- ---- a text with a fault

abbrev pub fault_bytes : Source → AsmError → List ℕ
fault_bytes s e =
    reported s (fault_line s e.kind e.line) (fault_code e.kind) (lines (fault_lines e s.text))

abbrev pub fault_report : Source → AsmError → Output
fault_report s e = record { bytes = fault_bytes s e; status = 3 }

-- ---- a refused program

-- the place that a way comes from; the beginning of the function has no note
abbrev pub way_note : Source → ℕ → WayOrigin → List ℕ
way_note s f Beginning = []
way_note s f (Edge pc number) = note s (line_of s f pc) (codes "one way comes from here")
way_note s f (Turn pc) = note s (line_of s f pc) (codes "one way is the turn that ends here")

abbrev pub meeting_notes : Source → ℕ → Meeting → List ℕ
meeting_notes s f m = way_note s f m.one.origin ++ way_note s f m.other.origin

-- the notes on two ways that meet, if that is the cause
pub data AreWays (s : Source) (p : Program) (f pc : ℕ) : Cause → List ℕ → Type 0 where
  meets : (m : Meeting) → Meets p f pc m → AreWays s p f pc StatesDiffer (meeting_notes s f m)
  none : {c : Cause} → c ≢ StatesDiffer → AreWays s p f pc c []

-- these notes come after what was there
pub data AddsWays (s : Source) (p : Program) (f pc : ℕ) (c : Cause)
    (before after : List ℕ) : Type 0 where
  added : (ways : List ℕ) → AreWays s p f pc c ways → after ≡ before ++ ways
      → AddsWays s p f pc c before after

-- the report of a refusal has the words of its explanation
pub record IsRefused (s : Source) (p : Program) (output : Output) : Type 0 where
  pub function : ℕ
  pub place : ℕ
  pub cause : Cause
  pub explained : Output
  pub ways : List ℕ
  pub refusal : IsRefusal p function place cause
  pub words : IsExplanation s.text explained
  pub whole : explained.status ≢ 6
  pub meeting : AreWays s p function place cause ways
  pub printed : output ≡ record {
    bytes = reported s (line_of s function place) (refusal_code cause) (lines explained.bytes)
        ++ ways;
    status = 4;
  }

-- ---- an accepted program

-- an instruction that relies on a rule that JDK 25 doesn't share
abbrev pub rule_note : Source → Program → Note → List ℕ
rule_note s p n =
    mark s (line_of s n.function n.place) ++ codes ": note: "
    ++ note_lines (outline_of s.text) p (n ∷ [])

abbrev pub accepted_report : Source → Program → List Note → Output
accepted_report s p notes = record { bytes = flat_map (rule_note s p) notes; status = 0 }

-- ---- a text

-- the report on an accepted program, or on a refused one
pub data IsVerdict (s : Source) (p : Program) (output : Output) : Type 0 where
  accepted : (notes : List Note) → IsAccepted p → AreNotes p notes
      → output ≡ accepted_report s p notes → IsVerdict s p output
  refused : IsRefused s p output → IsVerdict s p output

abbrev pub Reports : Source → Result Program AsmError → Output → Type 0
Reports s (Ok p) output = IsVerdict s p output
Reports s (Err e) output = output ≡ fault_report s e

-- the report on a text, or that memory ran out
abbrev pub IsReport : Source → Output → Type 0
IsReport s output = Reports s (judged s.text) output ⊎ (output ≡ memory_output)
