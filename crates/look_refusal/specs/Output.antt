-- The output for a text, and the status that goes with it (this project's own).
use Rattle.std.specs.Prelude.{◌≡◌, ◌≢◌, ◌⊎◌, ℕ, List, [], ◌++◌, Result, Ok, Err, codes}
use Rattle.sts_code.specs.Program.{Program}
use Rattle.sts_output.specs.Output.{Output, memory_output}
use Rattle.sts_asm.specs.Outline.{Outline}
use Rattle.sts_asm.specs.Source.{outlined, sentence_at}
use Rattle.sts_asm.specs.Text.{judged}
use Rattle.sts_asm.specs.declared.fault.AsmError.{AsmError}
use Rattle.sts_rules.specs.Refusal.{IsAccepted, IsRefusal}
use Rattle.sts_rules.specs.declared.typing.Cause.{Cause}
use Rattle.sts_rules.specs.declared.typing.Cause.TheVariants.{StatesDiffer}
use Rattle.look_refusal.specs.declared.ways.Meeting.{Meeting}
use Rattle.look_refusal.specs.declared.parts.Part.{Part}
use Rattle.look_refusal.specs.declared.remedy.Remedy.{Remedy}
use Rattle.look_refusal.specs.Remedies.{IsRemedy}
use Rattle.look_refusal.specs.Ways.{Meets}
use Rattle.look_refusal.specs.Differences.{AreDifferences, difference_lines}
use Rattle.look_refusal.specs.Lines.{refused_lines}
use Rattle.look_text.specs.Lines.{fault_lines}
use Rattle.look_refusal.specs.Weights.{weight_lines}
use Rattle.sts_budget.specs.declared.change.Resource.{Resource}
use Rattle.sts_budget.specs.Change.{cause_of}
use Rattle.look_accepted.specs.declared.notes.Note.{Note}
use Rattle.look_accepted.specs.Notes.{AreNotes}
use Rattle.look_accepted.specs.Lines.{note_lines}
use Rattle.look_refusal.specs.declared.heavy.Heavy.{Heavy}
use Rattle.look_refusal.specs.Heavy.{IsHeavy, NeedsMoreBits}

-- a line for each instruction that relies on a rule that JDK 25 doesn't share comes last
abbrev pub accepted_output : Outline → Program → List Note → Output
accepted_output o p notes =
    record { bytes = codes "accepted\n" ++ note_lines o p notes; status = 0 }

abbrev pub fault_output : AsmError → List ℕ → Output
fault_output e text = record { bytes = fault_lines e text; status = 3 }

-- ---- refusals

-- The detail of a cause. If two ways differ, it has the parts that differ, at least one. If a
-- budget is over its limit, it has the weights of a path, unless 128 bits don't hold the count of
-- some point. All other causes have no detail.
pub data IsDetail (p : Program) (o : Outline) (f pc : ℕ) : Cause → List ℕ → Type 0 where
  meets : (m : Meeting) (parts : List Part) → Meets p f pc m
      → AreDifferences m.one.state m.other.state parts
      → IsDetail p o f pc StatesDiffer (difference_lines o p f m parts)
  weighs : (k : Resource) (h : Heavy) {c : Cause} → c ≡ cause_of k → IsHeavy p f k h
      → IsDetail p o f pc c (weight_lines o f k h)
  none : {c : Cause} → c ≢ StatesDiffer
      → ((k : Resource) → c ≡ cause_of k → NeedsMoreBits p f k) → IsDetail p o f pc c []

-- what was printed before, and then the detail
pub data Tells (p : Program) (o : Outline) (f pc : ℕ) (c : Cause)
    (before after : List ℕ) : Type 0 where
  told : (detail : List ℕ) → IsDetail p o f pc c detail → after ≡ before ++ detail
      → Tells p o f pc c before after

abbrev pub refused_output : Program → Outline → ℕ → ℕ → Cause → Remedy → List ℕ → Output
refused_output p o f pc c remedy detail =
    record { bytes = refused_lines p (sentence_at o f pc) f c remedy ++ detail; status = 4 }

-- the output for a refused program: the place and the cause of its refusal, what to do about it, and
-- the detail of the cause
pub record IsRefused (p : Program) (o : Outline) (output : Output) : Type 0 where
  pub function : ℕ
  pub place : ℕ
  pub cause : Cause
  pub remedy : Remedy
  pub detail : List ℕ
  pub refusal : IsRefusal p function place cause
  pub right : IsRemedy p function place cause remedy
  pub told : IsDetail p o function place cause detail
  pub printed : output ≡ refused_output p o function place cause remedy detail

-- the output for an accepted program, or for a refused one
pub data IsVerdict (p : Program) (o : Outline) (output : Output) : Type 0 where
  accepted : (notes : List Note) → IsAccepted p → AreNotes p notes
      → output ≡ accepted_output o p notes → IsVerdict p o output
  refused : IsRefused p o output → IsVerdict p o output

-- ---- texts

-- the output for the program that a text spells, or for its first fault
abbrev pub Explains : Result Program AsmError → List ℕ → Output → Type 0
Explains (Ok p) text output = (o : Outline) × ((outlined text ≡ Ok o) × IsVerdict p o output)
Explains (Err e) text output = output ≡ fault_output e text

-- the explanation of a text, or that memory ran out
abbrev pub IsExplanation : List ℕ → Output → Type 0
IsExplanation text output = Explains (judged text) text output ⊎ (output ≡ memory_output)
