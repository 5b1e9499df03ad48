-- The instructions of a program that rely on a rule that JDK 25 doesn't share (this project's own).
use Rattle.std.specs.Prelude.{◌≡◌, ℕ, ◌+◌, ◌<◌, List, [], ◌∷◌, ◌++◌, length, Option, None}
use Rattle.std.specs.Prelude.{MatchOption, slice_index_or}
use Rattle.sts_code.specs.Program.{Program}
use Rattle.sts_rules.specs.Refusal.{size}
use Rattle.look_accepted.specs.declared.notes.Note.{Note}
use Rattle.look_accepted.specs.declared.reliance.Reliance.{Reliance}
use Rattle.look_accepted.specs.Relying.{Relies}

-- the instruction at a place relies on no such rule
abbrev pub IsPlain : Program → ℕ → ℕ → Type 0
IsPlain p f pc = (r : Reliance) → ¬ Relies p f pc r

-- for each place of a function the rule that its instruction relies on, or none if it relies on none
pub record AreRules (p : Program) (f : ℕ) (rules : List (Option Reliance)) : Type 0 where
  pub long : length rules ≡ size p f
  pub each : (pc : ℕ) → pc < size p f
      → MatchOption (slice_index_or rules pc None) (IsPlain p f pc) (Relies p f pc)

-- the notes on the first places of a function: each place where the instruction relies on such a
-- rule, with the rule, in order, and no other place
pub data NotesTo (p : Program) (f : ℕ) : ℕ → List Note → Type 0 where
  none : NotesTo p f 0 []
  plain : (pc : ℕ) {notes : List Note} → NotesTo p f pc notes → IsPlain p f pc
      → NotesTo p f (pc + 1) notes
  noted : (pc : ℕ) (r : Reliance) {notes : List Note} → NotesTo p f pc notes → Relies p f pc r
      → NotesTo p f (pc + 1) (notes ++ record { function = f; place = pc; reliance = r } ∷ [])

-- these are added to what was there
pub record AddsNotes (p : Program) (f count : ℕ) (before after : List Note) : Type 0 where
  pub notes : List Note
  pub right : NotesTo p f count notes
  pub added : after ≡ before ++ notes

-- the notes on the first functions
pub data NotesOf (p : Program) : ℕ → List Note → Type 0 where
  none : NotesOf p 0 []
  more : (f : ℕ) {before notes : List Note} → NotesOf p f before → NotesTo p f (size p f) notes
      → NotesOf p (f + 1) (before ++ notes)

-- of all functions
abbrev pub AreNotes : Program → List Note → Type 0
AreNotes p notes = NotesOf p (length p.routines) notes
