-- The lines of instructions: how each line fits its instruction (this project's own).
use Rattle.std.specs.Prelude.{◌≡◌, ℕ, ◌<◌, ◌≤◌, List, Some, Ok, length, slice_get, slice_index_or}
use Rattle.sts_code.specs.Program.{Program, Routine, routine, no_routine}
use Rattle.sts_code.specs.declared.instr.Instr.{Instr}
use Rattle.sts_text.specs.Words.{lines}
use Rattle.sts_asm.specs.Line.{instr_of}
use Rattle.sts_asm.specs.Outline.{Sentence, Outline}
use Rattle.sts_asm.specs.Source.{outlined, sentence_at, names_at, words_at}
use Rattle.sts_asm.specs.Text.{each, routine_of, judged}

-- the words of a line of a function spell the instruction, if the names have their meaning in the
-- text
abbrev pub Says : Outline → ℕ → Sentence → Instr → Type 0
Says o f s i = instr_of (Some (names_at o f)) s.words ≡ Ok i

-- Each instruction of the program that a text spells has a line in the text, and the words of the
-- line spell it.
abbrev pub LinesSayInstructions : Type 0
LinesSayInstructions =
    (text : List ℕ) (p : Program) (o : Outline) (f pc : ℕ) (i : Instr) → judged text ≡ Ok p
    → outlined text ≡ Ok o → slice_get (routine p f).code pc ≡ Some i
    → (s : Sentence) × ((sentence_at o f pc ≡ Some s) × Says o f s i)

-- Each instruction of the functions that a text spells has such a line too, even if they fail a
-- check and are no program.
abbrev pub FunctionsSayInstructions : Type 0
FunctionsSayInstructions =
    (o : Outline) (rs : List Routine) (f pc : ℕ) (i : Instr)
    → each (routine_of o.functions) o.done ≡ Ok rs
    → slice_get (slice_index_or rs f no_routine).code pc ≡ Some i
    → (s : Sentence) × ((sentence_at o f pc ≡ Some s) × Says o f s i)

-- the number is that of a line of the text, and the words are those of that line
abbrev pub Stands : List ℕ → Sentence → Type 0
Stands text s =
    (0 < s.line) × (s.line ≤ length (lines text)) × (words_at text s.line ≡ s.words)

-- Each line of an instruction is in the text, by its number and with its words.
abbrev pub LinesStandInText : Type 0
LinesStandInText =
    (text : List ℕ) (o : Outline) (f pc : ℕ) (s : Sentence) → outlined text ≡ Ok o
    → sentence_at o f pc ≡ Some s → Stands text s
