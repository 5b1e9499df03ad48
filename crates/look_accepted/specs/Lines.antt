-- The lines of the notes (this project's own).
use Rattle.std.specs.Prelude.{ℕ, List, ◌++◌, codes}
use Rattle.std.specs.List.{flat_map}
use Rattle.sts_code.specs.Program.{Program, routine}
use Rattle.sts_asm.specs.Outline.{Outline}
use Rattle.sts_asm.specs.Source.{sentence_at}
use Rattle.look_text.specs.Lines.{place_words}
use Rattle.look_accepted.specs.declared.notes.Note.{Note}
use Rattle.look_accepted.specs.declared.reliance.Reliance.{Reliance}
use Rattle.look_accepted.specs.declared.reliance.Reliance.TheVariants.{SecondJoin, FirstBinding}
use Rattle.look_accepted.specs.declared.reliance.Reliance.TheVariants.{LateRead}

-- what JDK 25 does there, up to the place
abbrev pub rule_words : Reliance → List ℕ
rule_words SecondJoin =
    codes "JDK 25 throws IllegalStateException at a join after an interrupted one: in "
rule_words FirstBinding =
    codes "JDK 25 throws StructureViolationException at a fork behind a thread's first binding: in "
rule_words LateRead = codes "JDK 25 throws IllegalStateException at a read after a timeout: in "

-- `JDK 25 throws IllegalStateException at a join after an interrupted one: in main, line 9: join s0
-- - - out`
abbrev pub note_line : Outline → Program → Note → List ℕ
note_line o p n =
    rule_words n.reliance ++ (routine p n.function).name
    ++ place_words (sentence_at o n.function n.place) ++ codes "\n"

-- a line for each
abbrev pub note_lines : Outline → Program → List Note → List ℕ
note_lines o p notes = flat_map (note_line o p) notes
