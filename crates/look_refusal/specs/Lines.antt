-- The lines of a refusal (this project's own).
use Rattle.std.specs.Prelude.{ℕ, List, ◌++◌, codes, Option}
use Rattle.std.specs.Fmt.{decimal}
use Rattle.sts_code.specs.Program.{Program, routine}
use Rattle.sts_asm.specs.Outline.{Sentence}
use Rattle.sts_rules.specs.Causes.{cause_number}
use Rattle.sts_rules.specs.declared.typing.Cause.{Cause}
use Rattle.look_text.specs.Lines.{place_words}
use Rattle.look_refusal.specs.declared.remedy.Remedy.{Remedy}
use Rattle.look_refusal.specs.Sentences.{remedy_sentence}

-- `refused V12 in main, line 9: close s0`, and what to do about it
abbrev pub refused_lines : Program → Option Sentence → ℕ → Cause → Remedy → List ℕ
refused_lines p s f c remedy =
    codes "refused V" ++ decimal (cause_number c) ++ codes " in " ++ (routine p f).name
    ++ place_words s ++ codes "\n" ++ remedy_sentence remedy ++ codes "\n"
