-- The functions of a text, if they can be read (this project's own).
use Rattle.std.specs.Prelude.{ℕ, List, Option, Some, None, Result, Ok, Err}
use Rattle.sts_asm.specs.Outline.{Outline}
use Rattle.sts_asm.specs.Source.{outlined}
use Rattle.sts_asm.specs.declared.fault.AsmError.{AsmError}

abbrev pub read : Result Outline AsmError → Option Outline
read (Err e) = None
read (Ok o) = Some o

-- the functions of a text, or none if a fault is found before any name is looked up
abbrev pub functions_of : List ℕ → Option Outline
functions_of text = read (outlined text)
