-- A text that was read isn't too long.
use Rattle.std.proofs.Common.{◌≡◌, ℕ, ◌≤◌, List, Bool, true, false, length, refl, arith}
use Rattle.std.specs.Prelude.{Some, Result, Err, if◌then◌else◌, nat_lt}
use Rattle.sts_asm.specs.declared.fault.AsmKind.TheVariants.{TextTooLong}
use Rattle.sts_asm.specs.declared.fault.AsmError.{AsmError}
use Rattle.sts_asm.specs.Outline.{Outline, outline_of}
use Rattle.look_text.specs.Functions.{read, functions_of}

short : (long : Bool) (n : ℕ) (r : Result Outline AsmError) (o : Outline) → nat_lt 1048576 n ≡ long → read (if long then Err (record { line = 0; kind = TextTooLong }) else r) ≡ Some o → n ≤ 1048576
short true n r o l e = absurd (cc)
short false n r o l e = grind (arith, l)

pub functions_short : (text : List ℕ) (o : Outline) → functions_of text ≡ Some o → length text ≤ 1048576
functions_short text o e = short (nat_lt 1048576 (length text)) (length text) (outline_of text) o refl e
