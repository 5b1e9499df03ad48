-- A text is explained by its fault, or by the verdict on its program.
use Rattle.std.proofs.Common.{◌≡◌, ◌≢◌, ℕ, List, Bool, true, false, cond, length, refl, sym, ◌∙◌, ap, subst}
use Rattle.std.specs.Prelude.{Result, Ok, Err, nat_lt}
use Rattle.sts_code.specs.Program.{Program}
use Rattle.sts_asm.specs.declared.fault.AsmKind.TheVariants.{TextTooLong}
use Rattle.sts_asm.specs.declared.fault.AsmError.{AsmError}
use Rattle.sts_asm.specs.Fault.{◌>>=◌}
use Rattle.sts_asm.specs.Outline.{Outline, outline_of}
use Rattle.sts_asm.specs.Source.{outline_or_empty, outlined}
use Rattle.sts_asm.specs.Text.{judged, program_of}
use Rattle.sts_output.specs.Output.{Output}
use Rattle.look_refusal.specs.Output.{Explains, IsVerdict, IsRefused, accepted, refused}

-- too long, or as it was read
abbrev unless_long : {X : Type 0} → Bool → Result X AsmError → Result X AsmError
unless_long long r = cond long (Err (record { line = 0; kind = TextTooLong })) r

spelled_by : (long : Bool) (r : Result Outline AsmError) (p : Program) → unless_long long (r >>= program_of) ≡ Ok p → unless_long long r ≡ Ok (outline_or_empty (unless_long long r))
spelled_by true r p e = absurd (cc)
spelled_by false (Ok o) p e = refl
spelled_by false (Err k) p e = absurd (cc)

-- a text that spells a program has an outline
pub spelled : (text : List ℕ) (p : Program) → judged text ≡ Ok p → outlined text ≡ Ok (outline_or_empty (outlined text))
spelled text p e = spelled_by (nat_lt 1048576 (length text)) (outline_of text) p e

-- a verdict on its program explains the text
pub verdict_explains : (text : List ℕ) (p : Program) (o : Outline) (output : Output) → judged text ≡ Ok p → o ≡ outline_or_empty (outlined text) → IsVerdict p o output → Explains (judged text) text output
verdict_explains text p o output e is v =
    subst (λ (r : Result Program AsmError). Explains r text output) (sym e)
    (o, (spelled text p e ∙ ap (λ (x : Outline). Ok x) (sym is), v))

-- and it doesn't say that memory ran out
pub verdict_whole : (p : Program) (o : Outline) (output : Output) → IsVerdict p o output → output.status ≢ 6
verdict_whole p o output (accepted notes sound right e) = λ six. (let zero : 0 ≡ 6 = sym (ap (λ (x : Output). x.status) e) ∙ six in absurd (cc))
verdict_whole p o output (refused r) = λ six. (let four : 4 ≡ 6 = sym (ap (λ (x : Output). x.status) r.printed) ∙ six in absurd (cc))
