-- The first fault of a text is found in its line, after the lines before.
use Rattle.std.proofs.Common.{◌≡◌, ℕ, ◌+◌, ◌-◌, Bool, true, false, cond, List, [], ◌∷◌, ◌++◌, length, take, slice_get, refl, sym, ap, ◌∙◌, subst, inl, inr, arith}
use Rattle.std.proofs.lemmas.Grind.{common_steps}
use Rattle.std.specs.Prelude.{Option, Some, Result, Ok, Err, is_some, nat_lt}
use Rattle.std.specs.List.{list_all, before_first}
use Rattle.sts_text.specs.Words.{lines, words}
use Rattle.sts_asm.specs.declared.fault.AsmKind.{AsmKind}
use Rattle.sts_asm.specs.declared.fault.AsmKind.TheVariants.{NotAscii, BadNumber, BadOperands, Unclosed, TextTooLong}
use Rattle.sts_asm.specs.declared.fault.AsmError.{AsmError}
use Rattle.sts_asm.specs.Fault.{◌>>=◌, at_line}
use Rattle.sts_asm.specs.Outline.{Outline, empty, said, is_allowed, is_semicolon, line_read, lines_read, closed, outline_of}
use Rattle.sts_asm.specs.Source.{words_of, words_at}
use Rattle.look_text.specs.declared.wanted.Expected.TheVariants.{First}
use Rattle.look_text.specs.Wanted.{stop}
use Rattle.look_text.specs.WrongWord.{Stops, IsOfOperand, OperandsStop}
use Rattle.look_text.proofs.ExpectedLemmas.{words_operands}

-- the first fault of lines is in this line
record Found (at : ℕ) (o : Outline) (ls : List (List ℕ)) (e : AsmError) : Type 0 where
  done : List (List ℕ)
  line : List ℕ
  rest : List (List ℕ)
  read : Outline
  parts : ls ≡ done ++ line ∷ rest
  before : lines_read at o done ≡ Ok read
  number : e.line ≡ at + length done
  fault : line_read e.line read line ≡ Err e.kind

found_here : (at : ℕ) (o : Outline) (line : List ℕ) (more : List (List ℕ)) (e : AsmError) (k : AsmKind) → line_read at o line ≡ Err k → record { line = at; kind = k } ≡ e → Found at o (line ∷ more) e
unfolding lines_read
found_here at o line more e k h same =
    let kinds : k ≡ e.kind = ap (λ (x : AsmError). x.kind) same in
    let numbers : at ≡ e.line = ap (λ (x : AsmError). x.line) same in
    record {
      done = [];
      line = line;
      rest = more;
      read = o;
      parts = refl;
      before = refl;
      number = sym numbers ∙ omega arith;
      fault = ap (λ (n : ℕ). line_read n o line) (sym numbers) ∙ h ∙ ap (λ (x : AsmKind). Err x) kinds;
    }

found_later : (at : ℕ) (o p : Outline) (line : List ℕ) (more : List (List ℕ)) (e : AsmError) → line_read at o line ≡ Ok p → Found (at + 1) p more e → Found at o (line ∷ more) e
unfolding lines_read
found_later at o p line more e h f =
    let later : lines_read at o (line ∷ f.done) ≡ lines_read (at + 1) p f.done = rw h refl in
    record {
      done = line ∷ f.done;
      line = f.line;
      rest = f.rest;
      read = f.read;
      parts = ap (λ (xs : List (List ℕ)). line ∷ xs) f.parts;
      before = later ∙ f.before;
      number = let n : e.line ≡ at + 1 + length f.done = f.number in grind (arith, common_steps);
      fault = f.fault;
    }

found_in : (at : ℕ) (o : Outline) (line : List ℕ) (more : List (List ℕ)) (e : AsmError) (r : Result Outline AsmKind) → line_read at o line ≡ r → (at_line at r >>= λ p. lines_read (at + 1) p more) ≡ Err e → ((p : Outline) → lines_read (at + 1) p more ≡ Err e → Found (at + 1) p more e) → Found at o (line ∷ more) e
found_in at o line more e (Err k) q g later = found_here at o line more e k q (cc)
found_in at o line more e (Ok p) q g later = found_later at o p line more e q (later p g)

found : (at : ℕ) (o : Outline) (ls : List (List ℕ)) (e : AsmError) → lines_read at o ls ≡ Err e → Found at o ls e
unfolding lines_read
found at o [] e h = absurd (cc)
found at o (line ∷ more) e h = found_in at o line more e (line_read at o line) refl h (λ p g. found (at + 1) p more e g)

-- ---- the whole text

no_kind : (k kind : AsmKind) → IsOfOperand kind → k ≡ kind → (k ≡ BadNumber → ⊥) → (k ≡ BadOperands → ⊥) → ⊥
no_kind k kind (inl e) q a b = a (q ∙ e)
no_kind k kind (inr e) q a b = b (q ∙ e)

allowed_line : (b : Bool) (at : ℕ) (o : Outline) (ws : List (List ℕ)) (kind : AsmKind) → IsOfOperand kind → cond {A = Result Outline AsmKind} b (said at o ws) (Err NotAscii) ≡ Err kind → said at o ws ≡ Err kind
allowed_line true at o ws kind is e = e
allowed_line false at o ws kind is e = absurd (no_kind NotAscii kind is (let k : NotAscii ≡ kind = cc in k) (λ q. absurd (cc)) (λ q. absurd (cc)))

taken : (done : List (List ℕ)) (line : List ℕ) (rest : List (List ℕ)) → take (length done) (done ++ line ∷ rest) ≡ done
taken [] line rest = refl
taken (x ∷ done) line rest = ap (λ (xs : List (List ℕ)). x ∷ xs) (taken done line rest)

got : (done : List (List ℕ)) (line : List ℕ) (rest : List (List ℕ)) → slice_get (done ++ line ∷ rest) (length done) ≡ Some line
got [] line rest = refl
got (x ∷ done) line rest = got done line rest

found_stops : (text : List ℕ) (e : AsmError) → IsOfOperand e.kind → Found 1 empty (lines text) e → (o : Outline) × (lines_read 1 empty (take (e.line - 1) (lines text)) ≡ Ok o) × Stops (said e.line o) e.kind (words_at text e.line) (stop First (words_at text e.line))
found_stops text e is f =
    let n : e.line - 1 ≡ length f.done = let m = f.number in omega arith in
    let before : take (e.line - 1) (lines text) ≡ f.done = ap (λ (k : ℕ). take k (lines text)) n ∙ ap (λ (xs : List (List ℕ)). take (length f.done) xs) f.parts ∙ taken f.done f.line f.rest in
    let here : slice_get (lines text) (e.line - 1) ≡ Some f.line = ap (λ (k : ℕ). slice_get (lines text) k) n ∙ ap (λ (xs : List (List ℕ)). slice_get xs (length f.done)) f.parts ∙ got f.done f.line f.rest in
    let ws : List (List ℕ) = words (before_first is_semicolon f.line) in
    let same : words_at text e.line ≡ ws = ap (λ (l : Option (List ℕ)). words_of l) here in
    let fault : said e.line f.read ws ≡ Err e.kind = allowed_line (list_all is_allowed f.line) e.line f.read ws e.kind is f.fault in (
      f.read,
      ap (λ (ls : List (List ℕ)). lines_read 1 empty ls) before ∙ f.before,
      subst (λ (xs : List (List ℕ)). Stops (said e.line f.read) e.kind xs (stop First xs)) (sym same) (words_operands e.line f.read e.kind ws is fault),
    )

closed_fault : (last : ℕ) (b : Bool) (o : Outline) (e : AsmError) → IsOfOperand e.kind → cond {A = Result Outline AsmError} b (Err (record { line = last; kind = Unclosed })) (Ok o) ≡ Err e → ⊥
closed_fault last true o e is h =
    let same : record { line = last; kind = Unclosed } ≡ e = cc in
    no_kind Unclosed e.kind is (ap (λ (x : AsmError). x.kind) same) (λ q. absurd (cc)) (λ q. absurd (cc))
closed_fault last false o e is h = absurd (cc)

lines_fault : (text : List ℕ) (r : Result Outline AsmError) (e : AsmError) → IsOfOperand e.kind → lines_read 1 empty (lines text) ≡ r → (r >>= λ o. closed (length (lines text)) o) ≡ Err e → Found 1 empty (lines text) e
lines_fault text (Err k) e is h g = let same : k ≡ e = cc in found 1 empty (lines text) e (h ∙ ap (λ (x : AsmError). Err x) same)
lines_fault text (Ok o) e is h g = absurd (closed_fault (length (lines text)) (is_some o.current) o e is g)

text_fault : (text : List ℕ) (b : Bool) (e : AsmError) → IsOfOperand e.kind → cond {A = Result Outline AsmError} b (Err (record { line = 0; kind = TextTooLong })) (outline_of text) ≡ Err e → Found 1 empty (lines text) e
text_fault text true e is h =
    let same : record { line = 0; kind = TextTooLong } ≡ e = cc in
    absurd (no_kind TextTooLong e.kind is (ap (λ (x : AsmError). x.kind) same) (λ q. absurd (cc)) (λ q. absurd (cc)))
text_fault text false e is h = lines_fault text (lines_read 1 empty (lines text)) e is refl h

pub operands_stop : OperandsStop
operands_stop text e h is = found_stops text e is (text_fault text (nat_lt 1048576 (length text)) e is h)
