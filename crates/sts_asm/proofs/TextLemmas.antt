use Rattle.std.proofs.Common.{◌≡◌, ◌≢◌, ℕ, ◌+◌, Bool, true, false, List, [], ◌∷◌, length, arith, refl, sym, ◌∙◌, ap}
use Rattle.std.specs.Prelude.{Result, Ok, Err, is_some}
use Rattle.sts_asm.specs.declared.fault.AsmKind.{AsmKind}
use Rattle.sts_asm.specs.declared.fault.AsmKind.TheVariants.{Unclosed, Memory}
use Rattle.sts_asm.specs.declared.fault.AsmError.{AsmError}
use Rattle.sts_text.specs.Words.{lines}
use Rattle.sts_asm.specs.Fault.{◌>>=◌, at_line, FailsAt}
use Rattle.sts_asm.specs.Outline.{Outline, empty, line_read, lines_read, closed, outline_of}

-- a good line leads to the lines after it
pub line_step : (at : ℕ) (o p : Outline) (line : List ℕ) (text rest : List ℕ) → lines text ≡ line ∷ lines rest → at_line at (line_read at o line) ≡ Ok p → lines_read at o (lines text) ≡ lines_read (at + 1) p (lines rest)
unfolding lines_read
line_step at o p line text rest cut e = rw (cut, e) refl

line_fault : (at : ℕ) (o : Outline) (e : AsmError) (line : List ℕ) (more : List (List ℕ)) → at_line at (line_read at o line) ≡ Err e → lines_read at o (line ∷ more) ≡ Err e
unfolding lines_read
line_fault at o e line more h = rw h refl

-- the last line
pub line_last : (at : ℕ) (o p : Outline) (text : List ℕ) → lines text ≡ text ∷ [] → at_line at (line_read at o text) ≡ Ok p → lines_read at o (lines text) ≡ Ok p
unfolding lines_read
line_last at o p text last e = rw (last, e) refl

-- a fault stays the first one, whatever would follow
pub fails_on : {X Y : Type 0} (k : AsmKind) (e : AsmError) (a : Result X AsmError) (b : Result Y AsmError) → (a ≡ Err e → b ≡ Err e) → FailsAt e k a → FailsAt e k b
fails_on Memory e a b f h = h
fails_on _ e a b f h = f h

pub ruleset reads = (line_step, line_last)

pub err_bind : {A B E : Type 0} (r : Result A E) (f : A → Result B E) (e : E) → r ≡ Err e → (r >>= f) ≡ Err e
err_bind r f e h = rw h refl

-- what failed, failed before it was put elsewhere
pub mapped_err : {X Y E : Type 0} (r : Result X E) (f : X → Y) (e : E) → (r >>= λ x. Ok (f x)) ≡ Err e → r ≡ Err e
mapped_err (Ok x) f e h = absurd (cc)
mapped_err {E = E} (Err k) f e h = let same : k ≡ e = cc in ap (λ (z : E). Err z) same

pub ok_bind : {A B E : Type 0} (r : Result A E) (f : A → Result B E) (x : A) → r ≡ Ok x → (r >>= f) ≡ f x
ok_bind r f x h = rw h refl

pub bind_ok : {A B E : Type 0} (r : Result A E) (f : A → Result B E) (y : B) → (r >>= f) ≡ Ok y → (x : A) × (r ≡ Ok x) × (f x ≡ Ok y)
bind_ok (Ok x) f y e = (x, refl, e)
bind_ok (Err k) f y e = cc

-- a fault of the line that is read next is the text's first
pub outline_fails : (at : ℕ) (o : Outline) (e : AsmError) (line : List ℕ) (more : List (List ℕ)) (rest text : List ℕ) → lines_read at o (lines rest) ≡ lines_read 1 empty (lines text) → lines rest ≡ line ∷ more → FailsAt e e.kind (at_line at (line_read at o line)) → FailsAt e e.kind (outline_of text)
outline_fails at o e line more rest text read cut h =
    fails_on e.kind e (at_line at (line_read at o line)) (outline_of text)
    (λ (f : at_line at (line_read at o line) ≡ Err e). err_bind (lines_read 1 empty (lines text)) (λ p. closed (length (lines text)) p) e (sym read ∙ ap (lines_read at o) cut ∙ line_fault at o e line more f)) h

-- after the last line the outline is the whole text's; only a function may still be open
pub outline_read : (at : ℕ) (o p : Outline) (rest text : List ℕ) → lines_read at o (lines rest) ≡ lines_read 1 empty (lines text) → at + length (lines rest) ≡ length (lines text) + 1 → lines rest ≡ rest ∷ [] → at_line at (line_read at o rest) ≡ Ok p → outline_of text ≡ closed at p
outline_read at o p rest text read number last e =
    let whole : lines_read 1 empty (lines text) ≡ Ok p = sym read ∙ line_last at o p rest last e in
    let one : length (lines rest) ≡ 1 = ap length last in
    let here : length (lines text) ≡ at = omega arith in
    ok_bind (lines_read 1 empty (lines text)) (λ p. closed (length (lines text)) p) p whole ∙ ap (λ (n : ℕ). closed n p) here

pub closed_open : (at : ℕ) (p : Outline) (b : Bool) → b ≡ is_some p.current → b ≡ true → closed at p ≡ Err (record { line = at; kind = Unclosed })
closed_open at p b e t = rw (sym e, t) refl

pub closed_well : (at : ℕ) (p : Outline) (b : Bool) → b ≡ is_some p.current → b ≡ false → closed at p ≡ Ok p
closed_well at p b e t = rw (sym e, t) refl

told_by : (X : Type 0) (e : AsmError) (k : AsmKind) → k ≢ Memory → FailsAt {Y = X} e k (Err e)
told_by X e Memory other = absurd (other refl)
told_by X e _ other = refl

-- a fault of the text is the fault of what was read
pub told_fault : (X : Type 0) (e : AsmError) → e.kind ≢ Memory → FailsAt {Y = X} e e.kind (Err e)
told_fault X e fault = told_by X e e.kind fault
