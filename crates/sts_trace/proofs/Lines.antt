-- Reading line by line: the effect of one line on the result.
use Rattle.std.proofs.Common.{◌≡◌, ℕ, ◌+◌, ◌<◌, true, false, cond, List, [], ◌∷◌, ◌++◌, length, arith, refl, sym, ap, ◌∙◌, append_assoc, append-nil}
use Rattle.std.proofs.lemmas.Bool.Decides.{nat_tests}
use Rattle.std.specs.Prelude.{◌==◌, Result, Ok, Err}
use Rattle.sts_text.specs.Words.{is_newline, lines, is_filled}
use Rattle.sts_text.proofs.WordLemmas.{HasPart, has_part}
use Rattle.sts_trace.specs.declared.error.TraceError.{TraceError}
use Rattle.sts_trace.specs.declared.error.TraceError.TheVariants.{NoNewline, Memory}
use Rattle.sts_trace.specs.Reading.{◌>>=◌, Fails, lines_read}

-- values before what is read
abbrev pub with_front : {A : Type 0} → List A → Result (List A) TraceError → Result (List A) TraceError
with_front front (Ok values) = Ok (front ++ values)
with_front front (Err e) = Err e

read_more : {A : Type 0} (said : ℕ → List ℕ → Result A TraceError) (at : ℕ) (line : List ℕ) (ps : List (List ℕ)) → HasPart ps → lines_read said at (line ∷ ps) ≡ (said at line >>= λ x. lines_read said (at + 1) ps >>= λ xs. Ok (x ∷ xs))
unfolding lines_read
read_more said at line [] h = absurd (let empty : [] ≡ h.first ∷ h.others = h.is in cc)
read_more said at line (p ∷ ps) h = refl

-- the first line, and then the text after it
pub cut : {A : Type 0} (said : ℕ → List ℕ → Result A TraceError) (at : ℕ) (text line after : List ℕ) → lines text ≡ line ∷ lines after → lines_read said at (lines text) ≡ (said at line >>= λ x. lines_read said (at + 1) (lines after) >>= λ xs. Ok (x ∷ xs))
cut said at text line after e = rw e (read_more said at line (lines after) (has_part is_newline after))

front_moves : {A : Type 0} (front : List A) (x : A) (r : Result (List A) TraceError) → with_front front (r >>= λ xs. Ok (x ∷ xs)) ≡ with_front (front ++ x ∷ []) r
front_moves {A} front x (Ok xs) = let ok : List A → Result (List A) TraceError = λ ys. Ok ys in ap ok (sym (append_assoc front (x ∷ []) xs))
front_moves front x (Err e) = refl

-- what a good line says goes to the front
pub line_step : {A : Type 0} (said : ℕ → List ℕ → Result A TraceError) (front : List A) (at : ℕ) (text line after : List ℕ) (x : A) → lines text ≡ line ∷ lines after → said at line ≡ Ok x → with_front (front ++ x ∷ []) (lines_read said (at + 1) (lines after)) ≡ with_front front (lines_read said at (lines text))
line_step said front at text line after x e is = rw (cut said at text line after e, is) (sym (front_moves front x (lines_read said (at + 1) (lines after))))

-- a bad line ends the reading
line_fault : {A : Type 0} (said : ℕ → List ℕ → Result A TraceError) (front : List A) (at : ℕ) (text line after : List ℕ) (f : TraceError) → lines text ≡ line ∷ lines after → said at line ≡ Err f → with_front front (lines_read said at (lines text)) ≡ Err f
line_fault said front at text line after f e is = rw (cut said at text line after e, is) refl

fails_more : {A B : Type 0} (f : TraceError) (a : Result A TraceError) (b : Result B TraceError) → (a ≡ Err f → b ≡ Err f) → Fails f a → Fails f b
fails_more Memory a b more h = h
fails_more _ a b more h = more h

pub line_fails : {A : Type 0} (said : ℕ → List ℕ → Result A TraceError) (front : List A) (at : ℕ) (text line after : List ℕ) (f : TraceError) → lines text ≡ line ∷ lines after → Fails f (said at line) → Fails f (with_front front (lines_read said at (lines text)))
line_fails said front at text line after f e h = fails_more f (said at line) (with_front front (lines_read said at (lines text))) (line_fault said front at text line after f e) h

last : {A : Type 0} (said : ℕ → List ℕ → Result A TraceError) (at : ℕ) (text : List ℕ) → lines text ≡ text ∷ [] → lines_read said at (lines text) ≡ cond (is_filled text) (Err NoNewline) (Ok [])
unfolding lines_read
last said at text e = rw e refl

pub ends_well : {A : Type 0} (said : ℕ → List ℕ → Result A TraceError) (front : List A) (at : ℕ) (text : List ℕ) → lines text ≡ text ∷ [] → length text ≡ 0 → with_front front (lines_read said at (lines text)) ≡ Ok front
ends_well {A} said front at text e z = let t : (length text == 0) ≡ true = grind (arith, nat_tests) in rw (last said at text e, t) (let ok : List A → Result (List A) TraceError = λ xs. Ok xs in ap ok (append-nil front))

pub ends_badly : {A : Type 0} (said : ℕ → List ℕ → Result A TraceError) (front : List A) (at : ℕ) (text : List ℕ) → lines text ≡ text ∷ [] → 0 < length text → with_front front (lines_read said at (lines text)) ≡ Err NoNewline
ends_badly said front at text e z = let t : (length text == 0) ≡ false = grind (arith, nat_tests) in rw (last said at text e, t) refl

zero_length : (n : ℕ) → true ≡ (n == 0) → n ≡ 0
zero_length n e = grind (arith, nat_tests)

some_length : (n : ℕ) → false ≡ (n == 0) → 0 < n
some_length n e = grind (arith, nat_tests)

-- the reading of the whole text, where nothing is left after the last newline
pub whole_read : {A : Type 0} (said : ℕ → List ℕ → Result A TraceError) (front : List A) (at : ℕ) (text : List ℕ) (whole : Result (List A) TraceError) → with_front front (lines_read said at (lines text)) ≡ whole → lines text ≡ text ∷ [] → true ≡ (length text == 0) → whole ≡ Ok front
whole_read said front at text whole before e empty = sym before ∙ ends_well said front at text e (zero_length (length text) empty)

-- and where something is left
pub rest_left : {A : Type 0} (said : ℕ → List ℕ → Result A TraceError) (front : List A) (at : ℕ) (text : List ℕ) (whole : Result (List A) TraceError) → with_front front (lines_read said at (lines text)) ≡ whole → lines text ≡ text ∷ [] → false ≡ (length text == 0) → whole ≡ Err NoNewline
rest_left said front at text whole before e filled = sym before ∙ ends_badly said front at text e (some_length (length text) filled)

pub no_front : {A : Type 0} (r : Result (List A) TraceError) → with_front [] r ≡ r
no_front (Ok xs) = refl
no_front (Err f) = refl

pub ruleset reads = (line_step, line_fails, ends_well, ends_badly, no_front)
