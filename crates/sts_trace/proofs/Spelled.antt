-- The fields of a line that is spelled as it should be.
use Rattle.std.proofs.Common.{◌≡◌, ℕ, ◌<◌, ◌^◌, Bool, true, false, List, [], ◌∷◌, ◌++◌, arith, refl, ◌∙◌, ap, append_assoc}
use Rattle.std.proofs.lemmas.Bool.{and_parts}
use Rattle.std.proofs.lemmas.Bool.Decides.{nat_tests}
use Rattle.std.specs.Prelude.{codes}
use Rattle.std.specs.List.{All, list_all}
use Rattle.std.specs.Char.{is_ascii_digit}
use Rattle.std.specs.Fmt.{decimal}
use Rattle.std.proofs.lemmas.Fmt.{digits_decimal, decimal_nonempty}
use Rattle.std.proofs.lemmas.List.Elements.{All-nil, All-cons}
use Rattle.std.proofs.lemmas.List.Splits.{slice_split_at, slice_split_none}
use Rattle.sts_text.specs.Words.{is_newline, is_space, fields, is_filled}
use Rattle.sts_text.proofs.NumberLemmas.{own}
use Rattle.sts_model.specs.declared.event.Event.{Event}
use Rattle.sts_model.specs.declared.event.Event.TheVariants.{Step, Interrupt, Expire}
use Rattle.sts_trace.specs.declared.outside.Due.{Due}
use Rattle.sts_trace.specs.Reading.{is_outside_word}
use Rattle.sts_trace.specs.Spelling.{event_text, due_text, number_of, is_outside}

-- no byte of a word of digits separates
digits_free : (p : ℕ → Bool) → ((b : ℕ) → is_ascii_digit b ≡ true → p b ≡ false) → (ds : List ℕ) → list_all is_ascii_digit ds ≡ true → All (λ b. p b ≡ false) ds
digits_free p other [] e = All-nil (λ b. p b ≡ false)
digits_free p other (d ∷ ds) e =
    let h = and_parts (is_ascii_digit d) (list_all is_ascii_digit ds) e in
    All-cons (λ b. p b ≡ false) d ds (other d h.0) (digits_free p other ds h.1)

digit_no_space : (b : ℕ) → is_ascii_digit b ≡ true → is_space b ≡ false
digit_no_space b e = grind (arith, nat_tests)

digit_no_newline : (b : ℕ) → is_ascii_digit b ≡ true → is_newline b ≡ false
digit_no_newline b e = grind (arith, nat_tests)

pub number_no_space : (n : ℕ) → n < 2 ^ 32 → All (λ b. is_space b ≡ false) (decimal n)
number_no_space n h = digits_free is_space digit_no_space (decimal n) (digits_decimal own n (omega arith))

pub number_no_newline : (n : ℕ) → n < 2 ^ 32 → All (λ b. is_newline b ≡ false) (decimal n)
number_no_newline n h = digits_free is_newline digit_no_newline (decimal n) (digits_decimal own n (omega arith))

pub number_filled : (n : ℕ) → n < 2 ^ 32 → is_filled (decimal n) ≡ true
number_filled n h = let p = decimal_nonempty n (omega arith) in grind (arith, nat_tests, p)

-- the word that an event begins with
abbrev pub word_of : Event → List ℕ
word_of (Step n) = codes "step"
word_of (Interrupt n) = codes "interrupt"
word_of (Expire n) = codes "expire"

pub event_parts : (e : Event) → event_text e ≡ word_of e ++ 32 ∷ decimal (number_of e)
event_parts (Step n) = refl
event_parts _ = refl

number_alone : (n : ℕ) → n < 2 ^ 32 → fields (decimal n) ≡ decimal n ∷ []
number_alone n h = slice_split_none is_space (decimal n) (number_no_space n h)

pub event_fields : (e : Event) → number_of e < 2 ^ 32 → fields (event_text e) ≡ word_of e ∷ decimal (number_of e) ∷ []
event_fields (Step n) h = rw (number_alone n h) refl
event_fields (Interrupt n) h = rw (number_alone n h) refl
event_fields (Expire n) h = rw (number_alone n h) refl

pub due_parts : (due : Due) → due_text due ≡ codes "at" ++ 32 ∷ (decimal due.at ++ 32 ∷ event_text due.event)
due_parts due = ap (λ (xs : List ℕ). codes "at " ++ xs) (append_assoc (decimal due.at) (codes " ") (event_text due.event))

pub due_fields : (due : Due) → due.at < 2 ^ 32 → number_of due.event < 2 ^ 32 → fields (due_text due) ≡ codes "at" ∷ decimal due.at ∷ word_of due.event ∷ decimal (number_of due.event) ∷ []
due_fields due h k =
    let p : fields (decimal due.at ++ 32 ∷ event_text due.event) ≡ decimal due.at ∷ word_of due.event ∷ decimal (number_of due.event) ∷ [] = slice_split_at is_space (decimal due.at) 32 (event_text due.event) (number_no_space due.at h) refl ∙ ap (λ (ps : List (List ℕ)). decimal due.at ∷ ps) (event_fields due.event k) in
    ap fields (due_parts due) ∙ ap (λ (ps : List (List ℕ)). codes "at" ∷ ps) p

pub outside_word : (e : Event) → is_outside_word (word_of e) ≡ is_outside e
outside_word (Step n) = refl
outside_word _ = refl
