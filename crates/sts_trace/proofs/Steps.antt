-- A first line that is a step.
use Rattle.std.proofs.Common.{◌≡◌, ℕ, ◌+◌, ◌-◌, ◌*◌, ◌/◌, ◌%◌, ◌<◌, ◌≤◌, ◌^◌, List, [], ◌∷◌, ◌++◌}
use Rattle.std.proofs.Common.{length, take, take_all, drop, arith, refl, ap, sym, ◌∙◌, append_assoc}
use Rattle.std.specs.Prelude.{slice_index, codes, Bool, IsTrue, ◌==◌, ◌↔◌}
use Rattle.std.proofs.lemmas.Bool.Decides.{Decides-eqb}
use Rattle.std.specs.Fmt.{decimal}
use Rattle.std.specs.Int.{w32, from_le_bytes, to_le_bytes}
use Rattle.std.proofs.lemmas.Fmt.{decimal_digit, decimal_step}
use Rattle.std.proofs.lemmas.List.Splits.{slice_split_at}
use Rattle.std.proofs.lemmas.List.{take-append-drop}
use Rattle.std.proofs.lemmas.Nat.{le_bytes_4}
use Rattle.sts_text.specs.Words.{is_newline, lines}
use Rattle.sts_model.specs.declared.event.Event.TheVariants.{Step}
use Rattle.sts_trace.specs.Spelling.{event_text}
use Rattle.sts_trace.proofs.Only.{event_one_line}

digit_last : (n d : ℕ) → 0 < n → n < 10 ^ 9 → d < 10 → decimal (n * 10 + d) ≡ decimal n ++ (48 + d) ∷ []
digit_last n d low high digit =
    let front : (n * 10 + d) / 10 ≡ n = omega arith in
    let last : (n * 10 + d) % 10 ≡ d = omega arith in
    decimal_step (n * 10 + d) (omega arith) (omega arith) ∙ ap (λ (m : ℕ). decimal m ++ (48 + (n * 10 + d) % 10) ∷ []) front ∙ ap (λ (e : ℕ). decimal n ++ (48 + e) ∷ []) last

-- what follows the first byte
after_first : (b : ℕ) (text : List ℕ) → take (length (b ∷ text) - 1) text ≡ text
after_first b text = take_all (length (b ∷ text) - 1) text (omega arith)

pub shorter_after : (text : List ℕ) → length (take (length text - 1) (drop 1 text)) ≤ length text
shorter_after [] = omega arith
shorter_after (b ∷ text) = rw (after_first b text) (omega arith)

-- a text's first byte, a digit, goes to the number before it
pub digit_more : (n d : ℕ) (text : List ℕ) → 0 < n → n < 10 ^ 9 → 1 ≤ length text → slice_index text 0 ≡ d + 48 → d < 10 → decimal (n * 10 + d) ++ take (length text - 1) (drop 1 text) ≡ decimal n ++ text
digit_more n d [] low high long is small = absurd (omega arith)
digit_more n d (b ∷ text) low high long is small =
    let byte : 48 + d ≡ b = omega arith in
    ap (λ (xs : List ℕ). decimal (n * 10 + d) ++ xs) (after_first b text) ∙ ap (λ (xs : List ℕ). xs ++ text) (digit_last n d low high small) ∙ append_assoc (decimal n) ((48 + d) ∷ []) text ∙ ap (λ (x : ℕ). decimal n ++ x ∷ text) byte

-- a digit is the number that it spells
pub digit_first : (n : ℕ) (text : List ℕ) → 1 ≤ length text → slice_index text 0 ≡ n + 48 → n < 10 → decimal n ++ take (length text - 1) (drop 1 text) ≡ text
digit_first n [] long is small = absurd (omega arith)
digit_first n (b ∷ text) long is small =
    let byte : 48 + n ≡ b = omega arith in
    ap (λ (xs : List ℕ). decimal n ++ xs) (after_first b text) ∙ ap (λ (xs : List ℕ). xs ++ text) (decimal_digit n small) ∙ ap (λ (x : ℕ). x ∷ text) byte

same_word : (word : List ℕ) (n m : ℕ) → length word ≡ 4 → ((i : ℕ) → slice_index word i < 256) → n ≡ from_le_bytes w32 word → m ≡ from_le_bytes w32 (codes "step") → n ≡ m → word ≡ codes "step"
same_word word n m long bytes e f same = sym (le_bytes_4 word n long bytes e) ∙ ap (to_le_bytes w32) (same ∙ f)

-- four bytes are those of `step` if and only if both are one number
pub word_decides : (word : List ℕ) (n m : ℕ) (r : Bool) → length word ≡ 4 → ((i : ℕ) → slice_index word i < 256) → n ≡ from_le_bytes w32 word → m ≡ from_le_bytes w32 (codes "step") → r ≡ (n == m) → IsTrue r ↔ (word ≡ codes "step")
word_decides word n m r long bytes e f is =
    (λ t. same_word word n m long bytes e f ((Decides-eqb n m).0 (sym is ∙ t)), λ w. is ∙ (Decides-eqb n m).1 (e ∙ ap (from_le_bytes w32) w ∙ sym f))

front : (rest : List ℕ) (c : ℕ) → 1 ≤ length rest → slice_index rest 0 ≡ c → rest ≡ c ∷ take (length rest - 1) (drop 1 rest)
front [] c long e = absurd (omega arith)
front (b ∷ rest) c long e = ap (λ (x : ℕ). x ∷ rest) e ∙ sym (ap (λ (xs : List ℕ). c ∷ xs) (after_first b rest))

spelled : (text number after : List ℕ) (n : ℕ) → take 4 text ≡ codes "step" → drop 4 text ≡ 32 ∷ number → number ≡ decimal n ++ 10 ∷ after → text ≡ event_text (Step n) ++ 10 ∷ after
spelled text number after n p q r =
    sym (take-append-drop 4 text) ∙ ap (λ (xs : List ℕ). xs ++ drop 4 text) p ∙ ap (λ (xs : List ℕ). codes "step" ++ xs) (q ∙ ap (λ (xs : List ℕ). 32 ∷ xs) r)

-- the word, a space, a number and a newline make the first line
pub step_first : (text word rest after : List ℕ) (n : ℕ) → word ≡ codes "step" → word ≡ take 4 text → rest ≡ drop 4 text → 1 ≤ length rest → slice_index rest 0 ≡ 32 → take (length rest - 1) (drop 1 rest) ≡ decimal n ++ after → n < 2 ^ 32 → 1 ≤ length after → slice_index after 0 ≡ 10 → lines text ≡ event_text (Step n) ∷ lines (take (length after - 1) (drop 1 after))
step_first text word rest after n named front_is rest_is long space number small more ends =
    let tail = take (length after - 1) (drop 1 after) in
    ap lines (spelled text (take (length rest - 1) (drop 1 rest)) tail n (sym front_is ∙ named) (sym rest_is ∙ front rest 32 long space) (number ∙ ap (λ (xs : List ℕ). decimal n ++ xs) (front after 10 more ends)))
    ∙ slice_split_at is_newline (event_text (Step n)) 10 tail (event_one_line (Step n) small) refl
