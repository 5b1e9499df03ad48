-- Splitting an input at the mark.
use Rattle.std.proofs.Common.{◌≡◌, ℕ, suc, ◌+◌, ◌≤◌, List, [], ◌∷◌, ◌++◌, length, take, true, false, refl, arith, ap, sym, append_assoc, ◌∙◌}
use Rattle.std.proofs.Math.Seq.{take-append-add}
use Rattle.std.proofs.lemmas.List.{length-append, length-take}
use Rattle.std.proofs.lemmas.List.Splits.{join_with_byte-slice_split}
use Rattle.std.specs.List.{join_with_byte}
use Rattle.sts_text.specs.Words.{is_newline, lines}
use Rattle.sts_text.proofs.WordLemmas.{has_part}
use Rattle.sts_output.specs.Joined.{Halves, halves, halves_of, is_mark, after_line}

-- a line and the text after its newline make up the text
pub line_and_rest : (text line after : List ℕ) → lines text ≡ line ∷ lines after → text ≡ line ++ 10 ∷ after
line_and_rest text line after e =
    let part = has_part is_newline after in
    sym (join_with_byte-slice_split 10 text) ∙ ap (join_with_byte 10) e ∙ at_part line (lines after) part.first part.others part.is ∙ ap (λ xs. line ++ 10 ∷ xs) (join_with_byte-slice_split 10 after)
  where
    at_part : (line : List ℕ) (parts : List (List ℕ)) (first : List ℕ) (others : List (List ℕ)) → parts ≡ first ∷ others → join_with_byte 10 (line ∷ parts) ≡ line ++ 10 ∷ join_with_byte 10 parts
    at_part line parts first others p = rw p refl

-- at the mark all that follows is the trace
pub at_mark : (text line after : List ℕ) → lines text ≡ line ∷ lines after → is_mark line ≡ true → halves (lines text) ≡ record { text = []; trace = after }
at_mark text line after e m =
    let part = has_part is_newline after in
    ap halves e ∙ go (lines after) part.first part.others part.is ∙ ap (λ xs. ended xs) (join_with_byte-slice_split 10 after)
  where
    ended : List ℕ → Halves
    ended xs = record { text = []; trace = xs }

    go : (parts : List (List ℕ)) (first : List ℕ) (others : List (List ℕ)) → parts ≡ first ∷ others → halves (line ∷ parts) ≡ ended (join_with_byte 10 parts)
    go parts first others p = rw (p, m) refl

-- before the mark a line is text
pub before_mark : (text line after : List ℕ) → lines text ≡ line ∷ lines after → is_mark line ≡ false → halves (lines text) ≡ after_line line (halves (lines after))
before_mark text line after e m =
    let part = has_part is_newline after in
    ap halves e ∙ go (lines after) part.first part.others part.is
  where
    go : (parts : List (List ℕ)) (first : List ℕ) (others : List (List ℕ)) → parts ≡ first ∷ others → halves (line ∷ parts) ≡ after_line line (halves parts)
    go parts first others p = rw (p, m) refl

-- the first n bytes of the input were read, and the rest comes after them
pub record IsRead (input : List ℕ) (n : ℕ) (rest : List ℕ) : Type 0 where
  pub within : n ≤ length input
  pub whole : input ≡ take n input ++ rest

-- a line more
pub reads_line : (input rest line after : List ℕ) (n : ℕ) → IsRead input n rest → rest ≡ line ++ 10 ∷ after → IsRead input (n + (length line + 1)) after × (take (n + (length line + 1)) input ≡ take n input ++ (line ++ 10 ∷ []))
reads_line input rest line after n r e =
    let front = take n input in
    let size : length front ≡ n = simp length-take (omega (arith, r.within)) in
    let all : input ≡ front ++ (line ++ 10 ∷ after) = r.whole ∙ ap (λ xs. front ++ xs) e in
    let taken : take (n + (length line + 1)) input ≡ front ++ (line ++ 10 ∷ []) =
    ap (λ xs. take (n + (length line + 1)) xs) all
    ∙ ap (λ k. take (k + (length line + 1)) (front ++ (line ++ 10 ∷ after))) (sym size)
    ∙ take-append-add front (line ++ 10 ∷ after) (length line + 1)
    ∙ ap (λ xs. front ++ xs) (take-append-add line (10 ∷ after) 1) in
    let long : length input ≡ length front + (length line + suc (length after)) = simp length-append at (ap length all) in (
      record {
        within = omega arith;
        whole = all ∙ ap (λ xs. front ++ xs) (sym (append_assoc line (10 ∷ []) after)) ∙ sym (append_assoc front (line ++ 10 ∷ []) after) ∙ ap (λ xs. xs ++ after) (sym taken);
      },
      taken,
    )

-- the halves of an input, once a line more was read that isn't the mark
pub splits_on : (input rest line after : List ℕ) (n : ℕ) → lines rest ≡ line ∷ lines after → is_mark line ≡ false → IsRead input n rest → (halves_of input).text ≡ take n input ++ (halves (lines rest)).text → (halves_of input).trace ≡ (halves (lines rest)).trace → IsRead input (n + (length line + 1)) after × ((halves_of input).text ≡ take (n + (length line + 1)) input ++ (halves (lines after)).text) × ((halves_of input).trace ≡ (halves (lines after)).trace)
splits_on input rest line after n cut unmarked read text trace =
    let later = before_mark rest line after cut unmarked in
    let more = reads_line input rest line after n read (line_and_rest rest line after cut) in
    let others = (halves (lines after)).text in (
      more.0,
      text ∙ ap (λ (h : Halves). take n input ++ h.text) later
          ∙ sym (append_assoc (take n input) (line ++ 10 ∷ []) others ∙ ap (λ xs. take n input ++ xs) (append_assoc line (10 ∷ []) others))
          ∙ ap (λ xs. xs ++ others) (sym more.1),
      trace ∙ ap (λ (h : Halves). h.trace) later,
    )
