-- Texts that are appended in a row (for callers too), and a wrong word after others.
use Rattle.std.proofs.Common.{◌≡◌, ℕ, List, [], ◌∷◌, ◌++◌, Bool, true, refl, sym, ap, ◌∙◌, append_assoc}
use Rattle.std.specs.Prelude.{if◌then◌else◌, Some, codes, option_map, slice_get}
use Rattle.std.proofs.lemmas.List.{append-nil}
use Rattle.sts_asm.specs.declared.fault.AsmKind.TheVariants.{UnknownWord, DuplicateLabel}
use Rattle.sts_list.specs.Spelling.{after_spaces}
use Rattle.laws_words.proofs.AppendLemmas.{two_parts}
use Rattle.look_text.specs.declared.wanted.Expected.{Expected}
use Rattle.look_text.specs.declared.wanted.Expected.TheVariants.{NewLabel}
use Rattle.look_text.specs.Wanted.{Stop, stop, behind, fits, after, first_wrong, in_place_of, wrong_place}
use Rattle.look_text.specs.Wrong.{bracketed, expected_words, wanted_words, stop_words}

-- five texts are appended in a row
pub five_said : (a b d e f before one two three four five : List ℕ) → one ≡ before ++ a → two ≡ one ++ b → three ≡ two ++ d → four ≡ three ++ e → five ≡ four ++ f → five ≡ before ++ ((((a ++ b) ++ d) ++ e) ++ f)
five_said a b d e f before one two three four five g h i j k =
    let after_two : two ≡ before ++ (a ++ b) = two_parts before a b one two g h in
    let after_three : three ≡ before ++ ((a ++ b) ++ d) = two_parts before (a ++ b) d two three after_two i in
    let after_four : four ≡ before ++ (((a ++ b) ++ d) ++ e) = two_parts before ((a ++ b) ++ d) e three four after_three j in
    two_parts before (((a ++ b) ++ d) ++ e) f four five after_four k

pub behind_words : (word : List ℕ) (s : Stop) → stop_words (behind word s) ≡ (32 ∷ word) ++ stop_words s
behind_words word s =
    ap (λ (x : List ℕ). x ++ wanted_words s.wanted s.word) (append_assoc (32 ∷ word) (after_spaces s.before) (bracketed s.word))
    ∙ append_assoc (32 ∷ word) (after_spaces s.before ++ bracketed s.word) (wanted_words s.wanted s.word)

stop_behind : (wanted : Expected) (word : List ℕ) (left : List (List ℕ)) → fits wanted word ≡ true → stop wanted (word ∷ left) ≡ behind word (stop (after wanted word) left)
stop_behind wanted word left e = ap (λ b. if b then behind word (stop (after wanted word) left) else record { before = []; word = Some word; wanted = wanted }) e

-- nothing can be meant by a missing word
pub missing_words : (wanted : Expected) → stop_words (stop wanted []) ≡ codes " []" ++ expected_words wanted
missing_words wanted = ap (λ (x : List ℕ). codes " []" ++ x) (append-nil (expected_words wanted))

-- a word that is as expected was appended after a space
pub one_word_said : (wanted next : Expected) (word : List ℕ) (words left : List (List ℕ)) (before space after_word : List ℕ) → words ≡ word ∷ left → fits wanted word ≡ true → next ≡ after wanted word → space ≡ before ++ 32 ∷ [] → after_word ≡ space ++ word → after_word ++ stop_words (stop next left) ≡ before ++ stop_words (stop wanted words)
one_word_said wanted next word words left before space after_word e f n g h =
    let rest : List ℕ = stop_words (stop (after wanted word) left) in
    let said : after_word ≡ before ++ (32 ∷ word) = h ∙ ap (λ (x : List ℕ). x ++ word) g ∙ append_assoc before (32 ∷ []) word in
    let whole : stop_words (stop wanted words) ≡ (32 ∷ word) ++ rest = ap (λ (ws : List (List ℕ)). stop_words (stop wanted ws)) e ∙ ap stop_words (stop_behind wanted word left f) ∙ behind_words word (stop (after wanted word) left) in
    ap (λ (w : Expected). after_word ++ stop_words (stop w left)) n ∙ ap (λ (x : List ℕ). x ++ rest) said ∙ append_assoc before (32 ∷ word) rest
    ∙ ap (λ (x : List ℕ). before ++ x) (sym whole)

-- the fault of a first word is in it, if there is one
pub unknown_first : (inside : Bool) (words : List (List ℕ)) → wrong_place UnknownWord inside words ≡ option_map (first_wrong (in_place_of inside)) (slice_get words 0)
unknown_first inside [] = refl
unknown_first inside (word ∷ rest) = refl

pub duplicate_first : (inside : Bool) (words : List (List ℕ)) → wrong_place DuplicateLabel inside words ≡ option_map (first_wrong NewLabel) (slice_get words 0)
duplicate_first inside [] = refl
duplicate_first inside (word ∷ rest) = refl
