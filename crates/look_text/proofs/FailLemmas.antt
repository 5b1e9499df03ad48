-- The word at which a program check fails.
use Rattle.std.proofs.Common.{◌≡◌, ℕ, zero, suc, ◌+◌, ◌<◌, List, [], ◌∷◌, ◌++◌, Bool, true, false, slice_get, take, drop, length, refl, sym, ap, ◌∙◌, append_assoc, arith}
use Rattle.std.proofs.Math.Seq.{take-append_seam}
use Rattle.std.proofs.lemmas.List.{append-nil}
use Rattle.std.specs.Prelude.{Some, None, Option, option_map, ◌||◌, if◌then◌else◌, codes}
use Rattle.std.specs.List.{list_any}
use Rattle.std.specs.Str.{bytes_eq}
use Rattle.sts_asm.specs.Outline.{Draft, Outline}
use Rattle.sts_asm.specs.Source.{name_at}
use Rattle.look_text.specs.declared.wanted.Expected.{Expected}
use Rattle.look_text.specs.Wanted.{Stop, behind, after, first_wrong}
use Rattle.look_text.specs.Wrong.{stop_words, wrong_line}
use Rattle.look_text.specs.Labels.{is_named}
use Rattle.look_text.specs.Failing.{first_failing, wanted_there}
use Rattle.laws_words.proofs.AppendLemmas.{two_parts}
use Rattle.look_text.proofs.LineLemmas.{behind_words}

-- ---- the words up to it

-- the words so far, if a word fails
abbrev pub said_if : List ℕ → Option Stop → List ℕ
said_if before None = []
said_if before (Some s) = before ++ stop_words s

said_behind : (before more word : List ℕ) (o : Option Stop) → more ≡ before ++ (32 ∷ word) → said_if more o ≡ said_if before (option_map (behind word) o)
said_behind before more word None e = refl
said_behind before more word (Some s) e =
    ap (λ (x : List ℕ). x ++ stop_words s) e ∙ append_assoc before (32 ∷ word) (stop_words s) ∙ ap (λ (x : List ℕ). before ++ x) (sym (behind_words word s))

-- one word more, after a space
pub one_said : (before told word all space now : List ℕ) → all ≡ before ++ told → space ≡ all ++ 32 ∷ [] → now ≡ space ++ word → now ≡ before ++ ((told ++ 32 ∷ []) ++ word)
one_said before told word all space now e f g = two_parts before (told ++ 32 ∷ []) word space now (two_parts before told (32 ∷ []) all space e f) g

-- a word that passes was said after a space
pub passed_said : (test : Expected → List ℕ → Bool) (wanted next : Expected) (word : List ℕ) (words left : List (List ℕ)) (before space more : List ℕ) → words ≡ word ∷ left → test wanted word ≡ true → next ≡ after wanted word → space ≡ before ++ 32 ∷ [] → more ≡ space ++ word → said_if more (first_failing test next left) ≡ said_if before (first_failing test wanted words)
passed_said test wanted next word words left before space more e f n g h =
    let said : more ≡ before ++ (32 ∷ word) = h ∙ ap (λ (x : List ℕ). x ++ word) g ∙ append_assoc before (32 ∷ []) word in
    ap (λ (w : Expected). said_if more (first_failing test w left)) n
    ∙ said_behind before more word (first_failing test (after wanted word) left) said
    ∙ ap (λ (b : Bool). said_if before (if b then option_map (behind word) (first_failing test (after wanted word) left) else Some (first_wrong (wanted_there wanted) word))) (sym f)
    ∙ ap (λ (ws : List (List ℕ)). said_if before (first_failing test wanted ws)) (sym e)

at_line : (o : Option Stop) → said_if (codes "at") o ≡ wrong_line o
at_line None = refl
at_line (Some s) = refl

-- the words so far and the word that fails are the line
pub failed_said : (test : Expected → List ℕ → Bool) (wanted there : Expected) (word : List ℕ) (words left : List (List ℕ)) (told said before was more now : List ℕ) (whole : Option Stop) → words ≡ word ∷ left → test wanted word ≡ false → said_if told (first_failing test wanted words) ≡ said_if (codes "at") whole → was ≡ before → said ≡ told → more ≡ was ++ said → there ≡ wanted_there wanted → now ≡ more ++ stop_words (first_wrong there word) → now ≡ before ++ wrong_line whole
failed_said test wanted there word words left told said before was more now whole e f h old same g other end =
    let last : List ℕ = stop_words (first_wrong (wanted_there wanted) word) in
    let line : told ++ last ≡ wrong_line whole =
    ap (λ (b : Bool). said_if told (if b then option_map (behind word) (first_failing test (after wanted word) left) else Some (first_wrong (wanted_there wanted) word))) (sym f)
    ∙ ap (λ (ws : List (List ℕ)). said_if told (first_failing test wanted ws)) (sym e) ∙ h ∙ at_line whole in
    end ∙ ap (λ (w : Expected). more ++ stop_words (first_wrong w word)) other
    ∙ ap (λ (x : List ℕ). x ++ last) (g ∙ ap (λ (x : List ℕ). x ++ said) old ∙ ap (λ (x : List ℕ). before ++ x) same)
    ∙ append_assoc before told last ∙ ap (λ (x : List ℕ). before ++ x) line

-- no word fails, and the words are taken back
pub nothing_said : (before told said now : List ℕ) (start : ℕ) (whole : Option Stop) → said ≡ before ++ told → start ≡ length before → now ≡ take start said → [] ≡ said_if (codes "at") whole → now ≡ before ++ wrong_line whole
nothing_said before told said now start whole e s t none =
    t ∙ ap (λ (n : ℕ). take n said) s ∙ ap (take (length before)) e ∙ take-append_seam before told ∙ sym (append-nil before)
    ∙ ap (λ (x : List ℕ). before ++ x) (none ∙ at_line whole)

-- ---- earlier functions

-- the element passes, if there is one
abbrev at_option : (Draft → Bool) → Option Draft → Bool
at_option p None = false
at_option p (Some d) = p d

any_from : (p : Draft → Bool) (xs : List Draft) (i : ℕ) → list_any p (drop i xs) ≡ (at_option p (slice_get xs i) || list_any p (drop (suc i) xs))
any_from p [] zero = refl
any_from p [] (suc i) = refl
any_from p (x ∷ xs) zero = refl
any_from p (x ∷ xs) (suc i) = any_from p xs i

get_taken : (f i : ℕ) (xs : List Draft) → i < f → slice_get (take f xs) i ≡ slice_get xs i
get_taken zero i xs h = absurd (omega (arith, h))
get_taken (suc f) i [] h = refl
get_taken (suc f) zero (x ∷ xs) h = refl
get_taken (suc f) (suc i) (x ∷ xs) h = get_taken f i xs (omega (arith, h))

named_there : (o : Option Draft) (word : List ℕ) → at_option (λ (d : Draft). bytes_eq d.name word) o ≡ is_named (option_map (λ (d : Draft). d.name) o) word
named_there None word = refl
named_there (Some d) word = refl

-- a name that an earlier function has is that of the function at this place, or of a later one
pub earlier_more : (o : Outline) (f i : ℕ) (word : List ℕ) (b : Bool) → i < f → is_named (name_at o i) word ≡ b → list_any (λ (d : Draft). bytes_eq d.name word) (drop i (take f o.done)) ≡ (b || list_any (λ (d : Draft). bytes_eq d.name word) (drop (i + 1) (take f o.done)))
earlier_more o f i word b small e =
    let p : Draft → Bool = λ (d : Draft). bytes_eq d.name word in
    let next : suc i ≡ i + 1 = omega arith in
    any_from p (take f o.done) i
    ∙ ap (λ (c : Bool). c || list_any p (drop (suc i) (take f o.done))) (ap (at_option p) (get_taken f i o.done small) ∙ named_there (slice_get o.done i) word ∙ e)
    ∙ ap (λ (n : ℕ). b || list_any p (drop n (take f o.done))) next
