use Rattle.std.proofs.Common.{◌≡◌, ℕ, ◌<◌, Bool, true, List, [], ◌∷◌, ◌++◌, length, take_all, refl, ◌∙◌, ap, arith, append-nil}
use Rattle.std.specs.Prelude.{◌==◌, ◌&&◌, ◌||◌, not, nat_le, filter, ⊤}
use Rattle.std.specs.List.{list_all, slice_split, before_first, position_or_len}
use Rattle.std.proofs.lemmas.List.Folds.{list_all-append}
use Rattle.std.proofs.lemmas.Bool.Decides.{nat_tests}
use Rattle.std.proofs.lemmas.Bool.{and_parts, and_from, not-true}
pub use Rattle.std.proofs.lemmas.Bool.{and_parts as both}
use Rattle.sts_text.specs.Words.{is_newline, is_blank, is_filled, lines, words}
use Rattle.sts_asm.specs.Outline.{is_allowed, is_semicolon}
use Rattle.sts_list.specs.Spelling.{after_spaces}

-- a byte of a word of a listing
abbrev pub is_plain : ℕ → Bool
is_plain b = nat_le 33 b && (nat_le b 126 && not (b == 59))

-- a byte of a line of a listing
abbrev pub is_text : ℕ → Bool
is_text b = b == 32 || is_plain b

pub all_implied : (f g : ℕ → Bool) → ((b : ℕ) → f b ≡ true → g b ≡ true) → (xs : List ℕ) → list_all f xs ≡ true → list_all g xs ≡ true
all_implied f g h [] e = refl
all_implied f g h (x ∷ xs) e = let p = and_parts (f x) (list_all f xs) e in and_from (g x) (list_all g xs) (h x p.0) (all_implied f g h xs p.1)

pub all_append : (f : ℕ → Bool) (xs ys : List ℕ) → list_all f xs ≡ true → list_all f ys ≡ true → list_all f (xs ++ ys) ≡ true
all_append f xs ys e h = list_all-append f xs ys ∙ and_from (list_all f xs) (list_all f ys) e h

plain_no_blank : (b : ℕ) → is_plain b ≡ true → not (is_blank b) ≡ true
plain_no_blank b e = grind (arith, nat_tests)

pub plain_text : (b : ℕ) → is_plain b ≡ true → is_text b ≡ true
plain_text b e = grind (arith, nat_tests)

text_no_newline : (b : ℕ) → is_text b ≡ true → not (is_newline b) ≡ true
text_no_newline b e = grind (arith, nat_tests)

text_no_semicolon : (b : ℕ) → is_text b ≡ true → not (is_semicolon b) ≡ true
text_no_semicolon b e = grind (arith, nat_tests)

text_allowed : (b : ℕ) → is_text b ≡ true → is_allowed b ≡ true
text_allowed b e = grind (arith, nat_tests)

cut_free : (p : ℕ → Bool) (xs : List ℕ) (y : ℕ) (ys : List ℕ) → list_all (λ x. not (p x)) xs ≡ true → p y ≡ true → slice_split p (xs ++ y ∷ ys) ≡ xs ∷ slice_split p ys
cut_free p [] y ys f h = rw h refl
cut_free p (x ∷ xs) y ys f h =
    let g = and_parts (not (p x)) (list_all (λ x. not (p x)) xs) f in
    rw (not-true (p x) g.0, cut_free p xs y ys g.1 h) refl

alone_free : (p : ℕ → Bool) (xs : List ℕ) → list_all (λ x. not (p x)) xs ≡ true → slice_split p xs ≡ xs ∷ []
alone_free p [] f = refl
alone_free p (x ∷ xs) f =
    let g = and_parts (not (p x)) (list_all (λ x. not (p x)) xs) f in
    rw (not-true (p x) g.0, alone_free p xs g.1) refl

none_found : (p : ℕ → Bool) (xs : List ℕ) → list_all (λ x. not (p x)) xs ≡ true → position_or_len p xs ≡ length xs
none_found p [] f = refl
none_found p (x ∷ xs) f =
    let g = and_parts (not (p x)) (list_all (λ x. not (p x)) xs) f in
    rw (not-true (p x) g.0) (rw (none_found p xs g.1) (omega arith))

first_free : (p : ℕ → Bool) (xs : List ℕ) → list_all (λ x. not (p x)) xs ≡ true → before_first p xs ≡ xs
first_free p xs f = let e = none_found p xs f in take_all (position_or_len p xs) xs (omega arith)

-- a line that ends is the first line
pub line_cut : (line rest : List ℕ) → list_all is_text line ≡ true → lines (line ++ 10 ∷ rest) ≡ line ∷ lines rest
line_cut line rest f = cut_free is_newline line 10 rest (all_implied is_text (λ b. not (is_newline b)) text_no_newline line f) refl

pub line_uncommented : (line : List ℕ) → list_all is_text line ≡ true → before_first is_semicolon line ≡ line
line_uncommented line f = first_free is_semicolon line (all_implied is_text (λ b. not (is_semicolon b)) text_no_semicolon line f)

pub line_allowed : (line : List ℕ) → list_all is_text line ≡ true → list_all is_allowed line ≡ true
line_allowed line f = all_implied is_text is_allowed text_allowed line f

-- a word of a listing
pub record IsWord (word : List ℕ) : Type 0 where
  pub filled : 0 < length word
  pub plain : list_all is_plain word ≡ true

-- words of a listing
abbrev pub AreWords : List (List ℕ) → Type 0
AreWords [] = ⊤
AreWords (word ∷ rest) = IsWord word × AreWords rest

pub words_text : (ws : List (List ℕ)) → AreWords ws → list_all is_text (after_spaces ws) ≡ true
words_text [] h = refl
words_text (w ∷ ws) h = all_append is_text (32 ∷ w) (after_spaces ws) (all_implied is_plain is_text plain_text w h.0.plain) (words_text ws h.1)

filled_test : (w : List ℕ) → 0 < length w → is_filled w ≡ true
filled_test w h = grind (arith, nat_tests)

-- the words of words one space apart
pub words_read : (w : List ℕ) (ws : List (List ℕ)) → IsWord w → AreWords ws → words (w ++ after_spaces ws) ≡ w ∷ ws
words_read w [] h hs =
    ap words (append-nil w)
    ∙ ap (filter is_filled) (alone_free is_blank w (all_implied is_plain (λ b. not (is_blank b)) plain_no_blank w h.plain))
    ∙ rw (filled_test w h.filled) refl
words_read w (v ∷ vs) h hs =
    ap (filter is_filled) (cut_free is_blank w 32 (v ++ after_spaces vs) (all_implied is_plain (λ b. not (is_blank b)) plain_no_blank w h.plain) refl)
    ∙ rw (filled_test w h.filled) (ap (λ (r : List (List ℕ)). w ∷ r) (words_read v vs hs.0 hs.1))
