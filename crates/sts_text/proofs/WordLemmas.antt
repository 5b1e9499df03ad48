use Rattle.std.proofs.Common.{length-drop, take_all, ◌≡◌, ℕ, ◌+◌, ◌<◌, ◌≤◌, ◌-◌, Bool, true, false, cond, List, [], ◌∷◌, length, arith, refl, drop, take, ◌∙◌}
use Rattle.std.proofs.Common.{ap, ◌⊎◌, inl, inr}
use Rattle.std.specs.Prelude.{◌==◌, not, filter, Some, None, nat_lt}
use Rattle.std.specs.List.{slice_split, before_first, after_first, position, position_or_len, onto_first}
use Rattle.std.proofs.lemmas.List.Splits.{slice_split_first}
use Rattle.std.proofs.lemmas.List.{drop_all}
use Rattle.std.proofs.lemmas.Bool.Decides.{nat_tests}
use Rattle.sts_text.specs.Words.{is_blank, is_filled, words}

pub by_cond : {A : Type 0} (b : Bool) (x y z : A) → cond b x y ≡ z → ((b ≡ true) × (x ≡ z)) ⊎ ((b ≡ false) × (y ≡ z))
by_cond true x y z e = inl (refl, e)
by_cond false x y z e = inr (refl, e)

order_at : (b : Bool) (a n : ℕ) → nat_lt a n ≡ b → (a < n) ⊎ (n ≤ a)
order_at true a n e = inl (grind (arith, nat_tests))
order_at false a n e = inr (grind (arith, nat_tests))

pub order : (a n : ℕ) → (a < n) ⊎ (n ≤ a)
order a n = order_at (nat_lt a n) a n refl

found : (a n i : ℕ) → cond (nat_lt a n) (Some a) None ≡ Some i → (i ≡ a) × (a < n)
found a n i e = elim (by_cond (nat_lt a n) (Some a) None (Some i) e) [ inl h ↦ (cc, grind (arith, nat_tests, h.0)) | inr h ↦ cc ]

missing : (a n : ℕ) → cond (nat_lt a n) (Some a) None ≡ None → n ≤ a
missing a n e = elim (by_cond (nat_lt a n) (Some a) None None e) [ inl h ↦ cc | inr h ↦ grind (arith, nat_tests, h.0) ]

pub position_some : (p : ℕ → Bool) (xs : List ℕ) (i : ℕ) → position p xs ≡ Some i → (i ≡ position_or_len p xs) × (position_or_len p xs < length xs)
position_some p xs i e = found (position_or_len p xs) (length xs) i e

pub position_none : (p : ℕ → Bool) (xs : List ℕ) → position p xs ≡ None → length xs ≤ position_or_len p xs
position_none p xs e = missing (position_or_len p xs) (length xs) e

step : (b : Bool) (x : ℕ) (xs : List ℕ) (n : ℕ) (rest : List (List ℕ)) → length (x ∷ xs) ≤ cond (not b) (1 + n) 0 → (length xs ≤ n → rest ≡ xs ∷ []) → cond b ([] ∷ rest) (onto_first x rest) ≡ (x ∷ xs) ∷ []
step true x xs n rest h r = absurd (omega arith)
step false x xs n rest h r = rw (r (omega arith)) refl

-- if no element passes, there is one part
pub whole : (p : ℕ → Bool) (xs : List ℕ) → length xs ≤ position_or_len p xs → slice_split p xs ≡ xs ∷ []
whole p [] h = refl
whole p (x ∷ xs) h = step (p x) x xs (position_or_len p xs) (slice_split p xs) h (whole p xs)

filled_at : (b : Bool) (w : List ℕ) (rest : List (List ℕ)) → cond (not b) (w ∷ rest) rest ≡ cond b rest (w ∷ rest)
filled_at true w rest = refl
filled_at false w rest = refl

filled : (w : List ℕ) (rest : List (List ℕ)) → filter is_filled (w ∷ rest) ≡ cond (length w == 0) (filter is_filled rest) (w ∷ filter is_filled rest)
filled w rest = filled_at (length w == 0) w (filter is_filled rest)

cut_at : (line before after : List ℕ) → slice_split is_blank line ≡ before ∷ slice_split is_blank after → words line ≡ cond (length before == 0) (words after) (before ∷ words after)
cut_at line before after e = ap (filter is_filled) e ∙ filled before (slice_split is_blank after)

pub words_cut : (line : List ℕ) → words line ≡ cond (length (before_first is_blank line) == 0) (words (after_first is_blank line)) (before_first is_blank line ∷ words (after_first is_blank line))
words_cut line = elim (order (position_or_len is_blank line) (length line)) [
  | inl h ↦ cut_at line (before_first is_blank line) (after_first is_blank line) (slice_split_first is_blank line 0 h)
  | inr h ↦ let k : length line ≤ position_or_len is_blank line + 1 = omega arith in
      rw (take_all (position_or_len is_blank line) line h, drop_all (position_or_len is_blank line + 1) line k) (ap (filter is_filled) (whole is_blank line h) ∙ filled line [])
]

-- the first word is before the first blank, if that is not empty
pub word_first : (line : List ℕ) → 0 < length (before_first is_blank line) → words line ≡ before_first is_blank line ∷ words (after_first is_blank line)
word_first line h = let z : (length (before_first is_blank line) == 0) ≡ false = grind (arith, nat_tests) in rw z at (words_cut line)

pub word_later : (line : List ℕ) → length (before_first is_blank line) ≡ 0 → words line ≡ words (after_first is_blank line)
word_later line h = let z : (length (before_first is_blank line) == 0) ≡ true = grind (arith, nat_tests) in rw z at (words_cut line)

pub after_shorter : (line : List ℕ) → 0 < length line → length (after_first is_blank line) < length line
after_shorter line h = simp length-drop (omega arith)

-- there is always a first part, which may be empty
pub record HasPart (ps : List (List ℕ)) : Type 0 where
  pub first : List ℕ
  pub others : List (List ℕ)
  pub is : ps ≡ first ∷ others

onto : (x : ℕ) (ps : List (List ℕ)) → HasPart ps → HasPart (onto_first x ps)
onto x [] h = absurd (let empty : [] ≡ h.first ∷ h.others = h.is in cc)
onto x (part ∷ ps) h = record { first = x ∷ part; others = ps; is = refl }

part_at : (b : Bool) (x : ℕ) (ps : List (List ℕ)) → HasPart ps → HasPart (cond b ([] ∷ ps) (onto_first x ps))
part_at true x ps h = record { first = []; others = ps; is = refl }
part_at false x ps h = onto x ps h

pub has_part : (p : ℕ → Bool) (xs : List ℕ) → HasPart (slice_split p xs)
has_part p [] = record { first = []; others = []; is = refl }
has_part p (x ∷ xs) = part_at (p x) x (slice_split p xs) (has_part p xs)

pub ruleset positions = (position_some, position_none)

pub words_none : (line : List ℕ) → length line ≡ 0 → words line ≡ []
words_none [] h = refl
words_none (x ∷ xs) h = absurd (omega arith)

pub ruleset words_first = (word_first, word_later, after_shorter, words_none)

-- at the first element that passes, the parts are the elements before it, and the parts of those
-- after it
pub cut_some : (p : ℕ → Bool) (xs : List ℕ) (i : ℕ) → position p xs ≡ Some i → slice_split p xs ≡ take i xs ∷ slice_split p (take (length xs - (i + 1)) (drop (i + 1) xs))
cut_some p xs i e =
    let h = position_some p xs i e in
    let whole_rest : length (drop (i + 1) xs) ≤ length xs - (i + 1) = simp length-drop (omega arith) in
    rw (take_all (length xs - (i + 1)) (drop (i + 1) xs) whole_rest, h.0) (slice_split_first p xs 0 h.1)

pub cut_none : (p : ℕ → Bool) (xs : List ℕ) → position p xs ≡ None → slice_split p xs ≡ xs ∷ []
cut_none p xs e = whole p xs (position_none p xs e)

pub ruleset cuts = (position_some, cut_some, cut_none)
