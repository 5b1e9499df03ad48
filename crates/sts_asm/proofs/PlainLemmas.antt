use Rattle.std.proofs.Common.{take_all, ◌≡◌, ℕ, zero, suc, ◌+◌, ◌-◌, ◌<◌, ◌≤◌, Bool, true, false, cond, List}
use Rattle.std.proofs.Common.{[], ◌∷◌, Some, length, take, drop, get_or, arith, refl, inl, inr}
use Rattle.std.specs.Prelude.{◌&&◌, not, nat_le, nat_lt}
use Rattle.std.specs.List.{list_all, before_first, position, position_or_len, slice_split}
use Rattle.std.proofs.lemmas.Bool.{and_parts, cases_lt}
use Rattle.std.proofs.lemmas.Bool.Decides.{nat_tests}
use Rattle.sts_text.specs.Words.{is_newline}
use Rattle.sts_text.proofs.WordLemmas.{cut_some}
use Rattle.sts_asm.specs.declared.plain.Class.{Class}
use Rattle.sts_asm.specs.declared.plain.Class.TheVariants.{Plain, Allowed}
use Rattle.sts_asm.specs.Outline.{is_allowed, is_semicolon, is_plain}
use Rattle.sts_asm.specs.Plain.{is_in}

parts : (a s r : Bool) → ((a && not s) && r) ≡ true → (a ≡ true) × (s ≡ false) × (r ≡ true)
parts true false true e = (refl, refl, refl)
parts true false false e = cc
parts true true r e = cc
parts false s r e = cc

allowed : (b : ℕ) → (nat_le 32 b && nat_le b 126) ≡ true → is_allowed b ≡ true
allowed b e = grind (arith, nat_tests)

-- a line of plain bytes is allowed
plain_allowed : (line : List ℕ) → list_all is_plain line ≡ true → list_all is_allowed line ≡ true
plain_allowed [] e = refl
plain_allowed (b ∷ rest) e =
    let h = parts (nat_le 32 b && nat_le b 126) (is_semicolon b) (list_all is_plain rest) e in
    rw (allowed b h.0, plain_allowed rest h.2) refl

no_comment : (s : Bool) (b : ℕ) (rest : List ℕ) (n : ℕ) → s ≡ false → length rest ≤ n → length (b ∷ rest) ≤ cond (not s) (1 + n) 0
no_comment true b rest n e h = cc
no_comment false b rest n e h = omega (arith, h)

plain_longer : (line : List ℕ) → list_all is_plain line ≡ true → length line ≤ position_or_len is_semicolon line
plain_longer [] e = omega arith
plain_longer (b ∷ rest) e =
    let h = parts (nat_le 32 b && nat_le b 126) (is_semicolon b) (list_all is_plain rest) e in
    no_comment (is_semicolon b) b rest (position_or_len is_semicolon rest) h.1 (plain_longer rest h.2)

-- and has no comment
pub plain_whole : (line : List ℕ) → list_all is_plain line ≡ true → before_first is_semicolon line ≡ line
plain_whole line e = take_all (position_or_len is_semicolon line) line (plain_longer line e)

-- a class has only allowed bytes
pub class_allowed : (class : Class) (line : List ℕ) → list_all (is_in class) line ≡ true → list_all is_allowed line ≡ true
class_allowed Plain line e = plain_allowed line e
class_allowed Allowed line e = e

-- ---- the first line, if its bytes are allowed

allowed_no_newline : (b : ℕ) → is_allowed b ≡ true → is_newline b ≡ false
allowed_no_newline b e = grind (arith, nat_tests)

both_true : (a b : Bool) → a ≡ true → b ≡ true → (a && b) ≡ true
both_true true true p q = refl
both_true true false p q = cc
both_true false b p q = cc

-- a test that holds byte by byte holds of all
pub front_all : (test : ℕ → Bool) (text : List ℕ) (n : ℕ) → ((k : ℕ) → k < n → test (get_or text k 0) ≡ true) → list_all test (take n text) ≡ true
front_all test text zero h = refl
front_all test [] (suc n) h = refl
front_all test (x ∷ xs) (suc n) h = both_true (test x) (list_all test (take n xs)) (h 0 (omega arith)) (front_all test xs n (λ k less. h (suc k) (omega arith)))

-- and so do the bytes of two parts, one after the other
pub front_more : (test : ℕ → Bool) (text : List ℕ) (n m : ℕ) → ((k : ℕ) → k < n → test (get_or text k 0) ≡ true) → ((k : ℕ) → n ≤ k → k < n + m → test (get_or text k 0) ≡ true) → (k : ℕ) → k < n + m → test (get_or text k 0) ≡ true
front_more test text n m front back k less = elim (cases_lt k n) [ inl early ↦ front k early | inr late ↦ back k late less ]

-- a newline after allowed bytes is the first
newline_place : (text : List ℕ) (n : ℕ) → list_all is_allowed (take n text) ≡ true → n < length text → get_or text n 0 ≡ 10 → position_or_len is_newline text ≡ n
newline_place [] n h less e = absurd (omega arith)
newline_place (x ∷ xs) zero h less e =
    let n : is_newline x ≡ true = grind (arith, nat_tests, e) in
    rw n refl
newline_place (x ∷ xs) (suc n) h less e =
    let p = and_parts (is_allowed x) (list_all is_allowed (take n xs)) h in
    rw (allowed_no_newline x p.0, newline_place xs n p.1 (omega arith) e) (omega arith)

first_newline : (text : List ℕ) (n : ℕ) → list_all is_allowed (take n text) ≡ true → n < length text → get_or text n 0 ≡ 10 → position is_newline text ≡ Some n
first_newline text n h less e =
    let yes : nat_lt n (length text) ≡ true = grind (arith, nat_tests) in
    rw (newline_place text n h less e, yes) refl

-- the text is cut there
pub allowed_cut : (text : List ℕ) (n : ℕ) → list_all is_allowed (take n text) ≡ true → n < length text → get_or text n 0 ≡ 10 → slice_split is_newline text ≡ take n text ∷ slice_split is_newline (take (length text - (n + 1)) (drop (n + 1) text))
allowed_cut text n h less e = cut_some is_newline text n (first_newline text n h less e)
