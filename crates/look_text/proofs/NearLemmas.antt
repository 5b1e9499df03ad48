-- Words that are near each other, letter by letter.
use Rattle.std.proofs.Common.{◌≡◌, ℕ, ◌<◌, List, [], ◌∷◌, length, drop, map, Bool, true, false, refl, sym, arith}
use Rattle.std.specs.Prelude.{slice_index_or, ◌==◌, if◌then◌else◌, ◌&&◌, IsTrue, ◌↔◌}
use Rattle.std.specs.Char.{to_ascii_lowercase}
use Rattle.std.proofs.lemmas.Bool.Decides.{nat_tests}
use Rattle.sts_code.specs.declared.instr.Instr.{Instr}
use Rattle.sts_code.specs.declared.instr.Instr.TheVariants.{Push}
use Rattle.sts_code.specs.declared.instr.Joiner.{Joiner}
use Rattle.sts_code.specs.declared.instr.Joiner.TheVariants.{AllSucceed}
use Rattle.sts_code.specs.declared.instr.Pred.{Pred}
use Rattle.sts_code.specs.declared.instr.Pred.TheVariants.{Failed}
use Rattle.sts_list.specs.Spelling.{keyword, joiner_words, condition_words}
use Rattle.look_text.specs.Near.{is_one_apart, is_one_off, begins_other, is_same_word, lower, first_of}
use Rattle.look_text.specs.Near.{inner_words, first_joiner_words, first_condition_words, IsKnown, AllAreKnown}

-- ---- both begin alike

pub one_apart_on : (a b : List ℕ) → 0 < length a → 0 < length b → is_one_apart a b ≡ (if slice_index_or a 0 0 == slice_index_or b 0 0 then is_one_apart (drop 1 a) (drop 1 b) else is_one_off a b)
one_apart_on [] b h k = absurd (omega (arith, h))
one_apart_on (x ∷ xs) [] h k = absurd (omega (arith, k))
one_apart_on (x ∷ xs) (y ∷ ys) h k = refl

pub begins_on : (a b : List ℕ) → 0 < length a → 0 < length b → begins_other a b ≡ ((slice_index_or a 0 0 == slice_index_or b 0 0) && begins_other (drop 1 a) (drop 1 b))
begins_on [] b h k = absurd (omega (arith, h))
begins_on (x ∷ xs) [] h k = absurd (omega (arith, k))
begins_on (x ∷ xs) (y ∷ ys) h k = refl

-- ---- the known word is over

pub one_apart_over : (a b : List ℕ) → 0 < length a → length b ≡ 0 → is_one_apart a b ≡ (length a == 1)
one_apart_over [] b h k = absurd (omega (arith, h))
one_apart_over (x ∷ xs) [] h k = refl
one_apart_over (x ∷ xs) (y ∷ ys) h k = absurd (omega (arith, k))

pub begins_over : (a b : List ℕ) → 0 < length a → length b ≡ 0 → begins_other a b ≡ true
begins_over [] b h k = absurd (omega (arith, h))
begins_over (x ∷ xs) [] h k = refl
begins_over (x ∷ xs) (y ∷ ys) h k = absurd (omega (arith, k))

pub ruleset same_first = (one_apart_on, begins_on)

pub ruleset one_apart_left = (one_apart_on, one_apart_over)

pub ruleset begins_left = (begins_on, begins_over)

-- ---- upper and lower case

lower_is : (b : ℕ) → lower b ≡ to_ascii_lowercase b
lower_is b = grind (arith, nat_tests)

one_letter : (x y : ℕ) (s : Bool) → lower x ≡ lower y → s ≡ true → (lower x == lower y && s) ≡ true
one_letter x y s e h = grind (arith, nat_tests, e, h)

two_parts : (x y : ℕ) (s : Bool) → (lower x == lower y && s) ≡ true → (lower x ≡ lower y) × (s ≡ true)
two_parts x y true e = (grind (arith, nat_tests, e), refl)
two_parts x y false e = absurd (grind (arith, nat_tests, e))

same_of : (a b : List ℕ) → map to_ascii_lowercase a ≡ map to_ascii_lowercase b → is_same_word a b ≡ true
same_of [] [] e = refl
same_of [] (y ∷ ys) e = cc
same_of (x ∷ xs) [] e = cc
same_of (x ∷ xs) (y ∷ ys) e =
    let first : to_ascii_lowercase x ≡ to_ascii_lowercase y = cc in
    let rest : map to_ascii_lowercase xs ≡ map to_ascii_lowercase ys = cc in
    one_letter x y (is_same_word xs ys) (rw (lower_is x, lower_is y) first) (same_of xs ys rest)

of_same : (a b : List ℕ) → is_same_word a b ≡ true → map to_ascii_lowercase a ≡ map to_ascii_lowercase b
of_same [] [] e = refl
of_same [] (y ∷ ys) e = absurd (grind (arith, nat_tests, e))
of_same (x ∷ xs) [] e = cc
of_same (x ∷ xs) (y ∷ ys) e =
    let h = two_parts x y (is_same_word xs ys) e in
    rw (← lower_is x, ← lower_is y, h.0, of_same xs ys h.1) refl

same_at : (s : Bool) (a b : List ℕ) → is_same_word a b ≡ s → (IsTrue false ↔ (map to_ascii_lowercase a ≡ map to_ascii_lowercase b)) → false ≡ s
same_at false a b e h = refl
same_at true a b e h = h.1 (of_same a b e)

-- whether two words are the same in lower case
pub same_decided : (r : Bool) (a b : List ℕ) → (IsTrue r ↔ (map to_ascii_lowercase a ≡ map to_ascii_lowercase b)) → r ≡ is_same_word a b
same_decided true a b h = sym (same_of a b (h.0 refl))
same_decided false a b h = same_at (is_same_word a b) a b refl h

-- ---- no kind is left out

instr_known : (instr : Instr) → IsKnown inner_words (keyword instr)
instr_known (Push k) = refl
instr_known _ = refl

joiner_known : (joiner : Joiner) → IsKnown first_joiner_words (first_of (joiner_words joiner))
joiner_known AllSucceed = refl
joiner_known _ = refl

condition_known : (condition : Pred) → IsKnown first_condition_words (first_of (condition_words condition))
condition_known (Failed n) = refl
condition_known _ = refl

pub all_are_known : AllAreKnown
all_are_known = record { instrs = instr_known; joiners = joiner_known; conditions = condition_known }
