use Rattle.std.proofs.Common.{◌≡◌, ℕ, ◌+◌, ◌<◌, ◌≤◌, Bool, true, false, cond, List, [], ◌∷◌, ◌++◌, length, map, replicate, refl, sym, ◌∙◌, ap, arith}
use Rattle.std.proofs.Common.{append_assoc, length-append}
use Rattle.std.specs.Prelude.{None, codes, Result, Ok, slice_set}
use Rattle.std.specs.List.{list_any}
use Rattle.std.specs.Fmt.{decimal}
use Rattle.sts_code.specs.Name.{is_name}
use Rattle.sts_code.specs.Program.{Routine}
use Rattle.sts_text.specs.Words.{lines}
use Rattle.sts_asm.specs.declared.fault.AsmKind.{AsmKind}
use Rattle.sts_asm.specs.Operand.{number_at}
use Rattle.sts_asm.specs.Outline.{Draft, Outline, with_keys, keys_at, needs_at, no_needs, header_at, with_function, lines_read}
use Rattle.sts_list.specs.Spelling.{after_spaces}
use Rattle.sts_list.specs.Listing.{keys_from, keys_text, needs_text, header}
use Rattle.sts_list.proofs.ByteLemmas.{AreWords}
use Rattle.sts_list.proofs.DecimalLemmas.{number_read, decimal_word}
use Rattle.sts_list.proofs.SpellingLemmas.{name_word, concrete}
use Rattle.sts_list.proofs.LineLemmas.{words_said}

-- ---- keys

set_at : (front : List Bool) (x y : Bool) (rest : List Bool) → slice_set (front ++ x ∷ rest) (length front) y ≡ front ++ y ∷ rest
set_at [] x y rest = refl
set_at (f ∷ front) x y rest = ap (λ (bs : List Bool). f ∷ bs) (set_at front x y rest)

key_at : (n : ℕ) → n < 16 → number_at 15 (decimal n ∷ []) ≡ Ok (n, [])
key_at n h = rw (number_read 15 n (omega arith) (omega arith)) refl

one_more : (front : List Bool) (b : Bool) (rest : List Bool) → (front ++ b ∷ []) ++ rest ≡ front ++ b ∷ rest
one_more front b rest = append_assoc front (b ∷ []) rest

grown : (front : List Bool) (b : Bool) → length (front ++ b ∷ []) ≡ length front + 1
grown front b = simp length-append (omega arith)

-- the keys that are listed are the keys that are read
keys_read : (front needs : List Bool) → length front + length needs ≤ 16 → with_keys (front ++ replicate (length needs) false) (map decimal (keys_from (length front) needs)) ≡ Ok (front ++ needs)
keys_read front [] h = refl
keys_read front (true ∷ rest) h =
    let k : length front < 16 = omega arith in
    let more = keys_read (front ++ true ∷ []) rest (rw (grown front true) (omega arith)) in
    let ok : List Bool → Result (List Bool) AsmKind = λ bs. Ok bs in
    rw (key_at (length front) k)
    (ap (λ (bs : List Bool). with_keys bs (map decimal (keys_from (length front + 1) rest))) (set_at front false true (replicate (length rest) false) ∙ sym (one_more front true (replicate (length rest) false)))
    ∙ ap (λ (n : ℕ). with_keys ((front ++ true ∷ []) ++ replicate (length rest) false) (map decimal (keys_from n rest))) (sym (grown front true))
    ∙ more ∙ ap ok (one_more front true rest))
keys_read front (false ∷ rest) h =
    let more = keys_read (front ++ false ∷ []) rest (rw (grown front false) (omega arith)) in
    let ok : List Bool → Result (List Bool) AsmKind = λ bs. Ok bs in
    ap (λ (bs : List Bool). with_keys bs (map decimal (keys_from (length front + 1) rest))) (sym (one_more front false (replicate (length rest) false)))
    ∙ ap (λ (n : ℕ). with_keys ((front ++ false ∷ []) ++ replicate (length rest) false) (map decimal (keys_from n rest))) (sym (grown front false))
    ∙ more ∙ ap ok (one_more front false rest)

none_needed : (needs : List Bool) → list_any (λ needed. needed) needs ≡ false → replicate (length needs) false ≡ needs
none_needed [] e = refl
none_needed (true ∷ rest) e = cc
none_needed (false ∷ rest) e = ap (λ (bs : List Bool). false ∷ bs) (none_needed rest e)

record SomeKey (keys : List ℕ) : Type 0 where
  first : ℕ
  others : List ℕ
  is : keys ≡ first ∷ others

some_needed : (k : ℕ) (needs : List Bool) → list_any (λ needed. needed) needs ≡ true → SomeKey (keys_from k needs)
some_needed k [] e = absurd (let no : false ≡ true = e in cc)
some_needed k (true ∷ rest) e = record { first = k; others = keys_from (k + 1) rest; is = refl }
some_needed k (false ∷ rest) e = some_needed (k + 1) rest e

keys_begin : (keys : List ℕ) → SomeKey keys → keys_at (map decimal keys) ≡ with_keys no_needs (map decimal keys)
keys_begin keys s = rw s.is refl

-- the words of the needs
abbrev pub needs_words : Bool → List Bool → List (List ℕ)
needs_words true needs = codes "needs" ∷ map decimal (keys_from 0 needs)
needs_words false needs = []

needs_read : (b : Bool) (needs : List Bool) → list_any (λ needed. needed) needs ≡ b → length needs ≡ 16 → needs_at (needs_words b needs) ≡ Ok needs
needs_read true needs e h =
    keys_begin (keys_from 0 needs) (some_needed 0 needs e)
    ∙ ap (λ (n : ℕ). with_keys (replicate n false) (map decimal (keys_from 0 needs))) (sym h)
    ∙ keys_read [] needs (omega arith)
needs_read false needs e h =
    let ok : List Bool → Result (List Bool) AsmKind = λ bs. Ok bs in
    ap ok (ap (λ (n : ℕ). replicate n false) (sym h) ∙ none_needed needs e)

keys_spaced : (keys : List ℕ) → keys_text keys ≡ after_spaces (map decimal keys)
keys_spaced [] = refl
keys_spaced (k ∷ keys) = ap (λ (bs : List ℕ). (32 ∷ decimal k) ++ bs) (keys_spaced keys)

needs_spaced : (b : Bool) (needs : List Bool) → cond b (codes " needs" ++ keys_text (keys_from 0 needs)) [] ≡ after_spaces (needs_words b needs)
needs_spaced true needs = ap (λ (bs : List ℕ). codes " needs" ++ bs) (keys_spaced (keys_from 0 needs))
needs_spaced false needs = refl

small_keys : (k : ℕ) (needs : List Bool) → k + length needs ≤ 16 → AreWords (map decimal (keys_from k needs))
small_keys k [] h = tt
small_keys k (true ∷ rest) h = (decimal_word k (omega arith), small_keys (k + 1) rest (omega arith))
small_keys k (false ∷ rest) h = small_keys (k + 1) rest (omega arith)

needs_are_words : (b : Bool) (needs : List Bool) → length needs ≡ 16 → AreWords (needs_words b needs)
needs_are_words true needs h = (concrete (codes "needs") refl refl, small_keys 0 needs (omega arith))
needs_are_words false needs h = tt

-- ---- the first line of a function

-- the function of a first line, without lines
abbrev pub draft_of : Routine → Draft
draft_of r = record { name = r.name; args = r.args; needs = r.needs; labels = []; code = [] }

header_words : Routine → List (List ℕ)
header_words r = r.name ∷ decimal r.args ∷ needs_words (list_any (λ needed. needed) r.needs) r.needs

header_read : (r : Routine) → is_name r.name ≡ true → r.args ≤ 255 → length r.needs ≡ 16 → header_at (header_words r) ≡ Ok (draft_of r)
unfolding header_words
header_read r n a h = rw (n, number_read 255 r.args a (omega arith), needs_read (list_any (λ needed. needed) r.needs) r.needs refl h) refl

header_shape : (name args needs rest : List ℕ) → (((((codes "func " ++ name) ++ codes " ") ++ args) ++ needs) ++ codes "\n") ++ rest ≡ (codes "func" ++ ((32 ∷ name) ++ ((32 ∷ args) ++ needs))) ++ 10 ∷ rest
header_shape name args needs rest =
    append_assoc ((((codes "func " ++ name) ++ codes " ") ++ args) ++ needs) (codes "\n") rest
    ∙ append_assoc (((codes "func " ++ name) ++ codes " ") ++ args) needs (10 ∷ rest)
    ∙ append_assoc ((codes "func " ++ name) ++ codes " ") args (needs ++ 10 ∷ rest)
    ∙ append_assoc (codes "func " ++ name) (codes " ") (args ++ (needs ++ 10 ∷ rest))
    ∙ ap (λ (ys : List ℕ). codes "func " ++ ys) (ap (λ (ys : List ℕ). name ++ 32 ∷ ys) (sym (append_assoc args needs (10 ∷ rest))) ∙ sym (append_assoc name (32 ∷ (args ++ needs)) (10 ∷ rest)))

header_bytes : (r : Routine) (rest : List ℕ) → header r ++ rest ≡ (codes "func" ++ after_spaces (header_words r)) ++ 10 ∷ rest
unfolding header_words
header_bytes r rest =
    header_shape r.name (decimal r.args) (needs_text r.needs) rest
    ∙ ap (λ (ns : List ℕ). (codes "func" ++ ((32 ∷ r.name) ++ ((32 ∷ decimal r.args) ++ ns))) ++ 10 ∷ rest) (needs_spaced (list_any (λ needed. needed) r.needs) r.needs)

-- the first line of a function opens it
pub header_line_read : (at : ℕ) (o : Outline) (r : Routine) (rest : List ℕ) → o.current ≡ None → is_name r.name ≡ true → r.args ≤ 255 → length r.needs ≡ 16 → lines_read at o (lines (header r ++ rest)) ≡ lines_read (at + 1) (with_function o (draft_of r)) (lines rest)
unfolding header_words
header_line_read at o r rest none n a h =
    ap (λ (text : List ℕ). lines_read at o (lines text)) (header_bytes r rest)
    ∙ words_said at o (with_function o (draft_of r)) (codes "func") (header_words r) rest (concrete (codes "func") refl refl)
    (name_word r.name n, (decimal_word r.args (omega arith), needs_are_words (list_any (λ needed. needed) r.needs) r.needs h))
    (rw none (rw (header_read r n a h) refl))
