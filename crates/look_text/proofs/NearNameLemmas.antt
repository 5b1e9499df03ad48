-- Where a line stops, and the names that are near there.
use Rattle.std.proofs.Common.{◌≡◌, ℕ, ◌+◌, ◌<◌, List, ◌∷◌, ◌++◌, Option, Some, None, Bool, length, drop, refl, sym, ap, ◌∙◌}
use Rattle.std.specs.Prelude.{IfSome, option_map, option_and_then, find, slice_get}
use Rattle.std.specs.Option.{option_or}
use Rattle.std.proofs.lemmas.List.Folds.{find-append}
use Rattle.sts_text.specs.Words.{lines}
use Rattle.sts_asm.specs.Line.{mnemonic_of}
use Rattle.sts_asm.specs.Marks.{Names}
use Rattle.sts_asm.specs.Outline.{Outline, Sentence}
use Rattle.sts_asm.specs.Source.{names_at, sentences_of, words_of, words_at}
use Rattle.look_text.specs.declared.wanted.Expected.{Expected}
use Rattle.look_text.specs.Wanted.{Stop, behind, of_mnemonic}
use Rattle.look_text.specs.Names.{line_stop, lines_stop, name_stop, unknown_name}
use Rattle.look_text.specs.Near.{near_of}
use Rattle.look_text.specs.NearName.{listed, missing, name_given, names_given, near_in, near_name, near_or}
use Rattle.look_text.specs.Wrong.{IsFirst, StopsAt, meant_line, named_line, unknown_line, wrong_line}
use Rattle.laws_words.proofs.AppendLemmas.{two_parts}
use Rattle.look_text.proofs.NameLineLemmas.{draft_at, text_said}

-- ---- the names of a text

find_listed : (p : List ℕ → Bool) (o : Option (List ℕ)) (xs : List (List ℕ)) → find p (listed o ++ xs) ≡ option_or (find p (listed o)) (find p xs)
find_listed p o xs = find-append p (listed o) xs

-- the name of a first line comes before those of the others
pub given_more : (p : List ℕ → Bool) (names : Names) (wanted : Expected) (rest line after : List ℕ) (words : List (List ℕ)) → lines rest ≡ line ∷ lines after → words ≡ words_at rest 1 → find p (names_given names wanted (lines rest)) ≡ option_or (find p (listed (name_given names wanted words))) (find p (names_given names wanted (lines after)))
given_more p names wanted rest line after words e is =
    let here : words ≡ words_of (Some line) = is ∙ ap (λ (ls : List (List ℕ)). words_of (slice_get ls 0)) e in
    let later : Option (List ℕ) = find p (names_given names wanted (lines after)) in
    ap (λ (ls : List (List ℕ)). find p (names_given names wanted ls)) e
    ∙ find_listed p (name_given names wanted (words_of (Some line))) (names_given names wanted (lines after))
    ∙ ap (λ (ws : List (List ℕ)). option_or (find p (listed (name_given names wanted ws))) later) (sym here)

-- ---- where a line stops

-- the words before it don't count
pub missing_behind : (word : List ℕ) (o : Option Stop) → missing (option_map (behind word) o) ≡ missing o
missing_behind word None = refl
missing_behind word (Some s) = refl

-- nor does the first word of the line
pub line_missing : (names : Names) (wanted : Expected) (first : List ℕ) (words left : List (List ℕ)) → words ≡ first ∷ left → wanted ≡ of_mnemonic (mnemonic_of first) → missing (line_stop names words) ≡ missing (name_stop names wanted left)
line_missing names wanted first words left e w =
    ap (λ (ws : List (List ℕ)). missing (line_stop names ws)) e
    ∙ missing_behind first (name_stop names (of_mnemonic (mnemonic_of first)) left)
    ∙ ap (λ (x : Expected). missing (name_stop names x left)) (sym w)

-- the name that is near to the word where it stops
pub near_there : (text : List ℕ) (names : Names) (stop : Option Stop) (wanted : Expected) (word : List ℕ) → missing stop ≡ Some (wanted, word) → near_name text names stop ≡ near_of (names_given names wanted (lines text)) word
near_there text names stop wanted word e =
    ap (λ (x : Option (Expected × List ℕ)). option_and_then (λ (m : Expected × List ℕ). near_of (names_given names m.0 (lines text)) m.1) x) e

-- ---- functions

-- the function at a place comes before the later ones
pub near_in_at : (text : List ℕ) (o : Outline) (f : ℕ) → f < length o.done → near_in text o (drop f o.done) ≡ near_or text (names_at o f) (lines_stop (names_at o f) (sentences_of (slice_get o.done f))) (near_in text o (drop (f + 1) o.done))
near_in_at text o f small =
    let at = draft_at o.done f small in
    rw at.1.0 (ap (near_in text o) at.1.1)

-- a function that stops, and none before it does
pub near_here : (text : List ℕ) (o : Outline) (f : ℕ) (s : Sentence) (words : List (List ℕ)) → f < length o.done → near_in text o o.done ≡ near_in text o (drop f o.done) → StopsAt (names_at o f) (sentences_of (slice_get o.done f)) s → words ≡ s.words → near_in text o o.done ≡ near_name text (names_at o f) (line_stop (names_at o f) words)
near_here text o f s words small left stops same =
    let names : Names = names_at o f in
    let later : Option (List ℕ) = near_in text o (drop (f + 1) o.done) in
    left ∙ near_in_at text o f small ∙ ap (λ (x : Option Stop). near_or text names x later) stops.first
    ∙ ap (λ (x : Option Stop). near_name text names x) (sym (ap (line_stop names) same ∙ stops.here))

-- the line of the function comes first, then that of the near name
pub unknown_said : (text : List ℕ) (o : Outline) (f : ℕ) (s : Sentence) (words again : List (List ℕ)) (before one two : List ℕ) (near : Option (List ℕ)) → IsFirst o f s → words ≡ s.words → again ≡ s.words → IfSome (line_stop (names_at o f) words) (λ t. one ≡ before ++ named_line t) → near ≡ near_name text (names_at o f) (line_stop (names_at o f) again) → two ≡ one ++ meant_line near → two ≡ before ++ unknown_line text (Some o)
unknown_said text o f s words again before one two near first same same_again said found more =
    let line : one ≡ before ++ wrong_line (unknown_name o) = text_said o f s words before before one first.within first.unknown first.stops same refl said in
    let meant = found ∙ sym (near_here text o f s again first.within (first.near text) first.stops same_again) in
    two_parts before (wrong_line (unknown_name o)) (meant_line (near_in text o o.done)) one two line (more ∙ ap (λ (x : Option (List ℕ)). one ++ meant_line x) meant)
