-- The words of a line up to the first that names nothing.
use Rattle.std.proofs.Common.{◌≡◌, ℕ, ◌+◌, ◌<◌, List, [], ◌∷◌, ◌++◌, Option, Some, None, true, refl, sym, ap, subst, ◌∙◌, ◌⊎◌, inl, inr, append_assoc, arith}
use Rattle.std.proofs.Common.{length, drop, get_or}
use Rattle.std.specs.Prelude.{option_map, if◌then◌else◌, is_some, IfSome, slice_get, codes, ◌≤◌}
use Rattle.std.specs.Option.{option_or}
use Rattle.std.proofs.lemmas.List.{drop_more}
use Rattle.std.proofs.lemmas.Option.{slice_get_cases}
use Rattle.sts_asm.specs.Line.{mnemonic_of}
use Rattle.sts_asm.specs.Marks.{Names}
use Rattle.sts_asm.specs.Outline.{Sentence, Draft, Outline}
use Rattle.sts_asm.specs.Source.{names_at, labels_of, sentences_of}
use Rattle.look_text.specs.declared.wanted.Expected.{Expected}
use Rattle.look_text.specs.Names.{name_stop, names_some, known, line_stop, lines_stop, functions_stop}
use Rattle.look_text.specs.Wanted.{Stop, behind, after, first_wrong, of_mnemonic}
use Rattle.look_text.specs.Wrong.{stop_words, named_line, wrong_line, StopsAt}
use Rattle.look_text.proofs.LineLemmas.{behind_words}

-- the words so far, if a line stops
abbrev pub said : List ℕ → Option Stop → Option (List ℕ)
said before o = option_map (λ s. before ++ stop_words s) o

said_behind : (before after_word word : List ℕ) (o : Option Stop) → after_word ≡ before ++ (32 ∷ word) → said after_word o ≡ said before (option_map (behind word) o)
said_behind before after_word word None e = cc
said_behind before after_word word (Some s) e =
    ap (λ (x : List ℕ). Some x) (ap (λ (x : List ℕ). x ++ stop_words s) e ∙ append_assoc before (32 ∷ word) (stop_words s) ∙ ap (λ (x : List ℕ). before ++ x) (sym (behind_words word s)))

stops_behind : (names : Names) (wanted : Expected) (word : List ℕ) (left : List (List ℕ)) → names_some names wanted word ≡ true → name_stop names wanted (word ∷ left) ≡ option_map (behind word) (name_stop names (after wanted word) left)
stops_behind names wanted word left e = ap (λ b. if b then option_map (behind word) (name_stop names (after wanted word) left) else Some (first_wrong (known wanted) word)) e

-- a word that names something was said after a space
pub name_said : (names : Names) (wanted next : Expected) (word : List ℕ) (words left : List (List ℕ)) (before space after_word : List ℕ) → words ≡ word ∷ left → names_some names wanted word ≡ true → next ≡ after wanted word → space ≡ before ++ 32 ∷ [] → after_word ≡ space ++ word → said after_word (name_stop names next left) ≡ said before (name_stop names wanted words)
name_said names wanted next word words left before space after_word e f n g h =
    let here : after_word ≡ before ++ (32 ∷ word) = h ∙ ap (λ (x : List ℕ). x ++ word) g ∙ append_assoc before (32 ∷ []) word in
    ap (λ (w : Expected). said after_word (name_stop names w left)) n
    ∙ said_behind before after_word word (name_stop names (after wanted word) left) here
    ∙ ap (λ (o : Option Stop). said before o) (sym (stops_behind names wanted word left f))
    ∙ ap (λ (ws : List (List ℕ)). said before (name_stop names wanted ws)) (sym e)

mapped_said : (first before two new : List ℕ) (o : Option Stop) → two ≡ before ++ (codes "at " ++ first) → IfSome o (λ s. new ≡ two ++ stop_words s) → IfSome (option_map (behind first) o) (λ s. new ≡ before ++ named_line s)
mapped_said first before two new None e h = tt
mapped_said first before two new (Some s) e h =
    h ∙ ap (λ (x : List ℕ). x ++ stop_words s) e ∙ append_assoc before (codes "at " ++ first) (stop_words s)
    ∙ ap (λ (x : List ℕ). before ++ (codes "at" ++ x)) (sym (behind_words first s))

-- a line was said up to the word that names nothing
pub line_said : (names : Names) (wanted : Expected) (first : List ℕ) (words left : List (List ℕ)) (before one two new : List ℕ) → words ≡ first ∷ left → wanted ≡ of_mnemonic (mnemonic_of first) → one ≡ before ++ codes "at " → two ≡ one ++ first → IfSome (name_stop names wanted left) (λ s. new ≡ two ++ stop_words s) → IfSome (line_stop names words) (λ s. new ≡ before ++ named_line s)
line_said names wanted first words left before one two new e w f g h =
    let here : two ≡ before ++ (codes "at " ++ first) = g ∙ ap (λ (x : List ℕ). x ++ first) f ∙ append_assoc before (codes "at ") first in
    let said_there : IfSome (name_stop names (of_mnemonic (mnemonic_of first)) left) (λ s. new ≡ two ++ stop_words s) = subst (λ (x : Expected). IfSome (name_stop names x left) (λ s. new ≡ two ++ stop_words s)) w h in
    subst (λ (ws : List (List ℕ)). IfSome (line_stop names ws) (λ s. new ≡ before ++ named_line s)) (sym e) (mapped_said first before two new (name_stop names (of_mnemonic (mnemonic_of first)) left) here said_there)

stops_with : (names : Names) (lines : List Sentence) (s : Sentence) (o rest : Option Stop) → line_stop names s.words ≡ o → lines_stop names lines ≡ option_or o rest → is_some o ≡ true → StopsAt names lines s
stops_with names lines s None rest e h some = absurd (cc)
stops_with names lines s (Some stop) rest e h some = record { stop = stop; here = e; first = h }

-- the line at a place stops, and none before it does
pub stops_at : (names : Names) (lines : List Sentence) (i : ℕ) (s : Sentence) → i < length lines → s ≡ get_or lines i s → lines_stop names lines ≡ lines_stop names (drop i lines) → is_some (line_stop names s.words) ≡ true → StopsAt names lines s
stops_at names lines i s small is left some =
    let rest : Option Stop = lines_stop names (drop (i + 1) lines) in
    let here : lines_stop names lines ≡ option_or (line_stop names s.words) rest = left ∙ ap (lines_stop names) (drop_more lines i s small) ∙ ap (λ (x : Sentence). option_or (line_stop names x.words) rest) (sym is) in
    stops_with names lines s (line_stop names s.words) rest refl here some

-- ---- functions

pub draft_at : (drafts : List Draft) (f : ℕ) → f < length drafts → (d : Draft) × ((slice_get drafts f ≡ Some d) × (drop f drafts ≡ d ∷ drop (f + 1) drafts))
draft_at drafts f small = by (slice_get_cases drafts f).1
  where
    both : {a b : ℕ} → a < b → b ≤ a → ⊥
    both less more = omega (arith, less, more)

    by : ((d : Draft) × (f < length drafts) × (slice_get drafts f ≡ Some d) × (get_or drafts f d ≡ d)) ⊎ ((length drafts ≤ f) × (slice_get drafts f ≡ None)) → (d : Draft) × ((slice_get drafts f ≡ Some d) × (drop f drafts ≡ d ∷ drop (f + 1) drafts))
    by (inl h) = (h.0, (h.2, drop_more drafts f h.0 small ∙ ap (λ (x : Draft). x ∷ drop (f + 1) drafts) h.3))
    by (inr h) = absurd (both small h.0)

stop_of : (o : Outline) (f : ℕ) (d : Draft) → slice_get o.done f ≡ Some d → lines_stop (names_at o f) (sentences_of (slice_get o.done f)) ≡ lines_stop (record { labels = d.labels; functions = o.functions }) d.code
stop_of o f d e = ap (λ (x : Option Draft). lines_stop (record { labels = labels_of x; functions = o.functions }) (sentences_of x)) e

-- the function at a place stops before the later ones
pub functions_stop_at : (o : Outline) (f : ℕ) → f < length o.done → functions_stop o.functions (drop f o.done) ≡ option_or (lines_stop (names_at o f) (sentences_of (slice_get o.done f))) (functions_stop o.functions (drop (f + 1) o.done))
functions_stop_at o f small =
    let at = draft_at o.done f small in
    ap (functions_stop o.functions) at.1.1 ∙ ap (λ (x : Option Stop). option_or x (functions_stop o.functions (drop (f + 1) o.done))) (sym (stop_of o f at.0 at.1.0))

-- the words that were appended for the line are those of the text
pub text_said : (o : Outline) (f : ℕ) (s : Sentence) (words : List (List ℕ)) (before here new : List ℕ) → f < length o.done → functions_stop o.functions o.done ≡ functions_stop o.functions (drop f o.done) → StopsAt (names_at o f) (sentences_of (slice_get o.done f)) s → words ≡ s.words → here ≡ before → IfSome (line_stop (names_at o f) words) (λ t. new ≡ here ++ named_line t) → new ≡ before ++ wrong_line (functions_stop o.functions o.done)
text_said o f s words before here new small left stops same_words same said_there =
    let rest : Option Stop = functions_stop o.functions (drop (f + 1) o.done) in
    let whole : functions_stop o.functions o.done ≡ Some stops.stop = left ∙ functions_stop_at o f small ∙ ap (λ (x : Option Stop). option_or x rest) stops.first in
    let line : new ≡ here ++ named_line stops.stop = subst (λ (x : Option Stop). IfSome x (λ t. new ≡ here ++ named_line t)) (ap (line_stop (names_at o f)) same_words ∙ stops.here) said_there in
    line ∙ ap (λ (x : List ℕ). x ++ named_line stops.stop) same ∙ ap (λ (x : Option Stop). before ++ wrong_line x) (sym whole)
