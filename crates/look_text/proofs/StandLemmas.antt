-- The line of an instruction is in its text.
use Rattle.std.proofs.Common.{◌≡◌, ℕ, suc, ◌+◌, ◌-◌, ◌<◌, ◌≤◌, List, [], ◌∷◌, ◌++◌, Some, None, Bool, true, false, length, slice_get, refl, sym, ap, subst, arith}
use Rattle.std.specs.Prelude.{Result, Ok, Err, Option, is_some, nat_lt, if◌then◌else◌, codes, ◌==◌, ◌&&◌}
use Rattle.std.specs.List.{All, before_first, list_all}
use Rattle.std.specs.Str.{bytes_eq}
use Rattle.std.proofs.lemmas.List.Elements.{All-nil, All-push}
use Rattle.std.proofs.lemmas.Option.{slice_get_within, get_or_from_slice_get}
use Rattle.sts_text.specs.Words.{lines, words}
use Rattle.sts_asm.specs.declared.fault.AsmKind.TheVariants.{NotAscii, DuplicateLabel, Unclosed, TextTooLong}
use Rattle.sts_asm.specs.Fault.{◌>>=◌, at_line}
use Rattle.sts_asm.specs.Line.{instr_of}
use Rattle.sts_asm.specs.Marks.{marked}
use Rattle.sts_asm.specs.Operand.{name_at, number_at, finished}
use Rattle.sts_asm.specs.Outline.{Sentence, Draft, Outline, empty, profile_at, profiled, needs_at, header_at, with_function, begun, ended, label_of, with_label, with_sentence, inner, inside, said, is_allowed, is_semicolon, line_read, lines_read, outline_of}
use Rattle.sts_asm.specs.Source.{sentences_of, words_of}
use Rattle.look_text.specs.Places.{Stands, LinesStandInText}
use Rattle.sts_asm.proofs.KeptLemmas.{at_line_ok}

-- each line of an instruction of the outline is in the text, for the ended functions and the open
-- one
abbrev AllStand : List ℕ → Outline → Type 0
AllStand text o = All (λ (d : Draft). All (Stands text) d.code) o.done × All (Stands text) (sentences_of o.current)

-- ---- what was Ok on the way

-- if the whole is Ok, its first part is
pub after : {A B E S : Type 0} (r : Result A E) (f : A → Result B E) (y : B) → (r >>= f) ≡ Ok y → ((x : A) → r ≡ Ok x → f x ≡ Ok y → S) → S
after (Ok x) f y e k = k x refl e
after (Err z) f y e k = absurd (cc)

-- if a choice is Ok, the chosen side is
pub either : {A E S : Type 0} (b : Bool) (x y : Result A E) (z : A) → (if b then x else y) ≡ Ok z → (x ≡ Ok z → S) → (y ≡ Ok z → S) → S
either true x y z e f g = f e
either false x y z e f g = g e

-- what is finished is what was read
pub finished_same : {A : Type 0} (x : A) (rest : List (List ℕ)) (y : A) → finished x rest ≡ Ok y → x ≡ y
finished_same x [] y e = cc
finished_same x (word ∷ rest) y e = absurd (cc)

-- ---- what a line adds

profiled_stand : (text : List ℕ) (o : Outline) (ws : List (List ℕ)) (p : Outline) → AllStand text o → profiled o ws ≡ Ok p → AllStand text p
profiled_stand text o ws p s e = after (profile_at ws) _ p e (λ x r f. (let same : record o { profile = x } ≡ p = cc in subst (AllStand text) same s))

-- a function that is opened has no lines yet
header_empty : (ws : List (List ℕ)) (d : Draft) → header_at ws ≡ Ok d → d.code ≡ []
header_empty ws d e =
    after (name_at ws) _ d e (λ name r f. after (number_at 255 name.1) _ d f (λ args r f. after (needs_at args.1) _ d f (λ needs r f. (
    let same : record { name = name.0; args = args.0; needs = needs; labels = []; code = [] } ≡ d = cc in sym (ap (λ (x : Draft). x.code) same)))))

begun_stand : (text : List ℕ) (o : Outline) (ws : List (List ℕ)) (p : Outline) → AllStand text o → begun o ws ≡ Ok p → AllStand text p
begun_stand text o ws p s e =
    either (is_some o.current) (Err Unclosed) (header_at ws >>= λ d. Ok (with_function o d)) p e (λ f. absurd (cc)) (λ f. after (header_at ws) _ p f (λ d r f. (
    let same : with_function o d ≡ p = cc in
    subst (AllStand text) same (s.0, subst (All (Stands text)) (sym (header_empty ws d r)) (All-nil (Stands text))))))

ended_stand : (text : List ℕ) (o : Outline) (current : Option Draft) (rest : List (List ℕ)) (p : Outline) → AllStand text o → current ≡ o.current → ended o current rest ≡ Ok p → AllStand text p
ended_stand text o None rest p s c e = absurd (cc)
ended_stand text o (Some d) rest p s c e =
    let same = finished_same (record o { done = o.done ++ d ∷ []; current = None }) rest p e in
    let code : All (Stands text) d.code = subst (λ (x : Option Draft). All (Stands text) (sentences_of x)) (sym c) s.1 in
    subst (AllStand text) same (All-push (λ (x : Draft). All (Stands text) x.code) o.done d s.0 code, All-nil (Stands text))

inner_stand : (text : List ℕ) (at : ℕ) (d : Draft) (label : Option (List ℕ)) (word : List ℕ) (rest : List (List ℕ)) (e : Draft) → Stands text (record { line = at; words = word ∷ rest }) → All (Stands text) d.code → inner at d label word rest ≡ Ok e → All (Stands text) e.code
inner_stand text at d (Some name) word rest e here s h =
    after (finished name rest) _ e h (λ x r f. either (is_some (marked d.labels x)) (Err DuplicateLabel) (Ok (with_label d x)) e f (λ g. absurd (cc)) (λ g. (
    let same : with_label d x ≡ e = cc in subst (λ (y : Draft). All (Stands text) y.code) same s)))
inner_stand text at d None word rest e here s h =
    after (instr_of None (word ∷ rest)) _ e h (λ i r f. (
    let same : with_sentence at d (word ∷ rest) ≡ e = cc in
    subst (λ (y : Draft). All (Stands text) y.code) same (All-push (Stands text) d.code (record { line = at; words = word ∷ rest }) s here)))

inside_stand : (text : List ℕ) (at : ℕ) (o : Outline) (current : Option Draft) (word : List ℕ) (rest : List (List ℕ)) (p : Outline) → Stands text (record { line = at; words = word ∷ rest }) → AllStand text o → current ≡ o.current → inside at o current word rest ≡ Ok p → AllStand text p
inside_stand text at o None word rest p here s c h = absurd (cc)
inside_stand text at o (Some d) word rest p here s c h =
    let code : All (Stands text) d.code = subst (λ (x : Option Draft). All (Stands text) (sentences_of x)) (sym c) s.1 in
    after (inner at d (label_of word) word rest) _ p h (λ e r f. (
    let same : record o { current = Some e } ≡ p = cc in
    subst (AllStand text) same (s.0, inner_stand text at d (label_of word) word rest e here code r)))

said_stand : (text : List ℕ) (at : ℕ) (o : Outline) (ws : List (List ℕ)) (p : Outline) → Stands text (record { line = at; words = ws }) → AllStand text o → said at o ws ≡ Ok p → AllStand text p
said_stand text at o [] p here s h = let same : o ≡ p = cc in subst (AllStand text) same s
said_stand text at o (word ∷ rest) p here s h =
    either (bytes_eq word (codes "func")) _ _ p h (λ e. begun_stand text o rest p s e)
    (λ h. either (bytes_eq word (codes "end")) _ _ p h (λ e. ended_stand text o o.current rest p s refl e)
    (λ h. either (at == 1 && bytes_eq word (codes "profile")) _ _ p h (λ e. profiled_stand text o rest p s e)
    (λ e. inside_stand text at o o.current word rest p here s refl e)))

-- ---- lines

-- these are the lines of the text from a line on
abbrev pub AreFrom : List ℕ → ℕ → List (List ℕ) → Type 0
AreFrom text at rest = (n : ℕ) → slice_get (lines text) (at + n - 1) ≡ slice_get rest n

pub from_first : (text : List ℕ) → AreFrom text 1 (lines text)
from_first text = λ n. (let same : 1 + n - 1 ≡ n = omega arith in ap (slice_get (lines text)) same)

pub line_from : (text : List ℕ) (at : ℕ) (line : List ℕ) (more : List (List ℕ)) → AreFrom text at (line ∷ more) → slice_get (lines text) (at - 1) ≡ Some line
line_from text at line more from =
    let here : at + 0 - 1 ≡ at - 1 = omega arith in
    subst (λ (n : ℕ). slice_get (lines text) n ≡ Some line) here (from 0)

pub next_from : (text : List ℕ) (at : ℕ) (line : List ℕ) (more : List (List ℕ)) → AreFrom text at (line ∷ more) → AreFrom text (at + 1) more
next_from text at line more from = λ n. (
    let next : at + suc n - 1 ≡ at + 1 + n - 1 = omega arith in
    subst (λ (m : ℕ). slice_get (lines text) m ≡ slice_get more n) next (from (suc n)))

line_stand : (text : List ℕ) (at : ℕ) (o : Outline) (line : List ℕ) (p : Outline) → 0 < at → slice_get (lines text) (at - 1) ≡ Some line → AllStand text o → at_line at (line_read at o line) ≡ Ok p → AllStand text p
line_stand text at o line p first stands s e =
    let small : at - 1 < length (lines text) = slice_get_within (lines text) (at - 1) line stands in
    let within : at ≤ length (lines text) = omega arith in
    let here : Stands text (record { line = at; words = words (before_first is_semicolon line) }) = (first, within, ap words_of stands) in
    either (list_all is_allowed line) (said at o (words (before_first is_semicolon line))) (Err NotAscii) p (at_line_ok at (line_read at o line) p e) (λ f. said_stand text at o (words (before_first is_semicolon line)) p here s f) (λ f. absurd (cc))

lines_read_stand : (text : List ℕ) (at : ℕ) (o : Outline) (rest : List (List ℕ)) (p : Outline) → 0 < at → AreFrom text at rest → AllStand text o → lines_read at o rest ≡ Ok p → AllStand text p
unfolding lines_read
lines_read_stand text at o [] p first from s e = let same : o ≡ p = cc in subst (AllStand text) same s
lines_read_stand text at o (line ∷ more) p first from s e =
    let stands = line_from text at line more from in
    after (at_line at (line_read at o line)) _ p e (λ q r f. lines_read_stand text (at + 1) q more p (omega arith) (next_from text at line more from) (line_stand text at o line q first stands s r) f)

-- ---- a text

outlined_stand : (text : List ℕ) (o : Outline) → outline_of text ≡ Ok o → AllStand text o
outlined_stand text o e =
    after (lines_read 1 empty (lines text)) _ o e (λ p r f. either (is_some p.current) (Err (record { line = length (lines text); kind = Unclosed })) (Ok p) o f (λ g. absurd (cc)) (λ g. (
    let same : p ≡ o = cc in
    subst (AllStand text) same (lines_read_stand text 1 empty (lines text) p (omega arith) (from_first text) (All-nil (λ (d : Draft). All (Stands text) d.code), All-nil (Stands text)) r))))

-- a property of all elements is one of each
pub one_of : {A : Type 0} (P : A → Type 0) (xs : List A) (n : ℕ) (x : A) → All P xs → slice_get xs n ≡ Some x → P x
one_of P xs n x all g = subst P (get_or_from_slice_get xs n x x g) (all n x (slice_get_within xs n x g))

sentence_stands : (text : List ℕ) (o : Outline) (f pc : ℕ) (s : Sentence) (d : Option Draft) → slice_get o.done f ≡ d → AllStand text o → slice_get (sentences_of d) pc ≡ Some s → Stands text s
sentence_stands text o f pc s None there all g = absurd (cc)
sentence_stands text o f pc s (Some d) there all g = one_of (Stands text) d.code pc s (one_of (λ (x : Draft). All (Stands text) x.code) o.done f d all.0 there) g

pub lines_stand : LinesStandInText
lines_stand text o f pc s e g =
    either (nat_lt 1048576 (length text)) (Err (record { line = 0; kind = TextTooLong })) (outline_of text) o e (λ h. absurd (cc)) (λ h.
    sentence_stands text o f pc s (slice_get o.done f) refl (outlined_stand text o h) g)
