-- A label comes after the last instruction of its function if and only if it names none.
use Rattle.std.proofs.Common.{◌≡◌, ℕ, ◌+◌, ◌-◌, ◌<◌, ◌≤◌, List, [], ◌∷◌, ◌++◌, Some, None, Bool, true, false, length, slice_get, get_or, drop, refl, sym, ap, subst, ◌∙◌, length-append, arith}
use Rattle.std.specs.Prelude.{Ok, Err, Option, is_some, nat_lt, nat_le, codes, ◌==◌, ◌&&◌, ◌||◌, not, ⊤}
use Rattle.std.specs.List.{All, before_first, list_all, list_any}
use Rattle.std.specs.Str.{bytes_eq}
use Rattle.std.proofs.lemmas.List.{drop_more}
use Rattle.std.proofs.lemmas.List.Elements.{All-nil, All-push}
use Rattle.std.proofs.lemmas.List.Folds.{list_any_none, list_any-append}
use Rattle.std.proofs.lemmas.Option.{slice_get_within, get_or_from_slice_get}
use Rattle.std.proofs.lemmas.Slice.Eq.{bytes_eq-Decides}
use Rattle.std.proofs.Math.Bool.{or-false, and-false, and-true}
use Rattle.std.proofs.lemmas.Bool.{and_parts}
use Rattle.sts_text.specs.Words.{lines, words}
use Rattle.sts_asm.specs.declared.fault.AsmKind.TheVariants.{NotAscii, DuplicateLabel, Unclosed, TextTooLong}
use Rattle.sts_asm.specs.Fault.{◌>>=◌, at_line}
use Rattle.sts_asm.specs.Line.{instr_of}
use Rattle.sts_asm.specs.Marks.{Mark, marked}
use Rattle.sts_asm.specs.Operand.{name_at, number_at, finished}
use Rattle.sts_asm.specs.Outline.{Sentence, Draft, Outline, empty, profile_at, needs_at, header_at, with_function, begun, ended, label_of, with_label, with_sentence, inner, inside, said, is_allowed, is_semicolon, line_read, lines_read, outline_of}
use Rattle.sts_asm.specs.Source.{sentences_of}
use Rattle.look_text.specs.Labels.{is_end, is_named, gives, are_giving, number_of, last_line, names_none, BehindNamesNone}
use Rattle.sts_asm.proofs.KeptLemmas.{at_line_ok}
use Rattle.sts_code.proofs.ListLemmas.{got_last}
use Rattle.look_text.proofs.StandLemmas.{after, finished_same, AreFrom, from_first, line_from, next_from, one_of}
use Rattle.look_text.proofs.HeadLaw.{either_way}

abbrev giving : List ℕ → ℕ → List ℕ → Bool
giving text passed name = are_giving (drop passed (lines text)) name

-- the labels of a function that is ended
abbrev Settled : List ℕ → Draft → Type 0
Settled text d = 0 < length d.code → (name : List ℕ) → giving text (last_line d.code) name ≡ names_none d name

-- of one that is open before this line
abbrev Growing : List ℕ → ℕ → Draft → Type 0
Growing text at d =
    All (λ (m : Mark). m.at ≤ length d.code) d.labels
    × (0 < length d.code → (name : List ℕ) → giving text (last_line d.code) name ≡ (names_none d name || giving text (at - 1) name))

abbrev MaybeGrowing : List ℕ → ℕ → Option Draft → Type 0
MaybeGrowing text at None = ⊤
MaybeGrowing text at (Some d) = Growing text at d

abbrev AllSettled : List ℕ → ℕ → Outline → Type 0
AllSettled text at o = All (Settled text) o.done × MaybeGrowing text at o.current

-- what a line says of a label
abbrev Line : List ℕ → ℕ → List (List ℕ) → Type 0
Line text at ws = (name : List ℕ) → giving text (at - 1) name ≡ (not (is_end ws) && (gives ws name || giving text (at + 1 - 1) name))

-- ---- truth

or_assoc : (a b c : Bool) → (a || (b || c)) ≡ ((a || b) || c)
or_assoc true b c = refl
or_assoc false b c = refl

not_le : (a b : ℕ) → b < a → nat_le a b ≡ false
not_le a b h = grind (arith, h)

too_small : (b : Bool) (n k : ℕ) → k < n → (b && nat_le n k) ≡ false
too_small b n k h = ap (λ (c : Bool). b && c) (not_le n k h) ∙ and-false b

le_self : (a : ℕ) → nat_le a a ≡ true
le_self a = grind arith

-- ---- a line that neither gives a label nor is one of an instruction or an end

quiet : (text : List ℕ) (at : ℕ) (ws : List (List ℕ)) (c : Option Draft) → Line text at ws → is_end ws ≡ false → ((name : List ℕ) → gives ws name ≡ false) → MaybeGrowing text at c → MaybeGrowing text (at + 1) c
quiet text at ws None line ends none s = tt
quiet text at ws (Some d) line ends none s = (
  s.0,
  λ h name. (
      let same : giving text (at - 1) name ≡ giving text (at + 1 - 1) name = line name ∙ ap (λ (b : Bool). not b && (gives ws name || giving text (at + 1 - 1) name)) ends ∙ ap (λ (b : Bool). b || giving text (at + 1 - 1) name) (none name) in
      s.1 h name ∙ ap (λ (b : Bool). names_none d name || b) same),
)

profile_quiet : (text : List ℕ) (at : ℕ) (word : List ℕ) (rest : List (List ℕ)) (c : Option Draft) → Line text at (word ∷ rest) → word ≡ codes "profile" → MaybeGrowing text at c → MaybeGrowing text (at + 1) c
profile_quiet text at word rest c line e s =
    quiet text at (word ∷ rest) c line (ap (λ (w : List ℕ). bytes_eq w (codes "end")) e) (λ name. ap (λ (w : List ℕ). is_named (label_of w) name) e) s

-- ---- a line that begins a function

header_new : (ws : List (List ℕ)) (d : Draft) → header_at ws ≡ Ok d → (d.code ≡ []) × (d.labels ≡ [])
header_new ws d e =
    after (name_at ws) _ d e (λ name r f. after (number_at 255 name.1) _ d f (λ args r f. after (needs_at args.1) _ d f (λ needs r f. (
    let same : record { name = name.0; args = args.0; needs = needs; labels = []; code = [] } ≡ d = cc in (sym (ap (λ (x : Draft). x.code) same), sym (ap (λ (x : Draft). x.labels) same))))))

begun_settled : (text : List ℕ) (at : ℕ) (o : Outline) (ws : List (List ℕ)) (p : Outline) → AllSettled text at o → begun o ws ≡ Ok p → AllSettled text (at + 1) p
begun_settled text at o ws p s e =
    either_way (is_some o.current) (Err Unclosed) (header_at ws >>= λ d. Ok (with_function o d)) p e (λ b f. absurd (cc)) (λ b f. after (header_at ws) _ p f (λ d r f. (
    let same : with_function o d ≡ p = cc in
    let new = header_new ws d r in
    let none : length d.code ≡ 0 = ap (λ (xs : List Sentence). length xs) new.0 in
    let growing : Growing text (at + 1) d = (subst (All (λ (m : Mark). m.at ≤ length d.code)) (sym new.1) (All-nil (λ (m : Mark). m.at ≤ length d.code)), λ h. absurd (omega (arith, h, none))) in
    subst (AllSettled text (at + 1)) same (s.0, growing))))

-- ---- a line that ends one

ended_settled : (text : List ℕ) (at : ℕ) (o : Outline) (current : Option Draft) (word : List ℕ) (rest : List (List ℕ)) (p : Outline) → Line text at (word ∷ rest) → bytes_eq word (codes "end") ≡ true → AllSettled text at o → current ≡ o.current → ended o current rest ≡ Ok p → AllSettled text (at + 1) p
ended_settled text at o None word rest p line ends s c e = absurd (cc)
ended_settled text at o (Some d) word rest p line ends s c e =
    let same = finished_same (record o { done = o.done ++ d ∷ []; current = None }) rest p e in
    let growing : Growing text at d = subst (MaybeGrowing text at) (sym c) s.1 in
    let settled : Settled text d = λ h name. (
    let none : giving text (at - 1) name ≡ false = line name ∙ ap (λ (b : Bool). not b && (gives (word ∷ rest) name || giving text (at + 1 - 1) name)) ends in
    growing.1 h name ∙ ap (λ (b : Bool). names_none d name || b) none ∙ or-false (names_none d name)) in
    subst (AllSettled text (at + 1)) same (All-push (Settled text) o.done d s.0 settled, tt)

-- ---- a label

label_named : (d : Draft) (x name : List ℕ) → names_none (with_label d x) name ≡ (names_none d name || bytes_eq x name)
label_named d x name =
    let p : Mark → Bool = λ (m : Mark). bytes_eq m.name name && nat_le (length d.code) m.at in
    let mark : Mark = record { name = x; at = length d.code } in
    let here : list_any p (mark ∷ []) ≡ bytes_eq x name = or-false (p mark) ∙ ap (λ (b : Bool). bytes_eq x name && b) (le_self (length d.code)) ∙ and-true (bytes_eq x name) in
    list_any-append p d.labels (mark ∷ []) ∙ ap (λ (b : Bool). list_any p d.labels || b) here

label_growing : (text : List ℕ) (at : ℕ) (d : Draft) (word x : List ℕ) (rest : List (List ℕ)) → Line text at (word ∷ rest) → bytes_eq word (codes "end") ≡ false → label_of word ≡ Some x → Growing text at d → Growing text (at + 1) (with_label d x)
label_growing text at d word x rest line ends label s = (
  All-push (λ (m : Mark). m.at ≤ length d.code) d.labels (record { name = x; at = length d.code }) s.0 (omega arith),
  λ h name. (
      let behind : Bool = giving text (at + 1 - 1) name in
      let here : giving text (at - 1) name ≡ (bytes_eq x name || behind) =
      line name ∙ ap (λ (b : Bool). not b && (gives (word ∷ rest) name || behind)) ends ∙ ap (λ (l : Option (List ℕ)). is_named l name || behind) label in
      s.1 h name ∙ ap (λ (b : Bool). names_none d name || b) here ∙ or_assoc (names_none d name) (bytes_eq x name) behind ∙ ap (λ (b : Bool). b || behind) (sym (label_named d x name))),
)

-- ---- an instruction

last_pushed : (xs : List Sentence) (s : Sentence) → last_line (xs ++ s ∷ []) ≡ s.line
last_pushed xs s =
    let count : length (xs ++ s ∷ []) ≡ length xs + 1 = length-append xs (s ∷ []) in
    let last : length (xs ++ s ∷ []) - 1 ≡ length xs = omega (arith, count) in
    ap (λ (n : ℕ). number_of (slice_get (xs ++ s ∷ []) n)) last ∙ ap number_of (got_last xs s)

instr_growing : (text : List ℕ) (at : ℕ) (d : Draft) (ws : List (List ℕ)) → Growing text at d → Growing text (at + 1) (with_sentence at d ws)
instr_growing text at d ws s =
    let sentence : Sentence = record { line = at; words = ws } in
    let new : List Sentence = d.code ++ sentence ∷ [] in
    let count : length new ≡ length d.code + 1 = length-append d.code (sentence ∷ []) in (
      λ n m h. (let le = s.0 n m h in omega (arith, le, count)),
      λ h name. (
          let none : names_none (with_sentence at d ws) name ≡ false = list_any_none (λ (m : Mark). bytes_eq m.name name && nat_le (length new) m.at) d.labels (λ n m h. (
          let mark : Mark = get_or d.labels n m in
          let le : mark.at ≤ length d.code = s.0 n m h in
          too_small (bytes_eq mark.name name) (length new) mark.at (omega (arith, le, count)))) in
          let next : at ≡ at + 1 - 1 = omega arith in
          ap (λ (n : ℕ). giving text n name) (last_pushed d.code sentence ∙ next) ∙ ap (λ (b : Bool). b || giving text (at + 1 - 1) name) (sym none)),
    )

inner_growing : (text : List ℕ) (at : ℕ) (d : Draft) (label : Option (List ℕ)) (word : List ℕ) (rest : List (List ℕ)) (e : Draft) → Line text at (word ∷ rest) → bytes_eq word (codes "end") ≡ false → label_of word ≡ label → Growing text at d → inner at d label word rest ≡ Ok e → Growing text (at + 1) e
inner_growing text at d (Some name) word rest e line ends label s h =
    after (finished name rest) _ e h (λ x r f. either_way (is_some (marked d.labels x)) (Err DuplicateLabel) (Ok (with_label d x)) e f (λ b g. absurd (cc)) (λ b g. (
    let named : label_of word ≡ Some x = label ∙ ap (λ (n : List ℕ). Some n) (finished_same name rest x r) in
    let same : with_label d x ≡ e = cc in subst (Growing text (at + 1)) same (label_growing text at d word x rest line ends named s))))
inner_growing text at d None word rest e line ends label s h =
    after (instr_of None (word ∷ rest)) _ e h (λ i r f. (
    let same : with_sentence at d (word ∷ rest) ≡ e = cc in subst (Growing text (at + 1)) same (instr_growing text at d (word ∷ rest) s)))

inside_settled : (text : List ℕ) (at : ℕ) (o : Outline) (current : Option Draft) (word : List ℕ) (rest : List (List ℕ)) (p : Outline) → Line text at (word ∷ rest) → bytes_eq word (codes "end") ≡ false → AllSettled text at o → current ≡ o.current → inside at o current word rest ≡ Ok p → AllSettled text (at + 1) p
inside_settled text at o None word rest p line ends s c h = absurd (cc)
inside_settled text at o (Some d) word rest p line ends s c h =
    let growing : Growing text at d = subst (MaybeGrowing text at) (sym c) s.1 in
    after (inner at d (label_of word) word rest) _ p h (λ e r f. (
    let same : record o { current = Some e } ≡ p = cc in
    subst (AllSettled text (at + 1)) same (s.0, inner_growing text at d (label_of word) word rest e line ends refl growing r)))

-- ---- lines

said_settled : (text : List ℕ) (at : ℕ) (o : Outline) (ws : List (List ℕ)) (p : Outline) → Line text at ws → AllSettled text at o → said at o ws ≡ Ok p → AllSettled text (at + 1) p
said_settled text at o [] p line s h =
    let same : o ≡ p = cc in subst (AllSettled text (at + 1)) same (s.0, quiet text at [] o.current line refl (λ name. refl) s.1)
said_settled text at o (word ∷ rest) p line s h =
    either_way (bytes_eq word (codes "func")) _ _ p h (λ b e. begun_settled text at o rest p s e)
    (λ b h. either_way (bytes_eq word (codes "end")) _ _ p h (λ c e. ended_settled text at o o.current word rest p line c s refl e)
    (λ c h. either_way (at == 1 && bytes_eq word (codes "profile")) _ _ p h
    (λ d e. after (profile_at rest) _ p e (λ x r f. (
    let profile : word ≡ codes "profile" = (bytes_eq-Decides word (codes "profile")).0 (and_parts (at == 1) (bytes_eq word (codes "profile")) d).1 in
    let same : record o { profile = x } ≡ p = cc in
    subst (AllSettled text (at + 1)) same (s.0, profile_quiet text at word rest o.current line profile s.1))))
    (λ d e. inside_settled text at o o.current word rest p line c s refl e)))

line_settled : (text : List ℕ) (at : ℕ) (o : Outline) (line : List ℕ) (p : Outline) → 0 < at → slice_get (lines text) (at - 1) ≡ Some line → AllSettled text at o → at_line at (line_read at o line) ≡ Ok p → AllSettled text (at + 1) p
line_settled text at o line p first stands s e =
    let small : at - 1 < length (lines text) = slice_get_within (lines text) (at - 1) line stands in
    let next : at - 1 + 1 ≡ at + 1 - 1 = omega arith in
    let cut : drop (at - 1) (lines text) ≡ line ∷ drop (at + 1 - 1) (lines text) =
    drop_more (lines text) (at - 1) line small
    ∙ ap (λ (x : List ℕ). x ∷ drop (at - 1 + 1) (lines text)) (get_or_from_slice_get (lines text) (at - 1) line line stands)
    ∙ ap (λ (n : ℕ). line ∷ drop n (lines text)) next in
    let says : Line text at (words (before_first is_semicolon line)) = λ name. ap (λ (ls : List (List ℕ)). are_giving ls name) cut in
    either_way (list_all is_allowed line) (said at o (words (before_first is_semicolon line))) (Err NotAscii) p (at_line_ok at (line_read at o line) p e) (λ b f. said_settled text at o (words (before_first is_semicolon line)) p says s f) (λ b f. absurd (cc))

lines_settled : (text : List ℕ) (at : ℕ) (o : Outline) (rest : List (List ℕ)) (p : Outline) → 0 < at → AreFrom text at rest → AllSettled text at o → lines_read at o rest ≡ Ok p → All (Settled text) p.done
unfolding lines_read
lines_settled text at o [] p first from s e = let same : o ≡ p = cc in subst (λ (x : Outline). All (Settled text) x.done) same s.0
lines_settled text at o (line ∷ more) p first from s e =
    let stands = line_from text at line more from in
    after (at_line at (line_read at o line)) _ p e (λ q r f. lines_settled text (at + 1) q more p (omega arith) (next_from text at line more from) (line_settled text at o line q first stands s r) f)

outline_settled : (text : List ℕ) (o : Outline) → outline_of text ≡ Ok o → All (Settled text) o.done
outline_settled text o e =
    after (lines_read 1 empty (lines text)) _ o e (λ p r f. either_way (is_some p.current) (Err (record { line = length (lines text); kind = Unclosed })) (Ok p) o f (λ b g. absurd (cc)) (λ b g. (
    let same : p ≡ o = cc in
    subst (λ (x : Outline). All (Settled text) x.done) same (lines_settled text 1 empty (lines text) p (omega arith) (from_first text) (All-nil (Settled text), tt) r))))

pub behind_names_none : BehindNamesNone
behind_names_none text o f d name e there some =
    either_way (nat_lt 1048576 (length text)) (Err (record { line = 0; kind = TextTooLong })) (outline_of text) o e (λ b h. absurd (cc)) (λ b h. (
    let settled : Settled text d = one_of (Settled text) o.done f d (outline_settled text o h) there in
    ap (λ (x : Option Draft). giving text (last_line (sentences_of x)) name) there ∙ settled some name))
