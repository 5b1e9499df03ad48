-- Each function has its line, which begins with `func` and its name.
use Rattle.std.proofs.Common.{◌≡◌, ℕ, zero, suc, ◌+◌, ◌-◌, ◌<◌, ◌≤◌, List, [], ◌∷◌, ◌++◌, Some, None, Bool, true, false, length, slice_get, refl, sym, ap, ◌∙◌, append-nil, append_assoc, arith, map, take}
use Rattle.std.specs.Prelude.{Result, Ok, Err, Option, is_some, nat_lt, if◌then◌else◌, codes, ◌==◌, ◌&&◌, option_map}
use Rattle.std.specs.List.{before_first, list_all}
use Rattle.std.specs.Str.{bytes_eq}
use Rattle.std.proofs.lemmas.List.{map-append}
use Rattle.std.proofs.lemmas.Option.{slice_get_within, slice_get-map}
use Rattle.std.proofs.lemmas.Slice.Eq.{bytes_eq-Decides}
use Rattle.sts_code.specs.Name.{is_name}
use Rattle.sts_text.specs.Words.{lines, words}
use Rattle.sts_asm.specs.declared.fault.AsmKind.TheVariants.{NotAscii, BadOperands, DuplicateLabel, Unclosed, TextTooLong}
use Rattle.sts_asm.specs.Fault.{◌>>=◌, at_line}
use Rattle.sts_asm.specs.Line.{instr_of}
use Rattle.sts_asm.specs.Marks.{marked}
use Rattle.sts_asm.specs.Operand.{name_at, number_at, named, finished}
use Rattle.sts_asm.specs.Outline.{Draft, Outline, empty, profile_at, profiled, needs_at, header_at, with_function, ended, label_of, with_label, with_sentence, inner, inside, said, is_allowed, is_semicolon, line_read, lines_read, outline_of}
use Rattle.sts_asm.specs.Source.{words_of, words_at}
use Rattle.look_text.specs.Heads.{is_head, heads_from, head_at, Begins, HeadsBeginFunctions}
use Rattle.sts_asm.proofs.KeptLemmas.{at_line_ok}
use Rattle.look_text.proofs.StandLemmas.{after, finished_same, AreFrom, from_first, line_from, next_from}

-- what begins the line of a function
abbrev opening : Draft → List (List ℕ)
opening d = codes "func" ∷ d.name ∷ []

abbrev opened : Option Draft → List (List (List ℕ))
opened None = []
opened (Some d) = opening d ∷ []

-- the openings of the ended functions and of the open one
abbrev openings : Outline → List (List (List ℕ))
openings o = map opening o.done ++ opened o.current

-- the first two words of a line that begins a function
abbrev begun_by : Bool → List (List ℕ) → List (List (List ℕ))
begun_by true ws = take 2 ws ∷ []
begun_by false ws = []

-- ---- what was Ok on the way

pub either_way : {A E S : Type 0} (b : Bool) (x y : Result A E) (z : A) → (if b then x else y) ≡ Ok z → (b ≡ true → x ≡ Ok z → S) → (b ≡ false → y ≡ Ok z → S) → S
either_way true x y z e f g = f refl e
either_way false x y z e f g = g refl e

-- ---- a line that begins a function

name_first : (word : List ℕ) (rest : List (List ℕ)) (name : List ℕ × List (List ℕ)) → name_at (word ∷ rest) ≡ Ok name → word ≡ name.0
name_first word rest name e = by (is_name word) refl
  where
    by : (b : Bool) → is_name word ≡ b → word ≡ name.0
    by true n = let read : name_at (word ∷ rest) ≡ Ok (word, rest) = rw n refl in let same : (word, rest) ≡ name = cc in ap (λ (x : List ℕ × List (List ℕ)). x.0) same
    by false n = let read : name_at (word ∷ rest) ≡ Err BadOperands = rw n refl in absurd (cc)

header_named : (ws : List (List ℕ)) (d : Draft) → header_at ws ≡ Ok d → take 2 (codes "func" ∷ ws) ≡ opening d
header_named [] d e = absurd (cc)
header_named (word ∷ rest) d e =
    after (name_at (word ∷ rest)) _ d e (λ name r f. after (number_at 255 name.1) _ d f (λ args q f. after (needs_at args.1) _ d f (λ needs q f. (
    let same : record { name = name.0; args = args.0; needs = needs; labels = []; code = [] } ≡ d = cc in
    ap (λ (n : List ℕ). codes "func" ∷ n ∷ []) (name_first word rest name r ∙ ap (λ (x : Draft). x.name) same)))))

begun_opens : (o : Outline) (current : Option Draft) (ws : List (List ℕ)) (p : Outline) → o.current ≡ current → (if is_some current then Err Unclosed else (header_at ws >>= λ d. Ok (with_function o d))) ≡ Ok p → openings p ≡ openings o ++ take 2 (codes "func" ∷ ws) ∷ []
begun_opens o (Some c) ws p is e = absurd (cc)
begun_opens o None ws p is e =
    after (header_at ws) _ p e (λ d r f. (
    let same : with_function o d ≡ p = cc in
    let before : openings o ≡ map opening o.done = ap (λ (c : Option Draft). map opening o.done ++ opened c) is ∙ append-nil (map opening o.done) in
    ap openings (sym same) ∙ ap (λ (ws : List (List ℕ)). map opening o.done ++ ws ∷ []) (sym (header_named ws d r)) ∙ ap (λ (xs : List (List (List ℕ))). xs ++ take 2 (codes "func" ∷ ws) ∷ []) (sym before)))

-- ---- any other line

ended_same : (o : Outline) (current : Option Draft) (rest : List (List ℕ)) (p : Outline) → o.current ≡ current → ended o current rest ≡ Ok p → openings p ≡ openings o
ended_same o None rest p is e = absurd (cc)
ended_same o (Some d) rest p is e =
    let same = finished_same (record o { done = o.done ++ d ∷ []; current = None }) rest p e in
    ap openings (sym same) ∙ append-nil (map opening (o.done ++ d ∷ [])) ∙ map-append opening o.done (d ∷ []) ∙ ap (λ (c : Option Draft). map opening o.done ++ opened c) (sym is)

profiled_same : (o : Outline) (ws : List (List ℕ)) (p : Outline) → profiled o ws ≡ Ok p → openings p ≡ openings o
profiled_same o ws p e = after (profile_at ws) _ p e (λ x r f. (let same : record o { profile = x } ≡ p = cc in ap openings (sym same)))

inner_same : (at : ℕ) (d : Draft) (label : Option (List ℕ)) (word : List ℕ) (rest : List (List ℕ)) (e : Draft) → inner at d label word rest ≡ Ok e → opening e ≡ opening d
inner_same at d (Some name) word rest e h =
    after (finished name rest) _ e h (λ x r f. either_way (is_some (marked d.labels x)) (Err DuplicateLabel) (Ok (with_label d x)) e f (λ b g. absurd (cc)) (λ b g. (
    let same : with_label d x ≡ e = cc in ap opening (sym same))))
inner_same at d None word rest e h =
    after (instr_of None (word ∷ rest)) _ e h (λ i r f. (let same : with_sentence at d (word ∷ rest) ≡ e = cc in ap opening (sym same)))

inside_same : (at : ℕ) (o : Outline) (current : Option Draft) (word : List ℕ) (rest : List (List ℕ)) (p : Outline) → o.current ≡ current → inside at o current word rest ≡ Ok p → openings p ≡ openings o
inside_same at o None word rest p is h = absurd (cc)
inside_same at o (Some d) word rest p is h =
    after (inner at d (label_of word) word rest) _ p h (λ e r f. (
    let same : record o { current = Some e } ≡ p = cc in
    ap openings (sym same) ∙ ap (λ (x : List (List ℕ)). map opening o.done ++ x ∷ []) (inner_same at d (label_of word) word rest e r) ∙ ap (λ (c : Option Draft). map opening o.done ++ opened c) (sym is)))

-- ---- lines

-- a line that begins a function adds its first words
said_opens : (at : ℕ) (o : Outline) (ws : List (List ℕ)) (p : Outline) → said at o ws ≡ Ok p → openings p ≡ openings o ++ begun_by (is_head ws) ws
said_opens at o [] p h = let same : o ≡ p = cc in ap openings (sym same) ∙ sym (append-nil (openings o))
said_opens at o (word ∷ rest) p h =
    either_way (bytes_eq word (codes "func")) _ _ p h
    (λ b e. (
    let func : word ≡ codes "func" = (bytes_eq-Decides word (codes "func")).0 b in
    begun_opens o o.current rest p refl e ∙ ap (λ (w : List ℕ). openings o ++ take 2 (w ∷ rest) ∷ []) (sym func) ∙ ap (λ (b : Bool). openings o ++ begun_by b (word ∷ rest)) (sym b)))
    (λ b h. (
    let other : openings p ≡ openings o =
    either_way (bytes_eq word (codes "end")) _ _ p h (λ c e. ended_same o o.current rest p refl e)
    (λ c h. either_way (at == 1 && bytes_eq word (codes "profile")) _ _ p h (λ c e. profiled_same o rest p e)
    (λ c e. inside_same at o o.current word rest p refl e)) in
    other ∙ sym (append-nil (openings o)) ∙ ap (λ (b : Bool). openings o ++ begun_by b (word ∷ rest)) (sym b)))

line_opens : (at : ℕ) (o : Outline) (line : List ℕ) (p : Outline) → at_line at (line_read at o line) ≡ Ok p → openings p ≡ openings o ++ begun_by (is_head (words_of (Some line))) (words_of (Some line))
line_opens at o line p e =
    either_way (list_all is_allowed line) (said at o (words (before_first is_semicolon line))) (Err NotAscii) p (at_line_ok at (line_read at o line) p e) (λ b f. said_opens at o (words (before_first is_semicolon line)) p f) (λ b f. absurd (cc))

-- the first words of the lines of these numbers
abbrev first_words : List ℕ → List ℕ → List (List (List ℕ))
first_words text numbers = map (λ (n : ℕ). take 2 (words_at text n)) numbers

heads_first : (text : List ℕ) (at : ℕ) (line : List ℕ) (more : List (List ℕ)) (b : Bool) → slice_get (lines text) (at - 1) ≡ Some line → is_head (words_of (Some line)) ≡ b → begun_by b (words_of (Some line)) ++ first_words text (heads_from (at + 1) more) ≡ first_words text (heads_from at (line ∷ more))
heads_first text at line more true stands e =
    let here : words_at text at ≡ words_of (Some line) = ap words_of stands in
    ap (λ (ws : List (List ℕ)). take 2 ws ∷ first_words text (heads_from (at + 1) more)) (sym here)
    ∙ ap (λ (b : Bool). first_words text (if b then at ∷ heads_from (at + 1) more else heads_from (at + 1) more)) (sym e)
heads_first text at line more false stands e = ap (λ (b : Bool). first_words text (if b then at ∷ heads_from (at + 1) more else heads_from (at + 1) more)) (sym e)

lines_open : (text : List ℕ) (at : ℕ) (o : Outline) (rest : List (List ℕ)) (p : Outline) → 0 < at → AreFrom text at rest → lines_read at o rest ≡ Ok p → openings p ≡ openings o ++ first_words text (heads_from at rest)
unfolding lines_read
lines_open text at o [] p first from e = let same : o ≡ p = cc in ap openings (sym same) ∙ sym (append-nil (openings o))
lines_open text at o (line ∷ more) p first from e =
    let stands = line_from text at line more from in
    let head : Bool = is_head (words_of (Some line)) in
    let added : List (List (List ℕ)) = begun_by head (words_of (Some line)) in
    let later : List (List (List ℕ)) = first_words text (heads_from (at + 1) more) in
    after (at_line at (line_read at o line)) _ p e (λ q r f. (
    let rest_opens = lines_open text (at + 1) q more p (omega arith) (next_from text at line more from) f in
    rest_opens ∙ ap (λ (xs : List (List (List ℕ))). xs ++ later) (line_opens at o line q r) ∙ append_assoc (openings o) added later
    ∙ ap (λ (xs : List (List (List ℕ))). openings o ++ xs) (heads_first text at line more head stands refl)))

-- ---- a text

closed_opens : (o : Outline) (current : Option Draft) → o.current ≡ current → is_some current ≡ false → openings o ≡ map opening o.done
closed_opens o None is e = ap (λ (c : Option Draft). map opening o.done ++ opened c) is ∙ append-nil (map opening o.done)
closed_opens o (Some d) is e = absurd (cc)

outline_opens : (text : List ℕ) (o : Outline) → outline_of text ≡ Ok o → map opening o.done ≡ first_words text (heads_from 1 (lines text))
outline_opens text o e =
    after (lines_read 1 empty (lines text)) _ o e (λ p r f. either_way (is_some p.current) (Err (record { line = length (lines text); kind = Unclosed })) (Ok p) o f (λ b g. absurd (cc)) (λ b g. (
    let same : p ≡ o = cc in
    let closed : is_some o.current ≡ false = ap (λ (x : Outline). is_some x.current) (sym same) ∙ b in
    sym (closed_opens o o.current refl closed) ∙ ap openings (sym same) ∙ lines_open text 1 empty (lines text) p (omega arith) (from_first text) r)))

-- ---- one function

within_first : (number line : ℕ) (xs : List ℕ) (f : ℕ) → ((g : ℕ) → slice_get xs g ≡ Some line → number + 1 ≤ line) → slice_get (number ∷ xs) f ≡ Some line → number ≤ line
within_first number line xs zero h e = let same : number ≡ line = cc in omega (arith, same)
within_first number line xs (suc f) h e = let le : number + 1 ≤ line = h f e in omega (arith, le)

within_either : (number line : ℕ) (xs : List ℕ) (b : Bool) (f : ℕ) → ((g : ℕ) → slice_get xs g ≡ Some line → number + 1 ≤ line) → slice_get (if b then number ∷ xs else xs) f ≡ Some line → number ≤ line
within_either number line xs true f h e = within_first number line xs f h e
within_either number line xs false f h e = let le : number + 1 ≤ line = h f e in omega (arith, le)

within : (number : ℕ) (ls : List (List ℕ)) (f line : ℕ) → slice_get (heads_from number ls) f ≡ Some line → number ≤ line
within number [] f line e = absurd (cc)
within number (l ∷ more) f line e = within_either number line (heads_from (number + 1) more) (is_head (words_of (Some l))) f (λ g d. within (number + 1) more g line d) e

stands : (text name : List ℕ) (line : ℕ) (o : Option (List ℕ)) → 0 < line → slice_get (lines text) (line - 1) ≡ o → take 2 (words_of o) ≡ codes "func" ∷ name ∷ [] → Begins text name line
stands text name line None first is e = absurd (cc)
stands text name line (Some l) first is e =
    let small : line - 1 < length (lines text) = slice_get_within (lines text) (line - 1) l is in
    (first, omega arith, ap (λ (o : Option (List ℕ)). take 2 (words_of o)) is ∙ e)

begins : (text name : List ℕ) (f : ℕ) (o : Option ℕ) → head_at text f ≡ o → option_map (λ (n : ℕ). take 2 (words_at text n)) o ≡ Some (codes "func" ∷ name ∷ []) → (line : ℕ) × ((head_at text f ≡ Some line) × Begins text name line)
begins text name f None is e = absurd (cc)
begins text name f (Some line) is e =
    let first : 1 ≤ line = within 1 (lines text) f line is in
    let said : take 2 (words_at text line) ≡ codes "func" ∷ name ∷ [] = cc in
    (line, (is, stands text name line (slice_get (lines text) (line - 1)) (omega arith) refl said))

named_there : (text : List ℕ) (o : Outline) (f : ℕ) (name : List ℕ) (d : Option Draft) → slice_get o.done f ≡ d → option_map (λ (d : Draft). d.name) d ≡ Some name → slice_get (map opening o.done) f ≡ Some (codes "func" ∷ name ∷ [])
named_there text o f name None is e = absurd (cc)
named_there text o f name (Some d) is e =
    let same : d.name ≡ name = cc in
    slice_get-map opening o.done f ∙ ap (λ (x : Option Draft). option_map opening x) is ∙ ap (λ (n : List ℕ). Some (codes "func" ∷ n ∷ [])) same

pub heads_begin : HeadsBeginFunctions
heads_begin text o f name e named =
    either_way (nat_lt 1048576 (length text)) (Err (record { line = 0; kind = TextTooLong })) (outline_of text) o e (λ b h. absurd (cc)) (λ b h. (
    let there : slice_get (map opening o.done) f ≡ Some (codes "func" ∷ name ∷ []) = named_there text o f name (slice_get o.done f) refl named in
    let read : slice_get (first_words text (heads_from 1 (lines text))) f ≡ Some (codes "func" ∷ name ∷ []) = ap (λ (xs : List (List (List ℕ))). slice_get xs f) (sym (outline_opens text o h)) ∙ there in
    begins text name f (head_at text f) refl (sym (slice_get-map (λ (n : ℕ). take 2 (words_at text n)) (heads_from 1 (lines text)) f) ∙ read)))
