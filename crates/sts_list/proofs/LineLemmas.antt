use Rattle.std.proofs.Common.{◌≡◌, ℕ, ◌+◌, ◌<◌, ◌-◌, true, false, List, [], ◌∷◌, ◌++◌, length, take, get_or, refl, ◌∙◌, ap, arith, append_assoc, append-nil}
use Rattle.std.proofs.Common.{length-append}
use Rattle.std.specs.Prelude.{◌==◌, Some, None, codes, Ok}
use Rattle.std.specs.List.{list_all, AllByRecursion}
use Rattle.std.specs.Str.{bytes_eq}
use Rattle.std.proofs.Math.Bool.{and-false}
use Rattle.sts_code.specs.Name.{is_name}
use Rattle.sts_code.specs.Program.{Program}
use Rattle.sts_code.specs.Checks.{has_bad_range}
use Rattle.sts_code.specs.declared.instr.Instr.{Instr}
use Rattle.sts_code.specs.declared.instr.Instr.TheVariants as i
use Rattle.sts_text.specs.Words.{lines, words}
use Rattle.sts_asm.specs.Fault.{at_line}
use Rattle.sts_asm.specs.Marks.{marked}
use Rattle.sts_asm.specs.Outline.{Draft, Outline, label_of, with_label, with_sentence, inside, said, line_read, lines_read}
use Rattle.sts_asm.proofs.TextLemmas.{line_step}
use Rattle.sts_asm.proofs.TableLemmas.{spelled_read}
use Rattle.sts_list.specs.Spelling.{keyword, operands, label, after_spaces}
use Rattle.sts_list.specs.Listing.{label_line, instr_line}
use Rattle.sts_code.specs.Facts.{targets}
use Rattle.sts_list.specs.RoundTrip.{FitsInstr}
use Rattle.sts_list.proofs.ByteLemmas.{is_plain, is_text, plain_text, all_implied, all_append, IsWord, AreWords, words_text, words_read, line_cut}
use Rattle.sts_list.proofs.ByteLemmas.{line_uncommented, line_allowed}
use Rattle.sts_list.proofs.DecimalLemmas.{label_word, label_name}
use Rattle.sts_list.proofs.SpellingLemmas.{Labels, Forks, moved, spelled_as, operands_are_words, keyword_is_word}

-- ---- a line of words

sentence_text : (w : List ℕ) (ws : List (List ℕ)) → IsWord w → AreWords ws → list_all is_text (w ++ after_spaces ws) ≡ true
sentence_text w ws h hs = all_append is_text w (after_spaces ws) (all_implied is_plain is_text plain_text w h.plain) (words_text ws hs)

text_said : (at : ℕ) (o : Outline) (line : List ℕ) (ws : List (List ℕ)) → list_all is_text line ≡ true → words line ≡ ws → line_read at o line ≡ said at o ws
text_said at o line ws t e = rw (line_allowed line t, line_uncommented line t, e) refl

-- a line of a listing is read as its words say
pub words_said : (at : ℕ) (o p : Outline) (w : List ℕ) (ws : List (List ℕ)) (rest : List ℕ) → IsWord w → AreWords ws → said at o (w ∷ ws) ≡ Ok p → lines_read at o (lines ((w ++ after_spaces ws) ++ 10 ∷ rest)) ≡ lines_read (at + 1) p (lines rest)
words_said at o p w ws rest h hs e =
    let t = sentence_text w ws h hs in
    line_step at o p (w ++ after_spaces ws) ((w ++ after_spaces ws) ++ 10 ∷ rest) rest (line_cut (w ++ after_spaces ws) rest t) (ap (at_line at) (text_said at o (w ++ after_spaces ws) (w ∷ ws) t (words_read w ws h hs) ∙ e))

-- like `words_said`, for a line that begins with two spaces
pub indented_said : (at : ℕ) (o p : Outline) (w : List ℕ) (ws : List (List ℕ)) (rest : List ℕ) → IsWord w → AreWords ws → said at o (w ∷ ws) ≡ Ok p → lines_read at o (lines ((32 ∷ 32 ∷ (w ++ after_spaces ws)) ++ 10 ∷ rest)) ≡ lines_read (at + 1) p (lines rest)
indented_said at o p w ws rest h hs e =
    let t : list_all is_text (32 ∷ 32 ∷ (w ++ after_spaces ws)) ≡ true = sentence_text w ws h hs in
    line_step at o p (32 ∷ 32 ∷ (w ++ after_spaces ws)) ((32 ∷ 32 ∷ (w ++ after_spaces ws)) ++ 10 ∷ rest) rest (line_cut (32 ∷ 32 ∷ (w ++ after_spaces ws)) rest t) (ap (at_line at) (text_said at o (32 ∷ 32 ∷ (w ++ after_spaces ws)) (w ∷ ws) t (words_read w ws h hs) ∙ e))

-- a first word other than `func`, `end` and `profile`
record IsInner (w : List ℕ) : Type 0 where
  no_func : bytes_eq w (codes "func") ≡ false
  no_end : bytes_eq w (codes "end") ≡ false
  no_profile : bytes_eq w (codes "profile") ≡ false

said_inside : (at : ℕ) (o : Outline) (w : List ℕ) (ws : List (List ℕ)) → IsInner w → said at o (w ∷ ws) ≡ inside at o o.current w ws
said_inside at o w ws h = rw (h.no_func, h.no_end, h.no_profile, and-false (at == 1)) refl

-- ---- labels

last_byte : (xs : List ℕ) (x : ℕ) → get_or (xs ++ x ∷ []) (length xs) 0 ≡ x
last_byte [] x = refl
last_byte (y ∷ xs) x = last_byte xs x

front_bytes : (xs ys : List ℕ) → take (length xs) (xs ++ ys) ≡ xs
front_bytes [] ys = refl
front_bytes (x ∷ xs) ys = ap (λ (zs : List ℕ). x ∷ zs) (front_bytes xs ys)

label_found : (name : List ℕ) → is_name name ≡ true → label_of (name ++ 58 ∷ []) ≡ Some name
label_found name h =
    let e : length (name ++ 58 ∷ []) - 1 ≡ length name = simp length-append (omega arith) in
    rw (e, last_byte name 58, front_bytes name (58 ∷ []), h) refl

abbrev pub with_current : Outline → Draft → Outline
with_current o d = record o { current = Some d }

colon_word : (pc : ℕ) → pc < 10000 → IsWord (label pc ++ 58 ∷ [])
colon_word pc h = record { filled = omega arith; plain = all_append is_plain (label pc) (58 ∷ []) (label_word pc (omega arith)).plain refl }

label_said : (at pc : ℕ) (o : Outline) (d : Draft) → pc < 10000 → length d.code ≡ pc → marked d.labels (label pc) ≡ None → said at (with_current o d) ((label pc ++ 58 ∷ []) ∷ []) ≡ Ok (with_current o (with_label d (label pc)))
label_said at pc o d h n fresh =
    said_inside at (with_current o d) (label pc ++ 58 ∷ []) [] (record { no_func = refl; no_end = refl; no_profile = refl })
    ∙ rw (label_found (label pc) (label_name pc h), fresh) refl

-- the line of a label adds the label
pub label_line_read : (at pc : ℕ) (o : Outline) (d : Draft) (rest : List ℕ) → pc < 10000 → length d.code ≡ pc → marked d.labels (label pc) ≡ None → lines_read at (with_current o d) (lines (label_line true pc ++ rest)) ≡ lines_read (at + 1) (with_current o (with_label d (label pc))) (lines rest)
label_line_read at pc o d rest h n fresh =
    let e : label_line true pc ++ rest ≡ ((label pc ++ 58 ∷ []) ++ after_spaces []) ++ 10 ∷ rest = simp (append_assoc, append-nil) in
    ap (λ (text : List ℕ). lines_read at (with_current o d) (lines text)) e
    ∙ words_said at (with_current o d) (with_current o (with_label d (label pc))) (label pc ++ 58 ∷ []) [] rest (colon_word pc h) tt (label_said at pc o d h n fresh)

-- ---- instructions

record IsKeyword (w : List ℕ) : Type 0 where
  inner : IsInner w
  no_label : label_of w ≡ None

keyword_of : (w : List ℕ) → bytes_eq w (codes "func") ≡ false → bytes_eq w (codes "end") ≡ false → bytes_eq w (codes "profile") ≡ false → label_of w ≡ None → IsKeyword w
keyword_of w f e p l = record { inner = record { no_func = f; no_end = e; no_profile = p }; no_label = l }

keyword_is : (instr : Instr) → IsKeyword (keyword instr)
keyword_is (i.Push k) = keyword_of (codes "push") refl refl refl refl
keyword_is instr = keyword_of (keyword instr) refl refl refl refl

-- an instruction as a program that passed its checks has it
pub record IsGood (p : Program) (instr : Instr) : Type 0 where
  pub range : has_bad_range instr ≡ false
  pub fits : FitsInstr instr
  pub near : AllByRecursion (λ to. to < 10000) (targets instr)
  pub forks : Forks p None (λ _. 0) instr

labels_near : (ts : List ℕ) → AllByRecursion (λ to. to < 10000) ts → AllByRecursion (Labels None (λ _. 0)) ts
labels_near [] h = tt
labels_near (t ∷ ts) h = (record { small = h.0; named = refl }, labels_near ts h.1)

instr_said : (at : ℕ) (p : Program) (instr : Instr) (o : Outline) (d : Draft) → IsGood p instr → said at (with_current o d) (keyword instr ∷ operands p instr) ≡ Ok (with_current o (with_sentence at d (keyword instr ∷ operands p instr)))
instr_said at p instr o d g =
    let k = keyword_is instr in
    let r = spelled_read None (moved (λ _. 0) (λ _. 0) instr) (keyword instr ∷ operands p instr) (spelled_as p None (λ _. 0) (λ _. 0) instr g.range g.fits (labels_near (targets instr) g.near) g.forks) in
    said_inside at (with_current o d) (keyword instr) (operands p instr) k.inner
    ∙ rw (k.no_label, r) refl

-- the line of an instruction adds it
pub instr_line_read : (at : ℕ) (p : Program) (instr : Instr) (o : Outline) (d : Draft) (rest : List ℕ) → IsGood p instr → lines_read at (with_current o d) (lines (instr_line p instr ++ rest)) ≡ lines_read (at + 1) (with_current o (with_sentence at d (keyword instr ∷ operands p instr))) (lines rest)
instr_line_read at p instr o d rest g =
    let e : instr_line p instr ++ rest ≡ (32 ∷ 32 ∷ (keyword instr ++ after_spaces (operands p instr))) ++ 10 ∷ rest = simp append_assoc in
    ap (λ (text : List ℕ). lines_read at (with_current o d) (lines text)) e
    ∙ indented_said at (with_current o d) (with_current o (with_sentence at d (keyword instr ∷ operands p instr))) (keyword instr) (operands p instr) rest (keyword_is_word instr)
    (operands_are_words p None (λ _. 0) (λ _. 0) instr g.range g.fits (labels_near (targets instr) g.near) g.forks) (instr_said at p instr o d g)
