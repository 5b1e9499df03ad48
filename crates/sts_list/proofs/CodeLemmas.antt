use Rattle.std.proofs.Common.{◌≡◌, ℕ, ◌+◌, ◌<◌, ◌≤◌, Bool, true, false, List, [], ◌∷◌, ◌++◌, length, drop, refl, sym, ◌∙◌, ap, arith, append_assoc, append-nil}
use Rattle.std.proofs.Common.{length-append}
use Rattle.std.specs.Prelude.{None}
use Rattle.std.specs.List.{AllByRecursion}
use Rattle.std.specs.Str.{bytes_eq}
use Rattle.std.proofs.lemmas.Fmt.{decimal_injective}
use Rattle.std.proofs.lemmas.Slice.Eq.{bytes_eq-Decides}
use Rattle.std.proofs.lemmas.Bool.{false_from_ne_true}
use Rattle.sts_code.specs.Program.{Program}
use Rattle.sts_code.specs.declared.instr.Instr.{Instr}
use Rattle.sts_text.specs.Words.{lines}
use Rattle.sts_asm.specs.Marks.{Mark, marked}
use Rattle.sts_asm.specs.Outline.{Sentence, Draft, Outline, with_label, with_sentence, lines_read}
use Rattle.sts_asm.proofs.MarkLemmas.{marked_append}
use Rattle.sts_list.specs.Spelling.{keyword, operands, label}
use Rattle.sts_list.specs.Listing.{is_target, label_line, instr_line, code_lines}
use Rattle.sts_list.proofs.LineLemmas.{IsGood, label_line_read, instr_line_read, with_current}

-- ---- fresh labels

-- no instruction from pc on has its label yet
abbrev pub Fresh : List Mark → ℕ → Type 0
Fresh marks pc = (q : ℕ) → pc ≤ q → q < 10000 → marked marks (label q) ≡ None

pub labels_differ : (m n : ℕ) → m < 10000 → n < 10000 → (m ≡ n → ⊥) → bytes_eq (label m) (label n) ≡ false
labels_differ m n h k differ = false_from_ne_true (bytes_eq (label m) (label n)) (λ (e : bytes_eq (label m) (label n) ≡ true).
    differ (decimal_injective m n (omega arith) (omega arith) (ap (drop 1) ((bytes_eq-Decides (label m) (label n)).0 e))))

fresh_more : (marks : List Mark) (pc : ℕ) → pc < 10000 → Fresh marks pc → Fresh (marks ++ record { name = label pc; at = pc } ∷ []) (pc + 1)
fresh_more marks pc small h = λ q past near.
    let new : Mark = record { name = label pc; at = pc } in
    marked_append marks new (label q)
    ∙ rw (h q (omega arith) near, labels_differ pc q small near (omega arith)) refl

-- ---- the code of a function

abbrev pub mark_if : Bool → ℕ → List Mark
mark_if true pc = record { name = label pc; at = pc } ∷ []
mark_if false pc = []

-- the labels before the instructions from pc on
abbrev pub marks_of : List Instr → ℕ → List Instr → List Mark
marks_of code pc [] = []
marks_of code pc (instr ∷ rest) = mark_if (is_target code pc) pc ++ marks_of code (pc + 1) rest

-- the line below the label, if there is one
abbrev pub below : Bool → ℕ → ℕ
below true at = at + 1
below false at = at

abbrev pub sentences : Program → List Instr → ℕ → ℕ → List Instr → List Sentence
sentences p code at pc [] = []
sentences p code at pc (instr ∷ rest) = record { line = below (is_target code pc) at; words = keyword instr ∷ operands p instr } ∷ sentences p code (below (is_target code pc) at + 1) (pc + 1) rest

-- the line after the code
abbrev pub line_after : List Instr → ℕ → ℕ → List Instr → ℕ
line_after code at pc [] = at
line_after code at pc (instr ∷ rest) = line_after code (below (is_target code pc) at + 1) (pc + 1) rest

abbrev pub with_code : Draft → List Mark → List Sentence → Draft
with_code d marks code = record d { labels = d.labels ++ marks; code = d.code ++ code }

with_code_nil : (d : Draft) → with_code d [] [] ≡ d
with_code_nil d = rw (append-nil d.labels, append-nil d.code) refl

with_code_twice : (d : Draft) (ms ns : List Mark) (ss ts : List Sentence) → with_code (with_code d ms ss) ns ts ≡ with_code d (ms ++ ns) (ss ++ ts)
with_code_twice d ms ns ss ts = rw (append_assoc d.labels ms ns, append_assoc d.code ss ts) refl

labelled_draft : (at pc : ℕ) (d : Draft) (ws : List (List ℕ)) → length d.code ≡ pc → with_sentence at (with_label d (label pc)) ws ≡ with_code d (mark_if true pc) (record { line = at; words = ws } ∷ [])
labelled_draft at pc d ws n = rw n refl

unlabelled_draft : (at pc : ℕ) (d : Draft) (ws : List (List ℕ)) → with_sentence at d ws ≡ with_code d (mark_if false pc) (record { line = at; words = ws } ∷ [])
unlabelled_draft at pc d ws = rw (append-nil d.labels) refl

-- one instruction with its label
step : (b : Bool) (p : Program) (at pc : ℕ) (instr : Instr) (o : Outline) (d : Draft) (more : List ℕ) → IsGood p instr → pc < 10000 → length d.code ≡ pc → Fresh d.labels pc
    → lines_read at (with_current o d) (lines (label_line b pc ++ (instr_line p instr ++ more)))
    ≡ lines_read (below b at + 1) (with_current o (with_code d (mark_if b pc) (record { line = below b at; words = keyword instr ∷ operands p instr } ∷ []))) (lines more)
step true p at pc instr o d more g small n fresh =
    label_line_read at pc o d (instr_line p instr ++ more) small n (fresh pc (omega arith) small)
    ∙ instr_line_read (at + 1) p instr o (with_label d (label pc)) more g
    ∙ ap (λ (e : Draft). lines_read (at + 1 + 1) (with_current o e) (lines more)) (labelled_draft (at + 1) pc d (keyword instr ∷ operands p instr) n)
step false p at pc instr o d more g small n fresh =
    instr_line_read at p instr o d more g
    ∙ ap (λ (e : Draft). lines_read (at + 1) (with_current o e) (lines more)) (unlabelled_draft at pc d (keyword instr ∷ operands p instr))

fresh_step : (b : Bool) (marks : List Mark) (pc : ℕ) → pc < 10000 → Fresh marks pc → Fresh (marks ++ mark_if b pc) (pc + 1)
fresh_step true marks pc small h = fresh_more marks pc small h
fresh_step false marks pc small h = λ q past near. ap (λ (ms : List Mark). marked ms (label q)) (append-nil marks) ∙ h q (omega arith) near

-- the lines of the code are read as labels and instructions
pub code_read : (p : Program) (code : List Instr) (at pc : ℕ) (rest : List Instr) (o : Outline) (d : Draft) (tail : List ℕ) → AllByRecursion (IsGood p) rest → pc + length rest ≤ 4096 → length d.code ≡ pc → Fresh d.labels pc
    → lines_read at (with_current o d) (lines (code_lines p code pc rest ++ tail)) ≡ lines_read (line_after code at pc rest) (with_current o (with_code d (marks_of code pc rest) (sentences p code at pc rest))) (lines tail)
code_read p code at pc [] o d tail g small n fresh = ap (λ (e : Draft). lines_read at (with_current o e) (lines tail)) (sym (with_code_nil d))
code_read p code at pc (instr ∷ rest) o d tail g small n fresh =
    let b = is_target code pc in
    let s : Sentence = record { line = below b at; words = keyword instr ∷ operands p instr } in
    let e = with_code d (mark_if b pc) (s ∷ []) in
    let longer : length e.code ≡ pc + 1 = rw (length-append d.code (s ∷ []), n) refl in
    let shape : code_lines p code pc (instr ∷ rest) ++ tail ≡ label_line b pc ++ (instr_line p instr ++ (code_lines p code (pc + 1) rest ++ tail)) =
    append_assoc (label_line b pc ++ instr_line p instr) (code_lines p code (pc + 1) rest) tail ∙ append_assoc (label_line b pc) (instr_line p instr) (code_lines p code (pc + 1) rest ++ tail) in
    ap (λ (text : List ℕ). lines_read at (with_current o d) (lines text)) shape
    ∙ step b p at pc instr o d (code_lines p code (pc + 1) rest ++ tail) g.0 (omega arith) n fresh
    ∙ code_read p code (below b at + 1) (pc + 1) rest o e tail g.1 (omega arith) longer (fresh_step b d.labels pc (omega arith) fresh)
    ∙ ap (λ (f : Draft). lines_read (line_after code (below b at + 1) (pc + 1) rest) (with_current o f) (lines tail)) (with_code_twice d (mark_if b pc) (marks_of code (pc + 1) rest) (s ∷ []) (sentences p code (below b at + 1) (pc + 1) rest))
