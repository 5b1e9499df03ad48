-- A function is assembled alike from what is kept of it.
use Rattle.std.proofs.Common.{◌≡◌, ℕ, zero, suc, ◌+◌, get_or, ◌<◌, ◌≤◌, Bool, true, false, List, [], ◌∷◌, ◌++◌, length, take, drop, refl, sym, ◌∙◌, ap, arith}
use Rattle.std.specs.Prelude.{Some, None, Option, Result, Ok, Err, if◌then◌else◌, map, slice_set}
use Rattle.std.proofs.lemmas.List.Folds.{list_all_at}
use Rattle.std.proofs.lemmas.List.{append-nil, append_assoc, drop_all, take_all}
use Rattle.sts_code.specs.declared.instr.Instr.{Instr}
use Rattle.sts_asm.specs.declared.fault.AsmKind.{AsmKind}
use Rattle.sts_asm.specs.declared.fault.AsmKind.TheVariants.{UnknownWord}
use Rattle.sts_asm.specs.declared.fault.AsmError.{AsmError}
use Rattle.sts_asm.specs.Fault.{◌>>=◌, at_line}
use Rattle.sts_asm.specs.Marks.{Mark, Names}
use Rattle.sts_asm.specs.Line.{has_names, instr_of}
use Rattle.sts_asm.specs.Outline.{Sentence, Draft, AreUnnamed}
use Rattle.sts_asm.specs.Text.{each, instr_at, routine_of}
use Rattle.sts_asm.specs.Kept as kept
use Rattle.sts_asm.specs.Kept.{Kept, IsShortened, IsKept, AreKept, naming_lines, is_naming_read, are_naming, without_names, filled}
use Rattle.sts_asm.proofs.EachLemmas.{with_front, each_later}
use Rattle.sts_asm.proofs.InPlaceLemmas.{moved, next_of}
use Rattle.sts_asm.proofs.NamelessLemmas.{bool_cases, nameless, named_again, later_read}
use Rattle.sts_asm.proofs.TextLemmas.{ok_bind}

-- ---- the lines that are read again

-- each instruction has its line
pub same_length : (lines : List Sentence) (code : List Instr) → AreUnnamed lines code → length lines ≡ length code
same_length [] [] h = refl
same_length [] (i ∷ code) h = absurd (cc)
same_length (s ∷ ss) [] h = absurd (cc)
same_length (s ∷ ss) (i ∷ code) h = ap suc (same_length ss code (ap (drop 1) h))

naming_next : (lines : List Sentence) (code : List Instr) (at : ℕ) (s : Sentence) (d c : Instr) → at < length lines → s ≡ get_or lines at s → at < length code → c ≡ get_or code at d → naming_lines (drop at lines) (drop at code) ≡ naming_lines (s ∷ drop (at + 1) lines) (c ∷ drop (at + 1) code)
naming_next lines code at s d c low is room c_is = rw (next_of lines at s s low is, next_of code at d c room c_is) refl

-- one line more
pub naming_step : (lines : List Sentence) (code : List Instr) (front after whole : List Sentence) (at : ℕ) (s : Sentence) (d c : Instr) → at < length lines → s ≡ get_or lines at s → at < length code → c ≡ get_or code at d → after ≡ (if has_names c then front ++ s ∷ [] else front) → front ++ naming_lines (drop at lines) (drop at code) ≡ whole → after ++ naming_lines (drop (at + 1) lines) (drop (at + 1) code) ≡ whole
naming_step lines code front after whole at s d c low is room c_is more h =
    let rest : List Sentence = naming_lines (drop (at + 1) lines) (drop (at + 1) code) in
    let next = naming_next lines code at s d c low is room c_is in
    bool_cases (has_names c)
    (λ e.
    let first : naming_lines (s ∷ drop (at + 1) lines) (c ∷ drop (at + 1) code) ≡ s ∷ rest = rw e refl in
    let here : naming_lines (drop at lines) (drop at code) ≡ s ∷ rest = next ∙ first in
    rw (more, e) (append_assoc front (s ∷ []) rest ∙ sym (ap (λ (xs : List Sentence). front ++ xs) here) ∙ h))
    (λ e.
    let first : naming_lines (s ∷ drop (at + 1) lines) (c ∷ drop (at + 1) code) ≡ rest = rw e refl in
    let here : naming_lines (drop at lines) (drop at code) ≡ rest = next ∙ first in
    rw (more, e) (sym (ap (λ (xs : List Sentence). front ++ xs) here) ∙ h))

-- ---- the instructions

pub filled_skip : (read : Sentence → Result Instr AsmError) (again : List Sentence) (c : Instr) (code : List Instr) → has_names c ≡ false → filled read again (c ∷ code) ≡ (filled read again code >>= λ (is : List Instr). Ok (c ∷ is))
filled_skip read [] c code e = refl
filled_skip read (line ∷ again) c code e = rw e refl

pub filled_take : (read : Sentence → Result Instr AsmError) (line : Sentence) (again : List Sentence) (c : Instr) (code : List Instr) → has_names c ≡ true → filled read (line ∷ again) (c ∷ code) ≡ (read line >>= λ (j : Instr). filled read again code >>= λ (is : List Instr). Ok (j ∷ is))
filled_take read line again c code e = rw e refl

-- nothing is left to be filled
pub filled_end : (read : Sentence → Result Instr AsmError) (again : List Sentence) → filled read again [] ≡ Ok []
filled_end read [] = refl
filled_end read (line ∷ again) = refl

-- the lines that are read again give what all lines give
pub filled_each : (names : Names) (lines : List Sentence) (code : List Instr) → AreUnnamed lines code → filled (instr_at names) (naming_lines lines code) code ≡ each (instr_at names) lines
filled_each names [] [] h = refl
filled_each names [] (i ∷ code) h = absurd (cc)
filled_each names (s ∷ ss) [] h = absurd (cc)
filled_each names (s ∷ ss) (i ∷ code) h =
    let read : Sentence → Result Instr AsmError = instr_at names in
    let more : filled read (naming_lines ss code) code ≡ each read ss = filled_each names ss code (ap (drop 1) h) in
    let first : instr_of None s.words ≡ Ok i = ap (λ (rs : List (Result Instr AsmKind)). get_or rs 0 (Err UnknownWord)) h in
    bool_cases (has_names i)
    (λ e. rw (e, e, more) refl)
    (λ e.
    let said : instr_at names s ≡ Ok i = ap (at_line s.line) (nameless (Some names) i s.words e first) in
    let skip : filled read (naming_lines ss code) (i ∷ code) ≡ (filled read (naming_lines ss code) code >>= λ (is : List Instr). Ok (i ∷ is)) = filled_skip read (naming_lines ss code) i code e in
    let last : (filled read (naming_lines ss code) code >>= λ (is : List Instr). Ok (i ∷ is)) ≡ each read (s ∷ ss) = rw (more, said) refl in
    rw e (skip ∙ last))

-- ---- one place more

place_next : (read : Sentence → Result Instr AsmError) (again : List Sentence) (code : List Instr) (at : ℕ) (c : Instr) → at < length code → c ≡ get_or code at c → filled read again (drop at code) ≡ filled read again (c ∷ drop (at + 1) code)
place_next read again code at c room is = ap (λ (cs : List Instr). filled read again cs) (next_of code at c c room is)

-- an instruction that names something was read again
pub filled_more : (read : Sentence → Result Instr AsmError) (again : List Sentence) (next : ℕ) (line : Sentence) (code after : List Instr) (at : ℕ) (c y : Instr) (whole : Result (List Instr) AsmError) → drop next again ≡ line ∷ drop (next + 1) again → at < length code → c ≡ get_or code at c → has_names c ≡ true → read line ≡ Ok y → take (at + 1) after ≡ take at code ++ y ∷ [] → drop (at + 1) after ≡ drop (at + 1) code → with_front (take at code) (filled read (drop next again) (drop at code)) ≡ whole → with_front (take (at + 1) after) (filled read (drop (next + 1) again) (drop (at + 1) after)) ≡ whole
filled_more read again next line code after at c y whole l room is e said front more h =
    let rest : Result (List Instr) AsmError = filled read (drop (next + 1) again) (drop (at + 1) code) in
    let here : filled read (drop next again) (drop at code) ≡ (rest >>= λ (is : List Instr). Ok (y ∷ is)) =
    place_next read (drop next again) code at c room is ∙ ap (λ (ls : List Sentence). filled read ls (c ∷ drop (at + 1) code)) l
    ∙ filled_take read line (drop (next + 1) again) c (drop (at + 1) code) e ∙ ok_bind (read line) (λ (j : Instr). rest >>= λ (is : List Instr). Ok (j ∷ is)) y said in
    rw (front, more) (moved (take at code) y rest ∙ sym (ap (with_front (take at code)) here) ∙ h)

-- an instruction that names nothing stays
pub filled_less : (read : Sentence → Result Instr AsmError) (again : List Sentence) (next : ℕ) (code after : List Instr) (at : ℕ) (c : Instr) (whole : Result (List Instr) AsmError) → at < length code → c ≡ get_or code at c → has_names c ≡ false → take (at + 1) after ≡ take at code ++ c ∷ [] → drop (at + 1) after ≡ drop (at + 1) code → with_front (take at code) (filled read (drop next again) (drop at code)) ≡ whole → with_front (take (at + 1) after) (filled read (drop next again) (drop (at + 1) after)) ≡ whole
filled_less read again next code after at c whole room is e front more h =
    let rest : Result (List Instr) AsmError = filled read (drop next again) (drop (at + 1) code) in
    let here : filled read (drop next again) (drop at code) ≡ (rest >>= λ (is : List Instr). Ok (c ∷ is)) =
    place_next read (drop next again) code at c room is ∙ filled_skip read (drop next again) c (drop (at + 1) code) e in
    rw (front, more) (moved (take at code) c rest ∙ sym (ap (with_front (take at code)) here) ∙ h)

-- all places are filled
pub filled_done : (read : Sentence → Result Instr AsmError) (again : List Sentence) (code : List Instr) (at : ℕ) (whole : Result (List Instr) AsmError) → length code ≤ at → with_front (take at code) (filled read again (drop at code)) ≡ whole → whole ≡ Ok code
filled_done read again code at whole end h =
    let none : filled read again (drop at code) ≡ Ok [] = rw (drop_all at code end) (filled_end read again) in
    let all : with_front (take at code) (Ok []) ≡ Ok code = rw (append-nil (take at code), take_all at code end) refl in
    sym h ∙ ap (with_front (take at code)) none ∙ all

-- ---- the parts that name nothing

-- lines that are read again name something
naming_all : (lines : List Sentence) (code : List Instr) → AreUnnamed lines code → are_naming (naming_lines lines code) ≡ true
naming_all [] code h = refl
naming_all (s ∷ ss) [] h = refl
naming_all (s ∷ ss) (i ∷ code) h =
    let more : are_naming (naming_lines ss code) ≡ true = naming_all ss code (ap (drop 1) h) in
    let first : instr_of None s.words ≡ Ok i = ap (λ (rs : List (Result Instr AsmKind)). get_or rs 0 (Err UnknownWord)) h in
    bool_cases (has_names i) (λ e. rw (e, first, e, more) refl) (λ e. rw e more)

naming_at : (again : List Sentence) (next : ℕ) (line : Sentence) → are_naming again ≡ true → next < length again → line ≡ get_or again next line → is_naming_read (instr_of None line.words) ≡ true
naming_at again next line all low is =
    let test : Sentence → Bool = λ s. is_naming_read (instr_of None s.words) in
    bool_cases (test line) (λ e. e)
    (λ e.
    let no : are_naming again ≡ false = list_all_at test again next line low (ap test (sym is) ∙ e) in
    absurd (cc))

part_named : (j i : Instr) → without_names j ≡ without_names i → has_names i ≡ true → has_names j ≡ true
part_named j i h e =
    bool_cases (has_names j) (λ f. f)
    (λ f.
    let a : without_names j ≡ Some j = rw f refl in
    let b : without_names i ≡ None = rw e refl in
    absurd (cc))

part_plain : (j i : Instr) → without_names j ≡ without_names i → has_names i ≡ false → j ≡ i
part_plain j i h e =
    let b : without_names i ≡ Some i = rw e refl in
    bool_cases (has_names j)
    (λ f. let a : without_names j ≡ None = rw f refl in absurd (cc))
    (λ f. let a : without_names j ≡ Some j = rw f refl in cc)

-- instructions that name something may be others when they are read again
filled_parts : (read : Sentence → Result Instr AsmError) (lines : List Sentence) (code after : List Instr) → length lines ≡ length code → map without_names after ≡ map without_names code → filled read (naming_lines lines code) after ≡ filled read (naming_lines lines code) code
filled_parts read [] [] [] n h = refl
filled_parts read [] [] (j ∷ js) n h = absurd (cc)
filled_parts read [] (i ∷ code) after n h = absurd (omega arith)
filled_parts read (s ∷ ss) [] after n h = absurd (omega arith)
filled_parts read (s ∷ ss) (i ∷ code) [] n h = absurd (cc)
filled_parts read (s ∷ ss) (i ∷ code) (j ∷ js) n h =
    let again : List Sentence = naming_lines ss code in
    let more : filled read again js ≡ filled read again code = filled_parts read ss code js (omega arith) (ap (drop 1) h) in
    let first : without_names j ≡ without_names i = ap (λ (ps : List (Option Instr)). get_or ps 0 None) h in
    bool_cases (has_names i)
    (λ e. rw e (filled_take read s again j js (part_named j i first e)
    ∙ ap (λ (r : Result (List Instr) AsmError). read s >>= λ (x : Instr). r >>= λ (is : List Instr). Ok (x ∷ is)) more
    ∙ sym (filled_take read s again i code e)))
    (λ e. rw (e, part_plain j i first e) (filled_skip read again i js e
    ∙ ap (λ (r : Result (List Instr) AsmError). r >>= λ (is : List Instr). Ok (i ∷ is)) more
    ∙ sym (filled_skip read again i code e)))

parts_set : (code : List Instr) (at : ℕ) (y old : Instr) → at < length code → old ≡ get_or code at old → without_names y ≡ without_names old → map without_names (slice_set code at y) ≡ map without_names code
parts_set [] at y old low is h = absurd (omega arith)
parts_set (c ∷ code) zero y old low is h = ap (λ (p : Option Instr). p ∷ map without_names code) (h ∙ ap without_names is)
parts_set (c ∷ code) (suc at) y old low is h = ap (λ (ps : List (Option Instr)). without_names c ∷ ps) (parts_set code at y old (omega arith) is h)

-- a result with the number of its line is a result of reading
pub at_line_ok : {A : Type 0} (at : ℕ) (r : Result A AsmKind) (x : A) → at_line at r ≡ Ok x → r ≡ Ok x
at_line_ok at (Ok y) x e = cc
at_line_ok at (Err k) x e = absurd (cc)

-- an instruction that is read again names something, as before
pub parts_more : (names : Names) (again : List Sentence) (next : ℕ) (line : Sentence) (code after : List Instr) (at : ℕ) (y old : Instr) (parts : List (Option Instr)) → next < length again → line ≡ get_or again next line → at < length code → old ≡ get_or code at old → has_names old ≡ true → instr_at names line ≡ Ok y → after ≡ slice_set code at y → (are_naming again ≡ true → map without_names code ≡ parts) → are_naming again ≡ true → map without_names after ≡ parts
parts_more names again next line code after at y old parts low line_is room is e said set same all =
    let known = at_line_ok line.line (instr_of (Some names) line.words) y said in
    let named : has_names y ≡ true = named_again names line.words (instr_of None line.words) y refl (naming_at again next line all low line_is) known in
    let part : without_names y ≡ without_names old = rw (named, e) refl in
    rw set (parts_set code at y old room is part ∙ same all)

-- ---- functions

-- all names of a function are known
pub settled_known : (functions : List Mark) (d : Draft) (k : Kept) (code : List Instr) → IsShortened d k → filled (instr_at (record { labels = k.labels; functions = functions })) k.again k.code ≡ Ok code → IsKept functions d (record k { labels = []; again = []; code = code })
settled_known functions d k code h e later =
    let names : Names = record { labels = d.labels; functions = functions } in
    let all : Names = record { labels = d.labels; functions = functions ++ later } in
    let now : filled (instr_at names) (naming_lines d.code k.code) k.code ≡ Ok code = rw (h.labels, h.again) at e in
    let here : each (instr_at names) d.code ≡ Ok code = sym (filled_each names d.code k.code h.unnamed) ∙ now in
    let next : (s : Sentence) (i : Instr) → instr_at names s ≡ Ok i → instr_at all s ≡ Ok i =
    λ s i said. ap (at_line s.line) (later_read d.labels functions later s.words i (at_line_ok s.line (instr_of (Some names) s.words) i said)) in
    let whole : each (instr_at all) d.code ≡ Ok code = each_later (instr_at names) (instr_at all) next d.code code here in
    rw (whole, h.name, h.args, h.needs) refl

-- a name of a function isn't known yet
pub settled_unknown : (functions : List Mark) (d : Draft) (k : Kept) (code : List Instr) → IsShortened d k → (are_naming k.again ≡ true → map without_names code ≡ map without_names k.code) → IsKept functions d (record k { code = code })
settled_unknown functions d k code h same later =
    let names : Names = record { labels = d.labels; functions = functions ++ later } in
    let parts = same (ap are_naming h.again ∙ naming_all d.code k.code h.unnamed) in
    let alike : filled (instr_at names) (naming_lines d.code k.code) code ≡ each (instr_at names) d.code =
    filled_parts (instr_at names) d.code k.code code (same_length d.code k.code h.unnamed) parts ∙ filled_each names d.code k.code h.unnamed in
    rw (h.labels, h.again, h.name, h.args, h.needs, alike) refl

-- more functions are known
pub kept_later : (functions more : List Mark) (ds : List Draft) (ks : List Kept) → AreKept functions ds ks → AreKept (functions ++ more) ds ks
kept_later functions more [] [] h = tt
kept_later functions more [] (k ∷ ks) h = absurd h
kept_later functions more (d ∷ ds) [] h = absurd h
kept_later functions more (d ∷ ds) (k ∷ ks) h =
    (λ later. rw (append_assoc functions more later) (h.0 (more ++ later)), kept_later functions more ds ks h.1)

routine_same : (functions : List Mark) (d : Draft) (k : Kept) → IsKept functions d k → kept.routine_of functions k ≡ routine_of functions d
routine_same functions d k h = rw (append-nil functions) at (h [])

pub routines_same : (functions : List Mark) (ds : List Draft) (ks : List Kept) → AreKept functions ds ks → each (kept.routine_of functions) ks ≡ each (routine_of functions) ds
routines_same functions [] [] h = refl
routines_same functions [] (k ∷ ks) h = absurd h
routines_same functions (d ∷ ds) [] h = absurd h
routines_same functions (d ∷ ds) (k ∷ ks) h = rw (routine_same functions d k h.0, routines_same functions ds ks h.1) refl
