-- Lines are read alike whether or not ended functions were taken out of the outline.
use Rattle.std.proofs.Common.{◌≡◌, ℕ, zero, suc, ◌+◌, ◌<◌, ◌≤◌, Bool, true, false, Option, Some, None}
use Rattle.std.proofs.Common.{List, [], ◌∷◌, ◌++◌, length, take, drop, replicate, refl, sym, ◌∙◌, ap, arith}
use Rattle.std.specs.Prelude.{Result, Ok, Err, is_some, slice_get, slice_set, ◌==◌, ◌&&◌, codes, if◌then◌else◌}
use Rattle.std.specs.Str.{bytes_eq}
use Rattle.std.specs.List.{list_all, before_first}
use Rattle.std.proofs.lemmas.List.{append-nil, append_assoc, length-append, length-drop, length-replicate, take-append-le, drop-append-le, take_all}
use Rattle.sts_text.specs.Words.{lines, words}
use Rattle.sts_asm.specs.declared.fault.AsmKind.{AsmKind}
use Rattle.sts_asm.specs.declared.fault.AsmKind.TheVariants.{Unclosed, NotAscii}
use Rattle.sts_asm.specs.declared.fault.AsmError.{AsmError}
use Rattle.sts_code.specs.Program.{Program}
use Rattle.sts_code.specs.declared.profile.Profile.{Profile}
use Rattle.sts_asm.specs.Fault.{◌>>=◌, at_line, FailsAt}
use Rattle.sts_asm.specs.Marks.{Mark}
use Rattle.sts_asm.specs.Operand.{finished}
use Rattle.sts_asm.specs.Outline as def
use Rattle.sts_asm.specs.Outline.{Draft, Outline, header_at, profile_at, inner, line_read, lines_read, said, label_of, is_allowed, is_semicolon, with_function, empty, outline_of}
use Rattle.sts_asm.specs.Kept as kept
use Rattle.sts_asm.specs.Kept.{Kept, IsKept, AreKept, AreTaken, AllTaken, no_draft, without_first}
use Rattle.sts_asm.specs.Text.{program_of}
use Rattle.sts_asm.proofs.KeptLemmas.{kept_later, routines_same}
use Rattle.sts_asm.proofs.TextLemmas.{fails_on, line_step, outline_read, closed_open, closed_well}

-- ---- one function is taken

left_length : (n : ℕ) (ds : List Draft) → n ≤ length ds → length (replicate n no_draft ++ drop n ds) ≡ length ds
left_length n ds low =
    let a = length-append (replicate n no_draft) (drop n ds) in
    let b = length-replicate n no_draft in
    let c = length-drop n ds in
    omega (arith, a, b, c)

next_left : (n : ℕ) (ds : List Draft) → n < length ds → slice_set (replicate n no_draft ++ drop n ds) n no_draft ≡ replicate (suc n) no_draft ++ drop (suc n) ds
next_left n [] low = absurd (omega arith)
next_left zero (d ∷ ds) low = refl
next_left (suc n) (d ∷ ds) low = ap (λ (xs : List Draft). no_draft ∷ xs) (next_left n ds (omega arith))

next_is : (n : ℕ) (ds : List Draft) → n ≤ length ds → slice_get (replicate n no_draft ++ drop n ds) n ≡ slice_get ds n
next_is zero ds low = refl
next_is (suc n) [] low = absurd (omega arith)
next_is (suc n) (d ∷ ds) low = next_is n ds (omega arith)

take_next : (n : ℕ) (ds : List Draft) (d : Draft) → slice_get ds n ≡ Some d → take (suc n) ds ≡ take n ds ++ d ∷ []
take_next n [] d e = absurd (cc)
take_next zero (x ∷ ds) d e = let h : x ≡ d = cc in rw h refl
take_next (suc n) (x ∷ ds) d e = ap (λ (xs : List Draft). x ∷ xs) (take_next n ds d e)

kept_more : (fs : List Mark) (ds : List Draft) (ks : List Kept) (d : Draft) (k : Kept) → AreKept fs ds ks → IsKept fs d k → AreKept fs (ds ++ d ∷ []) (ks ++ k ∷ [])
kept_more fs [] [] d k h is = (is, tt)
kept_more fs [] (x ∷ ks) d k h is = absurd h
kept_more fs (x ∷ ds) [] d k h is = absurd h
kept_more fs (x ∷ ds) (y ∷ ks) d k h is = (h.0, kept_more fs ds ks d k h.1 is)

-- the next function is taken out of the outline and kept
pub taken_next : (o left after : Outline) (ks next : List Kept) (d : Draft) (k : Kept) → length ks < length left.done → slice_get left.done (length ks) ≡ Some d → IsKept left.functions d k → after ≡ record left { done = slice_set left.done (length ks) no_draft } → next ≡ ks ++ k ∷ [] → AreTaken o left ks → AreTaken o after next
taken_next o left after ks next d k low is keeps a b t =
    let n : ℕ = length ks in
    let done : left.done ≡ replicate n no_draft ++ drop n o.done = ap (λ (p : Outline). p.done) t.left in
    let same : length left.done ≡ length o.done = ap length done ∙ left_length n o.done t.few in
    let here : n < length o.done = omega (arith, same, low) in
    let one = length-append ks (k ∷ []) in
    let all = ap length b in
    let count : length next ≡ suc n = omega (arith, one, all) in
    let d_is : slice_get o.done n ≡ Some d = sym (next_is n o.done t.few) ∙ sym (ap (λ (ds : List Draft). slice_get ds n) done) ∙ is in
    let set : slice_set left.done n no_draft ≡ replicate (suc n) no_draft ++ drop (suc n) o.done = ap (λ (ds : List Draft). slice_set ds n no_draft) done ∙ next_left n o.done here in
    let whole : record left { done = slice_set left.done n no_draft } ≡ without_first (suc n) o =
    ap (λ (ds : List Draft). record left { done = ds }) set
    ∙ ap (λ (p : Outline). record p { done = replicate (suc n) no_draft ++ drop (suc n) o.done }) t.left in
    let known : left.functions ≡ o.functions = ap (λ (p : Outline). p.functions) t.left in
    let keeps_all : IsKept o.functions d k = rw known at keeps in
    let e : take (length next) o.done ≡ take n o.done ++ d ∷ [] = ap (λ (m : ℕ). take m o.done) count ∙ take_next n o.done d d_is in
    record {
      few = omega (arith, count, here);
      left = a ∙ whole ∙ ap (λ (m : ℕ). without_first m o) (sym count);
      kept = rw (e, b) (kept_more o.functions (take n o.done) ks d k t.kept keeps_all);
    }

-- the same, where their number has a name
pub taken_at : (n : ℕ) (o left after : Outline) (ks next : List Kept) (d : Draft) (k : Kept) → n ≡ length ks → length ks < length left.done → slice_get left.done n ≡ Some d → IsKept left.functions d k → after ≡ record left { done = slice_set left.done n no_draft } → next ≡ ks ++ k ∷ [] → AreTaken o left ks → AreTaken o after next
taken_at n o left after ks next d k e low is keeps a b t = taken_next o left after ks next d k low (rw e at is) keeps (rw e at a) b t

-- ---- a line

-- These names are those, and perhaps more after them.
record Extends (all known : List Mark) : Type 0 where
  more : List Mark
  grown : all ≡ known ++ more

extends_self : (known : List Mark) → Extends known known
extends_self known = record { more = []; grown = sym (append-nil known) }

-- Two results: an outline, and the same one without its first functions. The second was read after
-- these were taken out of an outline; or both are the same fault.
abbrev Twin : ℕ → Outline → Result Outline AsmKind → Result Outline AsmKind → Type 0
Twin n o (Ok q) r = (r ≡ Ok (without_first n q)) × (n ≤ length q.done) × (take n q.done ≡ take n o.done) × Extends q.functions o.functions
Twin n o (Err k) r = r ≡ Err k

twin_if : (n : ℕ) (o : Outline) (b : Bool) (x x' y y' : Result Outline AsmKind) → Twin n o x x' → Twin n o y y' → Twin n o (if b then x else y) (if b then x' else y')
twin_if n o true x x' y y' h k = h
twin_if n o false x x' y y' h k = k

twin_bind : {A : Type 0} (n : ℕ) (o : Outline) (r : Result A AsmKind) (f g : A → Outline) → ((x : A) → g x ≡ without_first n (f x)) → ((x : A) → n ≤ length (f x).done) → ((x : A) → take n (f x).done ≡ take n o.done) → ((x : A) → Extends (f x).functions o.functions) → Twin n o (r >>= λ (x : A). Ok (f x)) (r >>= λ (x : A). Ok (g x))
twin_bind n o (Ok x) f g e low same more = (rw (e x) refl, low x, same x, more x)
twin_bind n o (Err k) f g e low same more = refl

twin_finished : (n : ℕ) (o x y : Outline) (rest : List (List ℕ)) → y ≡ without_first n x → n ≤ length x.done → take n x.done ≡ take n o.done → Extends x.functions o.functions → Twin n o (finished x rest) (finished y rest)
twin_finished n o x y [] e low same more = (rw e refl, low, same, more)
twin_finished n o x y (word ∷ rest) e low same more = refl

profiled_twin : (n : ℕ) (o : Outline) (rest : List (List ℕ)) → n ≤ length o.done → Twin n o (def.profiled o rest) (def.profiled (without_first n o) rest)
profiled_twin n o rest low =
    twin_bind n o (profile_at rest) (λ (p : Profile). record o { profile = p }) (λ (p : Profile). record (without_first n o) { profile = p })
    (λ p. refl) (λ p. low) (λ p. refl) (λ p. extends_self o.functions)

begun_twin : (n : ℕ) (o : Outline) (rest : List (List ℕ)) → n ≤ length o.done → Twin n o (def.begun o rest) (def.begun (without_first n o) rest)
begun_twin n o rest low =
    twin_if n o (is_some o.current) (Err Unclosed) (Err Unclosed) (header_at rest >>= λ (d : Draft). Ok (with_function o d)) (header_at rest >>= λ (d : Draft). Ok (with_function (without_first n o) d))
    refl
    (twin_bind n o (header_at rest) (λ (d : Draft). with_function o d) (λ (d : Draft). with_function (without_first n o) d)
    (λ d. rw (left_length n o.done low) refl) (λ d. low) (λ d. refl)
    (λ d. record { more = record { name = d.name; at = length o.done } ∷ []; grown = refl }))

ended_twin : (n : ℕ) (o : Outline) (current : Option Draft) (rest : List (List ℕ)) → n ≤ length o.done → Twin n o (def.ended o current rest) (def.ended (without_first n o) current rest)
ended_twin n o None rest low = refl
ended_twin n o (Some d) rest low =
    let grown : drop n (o.done ++ d ∷ []) ≡ drop n o.done ++ d ∷ [] = drop-append-le n o.done (d ∷ []) low in
    let all : (replicate n no_draft ++ drop n o.done) ++ d ∷ [] ≡ replicate n no_draft ++ drop n (o.done ++ d ∷ []) =
    append_assoc (replicate n no_draft) (drop n o.done) (d ∷ []) ∙ ap (λ (ds : List Draft). replicate n no_draft ++ ds) (sym grown) in
    let size = length-append o.done (d ∷ []) in
    twin_finished n o (record o { done = o.done ++ d ∷ []; current = None }) (record (without_first n o) { done = (replicate n no_draft ++ drop n o.done) ++ d ∷ []; current = None }) rest
    (ap (λ (ds : List Draft). record o { done = ds; current = None }) all) (omega (arith, size, low)) (take-append-le n o.done (d ∷ []) low) (extends_self o.functions)

inside_twin : (n at : ℕ) (o : Outline) (current : Option Draft) (word : List ℕ) (rest : List (List ℕ)) → n ≤ length o.done → Twin n o (def.inside at o current word rest) (def.inside at (without_first n o) current word rest)
inside_twin n at o None word rest low = refl
inside_twin n at o (Some d) word rest low =
    twin_bind n o (inner at d (label_of word) word rest) (λ (e : Draft). record o { current = Some e }) (λ (e : Draft). record (without_first n o) { current = Some e })
    (λ e. refl) (λ e. low) (λ e. refl) (λ e. extends_self o.functions)

said_twin : (n at : ℕ) (o : Outline) (ws : List (List ℕ)) → n ≤ length o.done → Twin n o (said at o ws) (said at (without_first n o) ws)
said_twin n at o [] low = (refl, low, refl, extends_self o.functions)
said_twin n at o (word ∷ rest) low =
    let p : Outline = without_first n o in
    let a : Result Outline AsmKind = if at == 1 && bytes_eq word (codes "profile") then def.profiled o rest else def.inside at o o.current word rest in
    let a' : Result Outline AsmKind = if at == 1 && bytes_eq word (codes "profile") then def.profiled p rest else def.inside at p p.current word rest in
    let last : Twin n o a a' = twin_if n o (at == 1 && bytes_eq word (codes "profile")) (def.profiled o rest) (def.profiled p rest) (def.inside at o o.current word rest) (def.inside at p p.current word rest)
    (profiled_twin n o rest low) (inside_twin n at o o.current word rest low) in
    let b : Result Outline AsmKind = if bytes_eq word (codes "end") then def.ended o o.current rest else a in
    let b' : Result Outline AsmKind = if bytes_eq word (codes "end") then def.ended p p.current rest else a' in
    let more : Twin n o b b' = twin_if n o (bytes_eq word (codes "end")) (def.ended o o.current rest) (def.ended p p.current rest) a a' (ended_twin n o o.current rest low) last in
    twin_if n o (bytes_eq word (codes "func")) (def.begun o rest) (def.begun p rest) b b' (begun_twin n o rest low) more

line_twin : (n at : ℕ) (o : Outline) (line : List ℕ) → n ≤ length o.done → Twin n o (line_read at o line) (line_read at (without_first n o) line)
line_twin n at o line low =
    twin_if n o (list_all is_allowed line) (said at o (words (before_first is_semicolon line))) (said at (without_first n o) (words (before_first is_semicolon line))) (Err NotAscii) (Err NotAscii)
    (said_twin n at o (words (before_first is_semicolon line)) low) refl

-- ---- with the numbers of lines

-- what a line leads to, if these functions were taken before
pub record LeadsTo (at : ℕ) (o next : Outline) (ks : List Kept) (line : List ℕ) : Type 0 where
  pub full : Outline
  pub read : at_line at (line_read at o line) ≡ Ok full
  pub taken : AreTaken full next ks

from_twin : (at : ℕ) (o next : Outline) (ks : List Kept) (line : List ℕ) (r r' : Result Outline AsmKind) → line_read at o line ≡ r → Twin (length ks) o r r' → at_line at r' ≡ Ok next → AreKept o.functions (take (length ks) o.done) ks → LeadsTo at o next ks line
from_twin at o next ks line (Ok q) r' is h e keeps =
    let a : at_line at r' ≡ Ok (without_first (length ks) q) = rw h.0 refl in
    let b : next ≡ without_first (length ks) q = cc in
    record {
      full = q;
      read = rw is refl;
      taken = record { few = h.1; left = b; kept = rw (h.3.grown, h.2) (kept_later o.functions h.3.more (take (length ks) o.done) ks keeps) };
    }
from_twin at o next ks line (Err k) r' is h e keeps =
    let a : at_line at r' ≡ Err (record { line = at; kind = k }) = rw h refl in
    absurd (cc)

-- a line that is read after functions were taken
pub line_taken : (at : ℕ) (o left next : Outline) (ks : List Kept) (line : List ℕ) → AreTaken o left ks → at_line at (line_read at left line) ≡ Ok next → LeadsTo at o next ks line
line_taken at o left next ks line t e =
    let h : at_line at (line_read at (without_first (length ks) o) line) ≡ Ok next = rw t.left at e in
    from_twin at o next ks line (line_read at o line) (line_read at (without_first (length ks) o) line) refl (line_twin (length ks) at o line t.few) h t.kept

-- no more were taken than there are
pub line_few : (at : ℕ) (o left next : Outline) (ks : List Kept) (line : List ℕ) → AreTaken o left ks → at_line at (line_read at left line) ≡ Ok next → length ks ≤ length next.done
line_few at o left next ks line t e =
    let h = line_taken at o left next ks line t e in
    let low = h.taken.few in
    let same = ap (λ (p : Outline). length p.done) h.taken.left ∙ left_length (length ks) h.full.done h.taken.few in
    omega (arith, same, low)

fault_twin : (n at : ℕ) (o : Outline) (r r' : Result Outline AsmKind) (e : AsmError) → Twin n o r r' → at_line at r' ≡ Err e → at_line at r ≡ Err e
fault_twin n at o (Ok q) r' e h f =
    let a : at_line at r' ≡ Ok (without_first n q) = rw h.0 refl in
    absurd (cc)
fault_twin n at o (Err k) r' e h f = rw h at f

-- its fault is the same
pub fault_taken : (at : ℕ) (o left : Outline) (ks : List Kept) (line : List ℕ) (e : AsmError) → AreTaken o left ks → FailsAt e e.kind (at_line at (line_read at left line)) → FailsAt e e.kind (at_line at (line_read at o line))
fault_taken at o left ks line e t f =
    fails_on e.kind e (at_line at (line_read at left line)) (at_line at (line_read at o line))
    (λ (g : at_line at (line_read at left line) ≡ Err e).
    let h : at_line at (line_read at (without_first (length ks) o) line) ≡ Err e = rw t.left at g in
    fault_twin (length ks) at o (line_read at o line) (line_read at (without_first (length ks) o) line) e (line_twin (length ks) at o line t.few) h)
    f

-- ---- the whole text

-- the lines up to this one were read, and these functions were taken
pub record IsRead (at : ℕ) (left : Outline) (ks : List Kept) (rest text : List ℕ) : Type 0 where
  pub full : Outline
  pub read : lines_read at full (lines rest) ≡ lines_read 1 empty (lines text)
  pub taken : AreTaken full left ks

pub read_first : (left : Outline) (ks : List Kept) (text : List ℕ) → left ≡ empty → ks ≡ [] → IsRead 1 left ks text text
read_first left ks text e k =
    record { full = empty; read = refl; taken = rw (e, k) (record { few = omega arith; left = refl; kept = tt }) }

pub read_next : (at : ℕ) (left next after : Outline) (ks more : List Kept) (line rest later text : List ℕ) → IsRead at left ks rest text → lines rest ≡ line ∷ lines later → at_line at (line_read at left line) ≡ Ok next → ((o : Outline) → AreTaken o next ks → AreTaken o after more) → IsRead (at + 1) after more later text
read_next at left next after ks more line rest later text h cut e keep =
    let l = line_taken at h.full left next ks line h.taken e in
    record {
      full = l.full;
      read = sym (line_step at h.full l.full line rest later cut l.read) ∙ h.read;
      taken = keep l.full l.taken;
    }

-- the program of what was kept is the text's
pub program_same : (o left : Outline) (ks : List Kept) → AreTaken o left ks → length ks ≡ length o.done → kept.program_of left ks ≡ program_of o
program_same o left ks t all =
    let whole : take (length ks) o.done ≡ o.done = rw all (take_all (length o.done) o.done (omega arith)) in
    let keeps : AreKept o.functions o.done ks = rw whole at t.kept in
    rw t.left (rw (routines_same o.functions o.done ks keeps) refl)

-- a text that was read to its end
pub record IsWhole (after : Outline) (ks : List Kept) (text : List ℕ) : Type 0 where
  pub full : Outline
  pub whole : outline_of text ≡ Ok full
  pub taken : AreTaken full after ks
  pub count : length ks ≡ length full.done

-- the last line is read, and no function is open
pub read_last : (at : ℕ) (left next after : Outline) (ks more : List Kept) (rest text : List ℕ) (b : Bool) → IsRead at left ks rest text → at + length (lines rest) ≡ length (lines text) + 1 → lines rest ≡ rest ∷ [] → at_line at (line_read at left rest) ≡ Ok next → ((o : Outline) → AreTaken o next ks → AreTaken o after more) → length more ≡ length after.done → b ≡ is_some after.current → b ≡ false → IsWhole after more text
read_last at left next after ks more rest text b h number last e keep all opens not =
    let l = line_taken at h.full left next ks rest h.taken e in
    let t : AreTaken l.full after more = keep l.full l.taken in
    let current : after.current ≡ l.full.current = ap (λ (p : Outline). p.current) t.left in
    record {
      full = l.full;
      whole = outline_read at h.full l.full rest text h.read number last l.read ∙ closed_well at l.full b (opens ∙ ap is_some current) not;
      taken = t;
      count = all ∙ ap (λ (p : Outline). length p.done) t.left ∙ left_length (length more) l.full.done t.few;
    }

-- the last line is read, and a function is open
pub read_open : (at : ℕ) (left next after : Outline) (ks more : List Kept) (rest text : List ℕ) (b : Bool) → IsRead at left ks rest text → at + length (lines rest) ≡ length (lines text) + 1 → lines rest ≡ rest ∷ [] → at_line at (line_read at left rest) ≡ Ok next → ((o : Outline) → AreTaken o next ks → AreTaken o after more) → b ≡ is_some after.current → b ≡ true → outline_of text ≡ Err (record { line = at; kind = Unclosed })
read_open at left next after ks more rest text b h number last e keep opens is_open =
    let l = line_taken at h.full left next ks rest h.taken e in
    let t : AreTaken l.full after more = keep l.full l.taken in
    let current : after.current ≡ l.full.current = ap (λ (p : Outline). p.current) t.left in
    outline_read at h.full l.full rest text h.read number last l.read ∙ closed_open at l.full b (opens ∙ ap is_some current) is_open

-- the program that a text spells, by what was kept of its functions
pub kept_judged : {X : Type 0} (x : X) (read : Result Outline AsmError) (left : Outline) (ks : List Kept) (judged : Result Program AsmError) → AllTaken (Ok x) left ks read → judged ≡ kept.program_of left ks → (read >>= program_of) ≡ judged
kept_judged x (Ok o) left ks judged h e = sym (program_same o left ks h.0 h.1) ∙ sym e
kept_judged x (Err f) left ks judged h e = absurd h
