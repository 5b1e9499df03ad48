use Rattle.std.proofs.Common.{◌≡◌, ℕ, ◌+◌, ◌<◌, ◌≤◌, Bool, true, false, List, [], ◌∷◌, ◌++◌, length}
use Rattle.std.proofs.Common.{refl, sym, ◌∙◌, ap, ◌⊎◌, inl, inr, arith, append_assoc, length-append}
use Rattle.std.specs.Prelude.{◌==◌, nat_lt, Option, Some, None, Result, Ok}
use Rattle.std.specs.List.{flat_map, AllByRecursion, list_any}
use Rattle.std.proofs.lemmas.Bool.Decides.{nat_tests}
use Rattle.std.proofs.lemmas.Bool.{or_right}
use Rattle.sts_code.specs.Program.{Program, Routine}
use Rattle.sts_code.specs.Checks.{forks_later}
use Rattle.sts_code.specs.declared.instr.Instr.{Instr}
use Rattle.sts_code.specs.declared.instr.Instr.TheVariants as i
use Rattle.sts_asm.specs.declared.fault.AsmKind.{AsmKind}
use Rattle.sts_asm.specs.Marks.{Mark, Names, marked}
use Rattle.sts_asm.specs.Line.{instr_of}
use Rattle.sts_asm.specs.Text.{each, instr_at, routine_of}
use Rattle.sts_asm.proofs.MarkLemmas.{marked_cons}
use Rattle.sts_asm.proofs.TableLemmas.{spelled_read}
use Rattle.sts_list.specs.Spelling.{keyword, operands, label}
use Rattle.sts_list.specs.Listing.{is_target, listing}
use Rattle.sts_code.specs.Facts.{targets}
use Rattle.sts_list.specs.RoundTrip.{FitsInstr, FitsRoutine, AssembledAgain}
use Rattle.sts_list.proofs.SpellingLemmas.{Labels, Forks, moved, spelled_as, moved_nowhere}
use Rattle.sts_list.proofs.LineLemmas.{IsGood}
use Rattle.sts_list.proofs.CodeLemmas.{labels_differ, mark_if, marks_of, below, sentences}
use Rattle.sts_list.proofs.FunctionLemmas.{IsGoodRoutine, draft_at, line_below, drafts, names_from, first_line, listing_outlined}
use Rattle.sts_list.proofs.CheckLemmas.{IsChecked, IsCheckedRoutine, AreChecked, AreFound, later, targets_within, program_checked, functions_found, same_bytes}

-- ---- each label of a listing is found

here_at : (b : Bool) (pc : ℕ) (more : List Mark) → b ≡ true → marked (mark_if b pc ++ more) (label pc) ≡ Some pc
here_at true pc more e = marked_cons (record { name = label pc; at = pc }) more (label pc) ∙ rw (same_bytes (label pc)) refl
here_at false pc more e = cc

here : (b : Bool) (pc to : ℕ) (more : List Mark) → b ≡ true → pc ≡ to → marked (mark_if b pc ++ more) (label to) ≡ Some to
here b pc to more e s = let some : ℕ → Option ℕ = λ x. Some x in ap (λ (x : ℕ). marked (mark_if b pc ++ more) (label x)) (sym s) ∙ here_at b pc more e ∙ ap some s

there : (b : Bool) (pc to : ℕ) (more : List Mark) → pc < to → to < 10000 → marked more (label to) ≡ Some to → marked (mark_if b pc ++ more) (label to) ≡ Some to
there true pc to more past small h = marked_cons (record { name = label pc; at = pc }) more (label to) ∙ rw (labels_differ pc to (omega arith) small (omega arith)) h
there false pc to more past small h = h

order_at : (b : Bool) (pc to : ℕ) → nat_lt pc to ≡ b → pc ≤ to → (pc ≡ to) ⊎ (pc < to)
order_at true pc to e h = inr (grind (arith, nat_tests))
order_at false pc to e h = inl (grind (arith, nat_tests))

marks_found : (code : List Instr) (pc : ℕ) (rest : List Instr) (to : ℕ) → pc ≤ to → to < pc + length rest → pc + length rest ≤ 4096 → is_target code to ≡ true → marked (marks_of code pc rest) (label to) ≡ Some to
marks_found code pc [] to a b c t = absurd (omega arith)
marks_found code pc (instr ∷ rest) to a b c t = elim (order_at (nat_lt pc to) pc to refl a) [
  | inl same ↦ here (is_target code pc) pc to (marks_of code (pc + 1) rest) (ap (is_target code) same ∙ t) same
  | inr past ↦ there (is_target code pc) pc to (marks_of code (pc + 1) rest) past (omega arith) (marks_found code (pc + 1) rest to (omega arith) (omega arith) (omega arith) t)
]

-- this instruction is among those that are named
abbrev IsNamed : List ℕ → ℕ → Type 0
IsNamed all to = list_any (λ t. t == to) all ≡ true

any_here : (xs ys : List ℕ) (to : ℕ) → IsNamed (xs ++ to ∷ ys) to
any_here [] ys to = let e : (to == to) ≡ true = grind (arith, nat_tests) in rw e refl
any_here (x ∷ xs) ys to = or_right (x == to) (list_any (λ t. t == to) (xs ++ to ∷ ys)) (any_here xs ys to)

named_same : (xs ys ts : List ℕ) → xs ≡ ys → AllByRecursion (IsNamed xs) ts → AllByRecursion (IsNamed ys) ts
named_same xs ys ts e h = rw (← e) h

all_named : (front ts back : List ℕ) → AllByRecursion (IsNamed (front ++ (ts ++ back))) ts
all_named front [] back = tt
all_named front (t ∷ ts) back = (any_here front (ts ++ back) t, named_same ((front ++ t ∷ []) ++ (ts ++ back)) (front ++ (t ∷ (ts ++ back))) ts (append_assoc front (t ∷ []) (ts ++ back)) (all_named (front ++ t ∷ []) ts back))

-- the targets of an instruction are named
abbrev NamesAll : List ℕ → Instr → Type 0
NamesAll all instr = AllByRecursion (IsNamed all) (targets instr)

code_same : (xs ys : List ℕ) (code : List Instr) → xs ≡ ys → AllByRecursion (NamesAll xs) code → AllByRecursion (NamesAll ys) code
code_same xs ys code e h = rw (← e) h

code_named : (front : List ℕ) (rest : List Instr) → AllByRecursion (NamesAll (front ++ flat_map targets rest)) rest
code_named front [] = tt
code_named front (instr ∷ rest) = (
  all_named front (targets instr) (flat_map targets rest),
  code_same ((front ++ targets instr) ++ flat_map targets rest) (front ++ (targets instr ++ flat_map targets rest)) rest (append_assoc front (targets instr) (flat_map targets rest)) (code_named (front ++ targets instr) rest),
)

-- ---- the names of a function in a listing

abbrev names_of : Program → Routine → Names
names_of p r = record { labels = marks_of r.code 0 r.code; functions = names_from 0 p.routines }

labels_found : (p : Program) (r : Routine) (ts : List ℕ) → length r.code ≤ 4096 → AllByRecursion (λ to. to < length r.code) ts → AllByRecursion (IsNamed (flat_map targets r.code)) ts → AllByRecursion (Labels (Some (names_of p r)) (λ to. to)) ts
labels_found p r [] short within named = tt
labels_found p r (t ∷ ts) short within named =
    let w = within.0 in
    (record { small = omega arith; named = marks_found r.code 0 r.code t (omega arith) (omega arith) (omega arith) named.0 }, labels_found p r ts short within.1 named.1)

fork_found : (p : Program) (r : Routine) (at : ℕ) (instr : Instr) → AreFound p.routines → at ≤ length p.routines → forks_later at instr ≡ false → Forks p (Some (names_of p r)) (λ f. f) instr
fork_found p r at (i.Fork s f g) h few e = let b = later at f e in (h f (omega arith), tt)
fork_found p r at _ h few e = tt

fork_good : (p : Program) (at : ℕ) (instr : Instr) → AreFound p.routines → at ≤ length p.routines → forks_later at instr ≡ false → Forks p None (λ _. 0) instr
fork_good p at (i.Fork s f g) h few e = let b = later at f e in (((h f (omega arith)).0, refl), tt)
fork_good p at _ h few e = tt

near : (n : ℕ) (ts : List ℕ) → n ≤ 4096 → AllByRecursion (λ to. to < n) ts → AllByRecursion (λ to. to < 10000) ts
near n [] small h = tt
near n (t ∷ ts) small h = let b = h.0 in (omega arith, near n ts small h.1)

-- ---- instructions

-- an instruction of a listing is read as itself, its names looked up
record IsReady (p : Program) (names : Names) (instr : Instr) : Type 0 where
  read : instr_of (Some names) (keyword instr ∷ operands p instr) ≡ Ok instr

instr_ready : (p : Program) (r : Routine) (at : ℕ) (instr : Instr) → AreFound p.routines → at ≤ length p.routines → length r.code ≤ 4096 → IsChecked at (length r.code) instr → FitsInstr instr → NamesAll (flat_map targets r.code) instr → IsReady p (names_of p r) instr
instr_ready p r at instr found few short c fits named =
    let labels = labels_found p r (targets instr) short (targets_within (length r.code) instr c.target) named in
    let forks = fork_found p r at instr found few c.fork in
    let ok : Instr → Result Instr AsmKind = λ x. Ok x in
    record { read = spelled_read (Some (names_of p r)) (moved (λ to. to) (λ f. f) instr) (keyword instr ∷ operands p instr) (spelled_as p (Some (names_of p r)) (λ to. to) (λ f. f) instr c.range fits labels forks) ∙ ap ok (moved_nowhere instr) }

code_ready : (p : Program) (r : Routine) (at : ℕ) (rest : List Instr) → AreFound p.routines → at ≤ length p.routines → length r.code ≤ 4096 → AllByRecursion (IsChecked at (length r.code)) rest → AllByRecursion FitsInstr rest → AllByRecursion (NamesAll (flat_map targets r.code)) rest → AllByRecursion (IsReady p (names_of p r)) rest
code_ready p r at [] found few short c fits named = tt
code_ready p r at (instr ∷ rest) found few short c fits named = (instr_ready p r at instr found few short c.0 fits.0 named.0, code_ready p r at rest found few short c.1 fits.1 named.1)

code_good : (p : Program) (at n : ℕ) (rest : List Instr) → AreFound p.routines → at ≤ length p.routines → n ≤ 4096 → AllByRecursion (IsChecked at n) rest → AllByRecursion FitsInstr rest → AllByRecursion (IsGood p) rest
code_good p at n [] found few short c fits = tt
code_good p at n (instr ∷ rest) found few short c fits = (
  record { range = c.0.range; fits = fits.0; near = near n (targets instr) short (targets_within n instr c.0.target); forks = fork_good p at instr found few c.0.fork },
  code_good p at n rest found few short c.1 fits.1,
)

code_resolved : (p : Program) (names : Names) (code : List Instr) (at pc : ℕ) (rest : List Instr) → AllByRecursion (IsReady p names) rest → each (instr_at names) (sentences p code at pc rest) ≡ Ok rest
code_resolved p names code at pc [] h = refl
code_resolved p names code at pc (instr ∷ rest) h = rw (h.0.read, code_resolved p names code (below (is_target code pc) at + 1) (pc + 1) rest h.1) refl

-- ---- functions

record IsReadyRoutine (p : Program) (r : Routine) : Type 0 where
  code : AllByRecursion (IsReady p (names_of p r)) r.code

routine_good : (p : Program) (earlier : List Routine) (r : Routine) → AreFound p.routines → length earlier ≤ length p.routines → IsCheckedRoutine earlier r → FitsRoutine r → IsGoodRoutine p r
routine_good p earlier r found few c fits =
    let a = c.args in
    record { name = c.name; args = omega arith; needs = fits.0; short = c.short; code = code_good p (length earlier) (length r.code) r.code found few c.short c.code fits.1 }

routine_ready : (p : Program) (earlier : List Routine) (r : Routine) → AreFound p.routines → length earlier ≤ length p.routines → IsCheckedRoutine earlier r → FitsRoutine r → IsReadyRoutine p r
routine_ready p earlier r found few c fits = record { code = code_ready p r (length earlier) r.code found few c.short c.code fits.1 (code_named [] r.code) }

routines_good : (p : Program) (earlier rest : List Routine) → AreFound p.routines → length earlier + length rest ≤ length p.routines → AreChecked earlier rest → AllByRecursion FitsRoutine rest → AllByRecursion (IsGoodRoutine p) rest
routines_good p earlier [] found few c fits = tt
routines_good p earlier (r ∷ rest) found few c fits =
    (routine_good p earlier r found (omega arith) c.0 fits.0, routines_good p (earlier ++ r ∷ []) rest found (rw (length-append earlier (r ∷ [])) (omega arith)) c.1 fits.1)

routines_ready : (p : Program) (earlier rest : List Routine) → AreFound p.routines → length earlier + length rest ≤ length p.routines → AreChecked earlier rest → AllByRecursion FitsRoutine rest → AllByRecursion (IsReadyRoutine p) rest
routines_ready p earlier [] found few c fits = tt
routines_ready p earlier (r ∷ rest) found few c fits =
    (routine_ready p earlier r found (omega arith) c.0 fits.0, routines_ready p (earlier ++ r ∷ []) rest found (rw (length-append earlier (r ∷ [])) (omega arith)) c.1 fits.1)

routine_resolved : (p : Program) (at : ℕ) (r : Routine) → IsReadyRoutine p r → routine_of (names_from 0 p.routines) (draft_at p at r) ≡ Ok r
routine_resolved p at r h = rw (code_resolved p (names_of p r) r.code (at + 1) 0 r.code h.code) refl

routines_resolved : (p : Program) (at : ℕ) (rest : List Routine) → AllByRecursion (IsReadyRoutine p) rest → each (routine_of (names_from 0 p.routines)) (drafts p at rest) ≡ Ok rest
routines_resolved p at [] h = refl
routines_resolved p at (r ∷ rest) h = rw (routine_resolved p at r h.0, routines_resolved p (line_below at r) rest h.1) refl

-- ---- the program

not_long : (n : ℕ) → n ≤ 1048576 → nat_lt 1048576 n ≡ false
not_long n h = grind (arith, nat_tests)

-- a listing is assembled to the program that it lists
pub assembled_again : AssembledAgain
assembled_again p is short =
    let checked = program_checked p.routines is.0 in
    let found = functions_found p.routines checked in
    let good = routines_good p [] p.routines found (omega arith) checked is.1 in
    let ready = routines_ready p [] p.routines found (omega arith) checked is.1 in
    rw (not_long (length (listing p)) short, listing_outlined p good)
    (rw (routines_resolved p (first_line p.profile) p.routines ready, is.0) refl)
