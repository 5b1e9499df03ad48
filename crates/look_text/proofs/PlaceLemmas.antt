-- The line of an instruction spells it.
use Rattle.std.proofs.Common.{◌≡◌, ℕ, zero, suc, List, [], ◌∷◌, Some, None, Bool, true, false, cond, length, slice_get, refl, sym, ap, ◌∙◌, subst}
use Rattle.std.specs.Prelude.{Result, Ok, Err, Option, nat_lt, slice_index_or}
use Rattle.sts_code.specs.Checks.{program_fault}
use Rattle.sts_code.specs.Program.{Program, Routine, no_routine}
use Rattle.sts_code.specs.declared.checking.CodeError.{CodeError}
use Rattle.sts_code.specs.declared.instr.Instr.{Instr}
use Rattle.sts_code.specs.declared.profile.Profile.{Profile}
use Rattle.sts_asm.specs.declared.fault.AsmKind.TheVariants.{TextTooLong}
use Rattle.sts_asm.specs.declared.fault.AsmError.{AsmError}
use Rattle.sts_asm.specs.Fault.{◌>>=◌}
use Rattle.sts_asm.specs.Line.{instr_of}
use Rattle.sts_asm.specs.Marks.{Mark, Names}
use Rattle.sts_asm.specs.Outline.{Sentence, Draft, Outline, outline_of}
use Rattle.sts_asm.specs.Source.{sentences_of, labels_of}
use Rattle.sts_asm.specs.Text.{each, instr_at, routine_of, checked, program_of}
use Rattle.sts_asm.proofs.KeptLemmas.{at_line_ok}
use Rattle.look_text.specs.Places.{LinesSayInstructions, FunctionsSayInstructions}

-- an element of the result was read from the element of the list with the same number
abbrev ReadAt : {A B : Type 0} → (A → Result B AsmError) → List A → List B → Type 0
ReadAt {A} {B} read xs ys = (n : ℕ) (y : B) → slice_get ys n ≡ Some y → (x : A) × ((slice_get xs n ≡ Some x) × (read x ≡ Ok y))

one_more_read : {A B : Type 0} (read : A → Result B AsmError) (x : A) (xs : List A) (z : B) (zs : List B) → read x ≡ Ok z → ReadAt read xs zs → ReadAt read (x ∷ xs) (z ∷ zs)
one_more_read read x xs z zs h rest zero y g = let same : z ≡ y = cc in (x, (refl, h ∙ ap (λ w. Ok w) same))
one_more_read read x xs z zs h rest (suc n) y g = rest n y g

rest_read : {A B : Type 0} (read : A → Result B AsmError) (x : A) (xs : List A) (z : B) (r : Result (List B) AsmError) (ys : List B) → read x ≡ Ok z → ((zs : List B) → r ≡ Ok zs → ReadAt read xs zs) → (r >>= λ zs. Ok (z ∷ zs)) ≡ Ok ys → ReadAt read (x ∷ xs) ys
rest_read read x xs z (Err k) ys h rest e = absurd (cc)
rest_read {A} {B} read x xs z (Ok zs) ys h rest e = let same : z ∷ zs ≡ ys = cc in subst (λ (l : List B). ReadAt read (x ∷ xs) l) same (one_more_read read x xs z zs h (rest zs refl))

first_read : {A B : Type 0} (read : A → Result B AsmError) (x : A) (xs : List A) (r : Result B AsmError) (ys : List B) → read x ≡ r → ((zs : List B) → each read xs ≡ Ok zs → ReadAt read xs zs) → (r >>= λ y. each read xs >>= λ zs. Ok (y ∷ zs)) ≡ Ok ys → ReadAt read (x ∷ xs) ys
first_read read x xs (Err k) ys h rest e = absurd (cc)
first_read read x xs (Ok z) ys h rest e = rest_read read x xs z (each read xs) ys h rest e

each_read : {A B : Type 0} (read : A → Result B AsmError) (xs : List A) (ys : List B) → each read xs ≡ Ok ys → ReadAt read xs ys
each_read {A} {B} read [] ys e = λ n y g. (let same : [] ≡ ys = cc in let no : None ≡ Some y = ap (λ (l : List B). slice_get l n) same ∙ g in absurd (cc))
each_read read (x ∷ xs) ys e = first_read read x xs (read x) ys refl (λ zs q. each_read read xs zs q) e

-- ---- a function

code_read : (functions : List Mark) (d : Draft) (r : Result (List Instr) AsmError) (rt : Routine) → (r >>= λ code. Ok (record { name = d.name; args = d.args; needs = d.needs; code = code })) ≡ Ok rt → r ≡ Ok rt.code
code_read functions d (Ok code) rt e = let out : record { name = d.name; args = d.args; needs = d.needs; code = code } ≡ rt = cc in let same : code ≡ rt.code = ap (λ (x : Routine). x.code) out in ap (λ (x : List Instr). Ok x) same
code_read functions d (Err k) rt e = absurd (cc)

routine_says : (functions : List Mark) (d : Draft) (rt : Routine) (pc : ℕ) (i : Instr) → routine_of functions d ≡ Ok rt → slice_get rt.code pc ≡ Some i → (s : Sentence) × ((slice_get d.code pc ≡ Some s) × (instr_of (Some (record { labels = d.labels; functions = functions })) s.words ≡ Ok i))
routine_says functions d rt pc i e g =
    let names : Names = record { labels = d.labels; functions = functions } in
    let code = code_read functions d (each (instr_at names) d.code) rt e in
    let at = each_read (instr_at names) d.code rt.code code pc i g in
    (at.0, (at.1.0, at_line_ok at.0.line (instr_of (Some names) at.0.words) i at.1.1))

-- ---- a program

checked_read : (profile : Profile) (rs : List Routine) (fault : Option CodeError) (p : Program) → checked profile rs fault ≡ Ok p → rs ≡ p.routines
checked_read profile rs None p e = let out : record { profile = profile; routines = rs } ≡ p = cc in ap (λ (x : Program). x.routines) out
checked_read profile rs (Some k) p e = absurd (cc)

program_read : (o : Outline) (r : Result (List Routine) AsmError) (p : Program) → (r >>= λ rs. checked o.profile rs (program_fault rs)) ≡ Ok p → r ≡ Ok p.routines
program_read o (Ok rs) p e = ap (λ (x : List Routine). Ok x) (checked_read o.profile rs (program_fault rs) p e)
program_read o (Err k) p e = absurd (cc)

judged_read : (long : Bool) (r : Result Outline AsmError) (o : Outline) (p : Program) → cond long (Err (record { line = 0; kind = TextTooLong })) (r >>= program_of) ≡ Ok p → cond long (Err (record { line = 0; kind = TextTooLong })) r ≡ Ok o → program_of o ≡ Ok p
judged_read true r o p e g = absurd (cc)
judged_read false (Ok x) o p e g = let same : x ≡ o = cc in subst (λ (y : Outline). program_of y ≡ Ok p) same e
judged_read false (Err k) o p e g = absurd (cc)

routine_at : (rs : List Routine) (f pc : ℕ) (i : Instr) → slice_get (slice_index_or rs f no_routine).code pc ≡ Some i → slice_get rs f ≡ Some (slice_index_or rs f no_routine)
routine_at [] f pc i g = absurd (cc)
routine_at (r ∷ rs) zero pc i g = refl
routine_at (r ∷ rs) (suc f) pc i g = routine_at rs f pc i g

pub functions_say : FunctionsSayInstructions
functions_say o rs f pc i all g =
    let rt : Routine = slice_index_or rs f no_routine in
    let at = each_read (routine_of o.functions) o.done rs all f rt (routine_at rs f pc i g) in
    let says = routine_says o.functions at.0 rt pc i at.1.1 g in
    (says.0, subst (λ (d : Option Draft). (slice_get (sentences_of d) pc ≡ Some says.0) × (instr_of (Some (record { labels = labels_of d; functions = o.functions })) says.0.words ≡ Ok i)) (sym at.1.0) says.1)

pub lines_say : LinesSayInstructions
lines_say text p o f pc i j l g =
    let whole = judged_read (nat_lt 1048576 (length text)) (outline_of text) o p j l in
    functions_say o p.routines f pc i (program_read o (each (routine_of o.functions) o.done) p whole) g
