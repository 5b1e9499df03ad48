use Rattle.std.proofs.Common.{◌≡◌, ℕ, ◌+◌, ◌<◌, ◌≤◌, List, [], ◌∷◌, ◌++◌, length, take, take_all}
use Rattle.std.proofs.Common.{get_or, ◌∙◌, ap, sym, subst, drop, append_assoc, append-nil, Bool}
use Rattle.std.specs.Prelude.{Ok, None}
use Rattle.std.specs.List.{AllByRecursion, flat_map}
use Rattle.std.proofs.lemmas.List.{take_more, drop_more, drop_all, flat_map_more}
use Rattle.sts_code.specs.Checks.{program_fault}
use Rattle.sts_code.specs.Program.{Program}
use Rattle.sts_asm.specs.Text.{judged}
use Rattle.sts_code.specs.declared.instr.Instr.{Instr}
use Rattle.sts_list.specs.Listing.{listing, is_target, label_line, instr_line, code_lines}
use Rattle.sts_list.specs.RoundTrip.{FitsRoutine}
use Rattle.sts_list.proofs.RoundTrip.{assembled_again}

all_more : {A : Type 0} (P : A → Type 0) (xs : List A) (x : A) → AllByRecursion P xs → P x → AllByRecursion P (xs ++ x ∷ [])
all_more P [] x h p = (p, tt)
all_more P (y ∷ xs) x h p = (h.0, all_more P xs x h.1 p)

-- the property holds for one element more
pub all_take : {A : Type 0} (P : A → Type 0) (xs : List A) (i : ℕ) (d : A) → i < length xs → AllByRecursion P (take i xs) → P (get_or xs i d) → AllByRecursion P (take (i + 1) xs)
all_take P xs i d small h p = rw (take_more xs i d small) (all_more P (take i xs) (get_or xs i d) h p)

-- the property holds for all elements
pub all_taken : {A : Type 0} (P : A → Type 0) (xs : List A) (i : ℕ) → length xs ≤ i → AllByRecursion P (take i xs) → AllByRecursion P xs
all_taken P xs i past h = rw (take_all i xs past) at h

-- what was listed is assembled again
pub listed_again : (p : Program) (text : List ℕ) → text ≡ listing p → program_fault p.routines ≡ None → AllByRecursion FitsRoutine p.routines → length text ≤ 1048576 → judged text ≡ Ok p
listed_again p text e checked fits short = ap judged e ∙ assembled_again p (checked, fits) (rw (← e) short)

-- the texts of one element more follow the head
pub more_texts : {A : Type 0} (text : A → List ℕ) (head old new : List ℕ) (xs : List A) (i : ℕ) (x : A) → i < length xs → x ≡ get_or xs i x → old ≡ head ++ flat_map text (take i xs) → new ≡ old ++ text x → new ≡ head ++ flat_map text (take (i + 1) xs)
more_texts text head old new xs i x small here before after =
    let more : take (i + 1) xs ≡ take i xs ++ x ∷ [] = take_more xs i x small ∙ ap (λ y. take i xs ++ y ∷ []) (sym here) in
    after
    ∙ ap (λ t. t ++ text x) before
    ∙ flat_map_more text head (take i xs) x
    ∙ ap (λ ys. head ++ flat_map text ys) (sym more)

-- the property holds for the element at i too
pub all_with : {A : Type 0} (P : A → Type 0) (xs : List A) (i : ℕ) (x : A) → i < length xs → x ≡ get_or xs i x → AllByRecursion P (take i xs) → P x → AllByRecursion P (take (i + 1) xs)
all_with P xs i x small here h p = all_take P xs i x small h (subst P here p)

-- a label and an instruction are written of the lines from pc on, and the rest is left
pub more_lines : (p : Program) (code : List Instr) (old labelled new whole : List ℕ) (pc : ℕ) (marked : Bool) (d : Instr) → pc < length code → marked ≡ is_target code pc → labelled ≡ old ++ label_line marked pc → new ≡ labelled ++ instr_line p (get_or code pc d) → old ++ code_lines p code pc (drop pc code) ≡ whole → new ++ code_lines p code (pc + 1) (drop (pc + 1) code) ≡ whole
more_lines p code old labelled new whole pc marked d small is_marked label_is line_is before =
    let rest : List ℕ = code_lines p code (pc + 1) (drop (pc + 1) code) in
    let line : List ℕ = instr_line p (get_or code pc d) in
    ap (λ t. t ++ rest) (line_is ∙ ap (λ t. t ++ line) label_is ∙ append_assoc old (label_line marked pc) line)
    ∙ append_assoc old (label_line marked pc ++ line) rest
    ∙ ap (λ b. old ++ ((label_line b pc ++ line) ++ rest)) is_marked
    ∙ ap (λ xs. old ++ code_lines p code pc xs) (sym (drop_more code pc d small))
    ∙ before

-- past the last instruction no line is left
pub last_line : (p : Program) (code : List Instr) (text whole : List ℕ) (pc : ℕ) → length code ≤ pc → text ++ code_lines p code pc (drop pc code) ≡ whole → text ≡ whole
last_line p code text whole pc past before =
    sym (append-nil text)
    ∙ ap (λ xs. text ++ code_lines p code pc xs) (sym (drop_all pc code past))
    ∙ before
