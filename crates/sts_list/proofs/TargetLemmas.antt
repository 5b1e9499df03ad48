use Rattle.std.proofs.Common.{◌≡◌, ℕ, ◌+◌, ◌<◌, Bool, true, false, List, [], ◌∷◌, ◌++◌, length}
use Rattle.std.proofs.Common.{take, get_or, refl, sym, ◌∙◌, ap, arith, replicate, append-nil, ◌≢◌}
use Rattle.std.specs.Prelude.{◌==◌, ◌||◌, slice_set}
use Rattle.std.specs.List.{flat_map, list_any}
use Rattle.std.proofs.lemmas.List.{length-set, get_or-set_other, get_or-replicate, length-replicate, take_more}
use Rattle.std.proofs.lemmas.Grind.{get_or-set_at, flat_map-append}
use Rattle.std.proofs.lemmas.Bool.Decides.{nat_tests}
use Rattle.std.proofs.Math.Bool.{or-false}
use Rattle.sts_code.specs.declared.instr.Instr.{Instr}
use Rattle.sts_list.specs.Listing.{with_marks}
use Rattle.sts_code.specs.Facts.{targets}

pub with_marks-append : (marks : List Bool) (xs ys : List ℕ) → with_marks marks (xs ++ ys) ≡ with_marks (with_marks marks xs) ys
with_marks-append marks [] ys = refl
with_marks-append marks (x ∷ xs) ys = with_marks-append (slice_set marks x true) xs ys

set_cases : (b : Bool) (marks : List Bool) (x pc : ℕ) → (x == pc) ≡ b → pc < length marks → get_or (slice_set marks x true) pc false ≡ (b || get_or marks pc false)
set_cases true marks x pc e h = let same : pc ≡ x = grind (arith, nat_tests) in get_or-set_at marks x pc true false same (rw (← same) h)
set_cases false marks x pc e h = let other : pc ≢ x = grind (arith, nat_tests) in get_or-set_other marks x pc true false other

either : (a b c : Bool) → (b || (a || c)) ≡ ((a || b) || c)
either true true c = refl
either true false c = refl
either false true c = refl
either false false c = refl

marked_each : (marks : List Bool) (xs : List ℕ) (pc : ℕ) → pc < length marks → get_or (with_marks marks xs) pc false ≡ (list_any (λ to. to == pc) xs || get_or marks pc false)
marked_each marks [] pc h = refl
marked_each marks (x ∷ xs) pc h =
    marked_each (slice_set marks x true) xs pc (rw (length-set marks x true) h)
    ∙ ap (λ (b : Bool). list_any (λ to. to == pc) xs || b) (set_cases (x == pc) marks x pc refl h)
    ∙ either (x == pc) (list_any (λ to. to == pc) xs) (get_or marks pc false)

-- what is marked is what is named
pub marked_all : (xs : List ℕ) (n pc : ℕ) → pc < n → get_or (with_marks (replicate n false) xs) pc false ≡ list_any (λ to. to == pc) xs
marked_all xs n pc h =
    marked_each (replicate n false) xs pc (rw (length-replicate n false) h)
    ∙ ap (λ (b : Bool). list_any (λ to. to == pc) xs || b) (get_or-replicate n pc false false h)
    ∙ or-false (list_any (λ to. to == pc) xs)

-- one instruction more
pub marks_step : (code : List Instr) (marks : List Bool) (i : ℕ) (d : Instr) → i < length code → with_marks (with_marks marks (flat_map targets (take i code))) (targets (get_or code i d)) ≡ with_marks marks (flat_map targets (take (i + 1) code))
marks_step code marks i d h =
    sym (with_marks-append marks (flat_map targets (take i code)) (targets (get_or code i d)))
    ∙ ap (with_marks marks) (sym (ap (flat_map targets) (take_more code i d h) ∙ flat_map-append targets (take i code) (get_or code i d ∷ []) ∙ ap (λ (ts : List ℕ). flat_map targets (take i code) ++ ts) (append-nil (targets (get_or code i d)))))
