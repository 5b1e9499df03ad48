-- Parts that have ended by an end that counts towards a cancel.
use Rattle.std.proofs.Common.{◌≡◌, inl, inr, ℕ, ◌≤◌, List, [], ◌∷◌, Bool, true, false, refl, ap, subst, Option, Some, None, not, ◌&&◌, arith, cond}
use Rattle.std.proofs.lemmas.Bool.{or_parts, and_parts, not-true}
use Rattle.std.specs.Prelude.{count_by}
use Rattle.std.specs.List.{list_any}
use Rattle.std.proofs.lemmas.List.Sums.{sum_by-cons}
use Rattle.laws_words.proofs.BoolLemmas.{one_then}
use Rattle.sts_code.specs.declared.instr.Joiner.{Joiner}
use Rattle.sts_model.specs.declared.event.End.{End}
use Rattle.laws_calls.specs.Tasks.{AllTwo, May, Part, Way, HasWay}
use Rattle.laws_calls.specs.Triggers.{is_trigger, triggers}
use Rattle.laws_calls.specs.Fitting.{heard_in}
use Rattle.laws_calls.specs.Steps.{is_sure}

sure_way : (j : Joiner) (ways : List Way) (e : End) → list_any (λ (way : Way). not (is_trigger j way.end)) ways ≡ false → HasWay ways e → is_trigger j e ≡ true
sure_way j [] e none at = absurd at
sure_way j (way ∷ ways) e none (inl same) = by (is_trigger j way.end) refl (or_parts (not (is_trigger j way.end)) _ none).0
  where
    by : (b : Bool) → is_trigger j way.end ≡ b → not b ≡ false → is_trigger j e ≡ true
    by true is k = subst (λ z. is_trigger j z ≡ true) same is
    by false is k = cc
sure_way j (way ∷ ways) e none (inr at) = sure_way j ways e (or_parts (not (is_trigger j way.end)) _ none).1 at

sure_end : (j : Joiner) (part : Part) (e : End) → is_sure j part ≡ true → HasWay part.ways e → is_trigger j e ≡ true
sure_end j part e sure way = sure_way j part.ways e (not-true (list_any (λ (y : Way). not (is_trigger j y.end)) part.ways) (and_parts (not part.is_open) _ sure).1) way

never_sure : (j : Joiner) (part : Part) → part.is_open ≡ true → is_sure j part ≡ false
never_sure j part is_open = ap (λ b. not b && not (list_any (λ (y : Way). not (is_trigger j y.end)) part.ways)) is_open

-- at least as many ends count as parts are sure
pub sure_few : (j : Joiner) (parts : List Part) (pick : List (Option End)) → AllTwo May parts pick → count_by (is_sure j) parts ≤ triggers j (heard_in pick)
sure_few j [] [] h = omega arith
sure_few j (part ∷ parts) (None ∷ pick) h =
    let n = sum_by-cons (λ (y : Part). cond (is_sure j y) 1 0) part parts in
    let none : cond {A = ℕ} (is_sure j part) 1 0 ≡ 0 = ap (λ b. cond b 1 0) (never_sure j part h.0) in
    let rest = sure_few j parts pick h.1 in
    omega (arith, n, none, rest)
sure_few j (part ∷ parts) (Some e ∷ pick) h =
    let n = sum_by-cons (λ (y : Part). cond (is_sure j y) 1 0) part parts in
    let m = sum_by-cons (λ (y : End). cond (is_trigger j y) 1 0) e (heard_in pick) in
    let one = one_then (is_sure j part) (is_trigger j e) (λ sure. sure_end j part e sure h.0) in
    let rest = sure_few j parts pick h.1 in
    omega (arith, n, m, one, rest)
sure_few j [] (q ∷ pick) h = absurd h
sure_few j (part ∷ parts) [] h = absurd h
