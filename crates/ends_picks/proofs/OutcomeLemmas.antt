-- What a pick comes to, part by part.
use Rattle.std.proofs.Common.{◌≡◌, ℕ, ◌+◌, ◌≤◌, ◌<◌, List, [], ◌∷◌, Bool, true, false, Option, Some, None, ◌&&◌}
use Rattle.std.proofs.Common.{refl, sym, ◌∙◌, ap, subst, arith, cond, length, get_or, take, is_some}
use Rattle.std.specs.Prelude.{count_by, nat_le}
use Rattle.std.specs.List.{fold}
use Rattle.std.proofs.lemmas.Bool.Decides.{nat_tests}
use Rattle.std.proofs.lemmas.List.{take_more, take_all}
use Rattle.std.proofs.lemmas.List.Sums.{sum_by-cons, fold-append, sum_by-take-le}
use Rattle.sts_code.specs.declared.instr.Joiner.{Joiner}
use Rattle.sts_code.specs.declared.instr.Kind.{Kind}
use Rattle.sts_code.specs.declared.instr.Kind.TheVariants.{S, F, U}
use Rattle.sts_model.specs.declared.event.End.{End}
use Rattle.sts_model.specs.Joining.{plus_value, total_of}
use Rattle.laws_runs.specs.Tallies.{is_kind}
use Rattle.laws_calls.specs.Tasks.{Among, May, Picks}
use Rattle.laws_calls.specs.declared.table.Part.{Part}
use Rattle.laws_calls.specs.declared.table.Seen.{Seen}
use Rattle.laws_calls.specs.Fitting.{heard_in, most, Fits, Agrees}
use Rattle.laws_calls.specs.Triggers.{triggers}
use Rattle.laws_calls.proofs.FittingLemmas.{all_length, counts_most}
use Rattle.ends_picks.specs.declared.groups.Group.TheVariants.{Counting, Of}
use Rattle.ends_picks.specs.declared.outcomes.Outcome.{Outcome}
use Rattle.ends_picks.specs.Groups.{is_in}
use Rattle.ends_picks.specs.Outcomes.{nothing, after, outcome_of, is_at_most, is_within}
use Rattle.ends_picks.specs.Bounds.{counts_fit}
use Rattle.ends_picks.proofs.BoundLemmas.{numbers_fit}
use Rattle.ends_picks.proofs.GroupLemmas.{counting_heard, kind_group}
use Rattle.ends_picks.proofs.ListLemmas.{two_at}

-- ---- the counts of an outcome

-- a count of an outcome, with one part more and over a list
module _ (x : Seen) (field : Outcome → ℕ) (test : Option End → Bool) (step : (o : Outcome) (q : Option End) → field (after x o q) ≡ field o + cond (test q) 1 0) where
  field_of : (o : Outcome) (pick : List (Option End)) → field (fold (after x) o pick) ≡ field o + count_by test pick
  field_of o [] = omega arith
  field_of o (q ∷ pick) =
      let n = sum_by-cons (λ (y : Option End). cond (test y) 1 0) q pick in
      let here = step o q in
      let rest = field_of (after x o q) pick in
      omega (arith, n, here, rest)

from_zero : {n m : ℕ} → n ≡ 0 + m → n ≡ m
from_zero e = omega (arith, e)

module _ (x : Seen) (pick : List (Option End)) where
  pub triggers_are : (outcome_of x pick).triggers ≡ count_by (is_in x.joiner Counting) pick
  triggers_are = from_zero (field_of x (λ o. o.triggers) (is_in x.joiner Counting) (λ o q. refl) nothing pick)

  pub successes_are : (outcome_of x pick).successes ≡ count_by (λ q. is_some x.asked.successes && is_in x.joiner (Of S) q) pick
  successes_are = from_zero (field_of x (λ o. o.successes) (λ q. is_some x.asked.successes && is_in x.joiner (Of S) q) (λ o q. refl) nothing pick)

  pub failures_are : (outcome_of x pick).failures ≡ count_by (λ q. is_some x.asked.failures && is_in x.joiner (Of F) q) pick
  failures_are = from_zero (field_of x (λ o. o.failures) (λ q. is_some x.asked.failures && is_in x.joiner (Of F) q) (λ o q. refl) nothing pick)

  pub unavailable_are : (outcome_of x pick).unavailable ≡ count_by (λ q. is_some x.asked.unavailable && is_in x.joiner (Of U) q) pick
  unavailable_are = from_zero (field_of x (λ o. o.unavailable) (λ q. is_some x.asked.unavailable && is_in x.joiner (Of U) q) (λ o q. refl) nothing pick)

total_from : (x : Seen) (o : Outcome) (pick : List (Option End)) → (fold (after x) o pick).total ≡ fold plus_value o.total (heard_in pick)
total_from x o [] = refl
total_from x o (None ∷ pick) = total_from x (after x o None) pick
total_from x o (Some e ∷ pick) = total_from x (after x o (Some e)) pick

pub total_is : (x : Seen) (pick : List (Option End)) → (outcome_of x pick).total ≡ total_of (heard_in pick)
total_is x pick = total_from x nothing pick

-- ---- a pick that fits

le_true : (n m : ℕ) → n ≤ m → nat_le n m ≡ true
le_true n m h = grind (arith, nat_tests)

-- the count that was asked for
asked_count : (answer : Option ℕ) (j : Joiner) (kind : Kind) (pick : List (Option End)) (n : ℕ) → Agrees answer (count_by (is_kind kind) pick) → n ≤ count_by (λ q. is_some answer && is_in j (Of kind) q) pick → is_at_most answer n ≡ true
asked_count None j kind pick n agrees less = refl
asked_count (Some m) j kind pick n agrees less = let same = kind_group j kind pick in le_true n m (omega (arith, agrees, same, less))

-- the answers to questions are in a whole outcome
pub answer_is : (answer : Option ℕ) (j : Joiner) (kind : Kind) (pick : List (Option End)) → Agrees answer (count_by (is_kind kind) pick) → Agrees answer (count_by (λ q. is_some answer && is_in j (Of kind) q) pick)
answer_is None j kind pick agrees = tt
answer_is (Some m) j kind pick agrees = agrees ∙ sym (kind_group j kind pick)

take_few : {X : Type 0} (test : X → Bool) (i : ℕ) (xs : List X) → count_by test (take i xs) ≤ count_by test xs
take_few test i xs = sum_by-take-le (λ y. cond (test y) 1 0) xs i

-- a part of a pick that fits is within the answers
pub prefix_within : (x : Seen) (pick : List (Option End)) (i : ℕ) → Fits x pick → is_within x (outcome_of x (take i pick)) ≡ true
prefix_within x pick i fits =
    let counts = counts_most x.knowledge x.phase x.joiner (triggers x.joiner (heard_in pick)) fits.counts in
    let heard = counting_heard x.joiner pick in
    let some = triggers_are x (take i pick) in
    let few = take_few (is_in x.joiner Counting) i pick in
    let t : (outcome_of x (take i pick)).triggers ≤ most x.joiner = omega (arith, counts, heard, some, few) in
    let s = asked_count x.asked.successes x.joiner S pick (outcome_of x (take i pick)).successes fits.asked.successes (subst (λ n. n ≤ count_by (λ q. is_some x.asked.successes && is_in x.joiner (Of S) q) pick) (sym (successes_are x (take i pick))) (take_few (λ q. is_some x.asked.successes && is_in x.joiner (Of S) q) i pick)) in
    let f = asked_count x.asked.failures x.joiner F pick (outcome_of x (take i pick)).failures fits.asked.failures (subst (λ n. n ≤ count_by (λ q. is_some x.asked.failures && is_in x.joiner (Of F) q) pick) (sym (failures_are x (take i pick))) (take_few (λ q. is_some x.asked.failures && is_in x.joiner (Of F) q) i pick)) in
    let u = asked_count x.asked.unavailable x.joiner U pick (outcome_of x (take i pick)).unavailable fits.asked.unavailable (subst (λ n. n ≤ count_by (λ q. is_some x.asked.unavailable && is_in x.joiner (Of U) q) pick) (sym (unavailable_are x (take i pick))) (take_few (λ q. is_some x.asked.unavailable && is_in x.joiner (Of U) q) i pick)) in
    all_four _ _ _ _ (le_true (outcome_of x (take i pick)).triggers (most x.joiner) t) s f u
  where
    all_four : (a b c d : Bool) → a ≡ true → b ≡ true → c ≡ true → d ≡ true → (a && b && c && d) ≡ true
    all_four true true true true e f g h = refl
    all_four true true true false e f g h = h
    all_four true true false d e f g h = cc
    all_four true false c d e f g h = cc
    all_four false b c d e f g h = cc

-- with one part more
pub outcome_more : (x : Seen) (pick : List (Option End)) (i : ℕ) → i < length pick → outcome_of x (take (i + 1) pick) ≡ after x (outcome_of x (take i pick)) (get_or pick i None)
outcome_more x pick i less = ap (λ (ps : List (Option End)). fold (after x) nothing ps) (take_more pick i None less) ∙ fold-append (after x) nothing (take i pick) (get_or pick i None ∷ [])

-- the outcomes of the picks of one part more are there
pub outcomes_more : (x : Seen) (parts : List Part) (i : ℕ) (part : Part) (found slice more : List Outcome) → parts ≡ x.parts → slice ≡ found → i < length parts → part ≡ get_or parts i part → ((pick : List (Option End)) → Fits x pick → Among found (outcome_of x (take i pick))) → ((o : Outcome) (q : Option End) → Among slice o → May part q → is_within x (after x o q) ≡ true → Among more (after x o q)) → (pick : List (Option End)) → Fits x pick → Among more (outcome_of x (take (i + 1) pick))
outcomes_more x parts i part found slice more whole same less is before extends pick fits =
    let picks : Picks parts pick = subst (λ ps. Picks ps pick) (sym whole) fits.picks in
    let long = all_length May parts pick picks in
    let low : i < length pick = omega (arith, less, long) in
    let e = outcome_more x pick i low in
    let may : May part (get_or pick i None) = subst (λ y. May y (get_or pick i None)) (sym is) (two_at May parts pick i part None picks less) in
    let within : is_within x (after x (outcome_of x (take i pick)) (get_or pick i None)) ≡ true = subst (λ o. is_within x o ≡ true) e (prefix_within x pick (i + 1) fits) in
    subst (λ o. Among more o) (sym e) (extends (outcome_of x (take i pick)) (get_or pick i None) (subst (λ os. Among os (outcome_of x (take i pick))) (sym same) (before pick fits)) may within)

-- as many ends count in an outcome as may
pub counts_are_fit : (x : Seen) (pick : List (Option End)) → Fits x pick → counts_fit x.knowledge x.phase x.joiner (outcome_of x pick).triggers (outcome_of x pick).triggers ≡ true
counts_are_fit x pick fits =
    let e : triggers x.joiner (heard_in pick) ≡ (outcome_of x pick).triggers = sym (triggers_are x pick ∙ counting_heard x.joiner pick) in
    subst (λ n. counts_fit x.knowledge x.phase x.joiner n n ≡ true) e (numbers_fit x.knowledge x.phase x.joiner (triggers x.joiner (heard_in pick)) (triggers x.joiner (heard_in pick)) (triggers x.joiner (heard_in pick)) (omega arith) (omega arith) fits.counts)

-- after all parts
pub outcomes_all : (x : Seen) (parts : List Part) (i : ℕ) (found : List Outcome) → parts ≡ x.parts → length parts ≤ i → ((pick : List (Option End)) → Fits x pick → Among found (outcome_of x (take i pick))) → (pick : List (Option End)) → Fits x pick → Among found (outcome_of x pick)
outcomes_all x parts i found whole done before pick fits =
    let long = all_length May parts pick (subst (λ ps. Picks ps pick) (sym whole) fits.picks) in
    let all : take i pick ≡ pick = take_all i pick (omega (arith, long, done)) in
    subst (λ ps. Among found (outcome_of x ps)) all (before pick fits)

-- the answers that the owner got
module _ (x : Seen) (pick : List (Option End)) (fits : Fits x pick) where
  pub successes_fit : Agrees x.asked.successes (outcome_of x pick).successes
  successes_fit = subst (λ n. Agrees x.asked.successes n) (sym (successes_are x pick)) (answer_is x.asked.successes x.joiner S pick fits.asked.successes)

  pub failures_fit : Agrees x.asked.failures (outcome_of x pick).failures
  failures_fit = subst (λ n. Agrees x.asked.failures n) (sym (failures_are x pick)) (answer_is x.asked.failures x.joiner F pick fits.asked.failures)

  pub unavailable_fit : Agrees x.asked.unavailable (outcome_of x pick).unavailable
  unavailable_fit = subst (λ n. Agrees x.asked.unavailable n) (sym (unavailable_are x pick)) (answer_is x.asked.unavailable x.joiner U pick fits.asked.unavailable)

  pub total_fits : Agrees x.asked.total (outcome_of x pick).total
  total_fits = subst (λ n. Agrees x.asked.total n) (sym (total_is x pick)) fits.asked.total
