-- The test passes each scope that has a pick that fits.
use Rattle.std.proofs.Common.{◌≡◌, ℕ, ◌<◌, ◌≤◌, List, [], ◌∷◌, true, Option, Some, None, refl, sym, ap, subst, arith, cond, inl, inr, ◌||◌}
use Rattle.std.specs.Prelude.{count_by, nat_le, nat_lt}
use Rattle.std.specs.List.{list_any, list_all}
use Rattle.std.proofs.lemmas.Bool.Decides.{nat_tests}
use Rattle.std.proofs.lemmas.List.Sums.{sum_by-cons}
use Rattle.std.proofs.lemmas.Bool.{or_right, and_from}
use Rattle.laws_words.proofs.BoolLemmas.{one_then}
use Rattle.sts_code.specs.declared.instr.Joiner.{Joiner}
use Rattle.sts_model.specs.declared.event.End.{End}
use Rattle.sts_model.specs.declared.event.Phase.{Phase}
use Rattle.sts_model.specs.declared.event.Phase.TheVariants.{Opened, Attempted, Joined, Closing, Closed}
use Rattle.laws_calls.specs.Tasks.{May, Picks, HasWay}
use Rattle.laws_calls.specs.declared.table.Way.{Way}
use Rattle.laws_calls.specs.declared.table.Part.{Part}
use Rattle.laws_calls.specs.declared.table.Seen.{Seen}
use Rattle.laws_calls.specs.declared.table.Knowledge.{Knowledge}
use Rattle.laws_calls.specs.declared.table.Knowledge.TheVariants.{Unseen, ByJoiner, Late, Heard}
use Rattle.laws_calls.specs.Fitting.{heard_in, most, MayCount, Fits, ArePossible}
use Rattle.laws_calls.specs.Steps.{is_sure}
use Rattle.laws_calls.specs.Triggers.{is_trigger, limit, triggers}
use Rattle.laws_calls.proofs.SureLemmas.{sure_few}
use Rattle.ends_picks.specs.Bounds.{has_ways, can_be, can_count, counts_fit, may_fit, may_be}

-- ---- each part has a state that is possible

part_can : (part : Part) (q : Option End) → May part q → can_be part ≡ true
part_can part None h = ap (λ b. b || has_ways part.ways) h
part_can part (Some e) h = or_right part.is_open (has_ways part.ways) (by part.ways h)
  where
    by : (ways : List Way) → HasWay ways e → has_ways ways ≡ true
    by [] way = absurd way
    by (way ∷ ways) at = refl

all_can : (parts : List Part) (pick : List (Option End)) → Picks parts pick → list_all can_be parts ≡ true
all_can [] [] h = refl
all_can (part ∷ parts) (q ∷ pick) h = and_from (can_be part) (list_all can_be parts) (part_can part q h.0) (all_can parts pick h.1)
all_can [] (q ∷ pick) h = absurd h
all_can (part ∷ parts) [] h = absurd h

-- ---- at most so many ends count

can_way : (j : Joiner) (ways : List Way) (e : End) → HasWay ways e → is_trigger j e ≡ true → list_any (λ (way : Way). is_trigger j way.end) ways ≡ true
can_way j [] e at t = absurd at
can_way j (way ∷ ways) e (inl same) t =
    let here : is_trigger j way.end ≡ true = subst (λ z. is_trigger j z ≡ true) (sym same) t in
    ap (λ b. b || list_any (λ (y : Way). is_trigger j y.end) ways) here
can_way j (way ∷ ways) e (inr at) t = or_right (is_trigger j way.end) (list_any (λ (y : Way). is_trigger j y.end) ways) (can_way j ways e at t)

-- at most as many ends count as parts may end so
can_few : (j : Joiner) (parts : List Part) (pick : List (Option End)) → Picks parts pick → triggers j (heard_in pick) ≤ count_by (can_count j) parts
can_few j [] [] h = omega arith
can_few j (part ∷ parts) (None ∷ pick) h =
    let n = sum_by-cons (λ (y : Part). cond (can_count j y) 1 0) part parts in
    let rest = can_few j parts pick h.1 in
    omega (arith, n, rest)
can_few j (part ∷ parts) (Some e ∷ pick) h =
    let n = sum_by-cons (λ (y : Part). cond (can_count j y) 1 0) part parts in
    let m = sum_by-cons (λ (y : End). cond (is_trigger j y) 1 0) e (heard_in pick) in
    let here = one_then (is_trigger j e) (can_count j part) (λ t. can_way j part.ways e h.0 t) in
    let rest = can_few j parts pick h.1 in
    omega (arith, n, m, here, rest)
can_few j [] (q ∷ pick) h = absurd h
can_few j (part ∷ parts) [] h = absurd h

-- ---- a number of ends

le_most : (n least m : ℕ) → least ≤ n → n ≤ m → nat_le least m ≡ true
le_most n least m a b = let k : least ≤ m = omega (arith, a, b) in grind (arith, nat_tests)

lt_most : (n least m : ℕ) → least ≤ n → n < m → nat_lt least m ≡ true
lt_most n least m a b = let k : least < m = omega (arith, a, b) in grind (arith, nat_tests)

pub numbers_fit : (q : Knowledge) (phase : Phase) (j : Joiner) (least greatest n : ℕ) → least ≤ n → n ≤ greatest → MayCount q phase j n → counts_fit q phase j least greatest ≡ true
numbers_fit Unseen Opened j least greatest n a b m = le_most n least (most j) a m
numbers_fit Unseen Attempted j least greatest n a b m = le_most n least (most j) a m
numbers_fit Unseen Joined j least greatest n a b m = absurd m
numbers_fit Unseen Closing j least greatest n a b m = le_most n least (most j) a m
numbers_fit Unseen Closed j least greatest n a b m = le_most n least (most j) a m
numbers_fit ByJoiner Opened j least greatest n a b m = le_most n least (most j) a m
numbers_fit ByJoiner Attempted j least greatest n a b m = le_most n least (most j) a m
numbers_fit ByJoiner Joined j least greatest n a b m = and_from (nat_le (limit j) greatest) (nat_le least (most j)) (le_most n (limit j) greatest m.0 b) (le_most n least (most j) a m.1)
numbers_fit ByJoiner Closing j least greatest n a b m = le_most n least (most j) a m
numbers_fit ByJoiner Closed j least greatest n a b m = le_most n least (most j) a m
numbers_fit Late phase j least greatest n a b m = le_most n least (most j) a m
numbers_fit Heard phase j least greatest n a b m = lt_most n least (most j) a m

-- ---- scopes

pub scope_fits : (x : Seen) (pick : List (Option End)) → Fits x pick → may_fit x ≡ true
scope_fits x pick h =
    and_from (list_all can_be x.parts) _ (all_can x.parts pick h.picks)
    (numbers_fit x.knowledge x.phase x.joiner (count_by (is_sure x.joiner) x.parts) (count_by (can_count x.joiner) x.parts) (triggers x.joiner (heard_in pick)) (sure_few x.joiner x.parts pick h.picks) (can_few x.joiner x.parts pick h.picks) h.counts)

-- a state that is possible passes the test
pub passes : (scopes : List Seen) → ArePossible scopes → may_be scopes ≡ true
passes [] h = refl
passes (x ∷ xs) h = and_from (may_fit x) (may_be xs) (scope_fits x h.0.0 h.0.1) (passes xs h.1)
