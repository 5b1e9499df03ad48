-- How many subtasks are in a group, whatever they came to.
use Rattle.std.proofs.Common.{◌≡◌, ℕ, ◌+◌, ◌-◌, ◌≤◌, ◌<◌, List, [], ◌∷◌, Bool, true, false, Option, Some, None, not, ◌&&◌, ◌||◌}
use Rattle.std.proofs.Common.{refl, sym, ◌∙◌, ap, subst, arith, cond, inl, inr, length, get_or, zero, suc}
use Rattle.std.specs.Prelude.{count_by}
use Rattle.std.specs.List.{list_any}
use Rattle.std.proofs.lemmas.List.Sums.{sum_by-cons}
use Rattle.std.proofs.lemmas.Bool.{or_right}
use Rattle.laws_words.proofs.BoolLemmas.{one_then}
use Rattle.sts_code.specs.declared.instr.Joiner.{Joiner}
use Rattle.sts_code.specs.declared.instr.Kind.{Kind}
use Rattle.sts_code.specs.declared.instr.Kind.TheVariants.{S, F, U}
use Rattle.sts_model.specs.declared.event.End.{End}
use Rattle.sts_model.specs.declared.event.End.TheVariants.{Success, Failed}
use Rattle.laws_runs.specs.Tallies.{is_kind}
use Rattle.laws_calls.specs.Tasks.{May, Picks, HasWay}
use Rattle.laws_calls.specs.declared.table.Way.{Way}
use Rattle.laws_calls.specs.declared.table.Part.{Part}
use Rattle.laws_calls.specs.declared.table.Asked.{Asked}
use Rattle.laws_calls.specs.declared.table.Seen.{Seen}
use Rattle.laws_calls.specs.Fitting.{heard_in, Agrees, Answers, Fits, ArePossible}
use Rattle.laws_calls.specs.Triggers.{is_trigger, triggers}
use Rattle.laws_calls.proofs.FittingLemmas.{all_length}
use Rattle.ends_picks.specs.declared.groups.Group.{Group}
use Rattle.ends_picks.specs.declared.groups.Group.TheVariants.{Counting, Of, Counted, Uncounted}
use Rattle.ends_picks.specs.declared.ranges.Range.{Range}
use Rattle.ends_picks.specs.Groups.{is_in, has_end, has_unavailable, may_be_in, may_be_out, kind_of, answer_of}
use Rattle.ends_picks.specs.Ranges.{IsIn}

-- ---- one part

some_way : (test : End → Bool) (ways : List Way) (e : End) → HasWay ways e → test e ≡ true → list_any (λ (way : Way). test way.end) ways ≡ true
some_way test [] e at t = absurd at
some_way test (way ∷ ways) e (inl same) t =
    let here : test way.end ≡ true = subst (λ z. test z ≡ true) (sym same) t in
    ap (λ b. b || list_any (λ (y : Way). test y.end) ways) here
some_way test (way ∷ ways) e (inr at) t = or_right (test way.end) (list_any (λ (y : Way). test y.end) ways) (some_way test ways e at t)

open_state : (a b c : Bool) → a ≡ true → b ≡ true → ((a && b) || c) ≡ true
open_state a b c e f = ap (λ z. (z && b) || c) e ∙ ap (λ z. z || c) f

part_in : (j : Joiner) (g : Group) (part : Part) (q : Option End) → May part q → is_in j g q ≡ true → may_be_in j g part ≡ true
part_in j g part None may t = open_state part.is_open (has_unavailable g) _ may t
part_in j g part (Some e) may t = or_right (part.is_open && has_unavailable g) _ (some_way (has_end j g) part.ways e may t)

part_out : (j : Joiner) (g : Group) (part : Part) (q : Option End) → May part q → not (is_in j g q) ≡ true → may_be_out j g part ≡ true
part_out j g part None may t = open_state part.is_open (not (has_unavailable g)) _ may t
part_out j g part (Some e) may t = or_right (part.is_open && not (has_unavailable g)) _ (some_way (λ z. not (has_end j g z)) part.ways e may t)

-- ---- all parts

-- at most as many states pass as parts may
few : (test : Option End → Bool) (can : Part → Bool) → ((part : Part) (q : Option End) → May part q → test q ≡ true → can part ≡ true) → (parts : List Part) (pick : List (Option End)) → Picks parts pick → count_by test pick ≤ count_by can parts
few test can each [] [] h = omega arith
few test can each (part ∷ parts) (q ∷ pick) h =
    let n = sum_by-cons (λ (y : Part). cond (can y) 1 0) part parts in
    let m = sum_by-cons (λ (y : Option End). cond (test y) 1 0) q pick in
    let here = one_then (test q) (can part) (each part q h.0) in
    let rest = few test can each parts pick h.1 in
    omega (arith, n, m, here, rest)
few test can each [] (q ∷ pick) h = absurd h
few test can each (part ∷ parts) [] h = absurd h

halves : (b : Bool) → cond {A = ℕ} b 1 0 + cond (not b) 1 0 ≡ 1
halves true = refl
halves false = refl

-- each state passes or doesn't
split_count : {X : Type 0} (test : X → Bool) (xs : List X) → count_by test xs + count_by (λ x. not (test x)) xs ≡ length xs
split_count test [] = refl
split_count {X} test (x ∷ xs) =
    let n = sum_by-cons (λ (y : X). cond (test y) 1 0) x xs in
    let m = sum_by-cons (λ (y : X). cond (not (test y)) 1 0) x xs in
    let here = halves (test x) in
    let rest = split_count test xs in
    omega (arith, n, m, here, rest)

pub in_range : (j : Joiner) (g : Group) (parts : List Part) (pick : List (Option End)) (r : Range) → Picks parts pick → r.least ≤ length parts - count_by (may_be_out j g) parts → count_by (may_be_in j g) parts ≤ r.greatest → IsIn r (count_by (is_in j g) pick)
in_range j g parts pick r h low high =
    let most = few (is_in j g) (may_be_in j g) (part_in j g) parts pick h in
    let out = few (λ q. not (is_in j g q)) (may_be_out j g) (part_out j g) parts pick h in
    let all = split_count (is_in j g) pick in
    let long = all_length May parts pick h in
    record {
      least = omega (arith, out, all, long, low);
      greatest = omega (arith, most, high);
    }

-- ---- groups of groups

sums : {X : Type 0} (a b c : X → Bool) → ((x : X) → cond {A = ℕ} (a x) 1 0 ≡ cond (b x) 1 0 + cond (c x) 1 0) → (xs : List X) → count_by a xs ≡ count_by b xs + count_by c xs
sums a b c each [] = refl
sums {X} a b c each (x ∷ xs) =
    let n = sum_by-cons (λ (y : X). cond (a y) 1 0) x xs in
    let m = sum_by-cons (λ (y : X). cond (b y) 1 0) x xs in
    let k = sum_by-cons (λ (y : X). cond (c y) 1 0) x xs in
    let here = each x in
    let rest = sums a b c each xs in
    omega (arith, n, m, k, here, rest)

two : (a t : Bool) → cond {A = ℕ} a 1 0 ≡ cond (a && t) 1 0 + cond (a && not t) 1 0
two true true = refl
two true false = refl
two false t = refl

pub counted_or_not : (j : Joiner) (succeeds : Bool) (pick : List (Option End)) → count_by (is_in j (Of (kind_of succeeds))) pick ≡ count_by (is_in j (Counted succeeds)) pick + count_by (is_in j (Uncounted succeeds)) pick
counted_or_not j succeeds pick = sums (is_in j (Of (kind_of succeeds))) (is_in j (Counted succeeds)) (is_in j (Uncounted succeeds)) (by succeeds) pick
  where
    by : (b : Bool) (q : Option End) → cond {A = ℕ} (is_in j (Of (kind_of b)) q) 1 0 ≡ cond (is_in j (Counted b) q) 1 0 + cond (is_in j (Uncounted b) q) 1 0
    by true None = refl
    by false None = refl
    by true (Some (Success v)) = two true (is_trigger j (Success v))
    by true (Some (Failed c)) = refl
    by false (Some (Success v)) = refl
    by false (Some (Failed c)) = two true (is_trigger j (Failed c))

alone : (t : Bool) → cond {A = ℕ} t 1 0 ≡ cond t 1 0 + 0
alone true = refl
alone false = refl

after : (t : Bool) → cond {A = ℕ} t 1 0 ≡ 0 + cond t 1 0
after true = refl
after false = refl

pub counting_ends : (j : Joiner) (succeeds : Bool) (pick : List (Option End)) → count_by (is_in j Counting) pick ≡ count_by (is_in j (Counted succeeds)) pick + count_by (is_in j (Counted (not succeeds))) pick
counting_ends j succeeds pick = sums (is_in j Counting) (is_in j (Counted succeeds)) (is_in j (Counted (not succeeds))) (by succeeds) pick
  where
    by : (b : Bool) (q : Option End) → cond {A = ℕ} (is_in j Counting q) 1 0 ≡ cond (is_in j (Counted b) q) 1 0 + cond (is_in j (Counted (not b)) q) 1 0
    by true None = refl
    by false None = refl
    by true (Some (Success v)) = alone (is_trigger j (Success v))
    by true (Some (Failed c)) = after (is_trigger j (Failed c))
    by false (Some (Success v)) = after (is_trigger j (Success v))
    by false (Some (Failed c)) = alone (is_trigger j (Failed c))

-- the ends that count are those of a pick
pub counting_heard : (j : Joiner) (pick : List (Option End)) → count_by (is_in j Counting) pick ≡ triggers j (heard_in pick)
counting_heard j [] = refl
counting_heard j (None ∷ pick) =
    let n = sum_by-cons (λ (y : Option End). cond (is_in j Counting y) 1 0) None pick in
    let rest = counting_heard j pick in
    omega (arith, n, rest)
counting_heard j (Some e ∷ pick) =
    let n = sum_by-cons (λ (y : Option End). cond (is_in j Counting y) 1 0) (Some e) pick in
    let m = sum_by-cons (λ (y : End). cond (is_trigger j y) 1 0) e (heard_in pick) in
    let rest = counting_heard j pick in
    omega (arith, n, m, rest)

same_count : {X : Type 0} (a b : X → Bool) → ((x : X) → a x ≡ b x) → (xs : List X) → count_by a xs ≡ count_by b xs
same_count a b each [] = refl
same_count {X} a b each (x ∷ xs) =
    let n = sum_by-cons (λ (y : X). cond (a y) 1 0) x xs in
    let m = sum_by-cons (λ (y : X). cond (b y) 1 0) x xs in
    let here : cond {A = ℕ} (a x) 1 0 ≡ cond (b x) 1 0 = ap (λ z. cond z 1 0) (each x) in
    let rest = same_count a b each xs in
    omega (arith, n, m, here, rest)

-- a kind is a group
pub kind_group : (j : Joiner) (kind : Kind) (pick : List (Option End)) → count_by (is_in j (Of kind)) pick ≡ count_by (is_kind kind) pick
kind_group j kind pick = same_count (is_in j (Of kind)) (is_kind kind) by pick
  where
    by : (q : Option End) → is_in j (Of kind) q ≡ is_kind kind q
    by None = refl
    by (Some e) = refl

-- a pick that fits has the answers that the owner got
pub answer_agrees : (asked : Asked) (kind : Kind) (pick : List (Option End)) → Answers asked pick → Agrees (answer_of asked kind) (count_by (is_kind kind) pick)
answer_agrees asked S pick h = h.successes
answer_agrees asked F pick h = h.failures
answer_agrees asked U pick h = h.unavailable

-- each open scope of a state that is possible has a pick that fits
pub possible_at : (xs : List Seen) (i : ℕ) (x : Seen) → ArePossible xs → i < length xs → x ≡ get_or xs i x → (pick : List (Option End)) × Fits x pick
possible_at [] i x h less is = absurd (omega (arith, less))
possible_at (y ∷ ys) zero x h less is = (h.0.0, subst (λ (z : Seen). Fits z h.0.0) (sym is) h.0.1)
possible_at (y ∷ ys) (suc i) x h less is = possible_at ys i x h.1 (omega (arith, less)) is
