-- The states that are covered are possible: what became of the subtasks is a pick that fits.
use Rattle.std.proofs.Common.{◌≡◌, ◌⊎◌, inl, inr, Option, ℕ, ◌<◌, ◌≤◌, List, [], ◌∷◌, ◌++◌, Bool, true, false, refl, sym, ◌∙◌, ap, subst, length, ◌&&◌}
use Rattle.std.proofs.Common.{map, arith, cond, sum_by}
use Rattle.std.proofs.lemmas.Bool.{leb-true, and_parts}
use Rattle.std.specs.Prelude.{nat_le, count_by}
use Rattle.laws_calls.proofs.Turns.{Facts, known_as}
use Rattle.laws_calls.proofs.Lists.{no}
use Rattle.std.proofs.lemmas.List.Sums.{sum_by-cons}
use Rattle.sts_code.specs.declared.instr.Joiner.{Joiner}
use Rattle.sts_model.specs.declared.event.End.{End}
use Rattle.sts_model.specs.declared.event.Phase.{Phase}
use Rattle.sts_model.specs.declared.event.Phase.TheVariants.{Joined, Closing}
use Rattle.sts_model.specs.World.{World, scope_at}
use Rattle.sts_model.specs.Misuse.{is_joined, can_join}
use Rattle.sts_model.specs.Living.{completion_of, ends, ends_of}
use Rattle.sts_model.specs.declared.record.Scope.{Scope}
use Rattle.sts_model.specs.Joining.{cancels}
use Rattle.laws_runs.proofs.EventLemmas.{Right}
use Rattle.laws_words.proofs.BoolLemmas.{at_most_one}
use Rattle.laws_calls.specs.Tasks.{AllTwo, May, Part, Seen, Knowledge, Unseen, ByJoiner, Heard, Asked, nothing, Late}
use Rattle.laws_calls.specs.Triggers.{is_trigger, limit, triggers}
use Rattle.laws_calls.specs.Fitting.{Answers, most, MayCount, Fits, ArePossible}
use Rattle.laws_calls.specs.Steps.{Row, is_heard, is_cancelled, is_sure, settled, after_cancel, may_decide, is_unseen}
use Rattle.laws_calls.specs.Covers.{subs, PartFits, SeenFits, alive_in, IsRight}
use Rattle.laws_calls.proofs.Counts.{states_in}
use Rattle.laws_calls.proofs.SureLemmas.{sure_few}
use Rattle.laws_calls.proofs.Totals.{count_states}
use Rattle.laws_calls.proofs.TriggerLemmas.{cancels_by_count, going_on, stops_at_limit}

-- ---- what is known of a cancel

-- known not to be cancelled
pub unknown : (q : Knowledge) (scope : Scope) → IsRight q scope → scope.cancelled ≡ false → is_cancelled q ≡ false
unknown Unseen scope r e = refl
unknown Heard scope r e = refl
unknown Late scope r e = let known : scope.cancelled ≡ true = r.0 in absurd (no (sym known ∙ e))
unknown ByJoiner scope r e = let known : scope.cancelled ≡ true = r in absurd (no (sym known ∙ e))

-- known to be cancelled
pub unheard : (q : Knowledge) (scope : Scope) → IsRight q scope → scope.cancelled ≡ true → is_heard q ≡ false
unheard Unseen scope r e = refl
unheard ByJoiner scope r e = refl
unheard Late scope r e = refl
unheard Heard scope r e = let free : scope.cancelled ≡ false = r.0 in absurd (no (sym e ∙ free))

pub undecided : (q : Knowledge) (scope : Scope) → IsRight q scope → scope.cancelled ≡ true → scope.expired ≡ false → may_decide q ≡ true
undecided Unseen scope r e timely = refl
undecided ByJoiner scope r e timely = refl
undecided Late scope r e timely = let late : scope.expired ≡ true = r.1 in absurd (no (sym late ∙ timely))
undecided Heard scope r e timely = let free : scope.cancelled ≡ false = r.0 in absurd (no (sym e ∙ free))

unseen_decides : (q : Knowledge) → is_unseen q ≡ true → may_decide q ≡ true
unseen_decides Unseen e = refl
unseen_decides ByJoiner e = cc
unseen_decides Late e = cc
unseen_decides Heard e = cc

-- ---- how many ends count

pub counts_most : (q : Knowledge) (phase : Phase) (j : Joiner) (n : ℕ) → MayCount q phase j n → n ≤ most j
counts_most Unseen Joined j n m = absurd m
counts_most ByJoiner Joined j n m = m.1
counts_most Heard phase j n m = omega (arith, m)
counts_most q phase j n m = m

-- the owner has seen that the joiner has cancelled the scope
pub counts_cancelled : (q : Knowledge) (phase : Phase) (j : Joiner) (n : ℕ) → may_decide q ≡ true → MayCount q phase j n → MayCount ByJoiner phase j n
counts_cancelled Heard phase j n e m = cc
counts_cancelled Late phase j n e m = cc
counts_cancelled Unseen Joined j n e m = absurd m
counts_cancelled q phase j n e m = m

-- the joiner was told of one more end
pub counts_told : (phase : Phase) (j : Joiner) (n k : ℕ) → MayCount Unseen phase j n → k ≤ most j → MayCount Unseen phase j k
counts_told Joined j n k m few = absurd m
counts_told phase j n k m few = few

one_trigger : (j : Joiner) (e : End) → triggers j (e ∷ []) ≤ 1
one_trigger j e =
    let f : End → ℕ = λ y. cond (is_trigger j y) 1 0 in
    let n = sum_by-cons f e [] in
    let none : sum_by f [] ≡ 0 = refl in
    let one = at_most_one (is_trigger j e) in
    omega (arith, n, none, one)

pub no_trigger : (j : Joiner) → triggers j [] ≤ most j
no_trigger j = let none : triggers j [] ≡ 0 = refl in omega (arith, none)

-- a scope that is not cancelled is told of an end
pub few_told : (j : Joiner) (es : List End) (e : End) → (cancels j es ≡ true → es ≡ []) → triggers j (es ++ e ∷ []) ≤ most j
few_told j es e empty = by (cancels j es) refl
  where
    by : (b : Bool) → cancels j es ≡ b → triggers j (es ++ e ∷ []) ≤ most j
    by false going = let n = stops_at_limit j es e going in omega (arith, n)
    by true asked = subst (λ (l : List End). triggers j (l ++ e ∷ []) ≤ most j) (sym (empty asked)) (let n = one_trigger j e in omega (arith, n))

-- all subtasks have ended, and the scope is not cancelled
fewer_heard : (j : Joiner) (es : List End) → (cancels j es ≡ true → es ≡ []) → triggers j es < most j
fewer_heard j es empty = by (cancels j es) refl
  where
    by : (b : Bool) → cancels j es ≡ b → triggers j es < most j
    by false going = let n = going_on j es going in omega (arith, n)
    by true asked = let none : triggers j es ≡ 0 = ap (triggers j) (empty asked) in omega (arith, none)

-- a scope that is not cancelled
pub few_free : (w : World) → Facts w → (s : ℕ) → s < length w.scopes → (scope_at w s).cancelled ≡ false → (j : Joiner) → j ≡ (scope_at w s).joiner → triggers j (ends (scope_at w s)) < most j
few_free w h s born free j is_j = fewer_heard j (ends (scope_at w s)) (λ e. ap ends_of ((h.caused s born).asked free (ap (λ k. cancels k (ends (scope_at w s))) (sym is_j) ∙ e)))

pub enough : (j : Joiner) (es : List End) → cancels j es ≡ true → limit j ≤ triggers j es
enough j es asked = leb-true (limit j) (triggers j es) (sym (cancels_by_count j es) ∙ asked)

-- ---- a `join`

-- a joined scope is not unseen
pub never_unseen : (phase : Phase) (j : Joiner) (n : ℕ) → is_joined phase ≡ true → MayCount Unseen phase j n → ⊥
never_unseen Joined j n e m = m
never_unseen phase j n e m = cc

-- a joined scope that its joiner may have cancelled had not expired
pub decided_on_time : (rows : ℕ → Row) (w : World) (s : ℕ) (x : Seen) → SeenFits rows w s x → may_decide x.knowledge ≡ true → is_joined x.phase ≡ true → (scope_at w s).expired ≡ false
decided_on_time rows w s x k may joined = by x.knowledge refl
  where
    by : (q : Knowledge) → x.knowledge ≡ q → (scope_at w s).expired ≡ false
    by Unseen is = absurd (never_unseen x.phase x.joiner (triggers x.joiner (ends (scope_at w s))) joined (subst (λ (q : Knowledge). MayCount q x.phase x.joiner (triggers x.joiner (ends (scope_at w s)))) is k.counts))
    by ByJoiner is = k.on_time is joined
    by Late is = absurd (no (sym may ∙ ap may_decide is))
    by Heard is = absurd (no (sym may ∙ ap may_decide is))

-- a scope that was seen to be joined can't be joined
pub joined_on : (a b : Phase) → (a ≡ b) ⊎ (a ≡ Closing) → is_joined b ≡ true → can_join a ≡ false
joined_on a b (inl same) e = subst (λ (z : Phase). can_join z ≡ false) (sym same) (late b e)
  where
    late : (z : Phase) → is_joined z ≡ true → can_join z ≡ false
    late Joined k = refl
    late z k = cc
joined_on a b (inr same) e = ap can_join same

-- ---- picks

pick_of : (rows : ℕ → Row) (w : World) (s : ℕ) (us : List ℕ) (parts : List Part) → AllTwo (PartFits rows (alive_in w) (scope_at w s)) us parts → AllTwo May parts (map (completion_of (scope_at w s).completions) us)
pick_of rows w s [] [] a = tt
pick_of rows w s (q ∷ us) (part ∷ parts) a = (a.0.may, pick_of rows w s us parts a.1)
pick_of rows w s [] (part ∷ parts) a = absurd a
pick_of rows w s (q ∷ us) [] a = absurd a

pub answers_of : {A : Type 0} (asked : Asked) (pick : List (Option End)) → (asked ≡ nothing) ⊎ (A × Answers asked pick) → Answers asked pick
answers_of asked pick (inl e) = subst (λ a. Answers a pick) (sym e) (record { successes = tt; failures = tt; unavailable = tt; total = tt })
answers_of asked pick (inr k) = k.1

pub pick_fits : (rows : ℕ → Row) (w : World) → Right w → (s : ℕ) (x : Seen) → SeenFits rows w s x → Fits x (states_in w s)
pick_fits rows w o s x k =
    record {
      picks = pick_of rows w s (subs w s) x.parts k.parts;
      asked = answers_of x.asked (states_in w s) k.asked;
      counts = subst (λ n. MayCount x.knowledge x.phase x.joiner n) (count_states w o s (is_trigger x.joiner)) k.counts;
    }

-- what a `case` told of a scope
pub settled_fits : (rows : ℕ → Row) (w : World) → Facts w → (s : ℕ) → s < length w.scopes → (x : Seen) → SeenFits rows w s x → SeenFits rows w s (settled x)
settled_fits rows w h s born x k = by (is_unseen x.knowledge && nat_le (most x.joiner) (count_by (is_sure x.joiner) x.parts)) refl
  where
    gone : most x.joiner ≤ count_by (is_sure x.joiner) x.parts → (b : Bool) → (scope_at w s).cancelled ≡ b → b ≡ true
    gone many true e = refl
    gone many false e =
        let few = few_free w h s born e x.joiner k.joiner in
        let same = count_states w h.right s (is_trigger x.joiner) in
        let sure = sure_few x.joiner x.parts (states_in w s) (pick_of rows w s (subs w s) x.parts k.parts) in
        absurd (omega (arith, many, few, same, sure))

    by : (b : Bool) → (is_unseen x.knowledge && nat_le (most x.joiner) (count_by (is_sure x.joiner) x.parts)) ≡ b → SeenFits rows w s (cond b (after_cancel x) x)
    by false e = k
    by true e =
        let both = and_parts (is_unseen x.knowledge) _ e in
        let cancelled : (scope_at w s).cancelled ≡ true = gone (leb-true (most x.joiner) (count_by (is_sure x.joiner) x.parts) both.1) (scope_at w s).cancelled refl in
        known_as x k ByJoiner cancelled (λ is joined. decided_on_time rows w s x k (unseen_decides x.knowledge both.0) joined)
        (counts_cancelled x.knowledge x.phase x.joiner _ (unseen_decides x.knowledge both.0) k.counts)

pub are_possible : (rows : ℕ → Row) (w : World) → Right w → (opened : List ℕ) (scopes : List Seen) → AllTwo (SeenFits rows w) opened scopes → ArePossible scopes
are_possible rows w o [] [] k = tt
are_possible rows w o (s ∷ opened) (x ∷ scopes) k = ((states_in w s, pick_fits rows w o s x k.0), are_possible rows w o opened scopes k.1)
are_possible rows w o [] (x ∷ scopes) k = absurd k
are_possible rows w o (s ∷ opened) [] k = absurd k
