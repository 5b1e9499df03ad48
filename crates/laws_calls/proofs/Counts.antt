-- What became of the subtasks of a scope, counted.
use Rattle.std.proofs.Common.{◌≡◌, ℕ, List, [], ◌∷◌, Bool, true, false, Option, refl, sym, ◌∙◌, ap, length, map, arith, cond, ◌&&◌}
use Rattle.std.specs.Prelude.{count_by}
use Rattle.std.specs.List.{filter}
use Rattle.std.proofs.lemmas.List.Sums.{sum_by-cons}
use Rattle.std.proofs.lemmas.List.{length-map}
use Rattle.sts_code.specs.declared.instr.Kind.{Kind}
use Rattle.sts_code.specs.declared.instr.Kind.TheVariants.{S, F, U}
use Rattle.sts_model.specs.declared.event.End.{End}
use Rattle.sts_model.specs.World.{World, task_at, scope_at}
use Rattle.sts_model.specs.Living.{is_subtask, subtask_count, completion_of, parent, sub_state}
use Rattle.sts_model.specs.Effect.{tally}
use Rattle.laws_runs.proofs.TallyLemmas.{kinds}
use Rattle.laws_runs.specs.Tallies.{births, is_kind, is_in_state}
use Rattle.laws_runs.proofs.EffectLemmas.{some-is_in}
use Rattle.laws_calls.specs.Covers.{subs}
use Rattle.laws_calls.proofs.Turns.{Facts}

-- the states of the subtasks of a scope
abbrev pub states_in : World → ℕ → List (Option End)
states_in w s = map (completion_of (scope_at w s).completions) (subs w s)

-- the count over the subtasks is the count over all births
count_filter : (test inside : ℕ → Bool) (P : Option End → Bool) (f : ℕ → Option End) (us : List ℕ) → ((q : ℕ) → test q ≡ (inside q && P (f q))) → count_by P (map f (filter inside us)) ≡ count_by test us
count_filter test inside P f [] same = refl
count_filter test inside P f (q ∷ us) same = by (inside q) (same q) (count_filter test inside P f us same)
  where
    by : (b : Bool) → test q ≡ (b && P (f q)) → count_by P (map f (filter inside us)) ≡ count_by test us → count_by P (map f (cond b (q ∷ filter inside us) (filter inside us))) ≡ count_by test (q ∷ us)
    by true e rest =
        let a = sum_by-cons (λ y. cond (P y) 1 0) (f q) (map f (filter inside us)) in
        let b = sum_by-cons (λ y. cond (test y) 1 0) q us in
        let here : cond {A = ℕ} (test q) 1 0 ≡ cond (P (f q)) 1 0 = ap (λ z. cond z 1 0) e in
        omega (arith, a, b, here, rest)
    by false e rest =
        let b = sum_by-cons (λ y. cond (test y) 1 0) q us in
        let here : cond {A = ℕ} (test q) 1 0 ≡ 0 = ap (λ z. cond z 1 0) e in
        omega (arith, b, here, rest)

in_state : (w : World) (s : ℕ) (kind : Kind) (q : ℕ) → is_in_state w s kind q ≡ (is_subtask s (task_at w q) && is_kind kind (completion_of (scope_at w s).completions q))
in_state w s kind q = by (is_subtask s (task_at w q)) refl
  where
    by : (b : Bool) → is_subtask s (task_at w q) ≡ b → (b && is_kind kind (sub_state w q)) ≡ (b && is_kind kind (completion_of (scope_at w s).completions q))
    by true e = ap (λ (o : Option ℕ). is_kind kind (completion_of (parent w o).completions q)) (some-is_in s (task_at w q).scope e)
    by false e = refl

-- `tally` counts these states
pub tally_states : (w : World) → Facts w → (s : ℕ) (kind : Kind) → tally w s kind ≡ count_by (is_kind kind) (states_in w s)
tally_states w h s kind =
    (h.tallied s).each kind
    ∙ sym (count_filter (is_in_state w s kind) (λ q. is_subtask s (task_at w q)) (is_kind kind) (completion_of (scope_at w s).completions) (births w) (in_state w s kind))

-- the subtasks are as many as `join` counts
pub subs_count : (w : World) → Facts w → (s : ℕ) → subtask_count w s ≡ length (subs w s)
subs_count w h s =
    let all = (h.tallied s).all in
    let a = tally_states w h s S in
    let b = tally_states w h s F in
    let c = tally_states w h s U in
    let k = kinds (states_in w s) in
    let long = length-map (subs w s) (completion_of (scope_at w s).completions) in
    omega (arith, all, a, b, c, k, long)
