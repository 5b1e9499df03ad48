-- The view of the plain machine after a list of events.
use Rattle.std.proofs.Common.{◌≡◌, ℕ, ◌+◌, ◌-◌, ◌≤◌, ◌^◌, List, [], ◌∷◌, length, fold, min, Bool, true, false, cond, ◌&&◌, arith, ap, ◌∙◌}
use Rattle.sts_code.specs.Program.{Program}
use Rattle.sts_model.specs.declared.event.Event.{Event}
use Rattle.sts_model.specs.World.{State}
use Rattle.sts_model.specs.Run.{apply, counts, is_step, taken_from}
use Rattle.sts_plain.specs.Seen.{Seen, after_event, one_more}
use Rattle.laws_words.proofs.BoolLemmas.{at_most_one}

abbrev same : Program → State → ℕ → Seen
same p state n = record { program = p; state = state; steps = n }

at_most : (b : Bool) (n : ℕ) → n ≤ 2 ^ 64 - 1 → one_more b n ≤ 2 ^ 64 - 1
at_most true n h = omega arith
at_most false n h = h

-- two sums up to the greatest u64 are one
summed : (b : Bool) (n t : ℕ) → n ≤ 2 ^ 64 - 1 → min (one_more b n + t) (2 ^ 64 - 1) ≡ min (n + (cond b 1 0 + t)) (2 ^ 64 - 1)
summed true n t h = omega arith
summed false n t h = omega arith

-- the state after all events, and the steps taken
pub seen_after : (es : List Event) (p : Program) (state : State) (n : ℕ) → n ≤ 2 ^ 64 - 1 → fold after_event (record { program = p; state = state; steps = n }) es ≡ record { program = p; state = fold (apply p) state es; steps = min (n + taken_from p state es) (2 ^ 64 - 1) }
seen_after [] p state n h = let e : n ≡ min (n + 0) (2 ^ 64 - 1) = omega arith in ap (λ (m : ℕ). same p state m) e
seen_after (e ∷ es) p state n h =
    seen_after es p (apply p state e) (one_more (is_step e && counts p state e) n) (at_most (is_step e && counts p state e) n h)
    ∙ ap (λ (m : ℕ). same p (fold (apply p) (apply p state e) es) m) (summed (is_step e && counts p state e) n (taken_from p (apply p state e) es) h)

-- no more steps are taken than there are events
pub taken_few : (es : List Event) (p : Program) (state : State) → taken_from p state es ≤ length es
taken_few [] p state = omega arith
taken_few (e ∷ es) p state =
    let one = at_most_one (is_step e && counts p state e) in
    let more = taken_few es p (apply p state e) in
    omega arith
