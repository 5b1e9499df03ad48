-- The view of a watched machine, event by event.
use Rattle.std.proofs.Common.{◌≡◌, ℕ, ◌+◌, ◌-◌, ◌≤◌, ◌<◌, ◌^◌, List, [], ◌∷◌, ◌++◌, length, fold, Bool, true, false, cond, ◌&&◌, refl, arith, ap, ap₂, sym, ◌∙◌, take, get_or}
use Rattle.std.proofs.lemmas.List.{take_more, length-take-le}
use Rattle.sts_code.specs.Program.{Program}
use Rattle.sts_model.specs.declared.event.Event.{Event}
use Rattle.sts_model.specs.World.{World, State, opening}
use Rattle.sts_model.specs.Run.{after, apply, counts, is_step, taken}
use Rattle.laws_runs.proofs.RunLemmas.{after-append, taken_one_more}
use Rattle.sts_plain.specs.Seen.{one_more}
use Rattle.sts_output.proofs.RunLemmas.{taken_few}
use Rattle.look_lines.specs.Watched.{Watched, after_event, last_from, last_of, last_world, no_world, watched}

-- the world as it last ran, after one event more
last_one_more : (p : Program) (before : World) (state : State) (events : List Event) (e : Event) → last_from p before state (events ++ e ∷ []) ≡ last_of (last_from p before state events) (apply p (fold (apply p) state events) e)
last_one_more p before state [] e = refl
last_one_more p before state (x ∷ xs) e = last_one_more p (last_of before state) (apply p state x) xs e

counted : (b : Bool) (n : ℕ) → n < 2 ^ 64 - 1 → one_more b n ≡ n + cond b 1 0
counted true n h = omega arith
counted false n h = omega arith

abbrev seen : Program → State → World → ℕ → Watched
seen p state last n = record { program = p; state = state; last = last; steps = n }

-- what is seen after one event more
pub watched_one_more : (p : Program) (done : List Event) (e : Event) → length done < 2 ^ 64 - 1 → after_event (watched p done) e ≡ watched p (done ++ e ∷ [])
watched_one_more p done e h =
    let few : taken p done < 2 ^ 64 - 1 = let f = taken_few done p (opening p) in omega (arith, f) in
    let state_is : apply p (after p done) e ≡ after p (done ++ e ∷ []) = sym (after-append p done (e ∷ [])) in
    let last_is : last_of (last_world p done) (apply p (after p done) e) ≡ last_world p (done ++ e ∷ []) = sym (last_one_more p no_world (opening p) done e) in
    let steps_is : one_more (is_step e && counts p (after p done) e) (taken p done) ≡ taken p (done ++ e ∷ []) =
    counted (is_step e && counts p (after p done) e) (taken p done) few ∙ sym (taken_one_more p (opening p) done e) in
    ap (λ s. seen p s (last_of (last_world p done) (apply p (after p done) e)) (one_more (is_step e && counts p (after p done) e) (taken p done))) state_is
    ∙ ap₂ (λ w n. seen p (after p (done ++ e ∷ [])) w n) last_is steps_is

-- ---- events of a slice, one after another

-- what is seen after one more of them
pub watched_next : (p : Program) (es : List Event) (i : ℕ) (d : Event) → i < length es → length es ≤ 2 ^ 64 - 1 → after_event (watched p (take i es)) (get_or es i d) ≡ watched p (take (i + 1) es)
watched_next p es i d inside short =
    let few : length (take i es) < 2 ^ 64 - 1 = let n : length (take i es) ≡ i = length-take-le i es (omega (arith, inside)) in omega (arith, n) in
    watched_one_more p (take i es) (get_or es i d) few ∙ ap (watched p) (sym (take_more es i d inside))
