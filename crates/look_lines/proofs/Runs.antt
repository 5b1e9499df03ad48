-- What is written of a list of events, event by event.
use Rattle.std.proofs.Common.{◌≡◌, ℕ, ◌+◌, ◌-◌, ◌≤◌, ◌<◌, ◌^◌, List, ◌++◌, length, arith, ap, ap₂, sym, ◌∙◌, append_assoc, take, drop, get_or}
use Rattle.std.proofs.lemmas.List.{take_more, length-take-le, drop_more}
use Rattle.sts_code.specs.Program.{Program}
use Rattle.sts_model.specs.declared.event.Event.{Event}
use Rattle.sts_model.specs.Run.{after, counts}
use Rattle.look_lines.proofs.WatchedLemmas.{watched_one_more}
use Rattle.look_lines.specs.Views.{View, view_of_event, views_from}
use Rattle.look_lines.specs.Watched.{Watched, after_event, watched}
use Rattle.look_lines.specs.declared.watch.Applied.{Applied}

-- an event with this number, at this state
abbrev told : View → ℕ → Event → Watched → List ℕ
told v n e w = v.event (record { number = n; event = e; is_counted = counts w.program w.state e }) (after_event w e)

-- the bytes for the rest begin with those for the first event
pub views_next : (v : View) (p : Program) (es : List Event) (i : ℕ) (d : Event) → i < length es → length es ≤ 2 ^ 64 - 1 → views_from v p (take i es) (drop i es) ≡ told v (i + 1) (get_or es i d) (watched p (take i es)) ++ views_from v p (take (i + 1) es) (drop (i + 1) es)
views_next v p es i d inside short =
    let n : length (take i es) ≡ i = length-take-le i es (omega (arith, inside)) in
    let few : length (take i es) < 2 ^ 64 - 1 = omega (arith, n) in
    let more = take_more es i d inside in
    let view = λ (m : ℕ) (w : Watched). v.event (record { number = m; event = get_or es i d; is_counted = counts p (after p (take i es)) (get_or es i d) }) w in
    let first : view_of_event v p (take i es) (get_or es i d) ≡ view (i + 1) (after_event (watched p (take i es)) (get_or es i d)) =
    ap₂ view (ap (λ (m : ℕ). m + 1) n) (sym (watched_one_more p (take i es) (get_or es i d) few)) in
    ap (views_from v p (take i es)) (drop_more es i d inside)
    ∙ ap₂ (λ b done. b ++ views_from v p done (drop (i + 1) es)) first (sym more)

-- after one more event, what is written and the rest are still all of it
pub one_event_more : (v : View) (p : Program) (es : List Event) (i : ℕ) (d : Event) (old new all : List ℕ) (w next : Watched) (a : Applied) → i < length es → length es ≤ 2 ^ 64 - 1 → w ≡ watched p (take i es)
    → a ≡ record { number = i + 1; event = get_or es i d; is_counted = counts w.program w.state (get_or es i d) } → next ≡ after_event w (get_or es i d) → new ≡ old ++ v.event a next
    → old ++ views_from v p (take i es) (drop i es) ≡ all → new ++ views_from v p (take (i + 1) es) (drop (i + 1) es) ≡ all
one_event_more v p es i d old new all w next a inside short stands applied after_it written before =
    let here : Watched → List ℕ = told v (i + 1) (get_or es i d) in
    let rest : List ℕ = views_from v p (take (i + 1) es) (drop (i + 1) es) in
    ap (λ xs. xs ++ rest) (written ∙ ap (λ xs. old ++ xs) (ap₂ v.event applied after_it ∙ ap here stands))
    ∙ append_assoc old (here (watched p (take i es))) rest
    ∙ ap (λ xs. old ++ xs) (sym (views_next v p es i d inside short))
    ∙ before
