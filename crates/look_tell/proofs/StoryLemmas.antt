-- For callers: the machine of a story that goes on whether events count or not.
use Rattle.std.proofs.Common.{◌≡◌, ℕ, ◌+◌, ◌<◌, ◌≤◌, ◌-◌, ◌^◌, List, [], ◌∷◌, ◌++◌, fold, Bool, false, cond, refl, sym, ap, ◌∙◌, arith, take, get_or, length, append_assoc, length-append, subst}
use Rattle.std.proofs.lemmas.List.{append-nil, length-take-le, take_more}
use Rattle.std.proofs.lemmas.List.Sums.{fold-append}
use Rattle.sts_code.specs.Program.{Program}
use Rattle.sts_model.specs.declared.event.Event.{Event}
use Rattle.look_lines.specs.Watched.{after_event, watched}
use Rattle.look_lines.proofs.WatchedLemmas.{watched_one_more}
use Rattle.look_tell.specs.Story.{Story, after_events, begun, next, one_more}

-- a story that hasn't stopped goes on
pub goes_on : (s : Story) (e : Event) → s.stopped ≡ false → next false s e ≡ one_more false s e
unfolding next
goes_on s e h = ap (λ (b : Bool). cond b s (one_more false s e)) h

-- one more event of a list
pub after_next : (p : Program) (es : List Event) (i : ℕ) (d : Event) → i < length es → next false (after_events p (take i es)) (get_or es i d) ≡ after_events p (take (i + 1) es)
after_next p es i d inside = sym (ap (after_events p) (take_more es i d inside) ∙ fold-append (next false) (begun p) (take i es) (get_or es i d ∷ []))

-- a story has no last event: it never stops, and its machine is the watched one
pub record Runs (s : Story) : Type 0 where
  pub runs : s.stopped ≡ false

pub runs_on : (s : Story) (e : Event) → Runs s → Runs (next false s e)
runs_on s e h = record { runs = ap (λ (x : Story). x.stopped) (goes_on s e h.runs) }

pub watched_on : (s : Story) (e : Event) → Runs s → (next false s e).watched ≡ after_event s.watched e
watched_on s e h = ap (λ (x : Story). x.watched) (goes_on s e h.runs)

-- after a list of events
runs_from : (s : Story) (es : List Event) → Runs s → Runs (fold (next false) s es)
runs_from s [] h = h
runs_from s (e ∷ es) h = runs_from (next false s e) es (runs_on s e h)

pub runs_after : (p : Program) (es : List Event) → Runs (after_events p es)
runs_after p es = runs_from (begun p) es (record { runs = refl })

watched_from : (p : Program) (s : Story) (done es : List Event) → Runs s → s.watched ≡ watched p done → length done + length es ≤ 2 ^ 64 - 1 → (fold (next false) s es).watched ≡ watched p (done ++ es)
watched_from p s done [] h is short = is ∙ ap (watched p) (sym (append-nil done))
watched_from p s done (e ∷ es) h is short =
    let here : length done < 2 ^ 64 - 1 = omega (arith, short) in
    let n = length-append done (e ∷ []) in
    watched_from p (next false s e) (done ++ e ∷ []) es (runs_on s e h)
    (watched_on s e h ∙ ap (λ w. after_event w e) is ∙ watched_one_more p done e here)
    (omega (arith, short, n))
    ∙ ap (watched p) (append_assoc done (e ∷ []) es)

pub watched_after : (p : Program) (es : List Event) → length es ≤ 2 ^ 64 - 1 → (after_events p es).watched ≡ watched p es
watched_after p es short = watched_from p (begun p) [] es (record { runs = refl }) refl (omega (arith, short))

-- ---- events of a slice, one after another

-- the machine of a story after the first of them
pub watched_taken : (p : Program) (es : List Event) (i : ℕ) (s : Story) → i ≤ length es → length es ≤ 2 ^ 64 - 1 → s ≡ after_events p (take i es) → s.watched ≡ watched p (take i es)
watched_taken p es i s less short is =
    let n : length (take i es) ≡ i = length-take-le i es less in
    ap (λ (x : Story). x.watched) is ∙ watched_after p (take i es) (omega (arith, short, n, less))

-- the machine of a story after one event more
pub watched_told : (p : Program) (es : List Event) (i : ℕ) (e : Event) (s v : Story) → i ≤ length es → length es ≤ 2 ^ 64 - 1 → s ≡ after_events p (take i es) → v ≡ next false s e → v.watched ≡ after_event (watched p (take i es)) e
watched_told p es i e s v less short is made =
    ap (λ (x : Story). x.watched) made
    ∙ watched_on s e (subst Runs (sym is) (runs_after p (take i es)))
    ∙ ap (λ w. after_event w e) (watched_taken p es i s less short is)
