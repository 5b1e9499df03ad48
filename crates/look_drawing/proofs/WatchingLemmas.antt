-- The worlds of a watched machine, one event apart.
use Rattle.std.proofs.Common.{◌≡◌, ℕ, List, [], ◌∷◌, ◌++◌, Bool, true, false, refl, sym, ap, ◌&&◌, fold, subst}
use Rattle.std.specs.Prelude.{◌==◌}
use Rattle.sts_code.specs.Program.{Program}
use Rattle.sts_model.specs.declared.event.Event.{Event}
use Rattle.sts_model.specs.World.{World, State, Running, Faulted, no_scope, opening}
use Rattle.sts_model.specs.Run.{after, apply}
use Rattle.laws_runs.specs.Runs.{In}
use Rattle.laws_runs.proofs.EventLemmas.{Also, Right, right-after}
use Rattle.laws_runs.proofs.OrderlyLemmas.{Orderly, orderly-after}
use Rattle.laws_runs.proofs.RunLemmas.{after-append}
use Rattle.look_lines.specs.Watched.{Watched, after_event, last_from, last_of, last_world, no_world, watched}
use Rattle.look_drawing.specs.Place.{is_open_of}
use Rattle.look_drawing.specs.Present.{AreHeld, Follows}
use Rattle.look_drawing.proofs.Following.{follows-apply}
use Rattle.look_drawing.proofs.Holding.{held-orderly}
use Rattle.look_drawing.proofs.ListingLemmas.{follows-refl}

-- while a machine runs, its world is the last one
last_running : (p : Program) (before : World) (state : State) (es : List Event) (w : World) → fold (apply p) state es ≡ Running w → last_from p before state es ≡ w
last_running p before state [] w e = ap (last_of before) e
last_running p before state (x ∷ xs) w e = last_running p (last_of before state) (apply p state x) xs w e

-- the world after one event more
follows_next : (p : Program) (done : List Event) (e : Event) → Follows (last_world p done) (last_of (last_world p done) (apply p (after p done) e))
follows_next p done e = by (after p done) refl (right-after p done)
  where
    step : (w : World) (state : State) → In (Follows w) state → Follows w (last_of w state)
    step w (Running v) h = h
    step w (Faulted kind t f pc) h = follows-refl w

    by : (state : State) → after p done ≡ state → In Right state → Follows (last_world p done) (last_of (last_world p done) (apply p state e))
    by (Running w) is h =
        let last = last_running p no_world (opening p) done w is in
        subst (λ (v : World). Follows v (last_of v (apply p (Running w) e))) (sym last) (step w (apply p (Running w) e) (follows-apply p w e h))
    by (Faulted kind t f pc) is h = follows-refl (last_world p done)

-- ---- structure lists

held_of : (p : Program) (before : World) (state : State) → AreHeld before → In (Also Orderly) state → AreHeld (last_of before state)
held_of p before (Running w) h k = held-orderly p w k
held_of p before (Faulted kind t f pc) h k = h

held_from : (p : Program) (done es : List Event) (before : World) → AreHeld before → AreHeld (last_from p before (after p done) es)
held_from p done [] before h = held_of p before (after p done) h (orderly-after p done)
held_from p done (e ∷ es) before h =
    subst (λ (state : State). AreHeld (last_from p (last_of before (after p done)) state es)) (after-append p done (e ∷ []))
    (held_from p (done ++ e ∷ []) es (last_of before (after p done)) (held_of p before (after p done) h (orderly-after p done)))

no_owner : (t : ℕ) → is_open_of t no_scope ≡ false
no_owner t = by (0 == t)
  where
    by : (b : Bool) → (b && false) ≡ false
    by true = refl
    by false = refl

held_last : (p : Program) (es : List Event) → AreHeld (last_world p es)
held_last p es = held_from p [] es no_world (record { entered = λ t s alive. cc; resting = λ t s dead. no_owner t })

-- ---- watched machines

pub follows_watched : (p : Program) (done : List Event) (e : Event) (before w : Watched) → before ≡ watched p done → w ≡ after_event (watched p done) e → Follows before.last w.last
follows_watched p done e before w is made =
    subst (λ (x : Watched). Follows before.last x.last) (sym made)
    (subst (λ (x : Watched). Follows x.last (after_event (watched p done) e).last) (sym is) (follows_next p done e))

pub held_watched : (p : Program) (es : List Event) (w : Watched) → w ≡ watched p es → AreHeld w.last
held_watched p es w is = subst (λ (x : Watched). AreHeld x.last) (sym is) (held_last p es)
