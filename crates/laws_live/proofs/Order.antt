-- Every live view of every run is in order.
use Rattle.std.proofs.Common.{◌≡◌, ℕ, ◌<◌, List, [], ◌++◌, Bool, true, false, Option, Some, None, refl, sym, ◌∙◌, ap, subst, length, arith}
use Rattle.std.specs.Prelude.{is_some, unwrap_or, filter_map}
use Rattle.std.specs.List.{list_any}
use Rattle.sts_code.specs.Program.{Program}
use Rattle.sts_model.specs.declared.event.Event.{Event}
use Rattle.sts_model.specs.declared.record.Slot.TheVariants.{Own}
use Rattle.sts_model.specs.declared.record.Frame.{Frame}
use Rattle.sts_model.specs.World.{World, State, Running, Faulted, task_at, scope_at, opening}
use Rattle.sts_model.specs.declared.record.Bound as bound
use Rattle.sts_model.specs.Environment.{bound_of}
use Rattle.sts_model.specs.Living.{lives, is_closed, completion_of, parent}
use Rattle.sts_model.specs.Standing.{stands_in}
use Rattle.sts_model.specs.Misuse.{slot, is_entry_of}
use Rattle.sts_model.specs.Run.{after}
use Rattle.sts_model.specs.Live.{LiveTask, LiveScope, Alive, live, shown_scope}
use Rattle.laws_runs.specs.States.{IsHeldBy}
use Rattle.laws_runs.specs.Runs.{In, Between}
use Rattle.laws_runs.specs.Stays.{KeepsBorn}
use Rattle.laws_runs.proofs.StayLemmas.{nothing_is_lost}
use Rattle.laws_runs.proofs.StateLemmas.{owners_hold}
use Rattle.laws_runs.specs.Scopes.{IsEntered}
use Rattle.laws_runs.proofs.ScopeLemmas.{entries_are_open}
use Rattle.laws_live.specs.Reading.{scope_in, live_task_at, live_scope_at, alive_at, no_live_task}
use Rattle.laws_live.proofs.ViewLemmas.{task_here, scope_here, scope_is, task_is, alive_is, lives_is, task_gone, scope_gone}
use Rattle.laws_runs.proofs.SoundLemmas.{born_open, stands_alive}
use Rattle.laws_live.proofs.EndLemmas.{open_some, untold}
use Rattle.laws_live.proofs.EffectLemmas.{Facts}
use Rattle.laws_runs.proofs.SlotLemmas.{IsSubOf, IsNamed, Named, named-after}
use Rattle.laws_live.proofs.LawLemmas.{facts}
use Rattle.laws_runs.proofs.EventLemmas.{Also}
use Rattle.laws_live.specs.Order.{IsOwned, IsOwnSub, outer_in, LivesInOrder, IsHeld, IsInside, InOrder, SeenInOrder}

-- all that is known of a state
record Known (w : World) : Type 0 where
  pub facts : Facts w
  pub named : Named w
  pub entered : (t s : ℕ) → lives (task_at w t) ≡ true → list_any (is_entry_of s) (task_at w t).frame.entries ≡ true → IsEntered w t s
  pub held : (s : ℕ) → s < length w.scopes → is_closed (scope_at w s).phase ≡ false → (lives (task_at w (scope_at w s).owner) ≡ true) × (list_any (is_entry_of s) (task_at w (scope_at w s).owner).frame.entries ≡ true)
  pub main : (0 < length w.tasks) × ((task_at w 0).scope ≡ None)

-- a scope that isn't closed is in the view
stands_open : (w : World) (s : ℕ) → is_closed (scope_at w s).phase ≡ false → is_some (scope_in (live w) s) ≡ true
stands_open w s still = rw (scope_here w s (born_open w s still), still) refl

open_stands : (w : World) (s : ℕ) → is_some (scope_in (live w) s) ≡ true → is_closed (scope_at w s).phase ≡ false
open_stands w s stands = by (is_closed (scope_at w s).phase) refl
  where
    by : (b : Bool) → is_closed (scope_at w s).phase ≡ b → b ≡ false
    by false e = refl
    by true e = let none : is_some (scope_in (live w) s) ≡ false = ap (λ (o : Option LiveScope). is_some o) (scope_gone w s e) in cc

owned : (w : World) (t s : ℕ) → is_closed (scope_at w s).phase ≡ false → (scope_at w s).owner ≡ t → IsOwned (live w) t s
owned w t s still mine =
    let is : live_scope_at (live w) s ≡ shown_scope (scope_at w s) = scope_is w s still in
    record {
      stands = stands_open w s still;
      owner = ap (λ (scope : LiveScope). scope.owner) is ∙ mine;
      still = ap (λ (scope : LiveScope). is_closed scope.phase) is ∙ still;
    }

-- the view shows the scope of each task that counts
scope_seen : (w : World) (u : ℕ) → stands_in w (task_at w u).scope ≡ true → (live_task_at (live w) u).scope ≡ (task_at w u).scope
scope_seen w u stands = ap (λ (task : LiveTask). task.scope) (task_is w u stands)

sub_owned : (w : World) (t u : ℕ) → IsSubOf w t u → IsOwnSub (live w) t u
sub_owned w t u h =
    let still = h.still in
    let stands : stands_in w (task_at w u).scope ≡ true = rw (h.inside, still) refl in
    record { scope = h.scope; inside = scope_seen w u stands ∙ h.inside; owned = owned w t h.scope still h.owner }

outer_is : (w : World) (q : Option ℕ) → stands_in w q ≡ true → (parent w q).environment ≡ outer_in (live w) q
outer_is w None stands = refl
outer_is w (Some s) stands = ap (λ (scope : LiveScope). scope.environment) (sym (scope_is w s (open_some w s stands)))

-- a living task has no completion
no_state : (w : World) (t : ℕ) (q : Option ℕ) → Facts w → lives (task_at w t) ≡ true → completion_of (parent w q).completions t ≡ None
no_state w t None o alive = refl
no_state w t (Some s) o alive = untold w t s o.told alive

lives_in_order : (w : World) (t : ℕ) → Known w → lives (task_at w t) ≡ true → LivesInOrder (live w) t
lives_in_order w t k alive =
    record {
      own = λ x s e.
          let is : slot (task_at w t).frame x ≡ Own s = ap (λ (f : Frame). slot f x) (sym frame) ∙ e in
          owned w t s (subst (IsNamed w t) is (k.named t x alive)) (k.facts.sound.own t x s is).owner;
      lent = λ x s e.
          let is = ap (λ (f : Frame). slot f x) (sym frame) ∙ e in
          scope_seen w t stands ∙ subst (IsNamed w t) is (k.named t x alive);
      sub = λ x u e.
          let is = ap (λ (f : Frame). slot f x) (sym frame) ∙ e in
          sub_owned w t u (subst (IsNamed w t) is (k.named t x alive));
      entered = λ s e.
          let h = k.entered t s alive (ap (λ (f : Frame). list_any (is_entry_of s) f.entries) (sym frame) ∙ e) in
          owned w t s h.still h.owner;
      once = λ s e.
          let h = k.entered t s alive (ap (λ (f : Frame). list_any (is_entry_of s) f.entries) (sym frame) ∙ e) in
          rw frame h.once;
      environment =
          ap (λ (a : Alive). a.environment) (alive_is w t k.facts.sound alive)
          ∙ ap (λ (l : List bound.Bound). filter_map bound_of (task_at w t).frame.entries ++ l) (outer_is w (task_at w t).scope stands ∙ ap (outer_in (live w)) (sym (scope_seen w t stands)))
          ∙ ap (λ (f : Frame). filter_map bound_of f.entries ++ outer_in (live w) (live_task_at (live w) t).scope) (sym frame);
      state = ap (λ (task : LiveTask). task.state) (task_is w t stands) ∙ no_state w t (task_at w t).scope k.facts alive;
    }
  where
    stands : stands_in w (task_at w t).scope ≡ true
    stands = stands_alive w t k.facts.sound alive

    frame : (alive_at (live w) t).frame ≡ (task_at w t).frame
    frame = ap (λ (a : Alive). a.frame) (alive_is w t k.facts.sound alive)

is_held : (w : World) (s : ℕ) → Known w → is_closed (scope_at w s).phase ≡ false → IsHeld (live w) s
is_held w s k still =
    let h = k.held s (born_open w s still) still in
    let owner : (live_scope_at (live w) s).owner ≡ (scope_at w s).owner = ap (λ (scope : LiveScope). scope.owner) (scope_is w s still) in
    record {
      alive = rw (owner, lives_is w (scope_at w s).owner k.facts.sound) h.0;
      entry = rw (owner, alive_is w (scope_at w s).owner k.facts.sound h.0) h.1;
    }

is_inside : (w : World) (u s : ℕ) → Known w → (live_task_at (live w) u).scope ≡ Some s → IsInside (live w) u s
is_inside w u s k e = by (stands_in w (task_at w u).scope) refl
  where
    by : (b : Bool) → stands_in w (task_at w u).scope ≡ b → IsInside (live w) u s
    by true stands =
        let inside : (task_at w u).scope ≡ Some s = sym (scope_seen w u stands) ∙ e in
        let still = open_some w s (subst (λ (q : Option ℕ). stands_in w q ≡ true) inside stands) in
        record {
          stands = stands_open w s still;
          before = rw (scope_is w s still) (k.facts.sound.born u s inside).1;
        }
    by false f =
        let none : (live_task_at (live w) u).scope ≡ None = ap (λ o. (unwrap_or o no_live_task).scope) (task_gone w u f) in
        let never : None ≡ Some s = sym none ∙ e in
        cc

in_order : (w : World) → Known w → InOrder (live w)
in_order w k =
    record {
      alive = λ t e. lives_in_order w t k (sym (lives_is w t k.facts.sound) ∙ e);
      held = λ s e. is_held w s k (open_stands w s e);
      inside = λ u s e. is_inside w u s k e;
      root = let inside = k.main.1 in rw (task_here w 0 k.main.0, inside) refl;
    }

-- ---- what is known

root_stays : (p : Program) (events : List Event) → In (λ w. (0 < length w.tasks) × ((task_at w 0).scope ≡ None)) (after p events)
root_stays p events = by (after p events) (nothing_is_lost p [] events)
  where
    by : (state : State) → Between (λ w v. KeepsBorn w v) (opening p) state → In (λ w. (0 < length w.tasks) × ((task_at w 0).scope ≡ None)) state
    by (Running v) h = let n = h.tasks in (omega (arith, n), (h.task 0 (omega arith)).scope)
    by (Faulted kind t f pc) h = tt

in_order-after : (p : Program) (events : List Event) → In (λ w. InOrder (live w)) (after p events)
in_order-after p events = by (after p events) (named-after p events) (entries_are_open p events) (owners_hold p events) (root_stays p events)
  where
    by : (state : State) → In (Also Named) state → In (λ w. (t s : ℕ) → lives (task_at w t) ≡ true → list_any (is_entry_of s) (task_at w t).frame.entries ≡ true → IsEntered w t s) state → In (λ w. (s : ℕ) → s < length w.scopes → is_closed (scope_at w s).phase ≡ false → IsHeldBy w s (scope_at w s).owner) state → In (λ w. (0 < length w.tasks) × ((task_at w 0).scope ≡ None)) state → In (λ w. InOrder (live w)) state
    by (Running w) h e o r = in_order w (record { facts = facts w h; named = h.also; entered = e; held = λ s born still. let k = o s born still in (k.alive, k.entry); main = r })
    by (Faulted kind t f pc) h e o r = tt

pub seen_in_order : SeenInOrder
seen_in_order p events v n h = subst InOrder h.view (subst (In (λ w. InOrder (live w))) h.runs (in_order-after p events))
