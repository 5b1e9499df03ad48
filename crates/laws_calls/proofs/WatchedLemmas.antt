-- Watched tasks.
use Rattle.std.proofs.Common.{◌≡◌, ◌≢◌, ℕ, ◌<◌, ◌⊎◌, inl, inr, [], ◌∷◌, ◌++◌, Bool, true, false, Some, refl, sym, ◌∙◌, ap, subst, length, arith}
use Rattle.laws_calls.proofs.Lists.{no}
use Rattle.sts_model.specs.declared.event.Event.{Event}
use Rattle.sts_model.specs.declared.event.Event.TheVariants as event
use Rattle.sts_model.specs.World.{World, State, Running, Faulted, task_at, scope_at}
use Rattle.sts_model.specs.Run.{after}
use Rattle.laws_runs.specs.Flags.{IsCancelled}
use Rattle.laws_runs.specs.Runs.{Between, Each}
use Rattle.laws_runs.proofs.EventLemmas.{Right, Next, next-leads, each}
use Rattle.laws_runs.proofs.FlagLemmas.{flags_have_cause}
use Rattle.laws_calls.specs.Covers.{Watched, watched_root, watched_sub}
use Rattle.laws_calls.specs.Watching.{WatchedWasWatched, WatchedIsNotCancelled}

-- ---- one event, from w to v

module _ (w v : World) (h : Right w) (n : Next w v) where
  same_scope : (u : ℕ) → u < length w.tasks → (task_at v u).scope ≡ (task_at w u).scope
  same_scope u born = (n.later.task u born).same.scope

  going : (s : ℕ) → s < length w.scopes → (scope_at v s).cancelled ≡ false → (scope_at w s).cancelled ≡ false
  going s born e = by (scope_at w s).cancelled refl
    where
      by : (b : Bool) → (scope_at w s).cancelled ≡ b → b ≡ false
      by false d = refl
      by true d = absurd (no (sym ((n.later.scope s born).marks.cancelled d) ∙ e))

  pub watched_before : (u : ℕ) → u < length w.tasks → Watched v u → Watched w u
  watched_before u born watched_root = watched_root
  watched_before u born (watched_sub s inside free owner) =
      let inside_w : (task_at w u).scope ≡ Some s = sym (same_scope u born) ∙ inside in
      let b = h.sound.born u s inside_w in
      let less = b.1 in
      let same : (scope_at v s).owner ≡ (scope_at w s).owner = (n.later.scope s b.0).same.owner in
      let before : Watched w (scope_at v s).owner = watched_before (scope_at v s).owner (omega (arith, same, less, born)) owner in
      watched_sub s inside_w (going s b.0 free) (subst (λ o. Watched w o) same before)

  -- a task of a scope that was cancelled is not watched
  pub never : (u s : ℕ) → u < length w.tasks → (task_at w u).scope ≡ Some s → (scope_at v s).cancelled ≡ true → Watched v u → ⊥
  never u s born inside gone watched_root = let b = h.sound.born u s inside in let less = b.1 in omega (arith, less)
  never u s born inside gone (watched_sub r inside_v free owner) =
      let same : Some r ≡ Some s = sym inside_v ∙ same_scope u born ∙ inside in
      let one : r ≡ s = cc in
      no (sym gone ∙ ap (λ q. (scope_at v q).cancelled) (sym one) ∙ free)

  flag_stays : (e : Event) (u : ℕ)
      → ((task_at w u).flag ≡ false → (task_at v u).flag ≡ true → (e ≡ event.Interrupt u) ⊎ ((s : ℕ) × ((task_at w u).scope ≡ Some s) × IsCancelled w v s))
      → u < length w.tasks → Watched v u → e ≢ event.Interrupt u → (task_at w u).flag ≡ false → (task_at v u).flag ≡ false
  flag_stays e u cause born watched other before = by (task_at v u).flag refl
    where
      caused : (e ≡ event.Interrupt u) ⊎ ((s : ℕ) × ((task_at w u).scope ≡ Some s) × IsCancelled w v s) → ⊥
      caused (inl same) = other same
      caused (inr c) = never u c.0 born c.1 c.2.after watched

      by : (b : Bool) → (task_at v u).flag ≡ b → b ≡ false
      by false d = refl
      by true d = absurd (caused (cause before d))

-- ---- laws

pub watched_was_watched : WatchedWasWatched
watched_was_watched =
    each (λ p w e v. (u : ℕ) → u < length w.tasks → Watched v u → Watched w u)
    (λ p. record {
      nothing = λ w t h still u born watched. watched;
      effect = λ w t i h d u born watched. watched_before w _ h ((next-leads p).effect w t i h d) u born watched;
      interrupt = λ w t h u born watched. watched_before w _ h ((next-leads p).interrupt w t h) u born watched;
      expire = λ w s h u born watched. watched_before w _ h ((next-leads p).expire w s h) u born watched;
    })

abbrev FlagsSaid : World → Event → World → Type 0
FlagsSaid w e v = (u : ℕ) → (task_at w u).flag ≡ false → (task_at v u).flag ≡ true → (e ≡ event.Interrupt u) ⊎ ((s : ℕ) × ((task_at w u).scope ≡ Some s) × IsCancelled w v s)

abbrev Unflagged : World → Event → World → Type 0
Unflagged w e v = (u : ℕ) → u < length w.tasks → Watched v u → e ≢ event.Interrupt u → (task_at w u).flag ≡ false → (task_at v u).flag ≡ false

-- with what is known of flags as a premise
unflagged : Each (λ p w e v. FlagsSaid w e v → Unflagged w e v)
unflagged =
    each (λ p w e v. FlagsSaid w e v → Unflagged w e v)
    (λ p. record {
      nothing = λ w t h still said u born watched other before. before;
      effect = λ w t i h d said u born watched other before. flag_stays w _ h ((next-leads p).effect w t i h d) (event.Step t) u (said u) born watched other before;
      interrupt = λ w t h said u born watched other before. flag_stays w _ h ((next-leads p).interrupt w t h) (event.Interrupt t) u (said u) born watched other before;
      expire = λ w s h said u born watched other before. flag_stays w _ h ((next-leads p).expire w s h) (event.Expire s) u (said u) born watched other before;
    })

both : (e : Event) (a b : State) → Between (λ w v. FlagsSaid w e v → Unflagged w e v) a b → Between (λ w v. FlagsSaid w e v) a b → Between (λ w v. Unflagged w e v) a b
both e (Running w) (Running v) law said = law said
both e (Running w) (Faulted kind t f pc) law said = tt
both e (Faulted kind t f pc) b law said = tt

pub watched_is_not_cancelled : WatchedIsNotCancelled
watched_is_not_cancelled p events e = both e (after p events) (after p (events ++ e ∷ [])) (unflagged p events e) (flags_have_cause p events e)
