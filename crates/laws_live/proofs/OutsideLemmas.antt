-- Events from outside.
use Rattle.std.proofs.Common.{◌≡◌, ℕ, Bool, true, false, refl, sym, ◌∙◌, ap, cond, ◌&&◌, not, get_or-set_same}
use Rattle.std.specs.Prelude.{unwrap_or}
use Rattle.std.proofs.Math.Bool.{and-false}
use Rattle.sts_model.specs.declared.event.Phase.{Phase}
use Rattle.sts_model.specs.declared.event.Phase.TheVariants.{Closed}
use Rattle.sts_model.specs.declared.record.Scope.{Scope}
use Rattle.sts_model.specs.World.{World, task_at, scope_at, no_scope, with_task, with_scope}
use Rattle.sts_model.specs.Living.{lives, is_closed}
use Rattle.sts_model.specs.Misuse.{can_join}
use Rattle.sts_model.specs.Cancelling.{cancel}
use Rattle.sts_model.specs.Outside.{interrupt, can_expire, expire}
use Rattle.sts_model.specs.Live.{Live, LiveScope, live}
use Rattle.laws_runs.proofs.SoundLemmas.{Sound, born_open}
use Rattle.laws_runs.proofs.BirthLemmas.{born_alive}
use Rattle.laws_live.specs.Reading.{no_live_scope, live_scope_at, with_alive, with_live_scope}
use Rattle.laws_live.specs.Cancelling.{live_cancel}
use Rattle.laws_live.specs.Outside.{live_interrupt, live_can_expire, live_expire}
use Rattle.laws_live.proofs.ViewLemmas.{scope_is, lives_is, scope_gone}
use Rattle.laws_live.proofs.Changes.{seen-task, seen-scope, seen-cancel}
use Rattle.laws_live.proofs.EffectLemmas.{seen-cond}

pub seen-interrupt : (w : World) (t : ℕ) → Sound w → live (interrupt w t) ≡ live_interrupt (live w) t
seen-interrupt w t o =
    seen-cond (lives (task_at w t)) (with_task w t (record (task_at w t) { flag = true })) w (with_alive (live w) t (λ alive. record alive { flag = true })) (live w)
    (λ e. seen-task w t (task_at w t).frame true (λ alive. record alive { flag = true }) (born_alive w t e) refl)
    (λ e. refl)
    ∙ ap (λ b. cond b (with_alive (live w) t (λ alive. record alive { flag = true })) (live w)) (sym (lives_is w t o))

-- a closed scope can't expire
shut_joins : (phase : Phase) → is_closed phase ≡ true → can_join phase ≡ false
shut_joins Closed e = refl
shut_joins _ e = cc

-- which scopes can expire
pub can_expire_is : (w : World) (s : ℕ) → live_can_expire (live_scope_at (live w) s) ≡ can_expire (scope_at w s)
can_expire_is w s = by (is_closed (scope_at w s).phase) refl
  where
    by : (b : Bool) → is_closed (scope_at w s).phase ≡ b → live_can_expire (live_scope_at (live w) s) ≡ can_expire (scope_at w s)
    by false still = ap live_can_expire (scope_is w s still)
    by true closed =
        let shut : can_join (scope_at w s).phase ≡ false = shut_joins (scope_at w s).phase closed in
        let none : can_expire (scope_at w s) ≡ false = rw shut (and-false ((scope_at w s).timed && not (scope_at w s).expired)) in
        ap (λ o. live_can_expire (unwrap_or o no_live_scope)) (scope_gone w s closed) ∙ sym none

-- a scope that can expire isn't closed
pub open_timely : (w : World) (s : ℕ) → can_expire (scope_at w s) ≡ true → is_closed (scope_at w s).phase ≡ false
open_timely w s can = by (is_closed (scope_at w s).phase) refl
  where
    by : (b : Bool) → is_closed (scope_at w s).phase ≡ b → b ≡ false
    by false e = refl
    by true e =
        let shut : can_join (scope_at w s).phase ≡ false = shut_joins (scope_at w s).phase e in
        let none : can_expire (scope_at w s) ≡ false = rw shut (and-false ((scope_at w s).timed && not (scope_at w s).expired)) in
        cc

pub seen-expire : (w : World) (s : ℕ) → live (expire w s) ≡ live_expire (live w) s
seen-expire w s =
    seen-cond (can_expire (scope_at w s)) (cancel v s) w (live_cancel (with_live_scope (live w) s mark) s) (live w)
    (λ can.
    let still = open_timely w s can in
    let still_v : is_closed (scope_at v s).phase ≡ false = rw (get_or-set_same w.scopes s y no_scope (born_open w s still)) still in
    seen-cancel v s still_v ∙ ap (λ (view : Live). live_cancel view s) (seen-scope w s y mark still (record { stands = refl; completions = refl; environment = refl }) refl))
    (λ e. refl)
    ∙ ap (λ b. cond b (live_cancel (with_live_scope (live w) s mark) s) (live w)) (sym (can_expire_is w s))
  where
    y : Scope
    y = record (scope_at w s) { expired = true }

    v : World
    v = with_scope w s y

    mark : LiveScope → LiveScope
    mark scope = record scope { expired = true }
