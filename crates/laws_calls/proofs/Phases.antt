-- A scope is cancelled, or gets another phase.
use Rattle.std.proofs.Common.{◌≡◌, ℕ, ◌<◌, Bool, true, false, refl, ◌∙◌, ap, subst, length, arith, cond, length-set, get_or-set_same, get_or-set_other}
use Rattle.laws_runs.proofs.CauseLemmas.{cancel-others}
use Rattle.sts_model.specs.declared.event.Phase.{Phase}
use Rattle.sts_model.specs.declared.record.Frame.{Frame}
use Rattle.sts_model.specs.declared.record.Scope.{Scope}
use Rattle.sts_model.specs.World.{World, task_at, scope_at, no_scope, with_frame, with_task}
use Rattle.sts_model.specs.Cancelling.{cancel, marked}
use Rattle.sts_model.specs.Effect.{with_phase}
use Rattle.laws_runs.proofs.ListLemmas.{at_set}
use Rattle.laws_runs.proofs.EffectLemmas.{frame-cancel}
use Rattle.laws_runs.proofs.StillLemmas.{still-cancel}
use Rattle.laws_calls.specs.Covers.{IsTimely}
use Rattle.laws_calls.proofs.Moves.{Turned, turned_flag}

-- ---- a cancel

-- what holds of a scope whether it is cancelled or not
pub at_cancelled : (P : Scope → Type 0) (w : World) (s r : ℕ) → P (scope_at w r) → P (record (scope_at w r) { cancelled = true }) → P (scope_at (cancel w s) r)
at_cancelled P w s r old new = by (scope_at w s).cancelled
  where
    by : (b : Bool) → P (scope_at (cond b w (marked w s)) r)
    by true = old
    by false = at_set P w.scopes s r (record (scope_at w s) { cancelled = true }) no_scope (λ e. subst (λ i. P (record (scope_at w i) { cancelled = true })) e new) old

pub cancel_here : (w : World) (s : ℕ) → s < length w.scopes → scope_at (cancel w s) s ≡ record (scope_at w s) { cancelled = true }
cancel_here w s born = by (scope_at w s).cancelled refl
  where
    by : (b : Bool) → (scope_at w s).cancelled ≡ b → scope_at (cond b w (marked w s)) s ≡ record (scope_at w s) { cancelled = true }
    by true e = ap (λ c. record (scope_at w s) { cancelled = c }) e
    by false e = get_or-set_same w.scopes s (record (scope_at w s) { cancelled = true }) no_scope born

-- ---- one scope of the task that steps

-- the scope s has become y, and the others are as they were
pub record Rescoped (w v : World) (u s : ℕ) (g : Frame) (y : Scope) : Type 0 where
  pub turned : Turned w v u g 0
  pub here : scope_at v s ≡ y
  pub others : (r : ℕ) → (r ≡ s → ⊥) → scope_at v r ≡ scope_at w r

-- another frame besides, and perhaps another flag
pub rescoped_flag : (w v : World) (u s : ℕ) (f g : Frame) (y : Scope) (flag : Bool) → u < length w.tasks → Rescoped w v u s f y → Rescoped w (with_task v u (record (task_at v u) { frame = g; flag = flag })) u s g y
rescoped_flag w v u s f g y flag born a =
    let count = a.turned.count in
    let b : Turned v (with_task v u (record (task_at v u) { frame = g; flag = flag })) u g 0 = turned_flag v u g flag (omega (arith, count, born)) in
    record {
      turned = record {
        count = b.count ∙ a.turned.count;
        opened = a.turned.opened;
        here = b.here;
        there = λ k other. b.there k other ∙ a.turned.there k other;
        scope = λ k. b.scope k ∙ a.turned.scope k;
        scopes = λ r less other. a.turned.scopes r less other;
        outcome = λ k. b.outcome k ∙ a.turned.outcome k;
        timely = λ timely r. a.turned.timely timely r;
      };
      here = a.here;
      others = a.others;
    }

pub rescoped_frame : (w v : World) (u s : ℕ) (f g : Frame) (y : Scope) → u < length w.tasks → Rescoped w v u s f y → Rescoped w (with_frame v u g) u s g y
rescoped_frame w v u s f g y born a = rescoped_flag w v u s f g y (task_at v u).flag born a

module _ (w : World) (u s : ℕ) (born : s < length w.scopes) (owner : (scope_at w s).owner ≡ u) where
  -- no scope of another task is s
  not_mine : (r : ℕ) → ((scope_at w r).owner ≡ u → ⊥) → r ≡ s → ⊥
  not_mine r other e = other (ap (λ i. (scope_at w i).owner) e ∙ owner)

  pub rescoped_phase : (phase : Phase) → Rescoped w (with_phase w s phase) u s (task_at w u).frame (record (scope_at w s) { phase = phase })
  rescoped_phase phase =
      let y : Scope = record (scope_at w s) { phase = phase } in
      record {
        turned = record {
          count = refl;
          opened = (let long = length-set w.scopes s y in omega (arith, long));
          here = refl;
          there = λ k other. refl;
          scope = λ k. refl;
          scopes = λ r less other. get_or-set_other w.scopes s r y no_scope (not_mine r other);
          outcome = λ k. refl;
          timely = λ timely r. at_set (λ (z : Scope). IsTimely z) w.scopes s r y no_scope (λ e. timely s) (timely r);
        };
        here = get_or-set_same w.scopes s y no_scope born;
        others = λ r other. get_or-set_other w.scopes s r y no_scope other;
      }

  -- cancelled, and with another phase
  pub rescoped_close : (phase : Phase) → Rescoped w (with_phase (cancel w s) s phase) u s (task_at w u).frame (record (scope_at w s) { cancelled = true; phase = phase })
  rescoped_close phase =
      let v : World = cancel w s in
      let y : Scope = record (scope_at v s) { phase = phase } in
      let k = still-cancel w s in
      let count = k.kept.scopes in
      record {
        turned = record {
          count = k.kept.tasks;
          opened = (let long = length-set v.scopes s y in omega (arith, long, count));
          here = frame-cancel w s u;
          there = λ i other. frame-cancel w s i;
          scope = λ i. (k.kept.task i).same.scope;
          scopes = λ r less other. get_or-set_other v.scopes s r y no_scope (not_mine r other) ∙ cancel-others w s r (not_mine r other);
          outcome = λ i. k.outcome i;
          timely = λ timely r.
              at_set (λ (z : Scope). IsTimely z) v.scopes s r y no_scope
              (λ e. at_cancelled (λ (z : Scope). IsTimely z) w s s (timely s) (timely s))
              (at_cancelled (λ (z : Scope). IsTimely z) w s r (timely r) (timely r));
        };
        here = get_or-set_same v.scopes s y no_scope (omega (arith, count, born)) ∙ ap (λ (z : Scope). record z { phase = phase }) (cancel_here w s born);
        others = λ r other. get_or-set_other v.scopes s r y no_scope other ∙ cancel-others w s r other;
      }
