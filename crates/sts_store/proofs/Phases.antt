-- The phase of a scope is written, and the effect of a `join`.
use Rattle.std.proofs.Common.{◌≡◌, ℕ, [], Some, None, refl, ◌∙◌, get_or, true, false, ◌||◌, not}
use Rattle.sts_env.specs.declared.env.Env.{Env}
use Rattle.sts_tree.specs.Forest.{Forest}
use Rattle.sts_tree.specs.declared.record.ScopeNode.{ScopeNode}
use Rattle.sts_tree.specs.Steps.{with_scope, seen}
use Rattle.sts_model.specs.declared.event.Phase.{Phase}
use Rattle.sts_model.specs.declared.event.Phase.TheVariants.{Attempted}
use Rattle.sts_model.specs.declared.record.Frame.{Frame}
use Rattle.sts_model.specs.Local.{goes}
use Rattle.sts_model.specs.Told.{result_told}
use Rattle.sts_model.specs.Live.{Live}
use Rattle.laws_live.specs.Effect.{live_join, live_joined, live_verdict}
use Rattle.laws_live.specs.Reading.{with_live_phase, with_alive, live_scope_at, live_any_lives, live_count}
use Rattle.sts_store.proofs.ViewingLemmas.{words}
use Rattle.sts_store.specs.Parts.{Parts, live_of, beside}
use Rattle.sts_store.proofs.Keeping.{live_seen}

pub phase_live : (m : Parts) (s : ℕ) (c : ScopeNode Env) → get_or m.tree.scopes s None ≡ Some c → (phase : Phase) (f : Forest Env) → seen f ≡ seen (with_scope m.tree s (record c { phase = phase })) → live_of (record m { tree = f }) ≡ with_live_phase (live_of m) s phase
phase_live m s c at phase f same = live_seen m f (with_scope m.tree s (record c { phase = phase })) same ∙ words.phase (beside m) m.tree s c phase at

-- ---- a `join`, by its outcome

module _ (v : Live) (t : ℕ) (f : Frame) (s failed timeout interrupted : ℕ) where
  pub join_expired : (live_scope_at v s).expired ≡ true → live_join v t f s failed timeout interrupted ≡ live_joined v t s (goes f timeout 0 [])
  unfolding live_join
  join_expired e = rw e refl

  pub join_told : (live_scope_at v s).expired ≡ false → ((live_scope_at v s).cancelled || not (live_any_lives v s)) ≡ true → live_join v t f s failed timeout interrupted ≡ live_verdict (result_told (live_scope_at v s).joiner (live_scope_at v s).told (live_count v s)) v t s f failed
  unfolding live_join
  join_told e d = rw (e, d) refl

  pub join_waits : (live_scope_at v s).expired ≡ false → ((live_scope_at v s).cancelled || not (live_any_lives v s)) ≡ false → live_join v t f s failed timeout interrupted ≡ with_alive (with_live_phase v s Attempted) t (λ alive. record alive { frame = goes f interrupted 0 []; flag = false })
  unfolding live_join
  join_waits e d = rw (e, d) refl
