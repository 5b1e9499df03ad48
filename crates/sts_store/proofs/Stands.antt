-- It was recorded at which scope a task is.
use Rattle.std.proofs.Common.{◌≡◌, ℕ, true, Option, Some, None, refl, sym, ◌∙◌, ap, get_or}
use Rattle.std.proofs.lemmas.List.{map-set}
use Rattle.std.specs.Prelude.{option_map, is_some, unwrap_or}
use Rattle.sts_env.specs.declared.env.Env.{Env}
use Rattle.sts_tree.specs.Forest.{Forest}
use Rattle.sts_tree.specs.declared.record.ScopeNode.{ScopeNode}
use Rattle.sts_model.specs.declared.event.Stand.{Stand}
use Rattle.sts_model.specs.declared.event.Stand.TheVariants.{Free}
use Rattle.sts_model.specs.Live.{Live, LiveScope}
use Rattle.sts_model.specs.Living.{is_closed}
use Rattle.laws_live.specs.Cancelling.{live_cancel}
use Rattle.laws_live.specs.Reading.{scope_in, no_live_scope}
use Rattle.sts_tree.specs.Steps.{seen, with_task, stands_at}
use Rattle.laws_live.specs.Order.{IsOwned}
use Rattle.laws_live.specs.Stands.{is_stand_at}
use Rattle.laws_live.proofs.RestingLemmas.{rests-cancel}
use Rattle.sts_store.proofs.ViewingLemmas.{words, scope_there}
use Rattle.sts_store.specs.Parts.{Parts, live_of, beside, stand_of, unseen_of, stood_unseen}
use Rattle.sts_store.proofs.Views.{Lived}
use Rattle.sts_store.proofs.Keeping.{live_seen, rest_seen}
use Rattle.sts_store.proofs.Seeing.{scope_stands}

module _ (m : Parts) (t : ℕ) (l : Lived m t) (stand : Stand) (f : Forest Env) (same : seen f ≡ seen (with_task m.tree t (record l.task { stand = stand }))) where
  pub stand_seen : live_of (record m { tree = f }) ≡ live_of m
  stand_seen = live_seen m f (with_task m.tree t (record l.task { stand = stand })) same ∙ words.stand (beside m) m.tree t l.task stand l.stands

  pub stand_rest : unseen_of (record m { tree = f }) ≡ stood_unseen (unseen_of m) t stand
  stand_rest =
      rest_seen m f (with_task m.tree t (record l.task { stand = stand })) same
      ∙ ap (λ stands. record (unseen_of m) { stands = stands }) (map-set (option_map stand_of) m.tree.tasks t (Some (record l.task { stand = stand })))

-- a scope that belongs to the task in the view belongs to it in the tree
pub own_stand : (m : Parts) (t : ℕ) (stand : Stand) → ((s : ℕ) → is_stand_at s stand ≡ true → IsOwned (live_of m) t s) → (s : ℕ) → stands_at s stand ≡ true → (c : ScopeNode Env) × (get_or m.tree.scopes s None ≡ Some c) × (c.owner ≡ t)
own_stand m t stand owned s e =
    let o = owned s (same_test stand e) in
    let p = scope_stands m s o.stands in
    (p.0, p.1, sym (ap (λ (x : LiveScope). x.owner) (scope_there (beside m) m.tree s p.0 p.1)) ∙ o.owner)
  where
    same_test : (at : Stand) → stands_at s at ≡ true → is_stand_at s at ≡ true
    same_test Free e = e
    same_test _ e = e

-- a task's own scope remains its own after a cancel
pub own_cancelled : (v : Live) (t s r : ℕ) → IsOwned v t r → IsOwned (live_cancel v s) t r
own_cancelled v t s r o = by (scope_in v r) refl o.stands
  where
    by : (x : Option LiveScope) → scope_in v r ≡ x → is_some x ≡ true → IsOwned (live_cancel v s) t r
    by None e stands = cc
    by (Some c) e stands =
        let mine : c.owner ≡ t = ap (λ q. (unwrap_or q no_live_scope).owner) (sym e) ∙ o.owner in
        let k = (rests-cancel v s t).scope r c e mine in
        record {
          stands = ap (λ (q : Option LiveScope). is_some q) k.there;
          owner = ap (λ q. (unwrap_or q no_live_scope).owner) k.there ∙ k.owner ∙ mine;
          still = ap (λ q. is_closed (unwrap_or q no_live_scope).phase) k.there ∙ ap is_closed k.phase ∙ ap (λ q. is_closed (unwrap_or q no_live_scope).phase) (sym e) ∙ o.still;
        }
