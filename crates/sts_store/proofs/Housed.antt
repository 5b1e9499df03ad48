-- In a view in order the owner of a scope lives, and the scope of a living task isn't closed.
use Rattle.std.proofs.Common.{◌≡◌, ℕ, ◌<◌, true, false, Option, Some, None, refl, sym, ◌∙◌, ap, subst, get_or}
use Rattle.std.specs.Prelude.{option_map, is_some}
use Rattle.std.proofs.lemmas.Option.{same_Some}
use Rattle.laws_words.proofs.OptionLemmas.{some_mapped}
use Rattle.sts_env.specs.declared.env.Env.{Env}
use Rattle.sts_tree.specs.declared.record.TaskNode.{TaskNode}
use Rattle.sts_tree.specs.declared.record.ScopeNode.{ScopeNode}
use Rattle.sts_tree.proofs.HoldingLemmas.{map_at}
use Rattle.sts_model.specs.Live.{LiveScope}
use Rattle.laws_live.specs.Reading.{lives_in, scope_in, live_task_at, live_scope_at}
use Rattle.laws_live.specs.Order.{InOrder}
use Rattle.sts_store.specs.View.{scope_seen}
use Rattle.sts_store.proofs.ViewingLemmas.{scope_is, scope_there}
use Rattle.sts_store.specs.Parts.{Parts, live_of, beside}
use Rattle.sts_store.specs.Sharing.{Holder, Keeper, holder_of, keeper_of, home_of, holders, keepers, homes, home_at}
use Rattle.sts_store.specs.Stored.{IsStore}
use Rattle.sts_store.proofs.Views.{lives_is}
use Rattle.sts_store.proofs.Seeing.{home_is, scope_of}
use Rattle.sts_store.proofs.Unsharing.{AreHoused}

-- the part that is kept of an open scope
pub kept_of : (m : Parts) (s : ℕ) (x : ScopeNode Env) → get_or m.tree.scopes s None ≡ Some x → get_or (keepers m) s None ≡ Some (keeper_of x)
kept_of m s x e = map_at keeper_of m.tree.scopes s ∙ ap (option_map keeper_of) e

-- the scope of a task
pub home_seen : (m : Parts) (t : ℕ) → (live_task_at (live_of m) t).scope ≡ home_at (homes m) t
home_seen m t =
    home_is m t (get_or m.tree.tasks t None) refl
    ∙ by (get_or m.tree.tasks t None)
    ∙ sym (ap (λ y. elim y [ None ↦ None | Some o ↦ o ]) (map_at home_of m.tree.tasks t))
  where
    by : (x : Option TaskNode) → scope_of x ≡ (elim (option_map home_of x) [ None ↦ None | Some o ↦ o ])
    by None = refl
    by (Some x) = refl

module _ (m : Parts) (is : IsStore m) (order : InOrder (live_of m)) where
  pub holds : (u : ℕ) → is_some (get_or (holders m) u None) ≡ lives_in (live_of m) u
  holds u = ap (λ (o : Option Holder). is_some o) (map_at holder_of m.frames.slots u) ∙ some_mapped holder_of (get_or m.frames.slots u None) ∙ is.alive u ∙ sym (lives_is m u)

  owner_seen : (s : ℕ) (x : ScopeNode Env) → get_or m.tree.scopes s None ≡ Some x → (live_scope_at (live_of m) s).owner ≡ x.owner
  owner_seen s x e = ap (λ (y : LiveScope). y.owner) (scope_there (beside m) m.tree s x e)

  owners : (s : ℕ) (k : Keeper) → get_or (keepers m) s None ≡ Some k → is_some (get_or (holders m) k.owner None) ≡ true
  owners s k e = by (get_or m.tree.scopes s None) refl
    where
      by : (o : Option (ScopeNode Env)) → get_or m.tree.scopes s None ≡ o → is_some (get_or (holders m) k.owner None) ≡ true
      by None f =
          let none : get_or (keepers m) s None ≡ None = map_at keeper_of m.tree.scopes s ∙ ap (option_map keeper_of) f in
          cc
      by (Some x) f =
          let same : k ≡ keeper_of x = same_Some k (keeper_of x) (sym e ∙ kept_of m s x f) in
          let stands : is_some (scope_in (live_of m) s) ≡ true = ap (λ (o : Option LiveScope). is_some o) (scope_is (beside m) m.tree s ∙ ap (option_map (scope_seen (beside m))) f) in
          holds k.owner ∙ ap (lives_in (live_of m)) (ap (λ (z : Keeper). z.owner) same ∙ sym (owner_seen s x f)) ∙ (order.held s stands).alive

  inside : (t s : ℕ) → is_some (get_or (holders m) t None) ≡ true → home_at (homes m) t ≡ Some s → (k : Keeper) × ((get_or (keepers m) s None ≡ Some k) × (k.owner < t))
  inside t s lives e = by (get_or m.tree.scopes s None) refl
    where
      by : (o : Option (ScopeNode Env)) → get_or m.tree.scopes s None ≡ o → (k : Keeper) × ((get_or (keepers m) s None ≡ Some k) × (k.owner < t))
      by None f =
          let gone : is_some (scope_in (live_of m) s) ≡ false = ap (λ (o : Option LiveScope). is_some o) (scope_is (beside m) m.tree s ∙ ap (option_map (scope_seen (beside m))) f) in
          let stands = (order.inside t s (home_seen m t ∙ e)).stands in
          cc
      by (Some x) f =
          (keeper_of x, (kept_of m s x f, subst (λ n. n < t) (owner_seen s x f) (order.inside t s (home_seen m t ∙ e)).before))

  pub housed : AreHoused (holders m) (keepers m) (homes m)
  housed = record { owners = owners; homes = inside }
