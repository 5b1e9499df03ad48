-- The parts stay in order when a scope is marked, or when the flags of its subtasks are set.
use Rattle.std.proofs.Common.{◌≡◌, ℕ, List, [], ◌∷◌, map, Bool, true, false, Option, Some, None, refl, sym, ◌∙◌, ap, get_or, cond}
use Rattle.std.proofs.lemmas.List.{length-map, get_or-set_same}
use Rattle.std.specs.Prelude.{option_map, unwrap_or}
use Rattle.sts_env.specs.declared.env.Env.{Env}
use Rattle.sts_tree.specs.Forest.{Forest, lives_in}
use Rattle.sts_tree.specs.declared.record.TaskNode.{TaskNode}
use Rattle.sts_tree.specs.declared.record.ScopeNode.{ScopeNode}
use Rattle.sts_tree.proofs.HoldingLemmas.{unseen, map_at, inside_of}
use Rattle.sts_tree.specs.Steps.{with_scope, seen}
use Rattle.sts_cancel.specs.Cancelling.{raise, raise_all, cancel, expire}
use Rattle.sts_model.specs.Live.{LiveScope}
use Rattle.laws_live.specs.Reading.{live_scope_at, no_live_scope, with_live_scope}
use Rattle.laws_live.specs.Cancelling.{live_cancel}
use Rattle.laws_live.specs.Outside.{live_can_expire, live_expire}
use Rattle.sts_store.specs.View.{scope_seen}
use Rattle.sts_store.proofs.ViewingLemmas.{scope_is, cancelled_is, expired_seen}
use Rattle.sts_store.specs.Parts.{Parts, live_of, beside, stand_of, unseen_of}
use Rattle.sts_store.specs.Sharing.{keeper_of, home_of}
use Rattle.sts_store.specs.Stored.{IsStore}
use Rattle.sts_store.proofs.Views.{lives_of}
use Rattle.sts_store.proofs.Keeping.{live_seen, store_seen, rest_seen}

-- ---- a scope that stands

-- a test that the default scope doesn't pass is passed only by scopes that aren't closed
pub standing_by : (m : Parts) (s : ℕ) (test : LiveScope → Bool) → test no_live_scope ≡ false → test (live_scope_at (live_of m) s) ≡ true → (c : ScopeNode Env) × (get_or m.tree.scopes s None ≡ Some c)
standing_by m s test none e = by (get_or m.tree.scopes s None) refl
  where
    by : (o : Option (ScopeNode Env)) → get_or m.tree.scopes s None ≡ o → (c : ScopeNode Env) × (get_or m.tree.scopes s None ≡ Some c)
    by None at =
        let is : live_scope_at (live_of m) s ≡ no_live_scope = ap (λ q. unwrap_or q no_live_scope) (scope_is (beside m) m.tree s ∙ ap (option_map (scope_seen (beside m))) at) in
        let never : true ≡ false = sym e ∙ ap test is ∙ none in
        cc
    by (Some c) at = (c, at)

-- ---- a scope's record

-- it is written, with the same owner and environment
pub kept_scope : (m : Parts) (s : ℕ) (c d : ScopeNode Env) → IsStore m → get_or m.tree.scopes s None ≡ Some c → keeper_of d ≡ keeper_of c → IsStore (record m { tree = with_scope m.tree s d })
kept_scope m s c d is at same = record { born = is.born; alive = is.alive; shared = rw (unseen keeper_of m.tree.scopes s c d at same) is.shared }

-- ---- flags

-- what no flag changes
pub raised_read : {Y : Type 0} (p : TaskNode → Y) → ((x : TaskNode) → p (record x { flag = true }) ≡ p x) → (s : ℕ) (xs : List (Option TaskNode)) → map (option_map p) (map (option_map (raise s)) xs) ≡ map (option_map p) xs
raised_read p same s [] = refl
raised_read p same s (None ∷ xs) = ap (λ l. None ∷ l) (raised_read p same s xs)
raised_read p same s (Some x ∷ xs) =
    ap (λ z. Some z ∷ map (option_map p) (map (option_map (raise s)) xs)) (by (lives_in s x)) ∙ ap (λ l. Some (p x) ∷ l) (raised_read p same s xs)
  where
    by : (b : Bool) → p (cond b (record x { flag = true }) x) ≡ p x
    by true = same x
    by false = refl

-- it lives as it did
pub raised_lives : (s : ℕ) (o : Option TaskNode) → lives_of (option_map (raise s) o) ≡ lives_of o
raised_lives s None = refl
raised_lives s (Some x) = by (lives_in s x)
  where
    by : (b : Bool) → (cond b (record x { flag = true }) x).lives ≡ x.lives
    by true = refl
    by false = refl

pub kept_raised : (m : Parts) (s : ℕ) → IsStore m → IsStore (record m { tree = raise_all m.tree s })
kept_raised m s is =
    record {
      born = is.born ∙ sym (length-map m.tree.tasks (option_map (raise s)));
      alive = λ t. is.alive t ∙ sym (ap lives_of (map_at (raise s) m.tree.tasks t) ∙ raised_lives s (get_or m.tree.tasks t None));
      shared = rw (raised_read home_of (λ x. refl) s m.tree.tasks) is.shared;
    }

rest_raised : (m : Parts) (s : ℕ) → unseen_of (record m { tree = raise_all m.tree s }) ≡ unseen_of m
rest_raised m s = ap (λ l. record (unseen_of m) { stands = l }) (raised_read stand_of (λ x. refl) s m.tree.tasks)

-- ---- a cancel, an expiry

pub kept_cancel : (m : Parts) (s : ℕ) (c : ScopeNode Env) → IsStore m → get_or m.tree.scopes s None ≡ Some c → IsStore (record m { tree = cancel m.tree s c })
kept_cancel m s c is at = by c.cancelled
  where
    by : (b : Bool) → IsStore (record m { tree = cond b m.tree (raise_all (with_scope m.tree s (record c { cancelled = true })) s) })
    by true = is
    by false = kept_raised (record m { tree = with_scope m.tree s (record c { cancelled = true }) }) s (kept_scope m s c (record c { cancelled = true }) is at refl)

pub rest_cancel : (m : Parts) (s : ℕ) (c : ScopeNode Env) → unseen_of (record m { tree = cancel m.tree s c }) ≡ unseen_of m
rest_cancel m s c = by c.cancelled
  where
    by : (b : Bool) → unseen_of (record m { tree = cond b m.tree (raise_all (with_scope m.tree s (record c { cancelled = true })) s) }) ≡ unseen_of m
    by true = refl
    by false = rest_raised (record m { tree = with_scope m.tree s (record c { cancelled = true }) }) s

-- a scope, once the tree has cancelled it
pub cancel_live : (m : Parts) (s : ℕ) (c : ScopeNode Env) → get_or m.tree.scopes s None ≡ Some c → (f : Forest Env) → seen f ≡ seen (cancel m.tree s c) → live_of (record m { tree = f }) ≡ live_cancel (live_of m) s
cancel_live m s c at f same = live_seen m f (cancel m.tree s c) same ∙ cancelled_is (beside m) m.tree s c at

-- the scope as it is once it is marked
pub written : (m : Parts) (s : ℕ) (c d : ScopeNode Env) → get_or m.tree.scopes s None ≡ Some c → get_or (with_scope m.tree s d).scopes s None ≡ Some d
written m s c d at = get_or-set_same m.tree.scopes s (Some d) None (inside_of m.tree.scopes s (λ none. let never : Some c ≡ None = sym at ∙ none in cc))

pub kept_expire : (m : Parts) (s : ℕ) (c : ScopeNode Env) → IsStore m → get_or m.tree.scopes s None ≡ Some c → IsStore (record m { tree = expire m.tree s c })
kept_expire m s c is at =
    let d : ScopeNode Env = record c { expired = true } in
    kept_cancel (record m { tree = with_scope m.tree s d }) s d (kept_scope m s c d is at refl) (written m s c d at)

pub rest_expire : (m : Parts) (s : ℕ) (c : ScopeNode Env) → unseen_of (record m { tree = expire m.tree s c }) ≡ unseen_of m
rest_expire m s c = let d : ScopeNode Env = record c { expired = true } in rest_cancel (record m { tree = with_scope m.tree s d }) s d

-- a scope that may expire, once the tree has done so
module _ (m : Parts) (s : ℕ) (can : live_can_expire (live_scope_at (live_of m) s) ≡ true) where
  pub expiring : (c : ScopeNode Env) × (get_or m.tree.scopes s None ≡ Some c)
  expiring = standing_by m s live_can_expire refl can

  pub expire_live : (f : Forest Env) → seen f ≡ seen (expire m.tree s expiring.0) → live_of (record m { tree = f }) ≡ live_expire (live_of m) s
  expire_live f e = live_seen m f (expire m.tree s expiring.0) e ∙ expired_seen (beside m) m.tree s expiring.0 expiring.1 ∙ sym (ap (λ b. cond b (live_cancel (with_live_scope (live_of m) s (λ scope. record scope { expired = true })) s) (live_of m)) can)

  pub expire_unseen : (f : Forest Env) → seen f ≡ seen (expire m.tree s expiring.0) → unseen_of (record m { tree = f }) ≡ unseen_of m
  expire_unseen f e = rest_seen m f (expire m.tree s expiring.0) e ∙ rest_expire m s expiring.0

  pub expire_store : (f : Forest Env) → seen f ≡ seen (expire m.tree s expiring.0) → IsStore m → IsStore (record m { tree = f })
  expire_store f e is = store_seen m f (expire m.tree s expiring.0) e (kept_expire m s expiring.0 is expiring.1)
