-- If a task's last entry is a binding, no other environment in use holds its record.
use Rattle.std.proofs.Common.{◌≡◌, ℕ, ◌<◌, ◌≤◌, List, [], ◌∷◌, ◌++◌, length, true, Option, Some, None, refl, sym, ◌∙◌, ap, subst, get_or, arith}
use Rattle.std.specs.Prelude.{is_some, unwrap_or, count_by}
use Rattle.sts_env.specs.Environments.{Records, IsWhole, keys_of}
use Rattle.sts_env.specs.Sharing as env
use Rattle.sts_env.specs.Sharing.{Sharing, IsSharing, IsUnshared, FrontIsUnshared}
use Rattle.sts_model.specs.Misuse.{is_binding}
use Rattle.sts_store.specs.Sharing.{Shares, Holder, Keeper, keys_kept, inherited, home_at, behind}
use Rattle.sts_store.specs.Parts.{no_running}
use Rattle.sts_store.proofs.Shared.{inner}
use Rattle.laws_words.proofs.OptionLemmas.{has_some}

abbrev pub no_holder : Holder
no_holder = record { env = no_running.env; entries = [] }

abbrev pub no_keeper : Keeper
no_keeper = record { owner = 0; kept = no_running.env }

-- as the law of environments has it
abbrev pub sharing_of : List (Option Holder) → List (Option Keeper) → List (Option (Option ℕ)) → (ℕ → List ℕ) → (ℕ → List ℕ) → Sharing
sharing_of hs ks os own outside =
    record {
      is_alive = λ t. is_some (get_or hs t None);
      is_open = λ s. is_some (get_or ks s None);
      owner = λ s. (unwrap_or (get_or ks s None) no_keeper).owner;
      home = home_at os;
      env = λ t. (unwrap_or (get_or hs t None) no_holder).env;
      kept = λ s. (unwrap_or (get_or ks s None) no_keeper).kept;
      own = own;
      outside = outside;
    }

-- the owner of an open scope lives; the scope of a living task isn't closed, and has an older owner
pub record AreHoused (hs : List (Option Holder)) (ks : List (Option Keeper)) (os : List (Option (Option ℕ))) : Type 0 where
  pub owners : (s : ℕ) (k : Keeper) → get_or ks s None ≡ Some k → is_some (get_or hs k.owner None) ≡ true
  pub homes : (t s : ℕ) → is_some (get_or hs t None) ≡ true → home_at os t ≡ Some s → (k : Keeper) × ((get_or ks s None ≡ Some k) × (k.owner < t))

module _ (c : Records) (hs : List (Option Holder)) (ks : List (Option Keeper)) (os : List (Option (Option ℕ))) (own outside : ℕ → List ℕ) (s : Shares c hs ks os own outside) (housed : AreHoused hs ks os) where
  inherited_is : (t : ℕ) → is_some (get_or hs t None) ≡ true → inherited c ks (home_at os t) ≡ env.inherited c (sharing_of hs ks os own outside) (home_at os t)
  inherited_is t lives = by (home_at os t) refl
    where
      by : (o : Option ℕ) → home_at os t ≡ o → inherited c ks o ≡ env.inherited c (sharing_of hs ks os own outside) o
      by None e = refl
      by (Some r) e = let p = housed.homes t r lives e in ap (keys_kept c) p.1.0 ∙ ap (λ x. keys_of c (unwrap_or x no_keeper).kept) (sym p.1.0)

  pub is_sharing : IsSharing c (sharing_of hs ks os own outside)
  is_sharing =
      record {
        owners = λ r o. let p = has_some (get_or ks r None) o in subst (λ x. is_some (get_or hs (unwrap_or x no_keeper).owner None) ≡ true) (sym p.1) (housed.owners r p.0 p.1);
        homes = λ t r lives e.
            let p = housed.homes t r lives e in
            (ap (λ (x : Option Keeper). is_some x) p.1.0, subst (λ x. (unwrap_or x no_keeper).owner < t) (sym p.1.0) p.1.1);
        whole = λ t lives. let p = has_some (get_or hs t None) lives in subst (λ x. IsWhole c (unwrap_or x no_holder).env) (sym p.1) (s.whole t p.0 p.1);
        tasks = λ t lives.
            let p = has_some (get_or hs t None) lives in
            ap (λ x. keys_of c (unwrap_or x no_holder).env) p.1 ∙ s.tasks t p.0 p.1 ∙ ap (λ l. own t ++ l) (inherited_is t lives);
        scopes = λ r o.
            let p = has_some (get_or ks r None) o in
            let lives = housed.owners r p.0 p.1 in
            ap (λ x. keys_of c (unwrap_or x no_keeper).kept) p.1 ∙ s.scopes r p.0 p.1 ∙ ap (λ l. outside r ++ l) (inherited_is p.0.owner lives) ∙ ap (λ x. outside r ++ env.inherited c (sharing_of hs ks os own outside) (home_at os (unwrap_or x no_keeper).owner)) (sym p.1);
        nested = λ r o.
            let p = has_some (get_or ks r None) o in
            subst (λ x. (inside : List ℕ) × (own (unwrap_or x no_keeper).owner ≡ inside ++ outside r)) (sym p.1) (s.nested r p.0 p.1);
        apart = λ t u k a b ne held. let p = has_some (get_or hs t None) a in let q = has_some (get_or hs u None) b in s.apart t u k p.0 q.0 p.1 q.1 ne held;
      }

  -- the innermost binding of a task, if that is its last entry
  pub unshared : FrontIsUnshared → (t k : ℕ) (rest : List ℕ) (h : Holder) → get_or hs t None ≡ Some h → own t ≡ k ∷ rest → ((r : ℕ) → count_by is_binding (behind r h.entries) ≤ length rest) → IsUnshared c (sharing_of hs ks os own outside) t k
  unshared law t k rest h at first few =
      law c (sharing_of hs ks os own outside) t k is_sharing
      (record {
        lives = ap (λ (x : Option Holder). is_some x) at;
        rest = rest;
        own = first;
        scopes = λ r o e.
            let p = has_some (get_or ks r None) o in
            let owner : p.0.owner ≡ t = ap (λ x. (unwrap_or x no_keeper).owner) (sym p.1) ∙ e in
            let far = s.behind r p.0 h p.1 (subst (λ i. get_or hs i None ≡ Some h) (sym owner) at) in
            let less = few r in
            inner own outside t k r rest first (omega (arith, far, less)) (subst (λ i. (inside : List ℕ) × (own i ≡ inside ++ outside r)) owner (s.nested r p.0 p.1));
      })
