-- The records of scopes: their view, and their lists.
use Rattle.std.proofs.Common.{◌≡◌, ◌≢◌, ℕ, List, [], ◌∷◌, ◌++◌, Option, Some, None, refl, sym, ◌∙◌, ap, get_or, set}
use Rattle.std.proofs.lemmas.List.{map-set, map-append}
use Rattle.std.specs.Prelude.{option_map}
use Rattle.std.proofs.lemmas.Option.{same_Some}
use Rattle.sts_tree.specs.Forest.{Forest, family_of, scope_of, families_of, scopes_of}
use Rattle.sts_tree.specs.Marks.{with_mark}
use Rattle.sts_tree.specs.declared.record.Mark.{Mark}
use Rattle.sts_tree.specs.declared.record.Mark.TheVariants.{Cancelled, Expired}
use Rattle.sts_tree.specs.declared.record.ScopeNode.{ScopeNode}
use Rattle.sts_tree.specs.declared.record.ScopeRecord.{ScopeRecord}
use Rattle.sts_tree.proofs.HoldingLemmas.{map_at, unseen}

module _ {E : Type 0} where
  -- a record is written, and its lists are unchanged
  pub same_families : (rows : List (Option (ScopeRecord E))) (s : ℕ) (r q : ScopeRecord E) → get_or rows s None ≡ Some r → family_of q ≡ family_of r → families_of (set rows s (Some q)) ≡ families_of rows
  same_families rows s r q is same = unseen family_of rows s r q is same

  pub set_family : (rows : List (Option (ScopeRecord E))) (s : ℕ) (q : ScopeRecord E) → families_of (set rows s (Some q)) ≡ set (families_of rows) s (Some (family_of q))
  set_family rows s q = map-set (option_map family_of) rows s (Some q)

  pub seen_row : (rows : List (Option (ScopeRecord E))) (s : ℕ) (q : ScopeRecord E) → scopes_of (set rows s (Some q)) ≡ set (scopes_of rows) s (Some q.scope)
  seen_row rows s q = map-set (option_map scope_of) rows s (Some q)

  -- a record is written, and its scope is unchanged
  pub same_scopes : (rows : List (Option (ScopeRecord E))) (s : ℕ) (r q : ScopeRecord E) → get_or rows s None ≡ Some r → q.scope ≡ r.scope → scopes_of (set rows s (Some q)) ≡ scopes_of rows
  same_scopes rows s r q is same = unseen scope_of rows s r q is same

  pub family_at : (rows : List (Option (ScopeRecord E))) (s : ℕ) (r : ScopeRecord E) → get_or rows s None ≡ Some r → get_or (families_of rows) s None ≡ Some (family_of r)
  family_at rows s r is = map_at family_of rows s ∙ ap (option_map family_of) is

  pub scope_at : (rows : List (Option (ScopeRecord E))) (s : ℕ) (r : ScopeRecord E) → get_or rows s None ≡ Some r → get_or (scopes_of rows) s None ≡ Some r.scope
  scope_at rows s r is = map_at scope_of rows s ∙ ap (option_map scope_of) is

  -- the scope that was read is the record's
  pub own_row : (rows : List (Option (ScopeRecord E))) (s : ℕ) (r : ScopeRecord E) (x : ScopeNode E) → get_or rows s None ≡ Some r → get_or (scopes_of rows) s None ≡ Some x → r.scope ≡ x
  own_row rows s r x is e = same_Some r.scope x (sym (scope_at rows s r is) ∙ e)

  -- a field of a scope is written
  pub seen_field : (rows : List (Option (ScopeRecord E))) (s : ℕ) (r q : ScopeRecord E) (x y : ScopeNode E) → get_or rows s None ≡ Some r → get_or (scopes_of rows) s None ≡ Some x → (r.scope ≡ x → q.scope ≡ y) → scopes_of (set rows s (Some q)) ≡ set (scopes_of rows) s (Some y)
  seen_field rows s r q x y is e change = seen_row rows s q ∙ ap (λ z. set (scopes_of rows) s (Some z)) (change (own_row rows s r x is e))

  -- a mark changes neither the lists of a scope nor its owner
  pub marked_family : (m : Mark) (r : ScopeRecord E) → family_of (record r { scope = with_mark m r.scope }) ≡ family_of r
  marked_family Cancelled r = refl
  marked_family Expired r = refl

  pub marked_owner : (m : Mark) (c : ScopeNode E) → (with_mark m c).owner ≡ c.owner
  marked_owner Cancelled c = refl
  marked_owner Expired c = refl

  pub no_scope_there : (rows : List (Option (ScopeRecord E))) (s : ℕ) (x : ScopeNode E) → get_or rows s None ≡ None → get_or (scopes_of rows) s None ≡ Some x → ⊥
  no_scope_there rows s x none is = let e = map_at scope_of rows s ∙ ap (option_map scope_of) none in cc

  -- a scope with lists has a record
  pub scope_there : (rows : List (Option (ScopeRecord E))) (s : ℕ) → get_or (families_of rows) s None ≢ None → get_or (scopes_of rows) s None ≢ None
  scope_there rows s h none = by (get_or rows s None) refl (sym (map_at scope_of rows s) ∙ none)
    where
      by : (o : Option (ScopeRecord E)) → get_or rows s None ≡ o → option_map scope_of o ≡ None → ⊥
      by None e f = h (map_at family_of rows s ∙ ap (option_map family_of) e)
      by (Some r) e f = cc

  pub more_families : (rows : List (Option (ScopeRecord E))) (q : ScopeRecord E) → families_of (rows ++ Some q ∷ []) ≡ families_of rows ++ Some (family_of q) ∷ []
  more_families rows q = map-append (option_map family_of) rows (Some q ∷ [])

  pub more_scopes : (rows : List (Option (ScopeRecord E))) (q : ScopeRecord E) → scopes_of (rows ++ Some q ∷ []) ≡ scopes_of rows ++ Some q.scope ∷ []
  more_scopes rows q = map-append (option_map scope_of) rows (Some q ∷ [])

  -- the whole value, if its scopes are known
  pub scopes_are : (f : Forest E) (scopes : List (Option (ScopeNode E))) → f.scopes ≡ scopes → f ≡ record f { scopes = scopes }
  scopes_are f scopes e = rw (← e) refl
