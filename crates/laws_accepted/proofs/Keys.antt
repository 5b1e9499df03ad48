-- Keys that are bound for certain are bound.
use Rattle.std.proofs.Common.{◌≡◌, ◌≢◌, ℕ, zero, suc, ◌<◌, ◌≤◌, ◌+◌, List, [], ◌∷◌, ◌++◌, Bool, true, false, Some, refl, sym, ◌∙◌, cond, not, arith, subst}
use Rattle.std.proofs.Common.{◌||◌, ◌&&◌}
use Rattle.std.specs.Prelude.{◌==◌, is_some, option_map, find, filter_map}
use Rattle.std.specs.List.{list_any, range_with_len}
use Rattle.std.proofs.lemmas.Bool.Decides.{nat_tests}
use Rattle.sts_code.specs.Program.{Program}
use Rattle.sts_model.specs.declared.record.Bound.{Bound}
use Rattle.sts_model.specs.declared.record.Entry.{Entry}
use Rattle.sts_model.specs.declared.record.Entry.TheVariants as entry
use Rattle.sts_model.specs.declared.record.Frame.{Frame}
use Rattle.sts_model.specs.declared.record.Slot.TheVariants.{Own}
use Rattle.sts_rules.specs.declared.typing.TypedEntry.{TypedEntry}
use Rattle.sts_rules.specs.declared.typing.TypedEntry.TheVariants as typed
use Rattle.sts_rules.specs.declared.typing.TypedScope.{TypedScope}
use Rattle.sts_model.specs.World.{World, scope_at}
use Rattle.sts_model.specs.Environment.{bound_of, read}
use Rattle.sts_model.specs.Misuse.{slot}
use Rattle.sts_rules.specs.TypeState.{scope_in}
use Rattle.sts_rules.specs.Causes.{needs, binds, binds_after}
use Rattle.std.proofs.lemmas.Bool.{or_parts}
use Rattle.laws_words.proofs.BoolLemmas.{other_true}
use Rattle.laws_accepted.specs.Typed.{is_due, Covers, FitsEntry, Zips}

other_due : (a b c : Bool) → a ≡ false → ((a || b) || c) ≡ true → (b || c) ≡ true
other_due false b c e h = h
other_due true b c e h = cc

-- bindings that cover the needs of g, with the task's own bindings in front, cover all that is due
pub covers-own : (p : Program) (w : World) (f : Frame) (g : ℕ) (es : List Entry) (rs : List TypedEntry) (environment : List Bound) → Zips (FitsEntry p w f) es rs → Covers p g [] environment → Covers p g rs (filter_map bound_of es ++ environment)
covers-own p w f g [] [] environment z h k less due = h k less due
covers-own p w f g (entry.Binding j v ∷ es) (typed.Binding i ∷ rs) environment z h k less due = by (j == k) refl (covers-own p w f g es rs environment z.1 h k less)
  where
    by : (b : Bool) → (j == k) ≡ b → (is_due p g rs k ≡ true → is_some (read (filter_map bound_of es ++ environment) k) ≡ true) → is_some (option_map (λ (x : Bound). x.value) (cond b (Some (record { key = j; value = v })) (find (λ (x : Bound). x.key == k) (filter_map bound_of es ++ environment)))) ≡ true
    by true e next = refl
    by false e next = next (other_due (i == k) (list_any (binds k) rs) (needs p g k) (subst (λ (n : ℕ). (n == k) ≡ false) z.0 e) due)
covers-own p w f g (entry.Scope n ∷ es) (typed.Scope r ∷ rs) environment z h k less due = covers-own p w f g es rs environment z.1 h k less due
covers-own p w f g [] (r ∷ rs) environment z h k less due = absurd z
covers-own p w f g (e ∷ es) [] environment z h k less due = absurd z
covers-own p w f g (entry.Binding j v ∷ es) (typed.Scope r ∷ rs) environment z h k less due = absurd z.0
covers-own p w f g (entry.Scope n ∷ es) (typed.Binding i ∷ rs) environment z h k less due = absurd z.0

-- if no binding comes after a scope, the bindings that the scope keeps cover all that is due
pub covers-scope : (p : Program) (w : World) (f : Frame) (es : List Entry) (rs : List TypedEntry) (x n : ℕ) (r : TypedScope) → Zips (FitsEntry p w f) es rs → binds_after x rs ≡ false → scope_in rs x ≡ Some r → slot f x ≡ Own n → Covers p f.function rs (scope_at w n).environment
covers-scope p w f [] [] x n r z after there own = cc
covers-scope p w f (entry.Binding j v ∷ es) (typed.Binding i ∷ rs) x n r z after there own = cc
covers-scope p w f (entry.Scope m ∷ es) (typed.Scope q ∷ rs) x n r z after there own = by (q.slot == x) refl after there (covers-scope p w f es rs x n r z.1)
  where
    by : (b : Bool) → (q.slot == x) ≡ b → cond b false (binds_after x rs) ≡ false → cond b (Some q) (scope_in rs x) ≡ Some r → (binds_after x rs ≡ false → scope_in rs x ≡ Some r → slot f x ≡ Own n → Covers p f.function rs (scope_at w n).environment) → Covers p f.function rs (scope_at w n).environment
    by true e after there next =
        let same : q.slot ≡ x = grind (arith, nat_tests) in
        let mine : Own m ≡ Own n = sym z.0.own ∙ rw same own in
        let one : m ≡ n = cc in
        subst (λ (i : ℕ). Covers p f.function rs (scope_at w i).environment) one z.0.covers
    by false e after there next = next after there own
covers-scope p w f [] (r ∷ rs) x n q z after there own = absurd z
covers-scope p w f (e ∷ es) [] x n r z after there own = absurd z
covers-scope p w f (entry.Binding j v ∷ es) (typed.Scope q ∷ rs) x n r z after there own = absurd z.0
covers-scope p w f (entry.Scope m ∷ es) (typed.Binding i ∷ rs) x n r z after there own = absurd z.0

-- ---- the keys of a function that is forked

-- no number of a range passes the test
none_in : (test : ℕ → Bool) (a n k : ℕ) → list_any test (range_with_len a n) ≡ false → a ≤ k → k < a + n → test k ≡ false
none_in test a zero k e low high = absurd (omega (arith, low, high))
none_in test a (suc n) k e low high = by (a == k) refl (or_parts (test a) (list_any test (range_with_len (a + 1) n)) e) (none_in test (a + 1) n k)
  where
    by : (b : Bool) → (a == k) ≡ b → (test a ≡ false) × (list_any test (range_with_len (a + 1) n) ≡ false) → (list_any test (range_with_len (a + 1) n) ≡ false → a + 1 ≤ k → k < (a + 1) + n → test k ≡ false) → test k ≡ false
    by true d h next = let same : a ≡ k = grind (arith, nat_tests) in rw (← same) h.0
    by false d h next = let other : a ≢ k = grind (arith, nat_tests) in next h.1 (omega (arith, low, other)) (omega (arith, high))

-- bindings that cover all that is due cover the needs of a function that may be forked
pub covers-child : (p : Program) (f g : ℕ) (rs : List TypedEntry) (environment : List Bound) → list_any (λ k. needs p g k && not (is_due p f rs k)) (range_with_len 0 16) ≡ false → Covers p f rs environment → Covers p g [] environment
covers-child p f g rs environment none h k less due =
    h k less (other_true (needs p g k) (is_due p f rs k) (none_in (λ k. needs p g k && not (is_due p f rs k)) 0 16 k none (omega arith) (omega (arith, less))) due)
