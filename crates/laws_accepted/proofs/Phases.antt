-- A scope of the frame's own goes to another phase.
use Rattle.std.proofs.Common.{◌≡◌, ℕ, List, [], ◌∷◌, map, Bool, true, false, Some, refl, sym, ◌∙◌, ap, subst, cond, arith, ◌||◌}
use Rattle.std.specs.Prelude.{◌==◌}
use Rattle.std.specs.List.{list_any}
use Rattle.std.proofs.lemmas.Bool.{cond_both}
use Rattle.std.proofs.lemmas.Bool.Decides.{nat_tests}
use Rattle.sts_code.specs.Program.{Program}
use Rattle.sts_model.specs.declared.event.Phase.{Phase}
use Rattle.sts_model.specs.declared.record.Entry.{Entry}
use Rattle.sts_model.specs.declared.record.Entry.TheVariants as entry
use Rattle.sts_model.specs.declared.record.Frame.{Frame}
use Rattle.sts_model.specs.declared.record.Scope.{Scope}
use Rattle.sts_model.specs.declared.record.Slot.TheVariants.{Own}
use Rattle.sts_rules.specs.declared.typing.TypedPhase.{TypedPhase}
use Rattle.sts_rules.specs.declared.typing.TypedScope.{TypedScope}
use Rattle.sts_rules.specs.declared.typing.TypedEntry.{TypedEntry}
use Rattle.sts_rules.specs.declared.typing.TypedEntry.TheVariants as typed
use Rattle.sts_model.specs.World.{World, scope_at, instr_at}
use Rattle.sts_model.specs.Misuse.{slot}
use Rattle.sts_rules.specs.TypeState.{scope_in}
use Rattle.sts_rules.specs.Causes.{needs, binds, is_scope_in}
use Rattle.sts_rules.specs.Edges.{phase_set}
use Rattle.laws_accepted.specs.Typed.{closes, fits_phase, is_due, FitsOpen, FitsEntry, Zips}
use Rattle.laws_accepted.proofs.Same.{SameScope, Onward, scope-same, scope-on}

-- ---- the entry of a slot

-- the typestate's scope in a slot is the scope that the slot owns
pub record InSlot (p : Program) (w : World) (f : Frame) (x n : ℕ) (r : TypedScope) : Type 0 where
  pub behind : List TypedEntry
  pub slot : r.slot ≡ x
  pub fits : FitsOpen p w f n r behind

pub in-slot : (p : Program) (w : World) (f : Frame) (es : List Entry) (rs : List TypedEntry) (x n : ℕ) (r : TypedScope) → Zips (FitsEntry p w f) es rs → scope_in rs x ≡ Some r → slot f x ≡ Own n → InSlot p w f x n r
in-slot p w f [] [] x n r z there own = cc
in-slot p w f (entry.Binding j v ∷ es) (typed.Binding i ∷ rs) x n r z there own = in-slot p w f es rs x n r z.1 there own
in-slot p w f (entry.Scope m ∷ es) (typed.Scope q ∷ rs) x n r z there own = by (q.slot == x) refl there (in-slot p w f es rs x n r z.1)
  where
    by : (b : Bool) → (q.slot == x) ≡ b → cond b (Some q) (scope_in rs x) ≡ Some r → (scope_in rs x ≡ Some r → slot f x ≡ Own n → InSlot p w f x n r) → InSlot p w f x n r
    by true e there next =
        let same : q.slot ≡ x = grind (arith, nat_tests) in
        let mine : Own m ≡ Own n = sym z.0.own ∙ rw same own in
        let one : m ≡ n = cc in
        let is : q ≡ r = cc in
        let h : InSlot p w f x n q = record { behind = rs; slot = same; fits = subst (λ (i : ℕ). FitsOpen p w f i q rs) one z.0 } in
        subst (λ (y : TypedScope). InSlot p w f x n y) is h
    by false e there next = next there own
in-slot p w f [] (r ∷ rs) x n q z there own = absurd z
in-slot p w f (e ∷ es) [] x n r z there own = absurd z
in-slot p w f (entry.Binding j v ∷ es) (typed.Scope q ∷ rs) x n r z there own = absurd z.0
in-slot p w f (entry.Scope m ∷ es) (typed.Binding i ∷ rs) x n r z there own = absurd z.0

-- ---- another phase

-- the scope differs only in its phase, which is this one
pub record Moved (x y : Scope) (to : Phase) : Type 0 where
  pub joiner : y.joiner ≡ x.joiner
  pub timed : y.timed ≡ x.timed
  pub environment : y.environment ≡ x.environment
  pub phase : y.phase ≡ to

-- tests that don't ask for the phase
any-phase : (x : ℕ) (k : TypedPhase) (test : TypedEntry → Bool) (rs : List TypedEntry) → ((r : TypedScope) → test (typed.Scope (record r { phase = k })) ≡ test (typed.Scope r)) → list_any test (map (phase_set x k) rs) ≡ list_any test rs
any-phase x k test [] same = refl
any-phase x k test (typed.Binding j ∷ rs) same = ap (λ b. test (typed.Binding j) || b) (any-phase x k test rs same)
any-phase x k test (typed.Scope r ∷ rs) same = by (r.slot == x) (any-phase x k test rs same)
  where
    by : (b : Bool) → list_any test (map (phase_set x k) rs) ≡ list_any test rs → (test (cond b (typed.Scope (record r { phase = k })) (typed.Scope r)) || list_any test (map (phase_set x k) rs)) ≡ (test (typed.Scope r) || list_any test rs)
    by true e = rw (same r, e) refl
    by false e = rw e refl

-- the entries after scope n of slot x went to another phase, which fits the typed one
pub entry-phase : (p : Program) (w v : World) (f g : Frame) (x n : ℕ) (phase : Phase) (k : TypedPhase) → Onward p f g → ((y z m : ℕ) → slot f y ≡ Own m → slot f z ≡ Own m → y ≡ z) → slot f x ≡ Own n → Moved (scope_at w n) (scope_at v n) phase → ((closing : Bool) → fits_phase closing k phase (scope_at v n).expired ≡ true) → ((m : ℕ) → (m ≡ n → ⊥) → SameScope (scope_at w m) (scope_at v m)) → (e : Entry) (r : TypedEntry) (behind : List TypedEntry) → FitsEntry p w f e r behind → FitsEntry p v g e (phase_set x k r) (map (phase_set x k) behind)
entry-phase p w v f g x n phase k on apart own moved now others (entry.Binding j q) (typed.Binding i) behind h = h
entry-phase p w v f g x n phase k on apart own moved now others (entry.Binding j q) (typed.Scope r) behind h = absurd h
entry-phase p w v f g x n phase k on apart own moved now others (entry.Scope m) (typed.Binding i) behind h = absurd h
entry-phase p w v f g x n phase k on apart own moved now others (entry.Scope m) (typed.Scope r) behind h =
    cond_both (r.slot == x) (typed.Scope (record r { phase = k })) (typed.Scope r) (λ (q : TypedEntry). FitsEntry p v g (entry.Scope m) q (map (phase_set x k) behind)) here other
  where
    due : (c : ℕ) → is_due p g.function (map (phase_set x k) behind) c ≡ true → is_due p f.function behind c ≡ true
    due c e =
        let a = any-phase x k (binds c) behind (λ q. refl) in
        let b : (list_any (binds c) behind || needs p g.function c) ≡ true = rw a at e in
        rw (on.function) at b

    alone : list_any (is_scope_in r.slot) (map (phase_set x k) behind) ≡ false
    alone = any-phase x k (is_scope_in r.slot) behind (λ q. refl) ∙ h.single

    here : (r.slot == x) ≡ true → FitsOpen p v g m (record r { phase = k }) (map (phase_set x k) behind)
    here e =
        let same : r.slot ≡ x = grind (arith, nat_tests) in
        let mine : Own m ≡ Own n = sym h.own ∙ rw same own in
        let one : m ≡ n = cc in
        let old = subst (λ (i : ℕ). FitsOpen p w f i r behind) one h in
        subst (λ (i : ℕ). FitsOpen p v g i (record r { phase = k }) (map (phase_set x k) behind)) (sym one)
        (record {
          own = on.own r.slot n old.own;
          scope = record { joiner = moved.joiner ∙ old.scope.joiner; timed = moved.timed ∙ old.scope.timed; phase = rw (moved.phase) (now (closes (instr_at p g) r.slot)) };
          covers = λ c less e. rw (moved.environment) (old.covers c less (due c e));
          single = alone;
        })

    other : (r.slot == x) ≡ false → FitsOpen p v g m r (map (phase_set x k) behind)
    other e =
        let never : m ≡ n → ⊥ = λ d. let same : r.slot ≡ x = apart r.slot x n (rw d at h.own) own in let yes : (r.slot == x) ≡ true = grind (arith, nat_tests) in cc in
        let s = others m never in
        record {
          own = on.own r.slot m h.own;
          scope = scope-on (closes (instr_at p f) r.slot) (closes (instr_at p g) r.slot) (scope_at v m) r (on.still r.slot) (scope-same (closes (instr_at p f) r.slot) (scope_at w m) (scope_at v m) r s h.scope);
          covers = λ c less e. rw (s.environment) (h.covers c less (due c e));
          single = alone;
        }
