-- A scope expires.
use Rattle.std.proofs.Common.{◌≡◌, ℕ, ◌<◌, Bool, true, false, Some, refl, sym, ◌∙◌, ap, subst, length, arith, cond}
use Rattle.std.proofs.Common.{nat_eq, not, ◌&&◌, length-set, get_or-set_same, get_or-set_other}
use Rattle.std.specs.Prelude.{slice_get}
use Rattle.std.proofs.lemmas.Bool.{and_parts}
use Rattle.std.proofs.lemmas.Bool.Decides.{nat_tests}
use Rattle.laws_runs.proofs.CauseLemmas.{cancel-others}
use Rattle.sts_code.specs.Program.{Program}
use Rattle.sts_model.specs.declared.event.Phase.{Phase}
use Rattle.sts_model.specs.declared.event.Phase.TheVariants.{Joined}
use Rattle.sts_model.specs.declared.record.Scope.{Scope}
use Rattle.sts_model.specs.World.{World, task_at, scope_at, no_scope, with_scope}
use Rattle.sts_model.specs.Living.{lives}
use Rattle.sts_model.specs.Misuse.{is_joined, can_join}
use Rattle.sts_model.specs.Cancelling.{cancel}
use Rattle.sts_model.specs.Outside.{can_expire, expire}
use Rattle.laws_runs.proofs.ListLemmas.{within}
use Rattle.laws_runs.proofs.EffectLemmas.{frame-cancel, still-expire}
use Rattle.laws_runs.proofs.StillLemmas.{Still}
use Rattle.laws_runs.proofs.EventLemmas.{Next}
use Rattle.laws_runs.proofs.BirthLemmas.{born_alive}
use Rattle.laws_calls.specs.Outside.{Outside}
use Rattle.laws_calls.specs.Tasks.{Seen, Knowledge, Unseen, ByJoiner, Late, Heard}
use Rattle.laws_calls.specs.Steps.{Row, Table}
use Rattle.laws_calls.specs.Covers.{subs, PartFits, ScopeFits, SeenFits, IsRight, IsTimely, IsCovered, Covers, HasState, alive_in}
use Rattle.laws_calls.proofs.Lists.{all_map, no}
use Rattle.laws_calls.proofs.Possible.{joined_on}
use Rattle.laws_calls.proofs.Turns.{Facts, FlagsHaveCause, alive_later, covered_before, seen_same, task_same}
use Rattle.laws_calls.proofs.Moves.{covers_on, subs_same}
use Rattle.laws_calls.proofs.Early.{order_same}
use Rattle.laws_calls.proofs.Phases.{cancel_here}

joined_stays : (phase : Phase) → is_joined phase ≡ true → can_join phase ≡ true → ⊥
joined_stays Joined e k = cc
joined_stays _ e k = cc

module _ (p : Program) (outside : Outside) (t : Table) (root : Row) (w : World) (h : Facts w) (s : ℕ) (can : can_expire (scope_at w s) ≡ true) (born : s < length w.scopes) where
  abbrev scope : Scope
  scope = scope_at w s

  abbrev x : Scope
  x = record scope { expired = true }

  abbrev w1 : World
  w1 = with_scope w s x

  abbrev v : World
  v = cancel w1 s

  abbrev y : Scope
  y = record scope { expired = true; cancelled = true }

  here : scope_at v s ≡ y
  here =
      let count = length-set w.scopes s x in
      cancel_here w1 s (omega (arith, count, born)) ∙ ap (λ (z : Scope). record z { cancelled = true }) (get_or-set_same w.scopes s x no_scope born)

  others : (r : ℕ) → (r ≡ s → ⊥) → scope_at v r ≡ scope_at w r
  others r other = cancel-others w1 s r other ∙ get_or-set_other w.scopes s r x no_scope other

  timed : scope.timed ≡ true
  timed = (and_parts scope.timed (not scope.expired) (and_parts (scope.timed && not scope.expired) (can_join scope.phase) can).0).0

  joins : can_join scope.phase ≡ true
  joins = (and_parts (scope.timed && not scope.expired) (can_join scope.phase) can).1

  module _ (still : Still w v) (n : Next w v) (flags : FlagsHaveCause outside w v) where
    same_subs : (r : ℕ) → subs v r ≡ subs w r
    same_subs r = subs_same w v r still.kept.tasks (λ k. (still.kept.task k).same.scope)

    right : (q : Knowledge) → IsRight q scope → IsRight q y
    right Unseen r = tt
    right ByJoiner r = refl
    right Late r = (refl, refl)
    right Heard r = absurd (joined_stays scope.phase r.1 joins)

    -- what the owner knows of the scope stays
    seen_expired : (rows : ℕ → Row) (z : Seen) → SeenFits rows w s z → SeenFits rows v s z
    seen_expired rows z k =
        subst (λ (a : Scope). ScopeFits rows (alive_in v) a (subs v s) z) (sym here)
        (subst (λ us. ScopeFits rows (alive_in v) y us z) (sym (same_subs s))
        (record {
          joiner = k.joiner;
          timed = k.timed;
          environment = k.environment;
          phase = k.phase;
          known = right z.knowledge k.known;
          on_time = λ is joined. absurd (no (sym joins ∙ joined_on scope.phase z.phase k.phase joined));
          counts = k.counts;
          asked = k.asked;
          order = λ e. order_same z.has_failure scope y (subs w s) z.parts refl (k.order e);
          parts = all_map (PartFits rows (alive_in w) scope) (PartFits rows (alive_in v) y) (subs w s) z.parts
              (λ i part at e. record { may = e.may; whole = λ alive free. absurd (no free) }) k.parts;
        }))

    covers_expired : Covers p outside t root w → Covers p outside t root v
    covers_expired c =
        covers_on c v still.kept.tasks still.kept.scopes (λ r. timely r (nat_eq r s) refl) covered (λ e is. c.ended e (sym (still.outcome 0) ∙ is))
      where
        timely : (r : ℕ) (b : Bool) → nat_eq r s ≡ b → IsTimely (scope_at v r)
        timely r true e = let same : r ≡ s = grind (arith, nat_tests) in subst (λ i. IsTimely (scope_at v i)) (sym same) (subst (λ (z : Scope). IsTimely z) (sym here) (λ late. timed))
        timely r false e = let other : r ≡ s → ⊥ = grind (arith, nat_tests) in subst (λ (z : Scope). IsTimely z) (sym (others r other)) (c.timely r)

        keeps : (r : ℕ) (z : Seen) → SeenFits c.rows w r z → (b : Bool) → nat_eq r s ≡ b → SeenFits c.rows v r z
        keeps r z k true e = let same : r ≡ s = grind (arith, nat_tests) in subst (λ i. SeenFits c.rows v i z) (sym same) (seen_expired c.rows z (subst (λ i. SeenFits c.rows w i z) same k))
        keeps r z k false e = let other : r ≡ s → ⊥ = grind (arith, nat_tests) in seen_same w v h n c.rows c.rows r z (others r other) (same_subs r) (λ i less. refl) k

        covered : (k : ℕ) → lives (task_at v k) ≡ true → IsCovered outside v k → HasState outside c.rows c.left v k
        covered k alive owed =
            let less = born_alive v k alive in
            let count = still.kept.tasks in
            let born_k : k < length w.tasks = omega (arith, less, count) in
            let before : lives (task_at w k) ≡ true = alive_later (task_at w k) (task_at v k) (n.later.task k born_k) alive in
            let old : HasState outside c.rows c.left w k = c.tasks k before (covered_before w v h n outside k born_k owed) in (
              old.0,
              task_same w v h n outside flags c.rows c.rows k old.0 before owed (frame-cancel w1 s k) (λ i less2. refl)
                  (λ r z less2 owner f. keeps r z f (nat_eq r s) refl)
                  (λ r i z less2 owner e. subst (λ us. slice_get us i ≡ Some z) (sym (same_subs r)) e)
                  old.1,
              old.2,
            )

pub expiry_covered : (p : Program) (outside : Outside) (t : Table) (root : Row) (w : World) → Facts w → (s : ℕ) → Covers p outside t root w → Next w (expire w s) → FlagsHaveCause outside w (expire w s) → Covers p outside t root (expire w s)
expiry_covered p outside t root w h s c n flags = by (can_expire (scope_at w s)) refl (still-expire w s) n flags
  where
    by : (b : Bool) → can_expire (scope_at w s) ≡ b
        → Still w (cond b (cancel (with_scope w s (record (scope_at w s) { expired = true })) s) w)
        → Next w (cond b (cancel (with_scope w s (record (scope_at w s) { expired = true })) s) w)
        → FlagsHaveCause outside w (cond b (cancel (with_scope w s (record (scope_at w s) { expired = true })) s) w)
        → Covers p outside t root (cond b (cancel (with_scope w s (record (scope_at w s) { expired = true })) s) w)
    by true can still n2 flags2 = covers_expired p outside t root w h s can (within can_expire w.scopes s no_scope refl can) still n2 flags2 c
    by false can still n2 flags2 = c
