-- Typestates arrive in order.
use Rattle.std.proofs.Common.{◌≡◌, ℕ, zero, suc, ◌+◌, ◌<◌, ◌≤◌, List, [], ◌∷◌, ◌++◌, length, take, get_or, set, Option, Some, None, slice_get, inl, inr, refl}
use Rattle.std.proofs.Common.{sym, ap, ◌∙◌, subst, arith, length-set}
use Rattle.std.specs.List.{All}
use Rattle.std.proofs.lemmas.Option.{slice_get_within, get_or_from_slice_get}
use Rattle.sts_rules.specs.Flow.{Leads}
use Rattle.sts_types.specs.declared.arrival.Arrival.{Arrival}
use Rattle.sts_types.specs.declared.arrival.Arrival.TheVariants.{Nothing}
use Rattle.sts_types.specs.Arrivals.{Merged, Arrive, ArriveAt}
use Rattle.sts_types.proofs.FollowLemmas.{take_there, take_missing}

module _ {S : Type 0} where
  arrive_push : (es : List (ℕ × S)) (table now : List (Arrival S)) (e : ℕ × S) (b : Arrival S) → Arrive table es now → Merged (get_or now e.0 Nothing) e.1 b → Arrive table (es ++ e ∷ []) (set now e.0 b)
  arrive_push [] table now e b h m = (b, (subst (λ t. Merged (get_or t e.0 Nothing) e.1 b) h m, ap (λ t. set t e.0 b) h))
  arrive_push (x ∷ es) table now e b h m = (h.0, (h.1.0, arrive_push es _ now e b h.1.1 m))

  -- one more has arrived
  pub arrive_next : (out : List (ℕ × S)) (table now after : List (Arrival S)) (k to : ℕ) (s : S) (b : Arrival S) → Arrive table (take k out) now → slice_get out k ≡ Some (to, s) → Merged (get_or now to Nothing) s b → after ≡ set now to b → Arrive table (take (k + 1) out) after
  arrive_next out table now after k to s b h there m is =
      subst (λ t. Arrive table (take (k + 1) out) t) (sym is) (subst (λ es. Arrive table es (set now to b)) (sym (take_there out k (to, s) there)) (arrive_push (take k out) table now (to, s) b h m))

  -- the typestate of edge k has arrived, if there is such an edge
  pub arrive_numbered : (out : List (ℕ × S)) (table now after : List (Arrival S)) (k : ℕ) → Arrive table (take k out) now → ArriveAt now (slice_get out k) after → Arrive table (take (k + 1) out) after × (length after ≡ length now)
  arrive_numbered out table now after k h at = by (slice_get out k) refl at
    where
      by : (o : Option (ℕ × S)) → slice_get out k ≡ o → ArriveAt now o after → Arrive table (take (k + 1) out) after × (length after ≡ length now)
      by None none is = (subst (λ es. Arrive table es after) (sym (take_missing out k none)) (subst (Arrive table (take k out)) (sym is) h), ap length is)
      by (Some e) there is = (arrive_next out table now after k e.0 e.1 is.0 h there is.1.0 is.1.1, ap length is.1.1 ∙ length-set now e.0 is.0)

  -- the typestate of the only edge has arrived
  pub arrive_only : (out : List (ℕ × S)) (table after : List (Arrival S)) → length out ≤ 1 → ArriveAt table (slice_get out 0) after → Arrive table out after
  arrive_only [] table after few at = at
  arrive_only (e ∷ []) table after few at = at
  arrive_only (e ∷ f ∷ es) table after few at = absurd (omega (arith, few))

  -- the place of an edge
  pub place_within : (out : List (ℕ × S)) (k to n : ℕ) (s : S) → slice_get out k ≡ Some (to, s) → All (λ e. e.0 < n) out → to < n
  place_within out k to n s there all =
      let h = all k (to, s) (slice_get_within out k (to, s) there) in
      subst (λ (e : ℕ × S). e.0 < n) (get_or_from_slice_get out k (to, s) (to, s) there) h

  leads_at : (out : List (ℕ × S)) (k : ℕ) (d : ℕ × S) → k < length out → Leads out (get_or out k d).0 (get_or out k d).1
  leads_at [] k d h = absurd (omega arith)
  leads_at (e ∷ es) zero d h = inl (refl, refl)
  leads_at (e ∷ es) (suc k) d h = inr (leads_at es k d (omega arith))

  -- what is said of each edge
  pub all_places : (out : List (ℕ × S)) (n : ℕ) → ((to : ℕ) (s : S) → Leads out to s → to < n) → All (λ e. e.0 < n) out
  all_places out n h k d lt = h _ _ (leads_at out k d lt)
