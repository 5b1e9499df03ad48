-- The best of the ways to a place, as one more place that leads on to it is asked.
use Rattle.std.proofs.Common.{◌≡◌, ℕ, ◌+◌, ◌<◌, ◌≤◌, List, [], ◌∷◌, ◌++◌, length, get_or, set, take, replicate, zero, suc, Bool, true, false, cond, Option, Some, None, inl, inr, refl, sym, ap, ◌∙◌, subst, arith, length-set, get_or-set_same, get_or-set_other}
use Rattle.std.proofs.lemmas.Bool.{cases_eq, ltb-true, ltb-false}
use Rattle.std.proofs.lemmas.List.{take_more}
use Rattle.std.specs.Prelude.{◌||◌, is_none, nat_lt}
use Rattle.sts_rules.specs.ControlPaths.{Among}
use Rattle.look_refusal.specs.declared.search.Search.{Search}
use Rattle.look_refusal.specs.declared.trail.Best.{Best}
use Rattle.look_refusal.specs.Leads.{AreLeads}
use Rattle.look_refusal.specs.Search.{IsReady}
use Rattle.look_refusal.specs.Trail.{handed, better, no_way, way_from, IsFrom, IsFromOne, IsBest, IsBestOf, IsRow, IsRowOf, KeepsWays}
use Rattle.look_refusal.proofs.Among.{among_last, among_before}
use Rattle.look_refusal.proofs.Leading.{handed_same, leads_later}
use Rattle.sts_types.proofs.AmongLemmas.{among_left}

module _ (s : Search) (best : ℕ → ℕ → ℕ) where
  -- no place was asked
  pub best_none : (d : ℕ) → IsBestOf s best [] d no_way
  best_none d = record { most = λ q a. absurd a; from = (refl, λ q a. a) }

  -- one more place
  new_best : (places : List ℕ) (k d : ℕ) (new : Best) → new ≡ way_from s best k d → ((q : ℕ) → Among places q → handed s best q d ≤ handed s best k d) → IsBestOf s best (places ++ k ∷ []) d new
  new_best places k d new is less = subst (IsBestOf s best (places ++ k ∷ []) d) (sym is) (record {
    most = λ q a. elim (among_before places k q a) [ inl b ↦ less q b | inr same ↦ subst (λ x. handed s best x d ≤ handed s best k d) same (omega arith) ];
    from = (among_last places k, refl);
  })

  old_best : (places : List ℕ) (k d : ℕ) (old : Best) (p : ℕ) → old.from ≡ Some p → handed s best k d ≤ old.sum → IsBestOf s best places d old → IsBestOf s best (places ++ k ∷ []) d old
  old_best places k d old p is le h = record {
    most = λ q a. elim (among_before places k q a) [ inl b ↦ h.most q b | inr same ↦ subst (λ x. handed s best x d ≤ old.sum) same le ];
    from = (let f = subst (IsFromOne s best places d old.sum) is h.from in subst (IsFromOne s best (places ++ k ∷ []) d old.sum) (sym is) (among_left places (k ∷ []) p f.0, f.1));
  }

  pub best_more : (places : List ℕ) (k d : ℕ) (old new : Best) → new ≡ way_from s best k d → IsBestOf s best places d old → IsBestOf s best (places ++ k ∷ []) d (better old new)
  best_more places k d old new is h = by old.from refl
    where
      sum_is : new.sum ≡ handed s best k d
      sum_is = ap (λ (b : Best). b.sum) is

      by_test : (p : ℕ) → old.from ≡ Some p → (t : Bool) → nat_lt old.sum new.sum ≡ t → IsBestOf s best (places ++ k ∷ []) d (cond t new old)
      by_test p from true e = new_best places k d new is (λ q a. (let le = h.most q a in let lt = ltb-true old.sum new.sum e in omega (arith, sum_is)))
      by_test p from false e = old_best places k d old p from (let le = ltb-false old.sum new.sum e in omega (arith, sum_is)) h

      by : (o : Option ℕ) → old.from ≡ o → IsBestOf s best (places ++ k ∷ []) d (better old new)
      by None e =
          let none = subst (IsFromOne s best places d old.sum) e h.from in
          let it : new ≡ better old new = sym (ap (λ o. cond (is_none o || nat_lt old.sum new.sum) new old) e) in
          subst (IsBestOf s best (places ++ k ∷ []) d) it (new_best places k d new is (λ q a. absurd (none.1 q a)))
      by (Some p) e =
          let it : cond (nat_lt old.sum new.sum) new old ≡ better old new = sym (ap (λ o. cond (is_none o || nat_lt old.sum new.sum) new old) e) in
          subst (IsBestOf s best (places ++ k ∷ []) d) it (by_test p e (nat_lt old.sum new.sum) refl)

  -- one more entry of a row
  pub entry_more : (k depth : ℕ) (before row : List Best) (v new : Best) → depth < length row → new ≡ way_from s best k depth → v ≡ better (get_or row depth no_way) new → ((d : ℕ) → d < depth → get_or row d no_way ≡ better (get_or before d no_way) (way_from s best k d)) → ((d : ℕ) → depth ≤ d → get_or row d no_way ≡ get_or before d no_way) → (length (set row depth v) ≡ length row) × ((d : ℕ) → d < depth + 1 → get_or (set row depth v) d no_way ≡ better (get_or before d no_way) (way_from s best k d)) × ((d : ℕ) → depth + 1 ≤ d → get_or (set row depth v) d no_way ≡ get_or before d no_way)
  entry_more k depth before row v new within is v_is below above = (length-set row depth v, under, over)
    where
      here : get_or (set row depth v) depth no_way ≡ better (get_or before depth no_way) (way_from s best k depth)
      here = get_or-set_same row depth v no_way within ∙ v_is ∙ ap (λ (b : Best). better b new) (above depth (omega arith)) ∙ ap (better (get_or before depth no_way)) is

      under : (d : ℕ) → d < depth + 1 → get_or (set row depth v) d no_way ≡ better (get_or before d no_way) (way_from s best k d)
      under d lt = elim (cases_eq d depth) [
        | inl e ↦ subst (λ x. get_or (set row depth v) x no_way ≡ better (get_or before x no_way) (way_from s best k x)) (sym e) here
        | inr ne ↦ get_or-set_other row depth d v no_way ne ∙ below d (omega arith)
      ]

      over : (d : ℕ) → depth + 1 ≤ d → get_or (set row depth v) d no_way ≡ get_or before d no_way
      over d le = get_or-set_other row depth d v no_way (omega arith) ∙ above d (omega arith)

  -- one more place, over all entries
  pub row_more : (pc x i : ℕ) (leads : List ℕ) (row after : List Best) → i < length leads → get_or leads i 0 ≡ x → KeepsWays s best x pc row after → IsRowOf s best (take i leads) pc row → IsRowOf s best (take (i + 1) leads) pc after
  row_more pc x i leads row after inside is kept h d low =
      let places : take (i + 1) leads ≡ take i leads ++ x ∷ [] = take_more leads i 0 inside ∙ ap (λ y. take i leads ++ y ∷ []) is in
      let more = best_more (take i leads) x d (get_or row d no_way) (way_from s best x d) refl (h d low) in
      subst (λ (xs : List ℕ). IsBestOf s best xs d (get_or after d no_way)) (sym places)
      (subst (IsBestOf s best (take i leads ++ x ∷ []) d) (sym (kept d low)) more)

  -- all places that lead on to one were asked
  pub row_end : IsReady s → (pc : ℕ) (leads : List ℕ) (row : List Best) → AreLeads s pc leads → IsRowOf s best leads pc row → IsRow s best pc pc row
  row_end ready pc leads row are h d low =
      record {
        most = λ q lt l. (h d low).most q ((are q).1 l);
        from = by (get_or row d no_way).from (h d low).from;
      }
    where
      by : (o : Option ℕ) → IsFromOne s best leads d (get_or row d no_way).sum o → IsFrom s best pc pc d (get_or row d no_way).sum o
      by None f = (f.0, λ q lt l. f.1 q ((are q).1 l))
      by (Some q) f = let l = (are q).0 f.0 in ((leads_later s ready q pc l).0, l, f.1)

-- it only reads the places before
pub best_same : (s : Search) → IsReady s → (best other : ℕ → ℕ → ℕ) (k pc d : ℕ) (b : Best) → ((x : ℕ) → x < k → (e : ℕ) → best x e ≡ other x e) → IsBest s best k pc d b → IsBest s other k pc d b
best_same s ready best other k pc d b same h = record {
  most = λ q lt l. subst (λ x. x ≤ b.sum) (handed_same s ready best other k q d lt same) (h.most q lt l);
  from = by b.from h.from;
}
  where
    by : (o : Option ℕ) → IsFrom s best k pc d b.sum o → IsFrom s other k pc d b.sum o
    by None f = f
    by (Some q) (lt, l, is) = (lt, l, is ∙ handed_same s ready best other k q d lt same)

pub copies : (n d : ℕ) (b : Best) → b ≡ no_way → get_or (replicate n b) d no_way ≡ no_way
copies zero d b is = refl
copies (suc n) zero b is = is
copies (suc n) (suc d) b is = copies n d b is
