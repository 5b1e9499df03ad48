-- The places that lead on to each place, as one more is noted.
use Rattle.std.proofs.Common.{◌≡◌, ℕ, zero, suc, ◌+◌, ◌<◌, List, [], ◌∷◌, ◌++◌, length, get_or, set, replicate, inl, inr, refl, sym, ap, ◌∙◌, subst, arith, length-set, get_or-set_same, get_or-set_other}
use Rattle.std.proofs.lemmas.Bool.{cases_eq, cases_lt}
use Rattle.std.proofs.lemmas.List.{length-replicate}
use Rattle.sts_rules.specs.ControlPaths.{Among}
use Rattle.look_refusal.specs.declared.search.Search.{Search}
use Rattle.look_refusal.specs.Leads.{AreAllLeads, AreNoted}
use Rattle.look_refusal.specs.Search.{IsReady, LeadsOn}
use Rattle.look_refusal.proofs.Among.{among_last, among_before}
use Rattle.look_refusal.proofs.Leading.{leads_later}
use Rattle.sts_types.proofs.AmongLemmas.{among_left}

no_list : (n to : ℕ) → get_or (replicate {A = List ℕ} n []) to [] ≡ []
no_list zero to = refl
no_list (suc n) zero = refl
no_list (suc n) (suc to) = no_list n to

-- the places of y, and one more
abbrev with_one : List (List ℕ) → ℕ → ℕ → List ℕ
with_one lists y from = get_or lists y [] ++ from ∷ []

module _ (s : Search) where
  -- no place is noted
  pub noted_none : (n : ℕ) (lists : List (List ℕ)) → lists ≡ replicate n [] → n ≡ length s.code.now → AreNoted s 0 [] lists
  noted_none n lists is count = record {
    long = ap length is ∙ length-replicate n [] ∙ count;
    only = λ to q a. absurd (subst (λ (xs : List ℕ). Among xs q) (ap (λ (ls : List (List ℕ)). get_or ls to []) is ∙ no_list n to) a);
    earlier = λ to q lt l. absurd (omega arith);
    here = λ to a. absurd a;
  }

  -- one place is noted at one more that it leads on to
  pub noted_more : (from y : ℕ) (places : List ℕ) (lists : List (List ℕ)) → y < length lists → LeadsOn s from y → AreNoted s from places lists → AreNoted s from (places ++ y ∷ []) (set lists y (get_or lists y [] ++ from ∷ []))
  noted_more from y places lists inside leads h = record {
    long = length-set lists y (with_one lists y from) ∙ h.long;
    only = λ to q a. elim (cases_eq to y) [
      | inl e ↦ (let here : Among (with_one lists y from) q = subst (λ (xs : List ℕ). Among xs q) (at to e) a in
          elim (among_before (get_or lists y []) from q here) [
            | inl b ↦ subst (λ x. LeadsOn s q x) (sym e) (h.only y q b)
            | inr is ↦ subst (λ x. LeadsOn s x to) is (subst (λ x. LeadsOn s from x) (sym e) leads)
          ])
      | inr ne ↦ h.only to q (subst (λ (xs : List ℕ). Among xs q) (get_or-set_other lists y to (with_one lists y from) [] ne) a)
    ];
    earlier = λ to q lt l. still to q (h.earlier to q lt l);
    here = λ to a. elim (among_before places y to a) [
      | inl b ↦ still to from (h.here to b)
      | inr is ↦ subst (λ (xs : List ℕ). Among xs from) (sym (at to (sym is))) (among_last (get_or lists y []) from)
    ];
  }
    where
      at : (to : ℕ) → to ≡ y → get_or (set lists y (with_one lists y from)) to [] ≡ with_one lists y from
      at to e = ap (λ x. get_or (set lists y (with_one lists y from)) x []) e ∙ get_or-set_same lists y (with_one lists y from) [] inside

      still : (to q : ℕ) → Among (get_or lists to []) q → Among (get_or (set lists y (with_one lists y from)) to []) q
      still to q a = elim (cases_eq to y) [
        | inl e ↦ subst (λ (xs : List ℕ). Among xs q) (sym (at to e)) (among_left (get_or lists y []) (from ∷ []) q (subst (λ x. Among (get_or lists x []) q) e a))
        | inr ne ↦ subst (λ (xs : List ℕ). Among xs q) (sym (get_or-set_other lists y to (with_one lists y from) [] ne)) a
      ]

  -- it is noted at all places that it leads on to
  pub noted_all : (from : ℕ) (places : List ℕ) (lists : List (List ℕ)) → ((to : ℕ) → LeadsOn s from to → Among places to) → AreNoted s from places lists → AreNoted s (from + 1) [] lists
  noted_all from places lists all h = record {
    long = h.long;
    only = h.only;
    earlier = λ to q lt l. elim (cases_lt q from) [
      | inl less ↦ h.earlier to q less l
      | inr ge ↦ (let same : q ≡ from = omega arith in subst (λ x. Among (get_or lists to []) x) (sym same) (h.here to (all to (subst (λ x. LeadsOn s x to) same l))))
    ];
    here = λ to a. absurd a;
  }

  -- all places are noted
  pub noted_end : IsReady s → (lists : List (List ℕ)) → AreNoted s (length s.code.now) [] lists → AreAllLeads s lists
  noted_end ready lists h = record {
    long = h.long;
    leads = λ to from. (h.only to from, λ l. (let later = leads_later s ready from to l in h.earlier to from (omega (arith, later.0, later.1)) l));
  }
