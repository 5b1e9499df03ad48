-- Rows that are filled from the front.
use Rattle.std.proofs.Common.{◌≡◌, ◌≢◌, ℕ, suc, ◌+◌, ◌<◌, ◌≤◌, ◌⊎◌, max, inl, inr, List, length, set, get_or, refl, sym, ap, ◌∙◌, subst, arith, [], ◌∷◌, ◌++◌}
use Rattle.std.proofs.Common.{take, get_or-set_same, get_or-set_other, length-set}
use Rattle.std.proofs.Math.Seq.{take-suc}
use Rattle.std.proofs.lemmas.Bool.{cases_eq}
use Rattle.sts_types.proofs.AmongLemmas.{among_left, among_right}
use Rattle.sts_rules.specs.ControlPaths.{Among}
use Rattle.sts_budget.specs.Row.{IsRaised, IsOver}
use Rattle.sts_budget.specs.Table.{read, IsRaisedAt, IsSent, IsStopped}
use Rattle.sts_budget.proofs.Sorts.{among_of, among_at}
use Rattle.sts_budget.proofs.Forward.{among_cases}

-- one more of the values below i + 1
pub set_below : (P : ℕ → ℕ → Type 0) (xs : List ℕ) (i v : ℕ) → i < length xs → ((d : ℕ) → d < i → P d (get_or xs d 0)) → P i v → (d : ℕ) → d < i + 1 → P d (get_or (set xs i v) d 0)
set_below P xs i v within below here d lt = elim (cases_eq d i) [
  | inl e ↦ subst (λ q. P q (get_or (set xs i v) q 0)) (sym e) (subst (P i) (sym (get_or-set_same xs i v 0 within)) here)
  | inr ne ↦ subst (P d) (sym (get_or-set_other xs i d v 0 ne)) (below d (omega arith))
]

pub set_above : (xs : List ℕ) (i v d : ℕ) → i < d → get_or (set xs i v) d 0 ≡ get_or xs d 0
set_above xs i v d lt = let ne : d ≢ i = omega arith in get_or-set_other xs i d v 0 ne

-- one more sum is raised
abbrev pub AreRaised : ℕ → ℕ → (values before row : List ℕ) → Type 0
AreRaised n i values before row = (length row ≡ n) × ((d : ℕ) → d < i → get_or row d 0 ≡ max (get_or before d 0) (get_or values d 0)) × ((d : ℕ) → i ≤ d → get_or row d 0 ≡ get_or before d 0)

pub raised_more : (n i : ℕ) (values before row : List ℕ) (m : ℕ) → i < n → AreRaised n i values before row → m ≡ max (get_or row i 0) (get_or values i 0) → AreRaised n (i + 1) values before (set row i m)
raised_more n i values before row m lt h is =
    let old : get_or row i 0 ≡ get_or before i 0 = h.2 i (omega arith) in (
      length-set row i m ∙ h.0,
      set_below (λ d x. x ≡ max (get_or before d 0) (get_or values d 0)) row i m (omega (arith, h.0)) h.1 (is ∙ ap (λ x. max x (get_or values i 0)) old),
      (λ d le. (set_above row i m d (omega arith) ∙ h.2 d (omega arith))),
    )

pub sent_none : (values : List ℕ) (low : ℕ → ℕ) (most : ℕ) (places : List ℕ) (rows : List (List ℕ)) → IsSent values low most (take 0 places) rows rows
sent_none values low most places rows = record { long = refl; raised = λ pc d a le. absurd a; same = λ pc d out. refl; small = λ pc d a le. absurd a }

-- the row of one more place is raised
pub sent_more : (values : List ℕ) (low : ℕ → ℕ) (most : ℕ) (places : List ℕ) (i to : ℕ) (before mid : List (List ℕ)) (row : List ℕ) → i < length places → get_or places i 0 ≡ to → to < length before → IsSent values low most (take i places) before mid → IsRaised values (low to) most (get_or mid to []) row → IsSent values low most (take (i + 1) places) before (set mid to row)
sent_more values low most places i to before mid row lt is within h r = record {
  long = length-set mid to row ∙ h.long;
  raised = λ pc d a le. higher pc d le (among_of (take i places) (to ∷ []) pc (subst (λ ps. Among ps pc) more a)) (cases_eq pc to);
  same = λ pc d out. (
      let ne : pc ≢ to = λ e. out (subst (λ ps. Among ps pc) (sym more) (among_right (take i places) (to ∷ []) pc (inl (sym e)))) in
      other pc d ne ∙ h.same pc d (λ a. out (subst (λ ps. Among ps pc) (sym more) (among_left (take i places) (to ∷ []) pc a))));
  small = λ pc d a le. elim (among_of (take i places) (to ∷ []) pc (subst (λ ps. Among ps pc) more a)) [ inl b ↦ h.small pc d b le | inr b ↦ elim b [ inl e ↦ r.small d (subst (λ q. d ≤ low q) (sym e) le) | inr out_of ↦ absurd out_of ] ];
}
  where
    more : take (i + 1) places ≡ take i places ++ to ∷ []
    more = let n : i + 1 ≡ suc i = omega arith in ap (λ k. take k places) n ∙ take-suc places i 0 lt ∙ ap (λ x. take i places ++ x ∷ []) is

    other : (pc d : ℕ) → pc ≢ to → read (set mid to row) pc d ≡ read mid pc d
    other pc d ne = ap (λ (x : List ℕ). get_or x d 0) (get_or-set_other mid to pc row [] ne)

    here : (d : ℕ) → read (set mid to row) to d ≡ get_or row d 0
    here d = let w : to < length mid = omega (arith, h.long) in ap (λ (x : List ℕ). get_or x d 0) (get_or-set_same mid to row [] w)

    by_old : (d : ℕ) → Among (take i places) to ⊎ (Among (take i places) to → ⊥) → d ≤ low to → get_or row d 0 ≡ max (read before to d) (get_or values d 0)
    by_old d (inl a) le = let x = r.higher d le in let y = h.raised to d a le in omega arith
    by_old d (inr out) le = let x = r.higher d le in let y = h.same to d out in omega arith

    higher : (pc d : ℕ) → d ≤ low pc → Among (take i places) pc ⊎ Among (to ∷ []) pc → (pc ≡ to) ⊎ (pc ≢ to) → read (set mid to row) pc d ≡ max (read before pc d) (get_or values d 0)
    higher pc d le a (inl e) = subst (λ q. read (set mid to row) q d ≡ max (read before q d) (get_or values d 0)) (sym e) (here d ∙ by_old d (among_cases (take i places) to) (subst (λ q. d ≤ low q) e le))
    higher pc d le (inl a) (inr ne) = other pc d ne ∙ h.raised pc d a le
    higher pc d le (inr (inl e)) (inr ne) = absurd (ne (sym e))
    higher pc d le (inr (inr out_of)) (inr ne) = absurd out_of

-- a value over the limit at a place
pub stopped_at : (values : List ℕ) (low : ℕ → ℕ) (most : ℕ) (places : List ℕ) (i to : ℕ) → i < length places → get_or places i 0 ≡ to → IsOver values (low to) most → IsStopped values low most places
stopped_at values low most places i to lt is over = (to, (over.0, (subst (Among places) is (among_at places i 0 lt), over.1.0, over.1.1)))

-- only one place
pub sent_one : (values : List ℕ) (low : ℕ → ℕ) (most to : ℕ) (before after : List (List ℕ)) → to < length before → IsRaisedAt values (low to) most to before after → IsSent values low most (to ∷ []) before after
sent_one values low most to before after within (row, h) = subst (IsSent values low most (to ∷ []) before) (sym h.0) (sent_more values low most (to ∷ []) 0 to before before row (omega arith) refl within (sent_none values low most (to ∷ []) before) h.1)

pub stopped_one : (values : List ℕ) (low : ℕ → ℕ) (most to : ℕ) → IsOver values (low to) most → IsStopped values low most (to ∷ [])
stopped_one values low most to over = stopped_at values low most (to ∷ []) 0 to (omega arith) refl over
