-- The full sum at a place.
use Rattle.std.proofs.Common.{◌≡◌, ℕ, ◌+◌, ◌-◌, ◌*◌, ◌<◌, List, [], ◌∷◌, ◌++◌, length, get_or, Option, Some, None, inl, inr, sym, ap, ◌∙◌, arith, length-append}
use Rattle.std.specs.Prelude.{MatchOption, SomeIff}
use Rattle.std.proofs.lemmas.Bool.{cases_lt}
use Rattle.std.proofs.lemmas.List.{get_or_append_left}
use Rattle.std.proofs.Math.Seq.{get_or-append_seam}
use Rattle.sts_rules.specs.Around.{around}
use Rattle.sts_budget.specs.Structured.{bound_of}
use Rattle.sts_budget.specs.Sums.{gain, Stands}
use Rattle.look_refusal.specs.declared.search.CostLoop.{CostLoop}
use Rattle.look_refusal.specs.declared.search.Search.{Search}
use Rattle.look_refusal.specs.declared.trail.Trail.{Trail}
use Rattle.look_refusal.specs.Search.{IsReady, IsLoop, paths, flow}
use Rattle.look_refusal.specs.Top.{AreFulls}
use Rattle.look_refusal.specs.Trail.{IsTrail, IsTooWide, full_in, looped, sum_in, greatest_number}
use Rattle.sts_budget.proofs.SumsLemmas.{point_attained, full_inside, full_outside}
use Rattle.look_refusal.proofs.Tables.{fits_here, is_table}

module _ (s : Search) (ready : IsReady s) (t : Trail) (trail : IsTrail s t) where
  -- inside a loop
  pub full_looped : (l : CostLoop) → IsLoop s l → (pc : ℕ) (ps : List ℕ) → around s.code.now pc ≡ l.head ∷ ps → full_in s t pc ≡ looped s (sum_in t) l.head l.end (l.turns - 1) (full_in s t l.head) ((flow s).depth l.head) + sum_in t pc ((flow s).depth pc)
  full_looped l is pc ps round =
      full_inside (paths s) (around s.code.now) ready.good (flow s) (fits_here s ready) (sum_in t) (is_table s ready t trail) pc l.head ps round
      ∙ ap (λ sh. full_in s t l.head + (flow s).added l.head ((flow s).depth l.head) + (bound_of sh - 1) * gain (paths s) (flow s) (sum_in t) l.head ((flow s).depth l.head) + sum_in t pc ((flow s).depth pc)) is.opens
      ∙ ap (λ q. full_in s t l.head + (flow s).added l.head ((flow s).depth l.head) + (l.turns - 1) * (sum_in t q ((flow s).depth l.head) + (flow s).added q ((flow s).depth l.head)) + sum_in t pc ((flow s).depth pc)) is.mate

  pub full_by : (l : CostLoop) → IsLoop s l → (pc : ℕ) (ps : List ℕ) → around s.code.now pc ≡ l.head ∷ ps → (stands d : ℕ) → stands ≡ full_in s t l.head → d ≡ (flow s).depth l.head → full_in s t pc ≡ looped s (sum_in t) l.head l.end (l.turns - 1) stands d + sum_in t pc ((flow s).depth pc)
  full_by l is pc ps round stands d stands_is d_is =
      full_looped l is pc ps round
      ∙ ap (λ x. looped s (sum_in t) l.head l.end (l.turns - 1) x ((flow s).depth l.head) + sum_in t pc ((flow s).depth pc)) (sym stands_is)
      ∙ ap (λ x. looped s (sum_in t) l.head l.end (l.turns - 1) stands x + sum_in t pc ((flow s).depth pc)) (sym d_is)

  -- the same, by the head that was found, its full sum and its depth
  pub full_over : (l : CostLoop) → IsLoop s l → (pc head : ℕ) (ps : List ℕ) (stands d : ℕ) → around s.code.now pc ≡ head ∷ ps → l.head ≡ head → stands ≡ full_in s t head → d ≡ (flow s).depth head → full_in s t pc ≡ looped s (sum_in t) l.head l.end (l.turns - 1) stands d + sum_in t pc ((flow s).depth pc)
  full_over l is pc head ps stands d round same stands_is d_is =
      full_by l is pc ps (round ∙ ap (λ x. x ∷ ps) (sym same)) stands d (stands_is ∙ ap (λ x. full_in s t x) (sym same)) (d_is ∙ ap (flow s).depth (sym same))

  pub full_alone : (pc : ℕ) → around s.code.now pc ≡ [] → full_in s t pc ≡ sum_in t pc ((flow s).depth pc)
  full_alone pc round = full_outside (paths s) (around s.code.now) ready.good (flow s) (fits_here s ready) (sum_in t) (is_table s ready t trail) pc round

  -- some path has this sum there
  pub full_stands : (pc : ℕ) → pc < length s.code.now → Stands (paths s) (flow s) (full_in s t pc)
  full_stands pc within = ((flow s).depth pc, (pc, (_, (full_in s t pc, (omega arith, point_attained (paths s) (around s.code.now) ready.good (flow s) (fits_here s ready) (sum_in t) (is_table s ready t trail) pc within, omega arith)))))

  pub full_wide : (pc : ℕ) → pc < length s.code.now → greatest_number < full_in s t pc → IsTooWide s
  full_wide pc within over = (full_in s t pc, (full_stands pc within, over))

pub fulls_more : (s : Search) (t : Trail) (k v : ℕ) (fulls : List ℕ) → AreFulls s t k fulls → v ≡ full_in s t k → AreFulls s t (k + 1) (fulls ++ v ∷ [])
fulls_more s t k v fulls (long, right) is = (
  omega (arith, length-append fulls (v ∷ [])),
  λ pc lt. elim (cases_lt pc k) [
    | inl less ↦ get_or_append_left fulls (v ∷ []) 0 pc (omega arith) ∙ right pc less
    | inr ge ↦ (let last : pc ≡ length fulls = omega arith in let here : k ≡ pc = omega arith in ap (λ x. get_or (fulls ++ v ∷ []) x 0) last ∙ get_or-append_seam fulls v [] 0 ∙ is ∙ ap (λ x. full_in s t x) here)
  ],
)

-- a sum, if 128 bits hold it
pub summed : (o : Option ℕ) (sum full : ℕ) → SomeIff o (sum < 340282366920938463463374607431768211456) sum → sum ≡ full → MatchOption o (greatest_number < full) (λ x. x ≡ full)
summed None sum full h e = elim (cases_lt sum 340282366920938463463374607431768211456) [ inl lt ↦ absurd (h lt) | inr ge ↦ omega arith ]
summed (Some x) sum full h e = h.1 ∙ e
