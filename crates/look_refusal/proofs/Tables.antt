-- A trail is a table of the greatest sums.
use Rattle.std.proofs.Common.{◌≡◌, ℕ, ◌+◌, ◌*◌, ◌<◌, ◌≤◌, List, [], ◌∷◌, ◌++◌, length, get_or, Option, Some, None, inl, inr, sym, ap, ◌∙◌, subst, arith, length-append}
use Rattle.std.proofs.lemmas.Bool.{cases_lt}
use Rattle.std.proofs.lemmas.List.{get_or_append_left}
use Rattle.std.proofs.Math.Seq.{get_or-append_seam}
use Rattle.sts_rules.specs.Around.{around}
use Rattle.sts_rules.specs.ControlPaths.{GoesTo, Repeats, EndsTurn, Among}
use Rattle.sts_budget.specs.Ready.{names_in}
use Rattle.sts_budget.specs.Structured.{Led, from_go, from_head, from_end}
use Rattle.sts_budget.specs.Sums.{FitsEntries, gain}
use Rattle.sts_budget.proofs.FourKindLemmas.{fits}
use Rattle.look_refusal.specs.declared.search.Search.{Search}
use Rattle.look_refusal.specs.declared.trail.Best.{Best}
use Rattle.look_refusal.specs.declared.trail.Trail.{Trail}
use Rattle.look_refusal.specs.Search.{IsReady, LeadsOn, paths, flow}
use Rattle.look_refusal.specs.Trail.{handed, sum_in, best_in, no_way, IsFrom, IsBest, IsRow, IsBegun, IsTrail, HandsTooMuch, IsTooWide, greatest_number}
use Rattle.look_refusal.proofs.Leading.{Way, straight, looping, way_of, leads_straight, leads_loop, leads_later, handed_straight, handed_loop}
use Rattle.look_refusal.proofs.Bests.{best_same}
use Rattle.sts_budget.proofs.SumsLemmas.{Source, by_go, by_turn, by_loop, IsSourced, IsTable, go_stands, loop_stands}

module _ (s : Search) (ready : IsReady s) where
  pub fits_here : FitsEntries (paths s) (around s.code.now) (flow s)
  fits_here = fits s.earlier.now s.code.now (around s.code.now) ready.good (names_in s.layout.now) ready.known s.resource

  source_of : (t : Trail) (pc d : ℕ) (o : Option ℕ) → IsFrom s (sum_in t) pc pc d (sum_in t pc d) o → Led (paths s) pc → Source (paths s) (flow s) (sum_in t) d pc
  source_of t pc d None (z, none) (from_go from to places e among) = (let l = leads_straight s ready from pc places e among in absurd (none from (leads_later s ready from pc l).0 l))
  source_of t pc d None (z, none) (from_head p n e) = by_turn p n e z
  source_of t pc d None (z, none) (from_end p n e) = absurd (none ((paths s).mate p) (omega arith) (leads_loop s ready p n e))
  source_of t pc d (Some q) (lt, l, is) led = by (way_of s ready q pc l)
    where
      by : Way s ready q pc → Source (paths s) (flow s) (sum_in t) d pc
      by (straight places e among turn) = by_go q pc places e among (sym (handed_straight s ready (sum_in t) q d turn) ∙ sym is)
      by (looping p n e mate next turn) =
          let place : (paths s).mate p + 1 ≡ pc = ap (λ x. x + 1) mate ∙ next in
          let value : sum_in t p d + (flow s).added p d + n * gain (paths s) (flow s) (sum_in t) p d ≡ sum_in t ((paths s).mate p + 1) d =
          sym (handed_loop s ready (sum_in t) p n d e) ∙ ap (λ x. handed s (sum_in t) x d) mate ∙ sym is ∙ ap (λ x. sum_in t x d) (sym place) in
          subst (Source (paths s) (flow s) (sum_in t) d) place (by_loop p n e value)

  first_zero : (t : Trail) (o : Option ℕ) → IsFrom s (sum_in t) 0 0 0 (sum_in t 0 0) o → sum_in t 0 0 ≡ 0
  first_zero t None (z, none) = z
  first_zero t (Some q) (lt, l, is) = absurd (omega arith)

  -- each value so far is that of some path
  pub sourced : (t : Trail) (k : ℕ) → 0 < k → k ≤ length s.code.now → IsBegun s k t → IsSourced (paths s) (flow s) (sum_in t) k
  sourced t k pos le h = record {
    first = first_zero t (best_in t 0 0).from (h.row 0 pos 0 (omega arith)).from;
    source = λ pc d nz lt low. source_of t pc d (best_in t pc d).from (h.row pc lt d low).from (ready.led pc nz (omega arith));
  }

  none_to_turn : (p n from : ℕ) → (paths s).shape p ≡ Repeats n → LeadsOn s from (p + 1) → ⊥
  none_to_turn p n from e l = by (way_of s ready from (p + 1) l)
    where
      at : around s.code.now (p + 1) ≡ p ∷ around s.code.now p
      at = (ready.good.loop p n e).4

      by : Way s ready from (p + 1) → ⊥
      by (straight places e' among turn) =
          let g = ready.good.forward from (p + 1) places e' among in
          let less = ready.good.lesser from p (around s.code.now p) (sym g.2 ∙ at) in
          omega (arith, g.0)
      by (looping q m e' mate next turn) =
          let l' = ready.good.loop q m e' in
          let same : (paths s).mate q ≡ p = omega arith in
          let no : EndsTurn ≡ Repeats n = sym l'.3 ∙ ap (paths s).shape same ∙ e in
          cc

  turn_zero : (t : Trail) (p n d : ℕ) → (paths s).shape p ≡ Repeats n → (o : Option ℕ) → IsFrom s (sum_in t) (p + 1) (p + 1) d (sum_in t (p + 1) d) o → sum_in t (p + 1) d ≡ 0
  turn_zero t p n d e None (z, none) = z
  turn_zero t p n d e (Some q) (lt, l, is) = absurd (none_to_turn p n q e l)

  -- the whole trail is a table
  pub is_table : (t : Trail) → IsTrail s t → IsTable (paths s) (flow s) (sum_in t)
  is_table t h = record {
    turn = λ p n d e low. (let l = ready.good.loop p n e in let same = (fits_here).same p n e in turn_zero t p n d e (best_in t (p + 1) d).from (h.row (p + 1) (omega (arith, l.1, l.2)) d (omega (arith, same.0))).from);
    over_go = λ pc to d places e among low. (let l = leads_straight s ready pc to places e among in let later = leads_later s ready pc to l in
        let way : handed s (sum_in t) pc d ≤ sum_in t to d = (h.row to later.1 d low).most pc later.0 l in
        let value = over pc to places e among d in
        omega arith);
    over_loop = λ p n d e low. (let l = leads_loop s ready p n e in let same = (fits_here).same p n e in let lp = ready.good.loop p n e in
        let way : handed s (sum_in t) ((paths s).mate p) d ≤ sum_in t ((paths s).mate p + 1) d = (h.row ((paths s).mate p + 1) lp.2 d (omega (arith, same.2))).most ((paths s).mate p) (omega arith) l in
        subst (λ x. x ≤ sum_in t ((paths s).mate p + 1) d) (handed_loop s ready (sum_in t) p n d e) way);
    sourced = sourced t (length s.code.now) ready.good.some_code (omega arith) h;
  }
    where
      over : (pc to : ℕ) (places : List ℕ) → (paths s).shape pc ≡ GoesTo places → Among places to → (d : ℕ) → handed s (sum_in t) pc d ≡ sum_in t pc ((flow s).source pc d) + (flow s).added pc d
      over pc to places e among d = by (way_of s ready pc to (leads_straight s ready pc to places e among))
        where
          by : Way s ready pc to → handed s (sum_in t) pc d ≡ sum_in t pc ((flow s).source pc d) + (flow s).added pc d
          by (straight ps e' among' turn) = handed_straight s ready (sum_in t) pc d turn
          by (looping p n e' mate next turn) = let l = ready.good.loop p n e' in let no : EndsTurn ≡ GoesTo places = sym l.3 ∙ ap (paths s).shape mate ∙ e in absurd (cc)

  -- a sum that is handed on is reached at some point
  pub too_wide : (t : Trail) (k from : ℕ) → k < length s.code.now → IsBegun s k t → from < k → LeadsOn s from k → HandsTooMuch s (sum_in t) from k → IsTooWide s
  too_wide t k from within h lt l (d, (low, over)) = by (way_of s ready from k l)
    where
      src : IsSourced (paths s) (flow s) (sum_in t) k
      src = sourced t k (omega arith) (omega arith) h

      by : Way s ready from k → IsTooWide s
      by (straight places e among turn) = (_, (go_stands (paths s) (around s.code.now) ready.good (flow s) fits_here (sum_in t) k src from k d places lt e among low, subst (λ x. greatest_number < x) (handed_straight s ready (sum_in t) from d turn) over))
      by (looping p n e mate next turn) =
          let same = (fits_here).same p n e in
          let at : handed s (sum_in t) from d ≡ handed s (sum_in t) ((paths s).mate p) d = ap (λ x. handed s (sum_in t) x d) (sym mate) in
          let low' : d ≤ (flow s).depth ((paths s).mate p + 1) = subst (λ x. d ≤ (flow s).depth x) (sym (ap (λ x. x + 1) mate ∙ next)) low in
          (_, (loop_stands (paths s) (around s.code.now) ready.good (flow s) fits_here (sum_in t) k src p n d (omega arith) e (omega (arith, same.2)), subst (λ x. greatest_number < x) (at ∙ handed_loop s ready (sum_in t) p n d e) over))

  pub begun_none : (t : Trail) → t.rows.items ≡ [] → IsBegun s 0 t
  begun_none t is = record { long = ap length is; row = λ pc lt. absurd (omega arith) }

  -- one more row
  pub begun_more : (t after : Trail) (k : ℕ) (row : List Best) → IsBegun s k t → after.rows.items ≡ t.rows.items ++ row ∷ [] → IsRow s (sum_in t) k k row → IsBegun s (k + 1) after
  begun_more t after k row h is last = record {
    long = ap length is ∙ length-append t.rows.items (row ∷ []) ∙ omega (arith, h.long);
    row = λ pc lt. elim (cases_lt pc k) [
      | inl less ↦ moved pc (omega arith) (get_or t.rows.items pc []) (sym (old pc less)) (h.row pc less)
      | inr ge ↦ (let here : k ≡ pc = omega arith in subst (λ x. IsRow s (sum_in after) x x (get_or after.rows.items x [])) here (moved k (omega arith) row (sym new) last))
    ];
  }
    where
      old : (pc : ℕ) → pc < k → get_or after.rows.items pc [] ≡ get_or t.rows.items pc []
      old pc lt = ap (λ (xs : List (List Best)). get_or xs pc []) is ∙ get_or_append_left t.rows.items (row ∷ []) [] pc (omega (arith, h.long))

      new : get_or after.rows.items k [] ≡ row
      new = ap (λ (xs : List (List Best)). get_or xs k []) is ∙ ap (λ x. get_or (t.rows.items ++ row ∷ []) x []) (sym h.long) ∙ get_or-append_seam t.rows.items row [] []

      same : (x : ℕ) → x < k → (e : ℕ) → sum_in t x e ≡ sum_in after x e
      same x lt e = ap (λ (r : List Best). (get_or r e no_way).sum) (sym (old x lt))

      moved : (pc : ℕ) → pc ≤ k → (r : List Best) → r ≡ get_or after.rows.items pc [] → IsRow s (sum_in t) pc pc r → IsRow s (sum_in after) pc pc (get_or after.rows.items pc [])
      moved pc le r r_is rows = λ d low. subst (λ (x : List Best). IsBest s (sum_in after) pc pc d (get_or x d no_way)) r_is (best_same s ready (sum_in t) (sum_in after) pc pc d (get_or r d no_way) (λ x lt e. same x (omega arith) e) (rows d low))
