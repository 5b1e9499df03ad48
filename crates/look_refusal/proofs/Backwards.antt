-- The walk back along a trail: the amount of each step, and that the numbers fit.
use Rattle.std.proofs.Common.{◌≡◌, ℕ, ◌+◌, ◌-◌, ◌*◌, ◌<◌, ◌≤◌, ◌⊎◌, min, List, [], ◌∷◌, length, get_or, Bool, Option, Some, None, true, false, inl, inr, refl, sym, ap, ◌∙◌, subst, arith, mul-le-mul_left}
use Rattle.std.proofs.lemmas.Bool.{cases_eq}
use Rattle.sts_code.specs.declared.instr.Instr.{Instr}
use Rattle.sts_code.specs.declared.instr.Instr.TheVariants.{Ret}
use Rattle.sts_code.specs.Program.{instr_at}
use Rattle.sts_rules.specs.Around.{around}
use Rattle.sts_rules.specs.ControlPaths.{GoesTo, Among}
use Rattle.sts_budget.specs.Structured.{Led, from_go, from_head, from_end, bound_of}
use Rattle.sts_budget.specs.Sums.{FitsEntries, gain, base, last_turns}
use Rattle.std.proofs.lemmas.List.{get_or_default}
use Rattle.look_refusal.specs.declared.search.CostLoop.{CostLoop}
use Rattle.look_refusal.specs.declared.search.Search.{Search}
use Rattle.look_refusal.specs.declared.search.Spot.{Spot}
use Rattle.look_refusal.specs.declared.shares.Shares.{Shares}
use Rattle.look_refusal.specs.declared.trail.Trail.{Trail}
use Rattle.look_refusal.specs.Search.{IsReady, IsSpot, IsLoop, LeadsOn, OpensLoop, paths, flow, ends_turn}
use Rattle.look_refusal.specs.Trail.{IsTrail, IsFrom, handed, looped, sum_in, best_in, greatest_number}
use Rattle.look_refusal.specs.Walk.{AreParts, IsBegin, IsStepBack, IsWalked, IsWalkedBack, IsWalkedBackOut, rest_in}
use Rattle.look_refusal.proofs.Leading.{Way, straight, looping, around_found, around_missing, way_of, leads_straight, leads_loop, leads_later, handed_straight, handed_loop}
use Rattle.look_refusal.proofs.Tables.{fits_here}
use Rattle.look_refusal.proofs.Walking.{IsOpenWalk, open_walked, open_out, walked_none, walked_both, walked_straight, walked_skip, walked_loop, walked_out}

-- a walk back from one spot that reached another
pub record IsUnderWay (s : Search) (t : Trail) (times : ℕ) (at to : Spot) (before now : Shares) : Type 0 where
  pub low : at.place ≤ to.place
  pub spot : IsSpot s at
  pub same : around s.code.now at.place ≡ around s.code.now to.place
  pub kept : (p : ℕ) (ps : List ℕ) → around s.code.now to.place ≡ p ∷ ps → min at.depth ((flow s).depth p) ≡ min to.depth ((flow s).depth p)
  pub long : length now.places.items ≡ length s.code.now
  pub parts : AreParts now
  pub walked : IsWalked (paths s) (flow s) times at to before now
  pub total : now.total + times * sum_in t at.place at.depth ≡ before.total + times * sum_in t to.place to.depth

-- the places of a loop, and how many entries are open there
pub record IsWithin (s : Search) (l : CostLoop) (at : Spot) : Type 0 where
  pub behind : at.place ≡ l.end + 1
  pub at_end : at.depth ≤ (flow s).depth l.end
  pub at_turn : at.depth ≤ (flow s).depth (l.head + 1)
  pub at_head : at.depth ≤ (flow s).depth l.head
  pub source_end : (flow s).source l.end at.depth ≡ at.depth
  pub source_head : (flow s).source l.head at.depth ≡ at.depth
  pub before : l.head < l.end
  pub turn_in : l.head + 1 < length s.code.now
  pub round_end : around s.code.now l.end ≡ l.head ∷ around s.code.now l.head
  pub round_behind : around s.code.now at.place ≡ around s.code.now l.head

-- the beginning of a turn of a loop
pub record IsTurn (s : Search) (l : CostLoop) (turn : Spot) : Type 0 where
  pub at_end : turn.depth ≤ (flow s).depth l.end
  pub at_head : turn.depth ≤ (flow s).depth l.head
  pub source_end : (flow s).source l.end turn.depth ≡ turn.depth
  pub source_head : (flow s).source l.head turn.depth ≡ turn.depth
  pub before : l.head < l.end
  pub round_end : around s.code.now l.end ≡ l.head ∷ around s.code.now l.head

module _ (s : Search) (ready : IsReady s) (t : Trail) (trail : IsTrail s t) where
  pub under_none : (times : ℕ) (to : Spot) (b : Shares) → IsSpot s to → length b.places.items ≡ length s.code.now → AreParts b → IsUnderWay s t times to to b b
  under_none times to b spot long parts = record {
    low = omega arith;
    spot = spot;
    same = refl;
    kept = λ p ps e. refl;
    long = long;
    parts = parts;
    walked = walked_none (paths s) (flow s) times to b;
    total = refl;
  }

  -- the place before a spot
  pub from_is : (at : Spot) (q : ℕ) → IsSpot s at → (best_in t at.place at.depth).from ≡ Some q → (q < at.place) × LeadsOn s q at.place × (sum_in t at.place at.depth ≡ handed s (sum_in t) q at.depth)
  from_is at q spot e = subst (IsFrom s (sum_in t) at.place at.place at.depth (sum_in t at.place at.depth)) e (trail.row at.place spot.in_code at.depth spot.shallow).from

  -- whether the instruction on the way back ends a turn
  pub ends_turn_at : (at : Spot) (q : ℕ) (d : Instr) (answer b : Bool) → IsSpot s at → (best_in t at.place at.depth).from ≡ Some q → answer ≡ ends_turn (get_or s.code.now q d) → answer ≡ b → ends_turn (instr_at s.code.now q) ≡ b
  ends_turn_at at q d answer b spot e is told =
      let f = from_is at q spot e in
      let within : q < length s.code.now = omega (arith, f.0, spot.in_code) in
      sym (is ∙ ap ends_turn (get_or_default s.code.now q d Ret within)) ∙ told

  -- ---- over an instruction that is no loop's

  straight_sum : (at : Spot) (q : ℕ) → IsSpot s at → (best_in t at.place at.depth).from ≡ Some q → ends_turn (instr_at s.code.now q) ≡ false → sum_in t at.place at.depth ≡ sum_in t q ((flow s).source q at.depth) + (flow s).added q at.depth
  straight_sum at q spot e plain = (from_is at q spot e).2 ∙ handed_straight s ready (sum_in t) q at.depth plain

  pub straight_fits : (times q : ℕ) (at to : Spot) (before now : Shares) → IsUnderWay s t times at to before now → before.total + times * sum_in t to.place to.depth ≤ greatest_number → (best_in t at.place at.depth).from ≡ Some q → ends_turn (instr_at s.code.now q) ≡ false → now.total + times * (flow s).added q at.depth ≤ greatest_number
  straight_fits times q at to before now u fits e plain =
      let v = ap (λ x. times * x) (straight_sum at q u.spot e plain) in
      let w = u.total in
      omega arith

  straight_way : (at : Spot) (q : ℕ) → LeadsOn s q at.place → ends_turn (instr_at s.code.now q) ≡ false → (places : List ℕ) × (((paths s).shape q ≡ GoesTo places) × Among places at.place)
  straight_way at q l plain = by (way_of s ready q at.place l)
    where
      by : Way s ready q at.place → (places : List ℕ) × (((paths s).shape q ≡ GoesTo places) × Among places at.place)
      by (straight places e among turn) = (places, (e, among))
      by (looping p n e mate next turn) = let o : true ≡ false = sym turn ∙ plain in absurd (cc)

  pub straight_step : (times q : ℕ) (at to next : Spot) (before now after : Shares) → IsUnderWay s t times at to before now → (best_in t at.place at.depth).from ≡ Some q → ends_turn (instr_at s.code.now q) ≡ false → IsStepBack (flow s) q at times now after next → AreParts after → IsUnderWay s t times next to before after
  straight_step times q at to next before now after u e plain is parts =
      let f = from_is at q u.spot e in
      let way = straight_way at q f.1 plain in
      let g = ready.good.forward q at.place way.0 way.1.0 way.1.1 in
      let fit : FitsEntries (paths s) (around s.code.now) (flow s) = fits_here s ready in
      let low : (flow s).source q at.depth ≤ (flow s).depth q = fit.from q at.place at.depth way.0 way.1.0 way.1.1 u.spot.shallow in
      let place = is.place in
      let depth = is.depth in
      let v = ap (λ x. times * x) (straight_sum at q u.spot e plain) in
      let raised = is.raised.all in
      let total = u.total in
      let here : sum_in t next.place next.depth ≡ sum_in t q ((flow s).source q at.depth) = ap (λ x. sum_in t x next.depth) place ∙ ap (λ x. sum_in t q x) depth in
      let here' = ap (λ x. times * x) here in
      record {
        low = omega (arith, u.low, f.0);
        spot = record { in_code = omega (arith, f.0, u.spot.in_code); shallow = subst (λ x. next.depth ≤ (flow s).depth x) (sym place) (subst (λ x. x ≤ (flow s).depth q) (sym depth) low) };
        same = ap (around s.code.now) place ∙ sym g.2 ∙ u.same;
        kept = λ p ps round. (
            let inner : around s.code.now q ≡ p ∷ ps = sym g.2 ∙ u.same ∙ round in
            ap (λ x. min x ((flow s).depth p)) depth ∙ fit.kept q at.place at.depth way.0 p ps way.1.0 way.1.1 u.spot.shallow inner ∙ u.kept p ps round);
        long = is.raised.long ∙ u.long;
        parts = parts;
        walked = walked_both (paths s) (flow s) times next at to before now after u.walked (walked_straight (paths s) (flow s) q times at next now after way.0 way.1.0 way.1.1 u.spot.shallow is).1;
        total = omega arith;
      }

  -- ---- over a loop

  behind_loop : (at : Spot) (q : ℕ) → LeadsOn s q at.place → ends_turn (instr_at s.code.now q) ≡ true → q + 1 ≡ at.place
  behind_loop at q l turning = by (way_of s ready q at.place l)
    where
      by : Way s ready q at.place → q + 1 ≡ at.place
      by (straight places e among turn) = let o : true ≡ false = sym turning ∙ turn in absurd (cc)
      by (looping p n e mate next turn) = next

  pub loop_sum : (l : CostLoop) (at : Spot) (q : ℕ) → IsLoop s l → l.end ≡ q → IsSpot s at → (best_in t at.place at.depth).from ≡ Some q → sum_in t at.place at.depth ≡ sum_in t l.head at.depth + (flow s).added l.head at.depth + l.turns * (sum_in t q at.depth + (flow s).added q at.depth)
  loop_sum l at q is end spot e =
      (from_is at q spot e).2
      ∙ ap (λ x. handed s (sum_in t) x at.depth) (sym (is.mate ∙ end))
      ∙ handed_loop s ready (sum_in t) l.head l.turns at.depth is.opens
      ∙ ap (λ x. sum_in t l.head at.depth + (flow s).added l.head at.depth + l.turns * (sum_in t x at.depth + (flow s).added x at.depth)) (is.mate ∙ end)

  pub within_loop : (l : CostLoop) (at : Spot) (q : ℕ) → IsLoop s l → l.end ≡ q → IsSpot s at → (best_in t at.place at.depth).from ≡ Some q → ends_turn (instr_at s.code.now q) ≡ true → IsWithin s l at
  within_loop l at q is end spot e turning =
      let f = from_is at q spot e in
      let fit : FitsEntries (paths s) (around s.code.now) (flow s) = fits_here s ready in
      let same = fit.same l.head l.turns is.opens in
      let g = ready.good.loop l.head l.turns is.opens in
      let behind : at.place ≡ l.end + 1 = omega (arith, behind_loop at q f.1 turning, end) in
      let place : (paths s).mate l.head + 1 ≡ at.place = omega (arith, behind, is.mate) in
      let low : at.depth ≤ (flow s).depth l.head = omega (arith, spot.shallow, ap (flow s).depth place, same.2) in
      let at_end : (flow s).depth l.end ≡ (flow s).depth l.head = ap (flow s).depth (sym is.mate) ∙ same.1 in
      record {
        behind = behind;
        at_end = omega (arith, at_end, low);
        at_turn = omega (arith, same.0, low);
        at_head = low;
        source_end = fit.next l.end at.depth is.ends;
        source_head = fit.times l.head l.turns at.depth is.opens;
        before = omega (arith, g.1, is.mate);
        turn_in = omega (arith, g.1, g.2);
        round_end = ap (around s.code.now) (sym is.mate) ∙ g.5;
        round_behind = ap (around s.code.now) (sym place) ∙ g.6;
      }

  -- `n` turns fit, if each adds something
  many_fit : (times n g rest : ℕ) → 0 < g → rest + times * n * g ≤ greatest_number → times * n ≤ greatest_number
  many_fit times n g rest pos le =
      let m : times * n * 1 ≤ times * n * g = mul-le-mul_left (times * n) (omega arith) in
      omega arith

  pub loop_total : (times q : ℕ) (l : CostLoop) (at to : Spot) (before now : Shares) → IsLoop s l → l.end ≡ q → IsUnderWay s t times at to before now → before.total + times * sum_in t to.place to.depth ≤ greatest_number → (best_in t at.place at.depth).from ≡ Some q → now.total + (times * sum_in t l.head at.depth + times * (flow s).added l.head at.depth + times * l.turns * (sum_in t q at.depth + (flow s).added q at.depth)) ≤ greatest_number
  loop_total times q l at to before now is end u fits e =
      let v = ap (λ x. times * x) (loop_sum l at q is end u.spot e) in
      let w = u.total in
      omega arith

  -- the turns of a loop fit, if each adds something
  pub turns_fit : (times q : ℕ) (l : CostLoop) (at to : Spot) (before now : Shares) → IsLoop s l → l.end ≡ q → IsUnderWay s t times at to before now → before.total + times * sum_in t to.place to.depth ≤ greatest_number → (best_in t at.place at.depth).from ≡ Some q → 0 < sum_in t q at.depth + (flow s).added q at.depth → times * l.turns ≤ greatest_number
  turns_fit times q l at to before now is end u fits e pos =
      let total = loop_total times q l at to before now is end u fits e in
      many_fit times l.turns (sum_in t q at.depth + (flow s).added q at.depth) (now.total + (times * sum_in t l.head at.depth + times * (flow s).added l.head at.depth)) pos (omega (arith, total))

  -- the beginning of the turn that the end of a loop leads back to
  turn_is : (l : CostLoop) (d : ℕ) (end turn : Spot) → around s.code.now l.end ≡ l.head ∷ around s.code.now l.head → d ≤ (flow s).depth l.head → end.place ≡ l.end → end.depth ≡ d → IsBegin s end turn → turn ≡ record { place = l.head + 1; depth = d }
  turn_is l d end turn round low place depth b =
      let inner : around s.code.now end.place ≡ l.head ∷ around s.code.now l.head = ap (around s.code.now) place ∙ round in
      let m : min end.depth ((flow s).depth l.head) ≡ d = omega (arith, depth) in
      b.inside l.head (around s.code.now l.head) inner ∙ ap (λ x. record { place = l.head + 1; depth = x }) m

  -- the way over a loop, given what was added there
  over_loop : (times q : ℕ) (l : CostLoop) (at to next : Spot) (before now after : Shares) → IsLoop s l → l.end ≡ q → IsUnderWay s t times at to before now → (best_in t at.place at.depth).from ≡ Some q → IsWithin s l at → next.place ≡ l.head → next.depth ≡ at.depth → length after.places.items ≡ length now.places.items → AreParts after → IsWalked (paths s) (flow s) times next at now after → after.total + times * sum_in t l.head at.depth ≡ now.total + times * sum_in t at.place at.depth → IsUnderWay s t times next to before after
  over_loop times q l at to next before now after is end_is u e w place next_depth long parts over moved =
      let f = from_is at q u.spot e in
      let here : sum_in t next.place next.depth ≡ sum_in t l.head at.depth = ap (λ x. sum_in t x next.depth) place ∙ ap (λ x. sum_in t l.head x) next_depth in
      let here' = ap (λ x. times * x) here in
      let total = u.total in
      record {
        low = omega (arith, place, w.before, f.0, u.low, end_is);
        spot = record { in_code = omega (arith, place, is.head); shallow = subst (λ x. next.depth ≤ (flow s).depth x) (sym place) (omega (arith, w.at_head, next_depth)) };
        same = ap (around s.code.now) place ∙ sym w.round_behind ∙ u.same;
        kept = λ p ps round. ap (λ x. min x ((flow s).depth p)) next_depth ∙ u.kept p ps round;
        long = long ∙ u.long;
        parts = parts;
        walked = walked_both (paths s) (flow s) times next at to before now after u.walked over;
        total = omega arith;
      }

  -- the shares and the sum on the way over a loop
  pub loop_step : (times many q : ℕ) (l : CostLoop) (at to end turn next : Spot) (before now v1 v2 after : Shares) → IsLoop s l → l.end ≡ q → IsUnderWay s t times at to before now → (best_in t at.place at.depth).from ≡ Some q → ends_turn (instr_at s.code.now q) ≡ true → many ≡ times * l.turns → IsStepBack (flow s) q at many now v1 end → IsWalkedBack s t many turn end v1 v2 → IsStepBack (flow s) l.head at times v2 after next → AreParts after → IsUnderWay s t times next to before after
  loop_step times many q l at to end turn next before now v1 v2 after is end_is u e turning many_is last body first parts =
      let w = within_loop l at q is end_is u.spot e turning in
      let sum = ap (λ x. times * x) (loop_sum l at q is end_is u.spot e) in
      let end_place : end.place ≡ l.end = last.place ∙ sym end_is in
      let end_depth : end.depth ≡ at.depth = last.depth ∙ ap (λ x. (flow s).source x at.depth) (sym end_is) ∙ w.source_end in
      let same_turn = turn_is l at.depth end turn w.round_end w.at_head end_place end_depth body.begin in
      let begun : Spot = record { place = l.head + 1; depth = at.depth } in
      let walked : IsWalked (paths s) (flow s) many begun end v1 v2 = subst (λ x. IsWalked (paths s) (flow s) many x end v1 v2) same_turn body.walked in
      let last' : IsStepBack (flow s) l.end at many now v1 end = subst (λ x. IsStepBack (flow s) x at many now v1 end) (sym end_is) last in
      let first' : IsStepBack (flow s) l.head begun times v2 after next = record { place = first.place; depth = first.depth; raised = first.raised } in
      let turn_spot : IsSpot s begun = record { in_code = w.turn_in; shallow = w.at_turn } in
      let over = walked_loop s l times many at begun end next now v1 v2 after is w.behind u.spot refl refl turn_spot many_is last' walked first' in
      let at_end : sum_in t end.place end.depth ≡ sum_in t q at.depth = ap (λ x. sum_in t x end.depth) last.place ∙ ap (λ x. sum_in t q x) end_depth in
      let body_total : v2.total ≡ v1.total + times * l.turns * sum_in t q at.depth = body.total ∙ ap (λ x. v1.total + many * x) at_end ∙ ap (λ x. v1.total + x * sum_in t q at.depth) many_is in
      let last_total : v1.total ≡ now.total + times * l.turns * (flow s).added q at.depth = last.raised.all ∙ ap (λ x. now.total + x * (flow s).added q at.depth) many_is in
      let first_total : after.total ≡ v2.total + times * (flow s).added l.head at.depth = first.raised.all in
      let moved : after.total + times * sum_in t l.head at.depth ≡ now.total + times * sum_in t at.place at.depth = omega arith in
      over_loop times q l at to next before now after is end_is u e w first.place (first.depth ∙ w.source_head) (first.raised.long ∙ body.walked.1.1.long ∙ last.raised.long) parts over moved

  -- its turns add nothing
  pub skip_step : (times q : ℕ) (l : CostLoop) (at to next : Spot) (before now after : Shares) → IsLoop s l → l.end ≡ q → IsUnderWay s t times at to before now → (best_in t at.place at.depth).from ≡ Some q → ends_turn (instr_at s.code.now q) ≡ true → sum_in t q at.depth ≡ 0 → (flow s).added q at.depth ≡ 0 → IsStepBack (flow s) l.head at times now after next → AreParts after → IsUnderWay s t times next to before after
  skip_step times q l at to next before now after is end_is u e turning none_before none_added first parts =
      let w = within_loop l at q is end_is u.spot e turning in
      let nothing : l.turns * (sum_in t q at.depth + (flow s).added q at.depth) ≡ 0 = ap (λ x. l.turns * (x + (flow s).added q at.depth)) none_before ∙ ap (λ x. l.turns * (0 + x)) none_added ∙ omega arith in
      let sum_is : sum_in t at.place at.depth ≡ sum_in t l.head at.depth + (flow s).added l.head at.depth = loop_sum l at q is end_is u.spot e ∙ omega (arith, nothing) in
      let sum = ap (λ x. times * x) sum_is in
      let behind : at.place ≡ (paths s).mate l.head + 1 = w.behind ∙ ap (λ x. x + 1) (sym is.mate) in
      let over = walked_skip (paths s) (flow s) l.head l.turns times at next now after is.opens behind u.spot.shallow first in
      let first_total : after.total ≡ now.total + times * (flow s).added l.head at.depth = first.raised.all in
      let moved : after.total + times * sum_in t l.head at.depth ≡ now.total + times * sum_in t at.place at.depth = omega arith in
      over_loop times q l at to next before now after is end_is u e w first.place (first.depth ∙ w.source_head) first.raised.long parts over moved

  -- ---- at the beginning of a turn

  spot_is : (a b : Spot) → a.place ≡ b.place → a.depth ≡ b.depth → a ≡ b
  spot_is a b p d = ap (λ x. record { place = x; depth = a.depth }) p ∙ ap (λ x. record { place = b.place; depth = x }) d

  begin_at : (times : ℕ) (at to : Spot) (before now : Shares) → IsUnderWay s t times at to before now → ((q : ℕ) → q < at.place → LeadsOn s q at.place → ⊥) → (pc : ℕ) → pc ≡ at.place → Led (paths s) pc → IsBegin s to at
  begin_at times at to before now u none pc same (from_go from to' places e among) =
      let l = leads_straight s ready from pc places e among in
      let later = leads_later s ready from pc l in
      absurd (none from (omega (arith, later.0, same)) (subst (LeadsOn s from) same l))
  begin_at times at to before now u none pc same (from_end p n e) = absurd (none ((paths s).mate p) (omega (arith, same)) (subst (LeadsOn s ((paths s).mate p)) same (leads_loop s ready p n e)))
  begin_at times at to before now u none pc same (from_head p n e) =
      let g = ready.good.loop p n e in
      let fit : FitsEntries (paths s) (around s.code.now) (flow s) = fits_here s ready in
      let sames = fit.same p n e in
      let round : around s.code.now to.place ≡ p ∷ around s.code.now p = sym u.same ∙ ap (around s.code.now) (sym same) ∙ g.4 in
      let low : at.depth ≤ (flow s).depth p = omega (arith, u.spot.shallow, ap (flow s).depth same, sames.0) in
      record {
        outside = λ none_around. (let plain : [] ≡ p ∷ around s.code.now p = sym none_around ∙ round in absurd (cc));
        inside = λ h hs is. (
            let both : h ∷ hs ≡ p ∷ around s.code.now p = sym is ∙ round in
            let head : h ≡ p = cc in
            let kept = u.kept h hs is in
            let deep : (flow s).depth h ≡ (flow s).depth p = ap (flow s).depth head in
            spot_is at (record { place = h + 1; depth = min to.depth ((flow s).depth h) }) (omega arith) (omega arith));
      }

  pub begins : (times : ℕ) (at to : Spot) (before now : Shares) → IsUnderWay s t times at to before now → (best_in t at.place at.depth).from ≡ None → IsWalkedBack s t times at to before now
  begins times at to before now u e =
      let z = subst (IsFrom s (sum_in t) at.place at.place at.depth (sum_in t at.place at.depth)) e (trail.row at.place u.spot.in_code at.depth u.spot.shallow).from in
      let nothing = ap (λ x. times * x) z.0 in
      let total = u.total in
      record { begin = by z.1 (cases_eq at.place 0); walked = u.walked; total = omega arith; parts = u.parts }
    where
      by : ((q : ℕ) → q < at.place → LeadsOn s q at.place → ⊥) → (at.place ≡ 0) ⊎ ((at.place ≡ 0) → ⊥) → IsBegin s to at
      by none (inr nz) = begin_at times at to before now u none at.place refl (ready.led at.place (omega arith) u.spot.in_code)
      by none (inl zero_is) =
          let fit : FitsEntries (paths s) (around s.code.now) (flow s) = fits_here s ready in
          let round : around s.code.now to.place ≡ [] = sym u.same ∙ ap (around s.code.now) zero_is ∙ ready.good.outside in
          record {
            outside = λ is. spot_is at (record { place = 0; depth = 0 }) zero_is (omega (arith, u.spot.shallow, ap (flow s).depth zero_is, fit.empty));
            inside = λ p ps is. (let plain : [] ≡ p ∷ ps = sym round ∙ is in absurd (cc));
          }

  -- ---- out of a loop

  pub turn_of : (l : CostLoop) (turn : Spot) → IsLoop s l → turn.place ≡ l.head + 1 → IsSpot s turn → IsTurn s l turn
  turn_of l turn is place spot =
      let fit : FitsEntries (paths s) (around s.code.now) (flow s) = fits_here s ready in
      let same = fit.same l.head l.turns is.opens in
      let g = ready.good.loop l.head l.turns is.opens in
      let low : turn.depth ≤ (flow s).depth l.head = omega (arith, spot.shallow, ap (flow s).depth place, same.0) in
      let at_end : (flow s).depth l.end ≡ (flow s).depth l.head = ap (flow s).depth (sym is.mate) ∙ same.1 in
      record {
        at_end = omega (arith, at_end, low);
        at_head = low;
        source_end = fit.next l.end turn.depth is.ends;
        source_head = fit.times l.head l.turns turn.depth is.opens;
        before = omega (arith, g.1, is.mate);
        round_end = ap (around s.code.now) (sym is.mate) ∙ g.5;
      }

  pub out_step : (many : ℕ) (l : CostLoop) (turn end again at : Spot) (before v1 v2 after : Shares) → IsLoop s l → turn.place ≡ l.head + 1 → IsSpot s turn → many ≡ l.turns - 1 → IsStepBack (flow s) l.end turn many before v1 end → IsWalkedBack s t many again end v1 v2 → IsStepBack (flow s) l.head turn 1 v2 after at → AreParts after → IsWalkedBackOut s t l turn at before after
  out_step many l turn end again at before v1 v2 after is place spot many_is last body first parts =
      let w = turn_of l turn is place spot in
      let end_depth : end.depth ≡ turn.depth = last.depth ∙ w.source_end in
      let same_turn = turn_is l turn.depth end again w.round_end w.at_head last.place end_depth body.begin in
      let turn_same : again ≡ turn = same_turn ∙ sym (spot_is turn (record { place = l.head + 1; depth = turn.depth }) place refl) in
      let walked : IsWalked (paths s) (flow s) many turn end v1 v2 = subst (λ x. IsWalked (paths s) (flow s) many x end v1 v2) turn_same body.walked in
      let at_end : sum_in t end.place end.depth ≡ sum_in t l.end turn.depth = ap (λ x. sum_in t x end.depth) last.place ∙ ap (λ x. sum_in t l.end x) end_depth in
      let body_total : v2.total ≡ v1.total + (l.turns - 1) * sum_in t l.end turn.depth = body.total ∙ ap (λ x. v1.total + many * x) at_end ∙ ap (λ x. v1.total + x * sum_in t l.end turn.depth) many_is in
      let last_total : v1.total ≡ before.total + (l.turns - 1) * (flow s).added l.end turn.depth = last.raised.all ∙ ap (λ x. before.total + x * (flow s).added l.end turn.depth) many_is in
      let first_total : after.total ≡ v2.total + 1 * (flow s).added l.head turn.depth = first.raised.all in
      record {
        place = first.place;
        depth = first.depth ∙ w.source_head;
        walked = walked_out s l many turn end at before v1 v2 after is place spot many_is last walked first;
        total = omega arith;
        parts = parts;
      }

  -- ---- to the beginning

  pub rest_inside : (l : CostLoop) (at : Spot) (ps : List ℕ) → IsLoop s l → around s.code.now at.place ≡ l.head ∷ ps → around s.code.now l.head ≡ ps → (x : ℕ) → x ≡ min at.depth ((flow s).depth l.head) → rest_in s t at ≡ base (paths s) (flow s) (sum_in t) (last_turns (around s.code.now l.head)) x + sum_in t l.head x + (flow s).added l.head x + (l.turns - 1) * (sum_in t l.end x + (flow s).added l.end x) + sum_in t at.place at.depth
  rest_inside l at ps is round outer x x_is =
      ap (λ hs. base (paths s) (flow s) (sum_in t) (last_turns hs) at.depth + sum_in t at.place at.depth) round ∙ omega arith
      ∙ ap (λ y. base (paths s) (flow s) (sum_in t) (last_turns ps) y + sum_in t l.head y + (flow s).added l.head y + (bound_of ((paths s).shape l.head) - 1) * gain (paths s) (flow s) (sum_in t) l.head y + sum_in t at.place at.depth) (sym x_is)
      ∙ ap (λ hs. base (paths s) (flow s) (sum_in t) (last_turns hs) x + sum_in t l.head x + (flow s).added l.head x + (bound_of ((paths s).shape l.head) - 1) * gain (paths s) (flow s) (sum_in t) l.head x + sum_in t at.place at.depth) (sym outer)
      ∙ ap (λ sh. base (paths s) (flow s) (sum_in t) (last_turns (around s.code.now l.head)) x + sum_in t l.head x + (flow s).added l.head x + (bound_of sh - 1) * gain (paths s) (flow s) (sum_in t) l.head x + sum_in t at.place at.depth) is.opens
      ∙ ap (λ q. base (paths s) (flow s) (sum_in t) (last_turns (around s.code.now l.head)) x + sum_in t l.head x + (flow s).added l.head x + (l.turns - 1) * (sum_in t q x + (flow s).added q x) + sum_in t at.place at.depth) is.mate

  pub rest_outside : (at : Spot) → around s.code.now at.place ≡ [] → rest_in s t at ≡ sum_in t at.place at.depth
  rest_outside at round = ap (λ hs. base (paths s) (flow s) (sum_in t) (last_turns hs) at.depth + sum_in t at.place at.depth) round ∙ omega arith

  -- the innermost loop of a turn is the one around the spot of the walk back
  pub turn_inside : (at turn : Spot) (head : ℕ) (ps : List ℕ) → IsBegin s at turn → around s.code.now turn.place ≡ head ∷ ps → (turn ≡ record { place = head + 1; depth = min at.depth ((flow s).depth head) }) × (around s.code.now at.place ≡ head ∷ around s.code.now head)
  turn_inside at turn head ps b round = by (around s.code.now at.place) refl
    where
      by : (hs : List ℕ) → around s.code.now at.place ≡ hs → (turn ≡ record { place = head + 1; depth = min at.depth ((flow s).depth head) }) × (around s.code.now at.place ≡ head ∷ around s.code.now head)
      by [] is = let none : head ∷ ps ≡ [] = sym round ∙ ap (λ (x : Spot). around s.code.now x.place) (b.outside is) ∙ ready.good.outside in absurd (cc)
      by (p ∷ hs) is =
          let n = ready.good.nested at.place p hs is in
          let g = ready.good.loop p n.0.0 n.0.1 in
          let turn_is' = b.inside p hs is in
          let both : head ∷ ps ≡ p ∷ around s.code.now p = sym round ∙ ap (λ (x : Spot). around s.code.now x.place) turn_is' ∙ g.4 in
          let same : p ≡ head = cc in
          (turn_is' ∙ ap (λ x. record { place = x + 1; depth = min at.depth ((flow s).depth x) }) same, is ∙ ap (λ x. p ∷ x) (sym n.1) ∙ ap (λ x. x ∷ around s.code.now x) same)

  pub turn_outside : (at turn : Spot) → IsBegin s at turn → around s.code.now turn.place ≡ [] → (turn ≡ record { place = 0; depth = 0 }) × (around s.code.now at.place ≡ [])
  turn_outside at turn b round = by (around s.code.now at.place) refl
    where
      by : (hs : List ℕ) → around s.code.now at.place ≡ hs → (turn ≡ record { place = 0; depth = 0 }) × (around s.code.now at.place ≡ [])
      by [] is = (b.outside is, is)
      by (p ∷ hs) is =
          let n = ready.good.nested at.place p hs is in
          let g = ready.good.loop p n.0.0 n.0.1 in
          let none : [] ≡ p ∷ around s.code.now p = sym round ∙ ap (λ (x : Spot). around s.code.now x.place) (b.inside p hs is) ∙ g.4 in
          absurd (cc)

  pub turn_spot : (l : CostLoop) (at turn : Spot) → IsLoop s l → turn ≡ record { place = l.head + 1; depth = min at.depth ((flow s).depth l.head) } → IsSpot s turn
  turn_spot l at turn is e =
      let fit : FitsEntries (paths s) (around s.code.now) (flow s) = fits_here s ready in
      let same = fit.same l.head l.turns is.opens in
      let g = ready.good.loop l.head l.turns is.opens in
      subst (IsSpot s) (sym e) (record { in_code = omega (arith, g.1, g.2); shallow = omega (arith, same.0) })

  pub out_fits : (l : CostLoop) (at turn : Spot) (now v1 : Shares) (most : ℕ) → IsLoop s l → around s.code.now at.place ≡ l.head ∷ around s.code.now l.head → turn.depth ≡ min at.depth ((flow s).depth l.head) → v1.total ≡ now.total + 1 * sum_in t at.place at.depth → now.total + rest_in s t at ≤ most → looped s (sum_in t) l.head l.end (l.turns - 1) v1.total turn.depth ≤ most
  out_fits l at turn now v1 most is round depth total fits =
      let r = rest_inside l at (around s.code.now l.head) is round refl turn.depth depth in
      omega arith

  out_rest : (l : CostLoop) (at turn next : Spot) (now v1 v2 : Shares) → IsLoop s l → around s.code.now at.place ≡ l.head ∷ around s.code.now l.head → turn.depth ≡ min at.depth ((flow s).depth l.head) → v1.total ≡ now.total + 1 * sum_in t at.place at.depth → IsWalkedBackOut s t l turn next v1 v2 → v2.total + rest_in s t next ≡ now.total + rest_in s t at
  out_rest l at turn next now v1 v2 is round depth total out =
      let r = rest_inside l at (around s.code.now l.head) is round refl turn.depth depth in
      let here : rest_in s t next ≡ base (paths s) (flow s) (sum_in t) (last_turns (around s.code.now l.head)) turn.depth + sum_in t l.head turn.depth = ap (λ x. base (paths s) (flow s) (sum_in t) (last_turns (around s.code.now x)) next.depth + sum_in t x next.depth) out.place ∙ ap (λ x. base (paths s) (flow s) (sum_in t) (last_turns (around s.code.now l.head)) x + sum_in t l.head x) out.depth in
      let all = out.total in
      omega arith

  pub step_spot : (l : CostLoop) (times d : ℕ) (to end : Spot) (before after : Shares) → IsLoop s l → d ≤ (flow s).depth l.end → (flow s).source l.end to.depth ≡ d → IsStepBack (flow s) l.end to times before after end → IsSpot s end
  step_spot l times d to end before after is low source step =
      let place = step.place in
      let depth : end.depth ≡ d = step.depth ∙ source in
      record { in_code = omega (arith, is.end); shallow = subst (λ x. end.depth ≤ (flow s).depth x) (sym place) (omega arith) }

  -- ---- the numbers on the way over a loop fit

  end_sum : (times many q : ℕ) (l : CostLoop) (at end : Spot) (now v1 : Shares) → IsLoop s l → l.end ≡ q → IsWithin s l at → IsStepBack (flow s) q at many now v1 end → sum_in t end.place end.depth ≡ sum_in t q at.depth
  end_sum times many q l at end now v1 is end_is w last = ap (λ x. sum_in t x end.depth) last.place ∙ ap (λ x. sum_in t q x) (last.depth ∙ ap (λ x. (flow s).source x at.depth) (sym end_is) ∙ w.source_end)

  pub body_fits : (times q : ℕ) (l : CostLoop) (at to end : Spot) (before now v1 : Shares) → IsLoop s l → l.end ≡ q → IsUnderWay s t times at to before now → before.total + times * sum_in t to.place to.depth ≤ greatest_number → (best_in t at.place at.depth).from ≡ Some q → ends_turn (instr_at s.code.now q) ≡ true → IsStepBack (flow s) q at (times * l.turns) now v1 end → IsSpot s end × (v1.total + times * l.turns * sum_in t end.place end.depth ≤ greatest_number)
  body_fits times q l at to end before now v1 is end_is u fits e turning last =
      let w = within_loop l at q is end_is u.spot e turning in
      let total = loop_total times q l at to before now is end_is u fits e in
      let last' : IsStepBack (flow s) l.end at (times * l.turns) now v1 end = subst (λ x. IsStepBack (flow s) x at (times * l.turns) now v1 end) (sym end_is) last in
      let last_total : v1.total ≡ now.total + times * l.turns * (flow s).added q at.depth = last.raised.all in
      let fit : v1.total + times * l.turns * sum_in t q at.depth ≤ greatest_number = omega arith in
      (step_spot l (times * l.turns) at.depth at end now v1 is w.at_end w.source_end last', subst (λ x. v1.total + times * l.turns * x ≤ greatest_number) (sym (end_sum times (times * l.turns) q l at end now v1 is end_is w last)) fit)

  pub head_fits : (times q : ℕ) (l : CostLoop) (at to end turn : Spot) (before now v1 v2 : Shares) → IsLoop s l → l.end ≡ q → IsUnderWay s t times at to before now → before.total + times * sum_in t to.place to.depth ≤ greatest_number → (best_in t at.place at.depth).from ≡ Some q → ends_turn (instr_at s.code.now q) ≡ true → IsStepBack (flow s) q at (times * l.turns) now v1 end → IsWalkedBack s t (times * l.turns) turn end v1 v2 → v2.total + times * (flow s).added l.head at.depth ≤ greatest_number
  head_fits times q l at to end turn before now v1 v2 is end_is u fits e turning last body =
      let w = within_loop l at q is end_is u.spot e turning in
      let total = loop_total times q l at to before now is end_is u fits e in
      let last_total : v1.total ≡ now.total + times * l.turns * (flow s).added q at.depth = last.raised.all in
      let body_total : v2.total ≡ v1.total + times * l.turns * sum_in t q at.depth = body.total ∙ ap (λ x. v1.total + times * l.turns * x) (end_sum times (times * l.turns) q l at end now v1 is end_is w last) in
      omega arith

  pub turn_in : (at turn : Spot) → IsBegin s at turn → turn.place < length s.code.now
  turn_in at turn b = by (around s.code.now at.place) refl
    where
      by : (hs : List ℕ) → around s.code.now at.place ≡ hs → turn.place < length s.code.now
      by [] is = let place = ap (λ (x : Spot). x.place) (b.outside is) in let some = ready.good.some_code in omega (arith, place, some)
      by (p ∷ hs) is =
          let n = ready.good.nested at.place p hs is in
          let g = ready.good.loop p n.0.0 n.0.1 in
          let place = ap (λ (x : Spot). x.place) (b.inside p hs is) in
          omega (arith, place, g.1, g.2)

  -- a loop opens at the head that is found
  pub loop_opens : (at turn : Spot) (head : ℕ) (found d : Option ℕ) → IsBegin s at turn → found ≡ get_or s.layout.now.typing.now.loops.heads turn.place d → found ≡ Some head → OpensLoop s head
  loop_opens at turn head found d b is told =
      let r = around_found s ready turn.place head found d (turn_in at turn b) is told in
      (ready.good.nested turn.place head r.0 r.1).0

  -- the turn is one of the loop with the head that is found
  pub turn_of_loop : (l : CostLoop) (at turn : Spot) (head : ℕ) (found d : Option ℕ) → l.head ≡ head → IsBegin s at turn → found ≡ get_or s.layout.now.typing.now.loops.heads turn.place d → found ≡ Some head → (turn ≡ record { place = l.head + 1; depth = min at.depth ((flow s).depth l.head) }) × (around s.code.now at.place ≡ l.head ∷ around s.code.now l.head)
  turn_of_loop l at turn head found d same b is told =
      let r = around_found s ready turn.place head found d (turn_in at turn b) is told in
      subst (λ h. (turn ≡ record { place = h + 1; depth = min at.depth ((flow s).depth h) }) × (around s.code.now at.place ≡ h ∷ around s.code.now h)) (sym same) (turn_inside at turn head r.0 b r.1)

  -- no head is found outside all loops
  pub turn_of_none : (at turn : Spot) (found d : Option ℕ) → IsBegin s at turn → found ≡ get_or s.layout.now.typing.now.loops.heads turn.place d → found ≡ None → (turn ≡ record { place = 0; depth = 0 }) × (around s.code.now at.place ≡ [])
  turn_of_none at turn found d b is told = turn_outside at turn b (around_missing s ready turn.place found d (turn_in at turn b) is told)

  next_spot : (l : CostLoop) (at turn next : Spot) (v1 v2 : Shares) → IsLoop s l → turn ≡ record { place = l.head + 1; depth = min at.depth ((flow s).depth l.head) } → IsWalkedBackOut s t l turn next v1 v2 → IsSpot s next
  next_spot l at turn next v1 v2 is turn_same out =
      let place = out.place in
      let depth : next.depth ≡ min at.depth ((flow s).depth l.head) = out.depth ∙ ap (λ (x : Spot). x.depth) turn_same in
      record { in_code = omega (arith, place, is.head); shallow = subst (λ x. next.depth ≤ (flow s).depth x) (sym place) (omega arith) }

  -- the walk back so far, out of one more loop
  pub out_of_loop : (l : CostLoop) (at to turn next : Spot) (first now v1 v2 : Shares) → IsLoop s l → (turn ≡ record { place = l.head + 1; depth = min at.depth ((flow s).depth l.head) }) × (around s.code.now at.place ≡ l.head ∷ around s.code.now l.head) → IsWalkedBack s t 1 turn at now v1 → IsWalkedBackOut s t l turn next v1 v2 → IsOpenWalk (paths s) (flow s) at to first now × IsSpot s at × (length now.places.items ≡ length s.code.now) × AreParts now × (now.total + rest_in s t at ≡ first.total + rest_in s t to) → IsOpenWalk (paths s) (flow s) next to first v2 × IsSpot s next × (length v2.places.items ≡ length s.code.now) × AreParts v2 × (v2.total + rest_in s t next ≡ first.total + rest_in s t to)
  out_of_loop l at to turn next first now v1 v2 is here back out so_far = (
    open_out (paths s) (flow s) next turn to first v1 v2 (open_walked (paths s) (flow s) turn at to first now v1 so_far.0 back.walked) out.walked,
    next_spot l at turn next v1 v2 is here.0 out,
    out.walked.1.1.long ∙ back.walked.1.1.long ∙ so_far.2,
    out.parts,
    out_rest l at turn next now v1 v2 is here.1 (ap (λ (x : Spot). x.depth) here.0) back.total out ∙ so_far.4,
  )
