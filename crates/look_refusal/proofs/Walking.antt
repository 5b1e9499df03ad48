-- Stretches that were walked back, in a row.
use Rattle.std.proofs.Common.{◌≡◌, ℕ, zero, suc, ◌+◌, ◌-◌, ◌*◌, ◌<◌, ◌≤◌, List, [], ◌∷◌, get_or, refl, sym, subst, ap, ◌∙◌, arith}
use Rattle.sts_rules.specs.ControlPaths.{Skeleton, Loops, GoesTo, Repeats, Among, go, skip}
use Rattle.sts_budget.specs.Sums.{Flows}
use Rattle.look_refusal.specs.declared.search.Spot.{Spot}
use Rattle.look_refusal.specs.declared.search.CostLoop.{CostLoop}
use Rattle.look_refusal.specs.declared.search.Search.{Search}
use Rattle.look_refusal.specs.declared.shares.Shares.{Shares}
use Rattle.look_refusal.specs.Adding.{Adds, Steps, none, share, total}
use Rattle.look_refusal.specs.Search.{IsSpot, IsLoop, paths, flow}
use Rattle.look_refusal.specs.Walk.{Amounts, Extends, IsStretch, IsRaised, IsStepBack, IsWalked, IsWalkedOut, IsWholeWalk, one}
use Rattle.look_refusal.proofs.Extending.{plus, fold_of, nothing, extends_none, extends_step, extends_both, over_loop, to_last_turn}

-- ---- what was added

pub raised_none : (times : ℕ) (s : Shares) → IsRaised times nothing s s
raised_none times s = record { long = refl; at = λ x. omega arith; all = omega arith }

pub raised_both : (times : ℕ) (a b : Amounts) (s t u : Shares) → IsRaised times a s t → IsRaised times b t u → IsRaised times (plus b a) s u
raised_both times a b s t u h k = record {
  long = k.long ∙ h.long;
  at = λ x. k.at x ∙ ap (λ v. v + times * b.at x) (h.at x) ∙ joined (get_or s.places.items x 0) times (a.at x) (b.at x);
  all = k.all ∙ ap (λ v. v + times * b.all) h.all ∙ joined s.total times a.all b.all;
}
  where
    joined : (n times x y : ℕ) → n + times * x + times * y ≡ n + times * (y + x)
    joined n times x y = omega arith

-- added `times` times in each of `n` turns
pub raised_fold : (times n many : ℕ) (a : Amounts) (s t : Shares) → many ≡ times * n → IsRaised many a s t → IsRaised times (fold_of n a) s t
raised_fold times n many a s t is h = record {
  long = h.long;
  at = λ x. h.at x ∙ ap (λ v. get_or s.places.items x 0 + v) (ap (λ m. m * a.at x) is ∙ products times n (a.at x));
  all = h.all ∙ ap (λ v. s.total + v) (ap (λ m. m * a.all) is ∙ products times n a.all);
}
  where
    products : (x y z : ℕ) → x * y * z ≡ x * (y * z)
    products x y z = omega arith

-- ---- stretches

pub walked_none : (c : Skeleton) (f : Flows) (times : ℕ) (at : Spot) (s : Shares) → IsWalked c f times at at s s
walked_none c f times at s = (nothing, (λ loops. extends_none c f at.depth at.place loops, raised_none times s))

pub walked_both : (c : Skeleton) (f : Flows) (times : ℕ) (at mid to : Spot) (s t u : Shares) → IsWalked c f times mid to s t → IsWalked c f times at mid t u → IsWalked c f times at to s u
walked_both c f times at mid to s t u (a, (h, r)) (b, (k, q)) = (plus b a, (λ loops. extends_both c f at.depth at.place mid.depth mid.place to.depth to.place loops loops loops b a (k loops) (h loops), raised_both times a b s t u r q))

-- one step
step_as : (c : Skeleton) (f : Flows) (from : ℕ) (to at : Spot) (loops after : Loops) (a : Amounts) → at.place ≡ from → at.depth ≡ f.source from to.depth → Extends c f (f.source from to.depth) from loops to.depth to.place after a → Extends c f at.depth at.place loops to.depth to.place after a
step_as c f from to at loops after a p d h = subst (λ x. Extends c f at.depth x loops to.depth to.place after a) (sym p) (subst (λ x. Extends c f x from loops to.depth to.place after a) (sym d) h)

pub walked_straight : (c : Skeleton) (f : Flows) (from times : ℕ) (to at : Spot) (s t : Shares) (places : List ℕ) → c.shape from ≡ GoesTo places → Among places to.place → to.depth ≤ f.depth to.place → IsStepBack f from to times s t at → (at.place ≡ from) × IsWalked c f times at to s t
walked_straight c f from times to at s t places shape among low is =
    (is.place, (one from (f.added from to.depth), (λ loops. step_as c f from to at loops loops (one from (f.added from to.depth)) is.place is.depth (extends_step c f to.depth from to.place loops loops low (go places shape among)), is.raised)))

-- ---- loops

-- a body from the beginning of a turn to its end
body_as : (c : Skeleton) (f : Flows) (h e d : ℕ) (turn end : Spot) (body : Amounts) → turn.place ≡ h + 1 → turn.depth ≡ d → end.place ≡ e → end.depth ≡ f.source e d → IsStretch c f turn end body → (loops : Loops) → Extends c f d (h + 1) loops (f.source e d) e loops body
body_as c f h e d turn end body p q r t way loops =
    subst (λ x. Extends c f d (h + 1) loops x e loops body) t
    (subst (λ x. Extends c f d (h + 1) loops end.depth x loops body) r
    (subst (λ x. Extends c f x (h + 1) loops end.depth end.place loops body) q
    (subst (λ x. Extends c f turn.depth x loops end.depth end.place loops body) p (way loops))))

module _ (z : Search) (l : CostLoop) where
  abbrev c : Skeleton
  c = paths z

  abbrev f : Flows
  f = flow z

  abbrev h : ℕ
  h = l.head

  abbrev e : ℕ
  e = l.end

  -- what a turn adds, with the end of the turn before it
  abbrev turn_of : Amounts → ℕ → Amounts
  turn_of body d = plus body (one e (f.added e d))

  pub walked_loop : (times many : ℕ) (to turn end at : Spot) (s t u v : Shares) → IsLoop z l → to.place ≡ l.end + 1 → IsSpot z to → turn.place ≡ l.head + 1 → turn.depth ≡ to.depth → IsSpot z turn → many ≡ times * l.turns → IsStepBack (flow z) l.end to many s t end → IsWalked (paths z) (flow z) many turn end t u → IsStepBack (flow z) l.head turn times u v at → IsWalked (paths z) (flow z) times at to s v
  walked_loop times many to turn end at s t u v is behind low begins same lower many_is last (body, (way, raised)) first = by l.turns is.some refl
    where
      d : ℕ
      d = to.depth

      each : (loops : Loops) → Extends c f d (h + 1) loops (f.source e d) e loops body
      each = body_as c f h e d turn end body begins same last.place last.depth way

      lower_is : d ≤ f.depth (h + 1)
      lower_is = subst (λ x. x ≤ f.depth (h + 1)) same (subst (λ x. turn.depth ≤ f.depth x) begins lower.shallow)

      low_is : d ≤ f.depth (e + 1)
      low_is = subst (λ x. d ≤ f.depth x) behind low.shallow

      head_raised : IsRaised times (one h (f.added h d)) u v
      head_raised = subst (λ x. IsRaised times (one h (f.added h x)) u v) same first.raised

      depth_is : at.depth ≡ f.source h d
      depth_is = first.depth ∙ ap (λ x. f.source h x) same

      by : (n : ℕ) → 0 < n → l.turns ≡ n → IsWalked c f times at to s v
      by zero lt q = absurd (omega arith)
      by (suc n) lt q =
          let opens : c.shape h ≡ Repeats (suc n) = is.opens ∙ ap (λ k. Repeats k) q in
          let a = plus (one h (f.added h d)) (fold_of (suc n) (turn_of body d)) in
          let all = raised_both many (one e (f.added e d)) body s t u last.raised raised in
          let folded = raised_fold times (suc n) many (turn_of body d) s u (many_is ∙ ap (λ k. times * k) q) all in
          (a, (λ loops. step_as c f h to at loops loops a first.place depth_is (subst (λ x. Extends c f (f.source h d) h loops d x loops a) (sym behind) (over_loop c f h e d n body each lower_is low_is opens is.ends loops)), raised_both times (fold_of (suc n) (turn_of body d)) (one h (f.added h d)) s u v folded head_raised))

  pub walked_out : (many : ℕ) (turn end at : Spot) (s t u v : Shares) → IsLoop z l → turn.place ≡ l.head + 1 → IsSpot z turn → many ≡ l.turns - 1 → IsStepBack (flow z) l.end turn many s t end → IsWalked (paths z) (flow z) many turn end t u → IsStepBack (flow z) l.head turn 1 u v at → IsWalkedOut (paths z) (flow z) at turn s v
  walked_out many turn end at s t u v is begins low many_is last (body, (way, raised)) first = by l.turns is.some refl
    where
      each : (loops : Loops) → Extends c f turn.depth (h + 1) loops (f.source e turn.depth) e loops body
      each = body_as c f h e turn.depth turn end body begins refl last.place last.depth way

      low_is : turn.depth ≤ f.depth (h + 1)
      low_is = subst (λ x. turn.depth ≤ f.depth x) begins low.shallow

      by : (n : ℕ) → 0 < n → l.turns ≡ n → IsWalkedOut c f at turn s v
      by zero lt q = absurd (omega arith)
      by (suc n) lt q =
          let opens : c.shape h ≡ Repeats (suc n) = is.opens ∙ ap (λ k. Repeats k) q in
          let a = plus (one h (f.added h turn.depth)) (fold_of n (turn_of body turn.depth)) in
          let all = raised_both many (one e (f.added e turn.depth)) body s t u last.raised raised in
          let many_so : many ≡ 1 * n = omega arith in
          let folded = raised_fold 1 n many (turn_of body turn.depth) s u many_so all in
          (a, (λ loops. out_as a loops (to_last_turn c f h e turn.depth n body each low_is opens is.ends loops), raised_both 1 (fold_of n (turn_of body turn.depth)) (one h (f.added h turn.depth)) s u v folded first.raised))
        where
          out_as : (a : Amounts) (loops : Loops) → Extends c f (f.source h turn.depth) h loops turn.depth (h + 1) ((h, 1) ∷ loops) a → Extends c f at.depth at.place loops turn.depth turn.place ((at.place, 1) ∷ loops) a
          out_as a loops w =
              subst (λ x. Extends c f at.depth x loops turn.depth turn.place ((x, 1) ∷ loops) a) (sym first.place)
              (subst (λ x. Extends c f x h loops turn.depth turn.place ((h, 1) ∷ loops) a) (sym first.depth)
              (subst (λ x. Extends c f (f.source h turn.depth) h loops turn.depth x ((h, 1) ∷ loops) a) (sym begins) w))

-- over a whole loop that makes no turn
pub walked_skip : (c : Skeleton) (f : Flows) (h n times : ℕ) (to at : Spot) (s t : Shares) → c.shape h ≡ Repeats n → to.place ≡ c.mate h + 1 → to.depth ≤ f.depth to.place → IsStepBack f h to times s t at → IsWalked c f times at to s t
walked_skip c f h n times to at s t shape behind low is =
    let low' : to.depth ≤ f.depth (c.mate h + 1) = subst (λ x. to.depth ≤ f.depth x) behind low in
    (one h (f.added h to.depth), (λ loops. step_as c f h to at loops loops (one h (f.added h to.depth)) is.place is.depth (subst (λ x. Extends c f (f.source h to.depth) h loops to.depth x loops (one h (f.added h to.depth))) (sym behind) (extends_step c f to.depth h (c.mate h + 1) loops loops low' (skip n shape))), is.raised))

-- ---- out of all loops

-- a walk back from a place, with more loops open at its end
pub record IsOpenWalk (c : Skeleton) (f : Flows) (at to : Spot) (before after : Shares) : Type 0 where
  pub after_loops : Loops → Loops
  pub amounts : Amounts
  pub way : (loops : Loops) → Extends c f at.depth at.place loops to.depth to.place (after_loops loops) amounts
  pub raised : IsRaised 1 amounts before after

pub open_none : (c : Skeleton) (f : Flows) (to : Spot) (s : Shares) → IsOpenWalk c f to to s s
open_none c f to s = record { after_loops = λ loops. loops; amounts = nothing; way = λ loops. extends_none c f to.depth to.place loops; raised = raised_none 1 s }

pub open_walked : (c : Skeleton) (f : Flows) (start at to : Spot) (s t u : Shares) → IsOpenWalk c f at to s t → IsWalked c f 1 start at t u → IsOpenWalk c f start to s u
open_walked c f start at to s t u o (b, (k, q)) = record {
  after_loops = o.after_loops;
  amounts = plus b o.amounts;
  way = λ loops. extends_both c f start.depth start.place at.depth at.place to.depth to.place loops loops (o.after_loops loops) b o.amounts (k loops) (o.way loops);
  raised = raised_both 1 o.amounts b s t u o.raised q;
}

pub open_out : (c : Skeleton) (f : Flows) (at turn to : Spot) (s t u : Shares) → IsOpenWalk c f turn to s t → IsWalkedOut c f at turn t u → IsOpenWalk c f at to s u
open_out c f at turn to s t u o (b, (k, q)) = record {
  after_loops = λ loops. o.after_loops ((at.place, 1) ∷ loops);
  amounts = plus b o.amounts;
  way = λ loops. extends_both c f at.depth at.place turn.depth turn.place to.depth to.place loops ((at.place, 1) ∷ loops) (o.after_loops ((at.place, 1) ∷ loops)) b o.amounts (k loops) (o.way ((at.place, 1) ∷ loops));
  raised = raised_both 1 o.amounts b s t u o.raised q;
}

pub whole_walk : (c : Skeleton) (f : Flows) (start to : Spot) (s t : Shares) → IsOpenWalk c f start to s t → start ≡ record { place = 0; depth = 0 } → IsWholeWalk c f to s t
whole_walk c f start to s t o is = (o.after_loops [], (o.amounts, (subst (λ x. Extends c f x.depth x.place [] to.depth to.place (o.after_loops []) o.amounts) is (o.way []), o.raised)))

-- if nothing was added before, the amounts are those of the path
pub record IsPath (c : Skeleton) (f : Flows) (to : Spot) (after : Shares) : Type 0 where
  pub loops : Loops
  pub steps : Steps
  pub path : Adds c f to.depth to.place loops steps
  pub shares : (x : ℕ) → get_or after.places.items x 0 ≡ share steps x
  pub all : after.total ≡ total steps

pub whole_path : (c : Skeleton) (f : Flows) (to : Spot) (before after : Shares) → ((x : ℕ) → get_or before.places.items x 0 ≡ 0) → before.total ≡ 0 → IsWholeWalk c f to before after → IsPath c f to after
whole_path c f to before after zero_at zero_all (loops, (a, (way, raised))) =
    let w = way [] none in
    record {
      loops = loops;
      steps = w.0;
      path = w.1.0;
      shares = λ x. (let r = raised.at x in let z = zero_at x in let g = w.1.1.at x in omega arith);
      all = (let r = raised.all in let g = w.1.1.all in omega arith);
    }
