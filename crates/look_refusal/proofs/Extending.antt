-- Paths that go on, and what they add.
use Rattle.std.proofs.Common.{◌≡◌, ℕ, zero, suc, ◌+◌, ◌*◌, ◌≤◌, ◌∷◌, refl, arith}
use Rattle.sts_rules.specs.ControlPaths.{Skeleton, Loops, Follows, Repeats, EndsTurn, enter, again, leave}
use Rattle.sts_budget.specs.Sums.{Flows, Sums, none as no_sum, more as more_sum}
use Rattle.look_refusal.specs.Adding.{Adds, Steps, none, more, total}
use Rattle.look_refusal.specs.Walk.{Amounts, Extends, one}

abbrev pub nothing : Amounts
nothing = record { at = λ x. 0; all = 0 }

abbrev pub plus : Amounts → Amounts → Amounts
plus a b = record { at = λ x. a.at x + b.at x; all = a.all + b.all }

abbrev pub fold_of : ℕ → Amounts → Amounts
fold_of n a = record { at = λ x. n * a.at x; all = n * a.all }

module _ (c : Skeleton) (f : Flows) where
  pub extends_none : (d pc : ℕ) (loops : Loops) → Extends c f d pc loops d pc loops nothing
  extends_none d pc loops = λ steps a. (steps, (a, record { at = λ x. omega arith; all = omega arith }))

  pub extends_step : (d pc to : ℕ) (loops after : Loops) → d ≤ f.depth to → Follows c pc loops to after → Extends c f (f.source pc d) pc loops d to after (one pc (f.added pc d))
  extends_step d pc to loops after le follows = λ steps a. ((pc, f.added pc d) ∷ steps, (more le a follows, record { at = λ x. refl; all = refl }))

  pub extends_both : (d pc e to g at : ℕ) (loops mid after : Loops) (a b : Amounts) → Extends c f d pc loops e to mid a → Extends c f e to mid g at after b → Extends c f d pc loops g at after (plus a b)
  extends_both d pc e to g at loops mid after a b h k = λ steps p.
      (let u = h steps p in
      let v = k u.0 u.1.0 in
      (v.0, (v.1.0, record { at = λ x. (let m = u.1.1.at x in let n = v.1.1.at x in omega arith); all = (let m = u.1.1.all in let n = v.1.1.all in omega arith) })))

  extends_as : (d pc e to : ℕ) (loops after : Loops) (a b : Amounts) → ((x : ℕ) → a.at x ≡ b.at x) → a.all ≡ b.all → Extends c f d pc loops e to after a → Extends c f d pc loops e to after b
  extends_as d pc e to loops after a b at all h = λ steps p.
      (let u = h steps p in
      (u.0, (u.1.0, record { at = λ x. (let m = u.1.1.at x in let n = at x in omega arith); all = (let m = u.1.1.all in omega arith) })))

  -- the turns of a loop up to the beginning of the last one
  pub turns : (h e d : ℕ) (body : Amounts) → ((loops : Loops) → Extends c f d (h + 1) loops (f.source e d) e loops body) → d ≤ f.depth (h + 1) → c.shape e ≡ EndsTurn → (n : ℕ) (loops : Loops) → Extends c f d (h + 1) ((h, suc n) ∷ loops) d (h + 1) ((h, 1) ∷ loops) (fold_of n (plus body (one e (f.added e d))))
  turns h e d body each low ends zero loops = extends_as d (h + 1) d (h + 1) ((h, 1) ∷ loops) ((h, 1) ∷ loops) nothing (fold_of 0 (plus body (one e (f.added e d)))) (λ x. omega arith) (omega arith) (extends_none d (h + 1) ((h, 1) ∷ loops))
  turns h e d body each low ends (suc n) loops =
      let way = each ((h, suc (suc n)) ∷ loops) in
      let back = extends_step d e (h + 1) ((h, suc (suc n)) ∷ loops) ((h, suc n) ∷ loops) low (again h (suc n) ends (omega arith)) in
      let turn = extends_both d (h + 1) (f.source e d) e d (h + 1) ((h, suc (suc n)) ∷ loops) ((h, suc (suc n)) ∷ loops) ((h, suc n) ∷ loops) body (one e (f.added e d)) way back in
      let rest = turns h e d body each low ends n loops in
      let t = plus body (one e (f.added e d)) in
      let all = extends_both d (h + 1) d (h + 1) d (h + 1) ((h, suc (suc n)) ∷ loops) ((h, suc n) ∷ loops) ((h, 1) ∷ loops) t (fold_of n t) turn rest in
      extends_as d (h + 1) d (h + 1) ((h, suc (suc n)) ∷ loops) ((h, 1) ∷ loops) (plus t (fold_of n t)) (fold_of (suc n) t) (λ x. once_more n (t.at x)) (once_more n t.all) all
    where
      once_more : (n y : ℕ) → y + n * y ≡ suc n * y
      once_more n y = omega arith

  -- from the `times` of a loop to the beginning of its last turn
  pub to_last_turn : (h e d n : ℕ) (body : Amounts) → ((loops : Loops) → Extends c f d (h + 1) loops (f.source e d) e loops body) → d ≤ f.depth (h + 1) → c.shape h ≡ Repeats (suc n) → c.shape e ≡ EndsTurn → (loops : Loops) → Extends c f (f.source h d) h loops d (h + 1) ((h, 1) ∷ loops) (plus (one h (f.added h d)) (fold_of n (plus body (one e (f.added e d)))))
  to_last_turn h e d n body each low opens ends loops =
      extends_both (f.source h d) h d (h + 1) d (h + 1) loops ((h, suc n) ∷ loops) ((h, 1) ∷ loops) (one h (f.added h d)) (fold_of n (plus body (one e (f.added e d))))
      (extends_step d h (h + 1) loops ((h, suc n) ∷ loops) low (enter (suc n) (suc n) opens (omega arith) (omega arith)))
      (turns h e d body each low ends n loops)

  -- over a whole loop
  pub over_loop : (h e d n : ℕ) (body : Amounts) → ((loops : Loops) → Extends c f d (h + 1) loops (f.source e d) e loops body) → d ≤ f.depth (h + 1) → d ≤ f.depth (e + 1) → c.shape h ≡ Repeats (suc n) → c.shape e ≡ EndsTurn → (loops : Loops) → Extends c f (f.source h d) h loops d (e + 1) loops (plus (one h (f.added h d)) (fold_of (suc n) (plus body (one e (f.added e d)))))
  over_loop h e d n body each low lower opens ends loops =
      let t = plus body (one e (f.added e d)) in
      let first = to_last_turn h e d n body each low opens ends loops in
      let last = extends_both d (h + 1) (f.source e d) e d (e + 1) ((h, 1) ∷ loops) ((h, 1) ∷ loops) loops body (one e (f.added e d)) (each ((h, 1) ∷ loops)) (extends_step d e (e + 1) ((h, 1) ∷ loops) loops lower (leave h ends)) in
      let all = extends_both (f.source h d) h d (h + 1) d (e + 1) loops ((h, 1) ∷ loops) loops (plus (one h (f.added h d)) (fold_of n t)) t first last in
      extends_as (f.source h d) h d (e + 1) loops loops (plus (plus (one h (f.added h d)) (fold_of n t)) t) (plus (one h (f.added h d)) (fold_of (suc n) t)) (λ x. last_one ((one h (f.added h d)).at x) n (t.at x)) (last_one (f.added h d) n t.all) all
    where
      last_one : (k n y : ℕ) → k + n * y + y ≡ k + suc n * y
      last_one k n y = omega arith

  -- the steps of a path sum up
  pub sums : (d pc : ℕ) (loops : Loops) (steps : Steps) → Adds c f d pc loops steps → Sums c f d pc loops (total steps)
  sums d pc loops steps none = no_sum
  sums d pc loops steps (more {d = e} {pc = from} {loops = ls} {steps = before} le a follows) = more_sum le (sums (f.source from e) from ls before a) follows
