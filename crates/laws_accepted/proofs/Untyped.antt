-- A program with more steps than its budget: a path of it ends at a `next` of no loop, so it is
-- part of no whole path.
use Rattle.std.proofs.Common.{◌≡◌, ℕ, zero, suc, ◌+◌, ◌<◌, ◌≤◌, inl, inr, List, [], ◌∷◌, refl, sym, ◌∙◌, ap, subst, arith}
use Rattle.std.specs.Prelude.{codes, pos}
use Rattle.sts_code.specs.Program.{Program}
use Rattle.sts_code.specs.declared.instr.Instr.{Instr}
use Rattle.sts_code.specs.declared.instr.Instr.TheVariants.{Push, Jz, Next, Ret}
use Rattle.sts_code.specs.declared.profile.Profile.TheVariants.{One}
use Rattle.sts_rules.specs.declared.budget.Budgets.{Budgets}
use Rattle.sts_model.specs.declared.event.Event.{Event}
use Rattle.sts_model.specs.declared.event.Event.TheVariants.{Step}
use Rattle.sts_rules.specs.ControlPaths.{GoesTo, Repeats, EndsPath, Skeleton, OpenEntry, Among, Loops, Follows, go, skip, enter, again, leave, Comes, start}
use Rattle.sts_rules.specs.ControlPaths.{step, PathCounts, PointHolds}
use Rattle.sts_rules.specs.Budget.{skeleton, tasks_sum, scopes_sum, binds_sum, IsBudget, AreBudgets}
use Rattle.laws_accepted.specs.Costs.{StepsNeedTypes}

abbrev code : List Instr
code = Push (pos 0) ∷ Jz 4 ∷ Push (pos 0) ∷ Ret ∷ Push (pos 0) ∷ Push (pos 0) ∷ Push (pos 0) ∷ Next ∷ []

abbrev program : Program
program = record { profile = One; routines = record { name = codes "main"; args = 0; needs = []; code = code } ∷ [] }

-- the only whole path has four steps
abbrev budget : Budgets
budget = record { steps = 4; tasks = 1; scopes = 0; binds = 0 }

abbrev c : Skeleton
c = skeleton [] code

-- the steps before a place
abbrev cost : ℕ → ℕ
cost zero = 0
cost (suc zero) = 1
cost (suc (suc zero)) = 2
cost (suc (suc (suc zero))) = 3
cost (suc (suc (suc (suc zero)))) = 2
cost (suc (suc (suc (suc (suc zero))))) = 3
cost (suc (suc (suc (suc (suc (suc zero)))))) = 4
cost _ = 5

record Known (pc : ℕ) (loops : Loops) (before : ℕ) (es : List OpenEntry) : Type 0 where
  low : pc < 8
  none : loops ≡ []
  steps : before ≡ cost pc
  empty : es ≡ []

one_of : (a to : ℕ) (places : List ℕ) → GoesTo (a ∷ []) ≡ GoesTo places → Among places to → to ≡ a
one_of a to places e among = let q : places ≡ a ∷ [] = cc in by (subst (λ ps. Among ps to) q among)
  where
    by : Among (a ∷ []) to → to ≡ a
    by (inl same) = sym same
    by (inr none) = absurd none

-- a step leads to a place with one step more before it
goes : (pc to : ℕ) (places : List ℕ) → pc < 8 → c.shape pc ≡ GoesTo places → Among places to → (to < 8) × (cost to ≡ cost pc + 1)
goes zero to places low e among = let q = one_of 1 to places e among in rw q (omega arith, refl)
goes (suc zero) to places low e among = let q : places ≡ 4 ∷ 2 ∷ [] = cc in by (subst (λ ps. Among ps to) q among)
  where
    by : Among (4 ∷ 2 ∷ []) to → (to < 8) × (cost to ≡ 2)
    by (inl same) = rw (← same) (omega arith, refl)
    by (inr (inl same)) = rw (← same) (omega arith, refl)
    by (inr (inr none)) = absurd none
goes (suc (suc zero)) to places low e among = let q = one_of 3 to places e among in rw q (omega arith, refl)
goes (suc (suc (suc zero))) to places low e among = cc
goes (suc (suc (suc (suc zero)))) to places low e among = let q = one_of 5 to places e among in rw q (omega arith, refl)
goes (suc (suc (suc (suc (suc zero))))) to places low e among = let q = one_of 6 to places e among in rw q (omega arith, refl)
goes (suc (suc (suc (suc (suc (suc zero)))))) to places low e among = let q = one_of 7 to places e among in rw q (omega arith, refl)
goes (suc (suc (suc (suc (suc (suc (suc zero))))))) to places low e among = cc
goes (suc (suc (suc (suc (suc (suc (suc (suc pc)))))))) to places low e among = absurd (omega arith)

no_loop : (pc n : ℕ) → pc < 8 → c.shape pc ≡ Repeats n → ⊥
no_loop zero n low e = cc
no_loop (suc zero) n low e = cc
no_loop (suc (suc zero)) n low e = cc
no_loop (suc (suc (suc zero))) n low e = cc
no_loop (suc (suc (suc (suc zero)))) n low e = cc
no_loop (suc (suc (suc (suc (suc zero))))) n low e = cc
no_loop (suc (suc (suc (suc (suc (suc zero)))))) n low e = cc
no_loop (suc (suc (suc (suc (suc (suc (suc zero))))))) n low e = cc
no_loop (suc (suc (suc (suc (suc (suc (suc (suc pc)))))))) n low e = absurd (omega arith)

-- each instruction counts one step and opens nothing
plain : (pc : ℕ) → pc < 8 → (c.weight pc ≡ 1) × ((es : List OpenEntry) → c.entries pc es ≡ es)
plain zero low = (refl, λ es. refl)
plain (suc zero) low = (refl, λ es. refl)
plain (suc (suc zero)) low = (refl, λ es. refl)
plain (suc (suc (suc zero))) low = (refl, λ es. refl)
plain (suc (suc (suc (suc zero)))) low = (refl, λ es. refl)
plain (suc (suc (suc (suc (suc zero))))) low = (refl, λ es. refl)
plain (suc (suc (suc (suc (suc (suc zero)))))) low = (refl, λ es. refl)
plain (suc (suc (suc (suc (suc (suc (suc zero))))))) low = (refl, λ es. refl)
plain (suc (suc (suc (suc (suc (suc (suc (suc pc)))))))) low = absurd (omega arith)

known_step : (pc : ℕ) (loops : Loops) (before : ℕ) (es : List OpenEntry) (to : ℕ) (after : Loops) → Known pc loops before es → Follows c pc loops to after → Known to after (before + c.weight pc) (c.entries pc es)
known_step pc loops before es to after k (go places e among) =
    let g = goes pc to places k.low e among in
    let w = plain pc k.low in
    let one = w.0 in
    let more = g.1 in
    let s = k.steps in
    record { low = g.0; none = k.none; steps = omega (arith, one, more, s); empty = w.1 es ∙ k.empty }
known_step pc loops before es to after k (skip n e) = absurd (no_loop pc n k.low e)
known_step pc loops before es to after k (enter n turns e some few) = absurd (no_loop pc n k.low e)
known_step pc loops before es to after k (again p left e some) = let n = k.none in cc
known_step pc loops before es to after k (leave p e) = let n = k.none in cc

known : (pc : ℕ) (loops : Loops) (before : ℕ) (es : List OpenEntry) → Comes c pc loops before es → Known pc loops before es
known pc loops before es start = record { low = omega arith; none = refl; steps = refl; empty = refl }
known pc loops before es (step {pc = from} {loops = ls} {before = b} {entries = os} r s) = known_step from ls b os pc loops (known from ls b os r) s

-- only the `ret` ends a path
ends : (pc : ℕ) → pc < 8 → c.shape pc ≡ EndsPath → cost pc ≡ 3
ends zero low e = cc
ends (suc zero) low e = cc
ends (suc (suc zero)) low e = cc
ends (suc (suc (suc zero))) low e = refl
ends (suc (suc (suc (suc zero)))) low e = cc
ends (suc (suc (suc (suc (suc zero))))) low e = cc
ends (suc (suc (suc (suc (suc (suc zero)))))) low e = cc
ends (suc (suc (suc (suc (suc (suc (suc zero))))))) low e = cc
ends (suc (suc (suc (suc (suc (suc (suc (suc pc)))))))) low e = absurd (omega arith)

first : Comes c 1 [] 1 []
first = step start (go (1 ∷ []) refl (inl refl))

second : Comes c 2 [] 2 []
second = step first (go (4 ∷ 2 ∷ []) refl (inr (inl refl)))

third : Comes c 3 [] 3 []
third = step second (go (3 ∷ []) refl (inl refl))

is_budget : IsBudget [] code budget
is_budget =
    record {
      steps = ((3, ([], (3, ([], (third, refl, refl))))), λ m path. most m path);
      tasks = ((0, ([], (0, ([], (start, refl))))), λ m point. peak (tasks_sum []) m 1 refl point);
      scopes = ((0, ([], (0, ([], (start, refl))))), λ m point. peak (scopes_sum []) m 0 refl point);
      binds = ((0, ([], (0, ([], (start, refl))))), λ m point. peak (binds_sum []) m 0 refl point);
    }
  where
    most : (m : ℕ) → PathCounts c m → m ≤ 4
    most m (pc, (loops, (before, (es, (r, shape, sum))))) =
        let k = known pc loops before es r in
        let s = k.steps in
        let e = ends pc k.low shape in
        let w = (plain pc k.low).0 in
        omega (arith, s, e, w, sum)

    peak : (sum : List OpenEntry → ℕ) (m most : ℕ) → sum [] ≡ most → PointHolds c sum m → m ≤ most
    peak sum m most none (pc, (loops, (before, (es, (r, e))))) =
        let q : sum es ≡ sum [] = ap sum (known pc loops before es r).empty in
        omega (arith, q, e, none)

are_budgets : AreBudgets program (budget ∷ [])
are_budgets zero low = is_budget
are_budgets (suc f) low = absurd (omega (arith, low))

-- five steps of the root
abbrev events : List Event
events = Step 0 ∷ Step 0 ∷ Step 0 ∷ Step 0 ∷ Step 0 ∷ []

pub steps_need_types : StepsNeedTypes
steps_need_types law =
    let few : 5 ≤ 4 = law program (budget ∷ []) (record { checked = refl; all = refl; right = are_budgets }) events in
    absurd (omega (arith, few))
