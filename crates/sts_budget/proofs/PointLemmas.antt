-- The sums of a path at its end.
use Rattle.std.proofs.Common.{◌≡◌, ℕ, List, length, sym, ap, ◌∙◌}
use Rattle.sts_code.specs.declared.instr.Instr.{Instr}
use Rattle.sts_rules.specs.declared.budget.Budgets.{Budgets}
use Rattle.sts_rules.specs.Budget.{skeleton, Measure, entries_sum}
use Rattle.sts_rules.specs.ControlPaths.{Loops, OpenEntry, Comes}
use Rattle.sts_budget.specs.declared.change.Resource.TheVariants.{Steps}
use Rattle.sts_budget.specs.Flowing.{flows, flows_by}
use Rattle.sts_budget.specs.Known.{KnowsNames}
use Rattle.sts_budget.specs.Layout.{EntryNames}
use Rattle.sts_budget.specs.Structured.{IsStructured}
use Rattle.sts_budget.specs.Sums.{Sums}
use Rattle.sts_budget.proofs.EntryLemmas.{front_all, long}
use Rattle.sts_budget.proofs.FourKindLemmas.{from_sums, from_steps, comes_names}

module _ (earlier : List Budgets) (code : List Instr) (round : ℕ → List ℕ) (good : IsStructured (skeleton earlier code) round) (names_at : ℕ → EntryNames) (known : KnowsNames code (skeleton earlier code) round names_at) where
  pub stands : (m : Measure) (pc : ℕ) (loops : Loops) (sum : ℕ) → Sums (skeleton earlier code) (flows_by m code names_at) (length (names_at pc)) pc loops sum → (before : ℕ) × ((es : List OpenEntry) × (Comes (skeleton earlier code) pc loops before es × (entries_sum m es ≡ sum)))
  stands m pc loops sum h =
      let w = from_sums earlier code round good names_at known m (length (names_at pc)) pc loops sum h in
      let n = comes_names earlier code round good names_at known pc loops w.0 w.1.0 w.1.1.0 in
      let all = front_all m w.1.0 (length (names_at pc)) (sym (long w.1.0) ∙ ap length n) in
      (w.0, (w.1.0, (w.1.1.0, sym all ∙ w.1.1.1)))

  pub steps_come : (pc : ℕ) (loops : Loops) (sum : ℕ) → Sums (skeleton earlier code) (flows Steps earlier code names_at) 0 pc loops sum → (es : List OpenEntry) × Comes (skeleton earlier code) pc loops sum es
  steps_come pc loops sum h = from_steps earlier code round good names_at known 0 pc loops sum h
