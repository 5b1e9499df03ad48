-- How the sums of the four resources flow along control paths (this project's own).
use Rattle.std.proofs.Common.{ℕ, List, length}
use Rattle.sts_code.specs.declared.instr.Instr.{Instr}
use Rattle.sts_code.specs.Program.{instr_at}
use Rattle.sts_rules.specs.declared.budget.Budgets.{Budgets}
use Rattle.sts_rules.specs.Budget.{Measure}
use Rattle.sts_budget.specs.Layout.{EntryNames}
use Rattle.sts_budget.specs.declared.change.Resource.{Resource}
use Rattle.sts_budget.specs.Change.{source_of, added_of, measured, change_of, depth_of}
use Rattle.sts_budget.specs.Sums.{Flows}

-- how the sums of a resource flow, given the names of the open entries at each place
abbrev pub flows : Resource → List Budgets → List Instr → (ℕ → EntryNames) → Flows
flows k earlier code names_at = record {
  depth = λ pc. depth_of k (names_at pc);
  source =
      λ pc d. source_of (change_of k earlier (instr_at code pc) (names_at pc))
      (depth_of k (names_at pc)) d;
  added =
      λ pc d. added_of (change_of k earlier (instr_at code pc) (names_at pc))
      (depth_of k (names_at pc)) d;
}

abbrev pub flows_by : Measure → List Instr → (ℕ → EntryNames) → Flows
flows_by m code names_at = record {
  depth = λ pc. length (names_at pc);
  source = λ pc d. source_of (measured m (instr_at code pc) (names_at pc)) (length (names_at pc)) d;
  added = λ pc d. added_of (measured m (instr_at code pc) (names_at pc)) (length (names_at pc)) d;
}
