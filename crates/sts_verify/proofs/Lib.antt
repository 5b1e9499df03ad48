pub mod BudgetLemmas
pub mod Verifying
