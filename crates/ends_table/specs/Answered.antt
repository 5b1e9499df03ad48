-- What a check of a `tally` and of a `total` shows: each answer leads to a state of the row (this
-- project's own).
use Rattle.std.specs.Prelude.{ℕ, ℤ, pos, List, Option, count_by}
use Rattle.sts_code.specs.declared.instr.Kind.{Kind}
use Rattle.sts_model.specs.declared.event.End.{End}
use Rattle.sts_model.specs.Joining.{total_of}
use Rattle.laws_runs.specs.Tallies.{is_kind}
use Rattle.laws_calls.specs.declared.table.Seen.{Seen}
use Rattle.laws_calls.specs.declared.table.Own.{Own}
use Rattle.laws_calls.specs.Fitting.{Fits, heard_in}
use Rattle.laws_calls.specs.Steps.{Leads, pushes, with_seen, counted, summed}

-- `tally` that gave this number
abbrev pub CountLeads : List Own → Own → ℕ → Seen → Kind → ℕ → Type 0
CountLeads states own place seen kind n =
    Leads states (pushes (with_seen own place (counted kind n seen)) 0 (pos n))

-- `tally` of a scope at this place
abbrev pub TalliesLead : List Own → Own → ℕ → Seen → Kind → Type 0
TalliesLead states own place seen kind =
    (pick : List (Option End)) → Fits seen pick
    → CountLeads states own place seen kind (count_by (is_kind kind) pick)

-- `total` that gave this sum
abbrev pub SumLeads : List Own → Own → ℕ → Seen → ℤ → Type 0
SumLeads states own place seen sum =
    Leads states (pushes (with_seen own place (summed sum seen)) 0 sum)

-- `total` of a scope at this place
abbrev pub TotalsLead : List Own → Own → ℕ → Seen → Type 0
TotalsLead states own place seen =
    (pick : List (Option End)) → Fits seen pick
    → SumLeads states own place seen (total_of (heard_in pick))
