-- The result of a pick: how many ends count towards a cancel, the tallies that were asked for, and
-- the sum (this project's own).
use Rattle.std.specs.Prelude.{ℕ, ◌+◌, ℤ, pos, List, Bool, true, Option, Some, None}
use Rattle.std.specs.Prelude.{is_some, nat_le, ◌&&◌, if◌then◌else◌}
use Rattle.std.specs.List.{fold}
use Rattle.sts_code.specs.declared.instr.Kind.TheVariants.{S, F, U}
use Rattle.sts_model.specs.declared.event.End.{End}
use Rattle.sts_model.specs.Joining.{plus_value}
use Rattle.laws_calls.specs.declared.table.Seen.{Seen}
use Rattle.laws_calls.specs.Fitting.{most}
use Rattle.ends_picks.specs.declared.groups.Group.TheVariants.{Counting, Of}
use Rattle.ends_picks.specs.declared.outcomes.Outcome.{Outcome}
use Rattle.ends_picks.specs.Groups.{is_in}

-- the outcome of no parts
abbrev pub nothing : Outcome
nothing = record { triggers = 0; successes = 0; failures = 0; unavailable = 0; total = pos 0 }

-- one more, if the state passes
abbrev pub counted : ℕ → Bool → ℕ
counted n passes = n + (if passes then 1 else 0)

-- the sum with one end more
abbrev pub added : ℤ → Option End → ℤ
added sum None = sum
added sum (Some e) = plus_value sum e

-- the outcome with one part more
abbrev pub after : Seen → Outcome → Option End → Outcome
after x o q =
    record {
      triggers = counted o.triggers (is_in x.joiner Counting q);
      successes = counted o.successes (is_some x.asked.successes && is_in x.joiner (Of S) q);
      failures = counted o.failures (is_some x.asked.failures && is_in x.joiner (Of F) q);
      unavailable = counted o.unavailable (is_some x.asked.unavailable && is_in x.joiner (Of U) q);
      total = added o.total q;
    }

abbrev pub outcome_of : Seen → List (Option End) → Outcome
outcome_of x pick = fold (after x) nothing pick

-- it has not passed an answer that the owner got
abbrev pub is_at_most : Option ℕ → ℕ → Bool
is_at_most None n = true
is_at_most (Some m) n = nat_le n m

-- more parts may lead to an outcome that fits
abbrev pub is_within : Seen → Outcome → Bool
is_within x o =
    nat_le o.triggers (most x.joiner) && is_at_most x.asked.successes o.successes
    && is_at_most x.asked.failures o.failures && is_at_most x.asked.unavailable o.unavailable
