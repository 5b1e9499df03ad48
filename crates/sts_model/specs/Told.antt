-- The counters that a joiner needs to answer, instead of the whole list of ends (this project's
-- own).
use Rattle.std.specs.Prelude.{ℕ, ◌+◌, ℤ, pos, negsuc, List, [], ◌∷◌, Bool, false, ◌||◌, Option}
use Rattle.std.specs.Prelude.{Some, None, is_some, find, count_by, nat_le, if◌then◌else◌}
use Rattle.std.specs.List.{list_any}
use Rattle.std.specs.Option.{option_or}
use Rattle.sts_code.specs.declared.instr.Joiner.{Joiner}
use Rattle.sts_code.specs.declared.instr.Joiner.TheVariants.{AllSucceed, AnySucceeds, AwaitOk}
use Rattle.sts_code.specs.declared.instr.Joiner.TheVariants.{AwaitAll, Until}
use Rattle.sts_code.specs.declared.instr.Pred.TheVariants as pred
use Rattle.sts_model.specs.declared.event.End.{End}
use Rattle.sts_model.specs.declared.event.Verdict.{Verdict}
use Rattle.sts_model.specs.declared.event.Verdict.TheVariants as verdict
use Rattle.sts_model.specs.Joining.{is_success, is_failure, is_at_least, verdict_or, plus_value}
use Rattle.sts_model.specs.Joining.{total_of}

-- how many succeeded and failed, the first success and the first failure, whether the awaited
-- success came, and the sum of the values
pub record Told : Type 0 where
  pub successes : ℕ
  pub failures : ℕ
  pub success : Option End
  pub failure : Option End
  pub reached : Bool
  pub total : ℤ

-- is this the success that the joiner waits for?
abbrev pub reaches : Joiner → End → Bool
reaches (Until (pred.AtLeast v)) e = is_at_least v e
reaches _ e = false

-- what is kept of these ends
abbrev pub told : Joiner → List End → Told
told j ends =
    record {
      successes = count_by is_success ends;
      failures = count_by is_failure ends;
      success = find is_success ends;
      failure = find is_failure ends;
      reached = list_any (reaches j) ends;
      total = total_of ends;
    }

-- what is kept after one end more
abbrev pub tell : Joiner → Told → End → Told
tell j t e =
    record {
      successes = t.successes + (if is_success e then 1 else 0);
      failures = t.failures + (if is_failure e then 1 else 0);
      success = option_or t.success (find is_success (e ∷ []));
      failure = option_or t.failure (find is_failure (e ∷ []));
      reached = t.reached || list_any (reaches j) (e ∷ []);
      total = plus_value t.total e;
    }

-- the answer of `join` read off what is kept
abbrev pub result_told : Joiner → Told → ℕ → Verdict
result_told AllSucceed t n = verdict_or t.failure (verdict.Ok (Some (pos n)))
result_told AwaitOk t n = verdict_or t.failure (verdict.Ok None)
result_told AnySucceeds t n =
    verdict_or t.success (verdict_or t.failure (verdict.Failed (negsuc 0)))
result_told AwaitAll t n = verdict.Ok None
result_told (Until p) t n = verdict.Ok (Some (pos n))

-- does what is kept cancel the scope?
abbrev pub cancels_told : Joiner → Told → Bool
cancels_told AllSucceed t = is_some t.failure
cancels_told AwaitOk t = is_some t.failure
cancels_told AnySucceeds t = is_some t.success
cancels_told AwaitAll t = false
cancels_told (Until (pred.Failed n)) t = nat_le n t.failures
cancels_told (Until (pred.Success n)) t = nat_le n t.successes
cancels_told (Until (pred.AtLeast v)) t = t.reached
