-- The joiners: which ends of its subtasks cancel a scope, and what `join` answers. Both are read
-- off the whole list of ends in order of completion.
-- Restates `StructuredTaskScope.Joiner` (`allSuccessfulOrThrow`, `anySuccessfulResultOrThrow`,
-- `awaitAllSuccessfulOrThrow`, `awaitAll`, `allUntil`). This project's own are which failure `any`
-- reports, its code -1 if no subtask ended, the numbers pushed, and the three predicates of
-- `until`.
use Rattle.std.specs.Prelude.{ℕ, ℤ, pos, negsuc, int_le, ◌+ℤ◌, List, Bool, true, false, Option}
use Rattle.std.specs.Prelude.{Some, None, nat_le, find, count_by, fold}
use Rattle.std.specs.List.{list_any}
use Rattle.std.specs.Int.{int_wrap, w64}
use Rattle.sts_code.specs.declared.instr.Joiner.{Joiner}
use Rattle.sts_code.specs.declared.instr.Joiner.TheVariants.{AllSucceed, AnySucceeds, AwaitOk}
use Rattle.sts_code.specs.declared.instr.Joiner.TheVariants.{AwaitAll, Until}
use Rattle.sts_code.specs.declared.instr.Pred.TheVariants as pred
use Rattle.sts_model.specs.declared.event.End.{End}
use Rattle.sts_model.specs.declared.event.End.TheVariants.{Success, Failed}
use Rattle.sts_model.specs.declared.event.Verdict.{Verdict}
use Rattle.sts_model.specs.declared.event.Verdict.TheVariants as verdict

abbrev pub is_success : End → Bool
is_success (Success v) = true
is_success (Failed c) = false

abbrev pub is_failure : End → Bool
is_failure (Success v) = false
is_failure (Failed c) = true

-- a success with at least this value
abbrev pub is_at_least : ℤ → End → Bool
is_at_least least (Success v) = int_le least v
is_at_least least (Failed c) = false

-- do these ends cancel the scope?
abbrev pub cancels : Joiner → List End → Bool
cancels AllSucceed ends = list_any is_failure ends
cancels AwaitOk ends = list_any is_failure ends
cancels AnySucceeds ends = list_any is_success ends
cancels AwaitAll ends = false
cancels (Until (pred.Failed n)) ends = nat_le n (count_by is_failure ends)
cancels (Until (pred.Success n)) ends = nat_le n (count_by is_success ends)
cancels (Until (pred.AtLeast v)) ends = list_any (is_at_least v) ends

-- the verdict of this end, or else this one
abbrev pub verdict_or : Option End → Verdict → Verdict
verdict_or None other = other
verdict_or (Some (Success v)) other = verdict.Ok (Some v)
verdict_or (Some (Failed c)) other = verdict.Failed c

-- the answer of `join` for n subtasks
abbrev pub result_of : Joiner → List End → ℕ → Verdict
result_of AllSucceed ends n = verdict_or (find is_failure ends) (verdict.Ok (Some (pos n)))
result_of AwaitOk ends n = verdict_or (find is_failure ends) (verdict.Ok None)
result_of AnySucceeds ends n =
    verdict_or (find is_success ends) (verdict_or (find is_failure ends)
    (verdict.Failed (negsuc 0)))
result_of AwaitAll ends n = verdict.Ok None
result_of (Until p) ends n = verdict.Ok (Some (pos n))

-- the sum so far and one more end
abbrev pub plus_value : ℤ → End → ℤ
plus_value sum (Success v) = int_wrap w64 (sum +ℤ v)
plus_value sum (Failed c) = sum

-- the wrapping sum of the values of the successes
abbrev pub total_of : List End → ℤ
total_of ends = fold plus_value (pos 0) ends
