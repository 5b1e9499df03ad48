use Rattle.std.proofs.Common.{◌≡◌, ◌++◌, string_bytes, take}
use Rattle.std.specs.List.{flat_map, AllByRecursion}
use Rattle.sts_list.specs.Listing.{function_lines, profile_line}
use Rattle.sts_list.specs.RoundTrip.{FitsRoutine}
use Rattle.sts_list.proofs.listing.list.Given as goal

abbrev pub invariant-loop-function : goal.invariant-loop-function
invariant-loop-function l = record {
  lines : string_bytes l.out ≡ profile_line l.program.profile ++ flat_map (function_lines l.program) (take l.function-index l.program.routines);
  fits : AllByRecursion FitsRoutine (take l.function-index l.program.routines);
}
