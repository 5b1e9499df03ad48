use Rattle.std.proofs.Common.{◌≡◌, ◌++◌, string_bytes, drop, take}
use Rattle.std.specs.List.{AllByRecursion}
use Rattle.sts_list.specs.Listing.{code_lines}
use Rattle.sts_list.specs.RoundTrip.{FitsInstr}
use Rattle.sts_list.proofs.listing.write_code.Given as goal

abbrev pub invariant-loop-pc : goal.invariant-loop-pc
invariant-loop-pc l = record {
  lines : string_bytes l.out ++ code_lines l.program l.code l.pc (drop l.pc l.code) ≡ string_bytes l.fn.out ++ code_lines l.program l.code 0 l.code;
  fits : AllByRecursion FitsInstr (take l.pc l.code);
}
