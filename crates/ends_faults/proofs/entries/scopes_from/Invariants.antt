use Rattle.std.proofs.Common.{◌≡◌, ◌+◌, ◌≤◌, length, drop}
use Rattle.laws_calls.specs.Tasks.{births_in}
use Rattle.ends_faults.proofs.entries.scopes_from.Given as goal

-- the scopes so far, and those in the rest
abbrev pub invariant-loop-i : goal.invariant-loop-i
invariant-loop-i l = record {
  sum : l.count + length (births_in (drop l.i l.frame.entries)) ≡ length (births_in (drop l.first l.frame.entries));
  few : l.count ≤ l.i;
}
