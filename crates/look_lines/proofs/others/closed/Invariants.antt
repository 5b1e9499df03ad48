use Rattle.std.proofs.Common.{◌≡◌, ◌+◌, ◌≤◌, drop}
use Rattle.look_lines.specs.Lines as def
use Rattle.look_lines.proofs.others.closed.Given as goal

-- those so far, and those of the rest
abbrev pub invariant-loop-s : goal.invariant-loop-s
invariant-loop-s l = record {
  counted : l.count + def.closed (drop l.s l.records.scopes) ≡ def.closed l.records.scopes;
  few : l.count ≤ l.s;
}
