use Rattle.std.proofs.Common.{◌≡◌, ◌+◌, ◌≤◌, drop}
use Rattle.look_lines.specs.Lines as def
use Rattle.look_lines.proofs.others.resting.Given as goal

-- those so far, and those of the rest
abbrev pub invariant-loop-t : goal.invariant-loop-t
invariant-loop-t l = record {
  counted : l.count + def.resting (drop l.t l.records.tasks) ≡ def.resting l.records.tasks;
  few : l.count ≤ l.t;
}
