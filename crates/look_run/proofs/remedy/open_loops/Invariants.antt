use Rattle.std.proofs.Common.{◌≡◌, ◌≤◌, take}
use Rattle.look_run.specs.Remedies as def
use Rattle.look_run.proofs.remedy.open_loops.Given as goal

-- how many are open after the instructions so far, and that these are at least as many
abbrev pub invariant-loop-at : goal.invariant-loop-at
invariant-loop-at l = record {
  so_far : l.depth ≡ def.open_loops (take l.at l.code);
  few : l.depth ≤ l.at;
}
