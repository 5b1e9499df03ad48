use Rattle.std.proofs.Common.{◌≡◌, ◌++◌, drop}
use Rattle.std.specs.List.{flat_map}
use Rattle.look_run.specs.Lines as def
use Rattle.look_run.proofs.tasks.say_births.Given as goal

-- what is written, and the words of the rest
abbrev pub invariant-loop-t : goal.invariant-loop-t
invariant-loop-t l = l.out.items ++ flat_map (def.subtask_word l.records l.s) (drop l.t-index l.births) ≡ l.fn.out.items ++ flat_map (def.subtask_word l.records l.s) l.births
