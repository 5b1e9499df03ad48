use Rattle.ends_plain.specs.Named.{names_of, AllTasksSame}
use Rattle.ends_plain.proofs.names.all_tasks_same.Given as goal

abbrev pub invariant-loop-t : goal.invariant-loop-t
invariant-loop-t l = AllTasksSame (names_of l.names) l.ours l.theirs l.t
