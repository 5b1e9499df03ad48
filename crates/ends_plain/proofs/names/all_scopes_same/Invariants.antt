use Rattle.ends_plain.specs.Named.{names_of, AllScopesSame}
use Rattle.ends_plain.proofs.names.all_scopes_same.Given as goal

abbrev pub invariant-loop-s : goal.invariant-loop-s
invariant-loop-s l = AllScopesSame (names_of l.names) l.ours l.theirs l.s
