use Rattle.ends_search.specs.Search.{IsWay}
use Rattle.ends_plain.specs.Configs.{next, can, start}
use Rattle.ends_calls.proofs.ends.walked.Given as goal

abbrev pub invariant-loop : goal.invariant-loop
invariant-loop l = IsWay (next l.setting) (can l.setting) (start l.setting) l.trace l.config
