use Rattle.std.proofs.Common.{drop}
use Rattle.ends_search.specs.Search.{IsWay}
use Rattle.ends_plain.specs.declared.config.Config.{Config}
use Rattle.ends_plain.specs.Configs.{next, next_kept, can, tries}
use Rattle.ends_plain.proofs.full_trace.add_all.Given as goal

abbrev pub invariant-loop-event : goal.invariant-loop-event
invariant-loop-event l =
    (first r : Config) → IsWay (next l.asked.setting) (can l.asked.setting) first l.fn.way.trace l.fn.way.config → IsWay (next_kept l.asked) (tries l.asked.setting) l.fn.way.config l.events r
    → IsWay (next_kept l.asked) (tries l.asked.setting) l.way.config (drop l.event-index l.events) r
    × IsWay (next l.asked.setting) (can l.asked.setting) first l.way.trace l.way.config
