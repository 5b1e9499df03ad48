-- Ways that go on by events (this project's own).
use Rattle.ends_search.specs.Search.{IsWay}
use Rattle.ends_plain.specs.declared.config.Config.{Config}
use Rattle.ends_plain.specs.declared.config.Setting.{Setting}
use Rattle.ends_plain.specs.declared.way.Way.{Way}
use Rattle.ends_plain.specs.Configs.{next, can}

-- from each configuration from which the events of the old way lead to its state, those of the new
-- way lead to the new way's state
abbrev pub GoesOn : Setting → Way → Way → Type 0
GoesOn g old new =
    (first : Config) → IsWay (next g) (can g) first old.trace old.config
    → IsWay (next g) (can g) first new.trace new.config
