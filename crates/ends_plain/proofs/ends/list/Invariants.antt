use Rattle.ends_search.specs.Search.{states_of}
use Rattle.ends_plain.specs.Configs.{next_kept}
use Rattle.ends_plain.specs.Listed.{ends_of, AreShown, HasShown}
use Rattle.ends_plain.proofs.ends.list.Given as goal

abbrev pub invariant-loop-place : goal.invariant-loop-place
invariant-loop-place l =
    AreShown l.asked.setting l.space.first l.found.items
    × HasShown (states_of (next_kept l.asked) l.space.first l.space.origins.items) l.place (ends_of l.found.items)
