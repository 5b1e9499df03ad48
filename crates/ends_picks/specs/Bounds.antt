-- A test that passes each scope that has a pick that fits (this project's own). It asks only how
-- many ends may count towards a cancel, and whether each part has a state that is possible.
use Rattle.std.specs.Prelude.{ℕ, List, [], ◌∷◌, Bool, true, false, count_by, nat_le, nat_lt}
use Rattle.std.specs.Prelude.{◌&&◌, ◌||◌}
use Rattle.std.specs.List.{list_any, list_all}
use Rattle.sts_code.specs.declared.instr.Joiner.{Joiner}
use Rattle.sts_model.specs.declared.event.Phase.{Phase}
use Rattle.sts_model.specs.declared.event.Phase.TheVariants.{Joined}
use Rattle.laws_calls.specs.declared.table.Way.{Way}
use Rattle.laws_calls.specs.declared.table.Part.{Part}
use Rattle.laws_calls.specs.declared.table.Knowledge.{Knowledge}
use Rattle.laws_calls.specs.declared.table.Seen.{Seen}
use Rattle.laws_calls.specs.declared.table.Knowledge.TheVariants.{Unseen, ByJoiner, Heard}
use Rattle.laws_calls.specs.Fitting.{most}
use Rattle.laws_calls.specs.Steps.{is_sure}
use Rattle.laws_calls.specs.Triggers.{is_trigger, limit}

-- is there a way?
abbrev pub has_ways : List Way → Bool
has_ways [] = false
has_ways (way ∷ ways) = true

-- has the part a state that is possible?
abbrev pub can_be : Part → Bool
can_be part = part.is_open || has_ways part.ways

-- may the part end by an end that counts?
abbrev pub can_count : Joiner → Part → Bool
can_count j part = list_any (λ (way : Way). is_trigger j way.end) part.ways

-- may the number of ends that count be one from `least` to `greatest`?
abbrev pub counts_fit : Knowledge → Phase → Joiner → ℕ → ℕ → Bool
counts_fit Unseen Joined j least greatest = false
counts_fit ByJoiner Joined j least greatest = nat_le (limit j) greatest && nat_le least (most j)
counts_fit Heard phase j least greatest = nat_lt least (most j)
counts_fit _ phase j least greatest = nat_le least (most j)

abbrev pub may_fit : Seen → Bool
may_fit x =
    list_all can_be x.parts && counts_fit x.knowledge x.phase x.joiner
    (count_by (is_sure x.joiner) x.parts) (count_by (can_count x.joiner) x.parts)

abbrev pub may_be : List Seen → Bool
may_be scopes = list_all may_fit scopes
