-- Groups of states of a subtask, and which parts may be in one (this project's own).
use Rattle.std.specs.Prelude.{ℕ, Bool, true, false, Option, Some, None, not, ◌&&◌, ◌||◌}
use Rattle.std.specs.List.{list_any}
use Rattle.sts_code.specs.declared.instr.Joiner.{Joiner}
use Rattle.sts_code.specs.declared.instr.Kind.{Kind}
use Rattle.sts_code.specs.declared.instr.Kind.TheVariants.{S, F, U}
use Rattle.sts_model.specs.declared.event.End.{End}
use Rattle.sts_model.specs.Joining.{is_success, is_failure}
use Rattle.laws_runs.specs.Tallies.{is_kind}
use Rattle.laws_calls.specs.declared.table.Asked.{Asked}
use Rattle.laws_calls.specs.declared.table.Way.{Way}
use Rattle.laws_calls.specs.declared.table.Part.{Part}
use Rattle.laws_calls.specs.Triggers.{is_trigger}
use Rattle.ends_picks.specs.declared.groups.Group.{Group}
use Rattle.ends_picks.specs.declared.groups.Group.TheVariants.{Counting, Of, Counted, Uncounted}

-- is the end a success, or a failure?
abbrev pub ends_well : Bool → End → Bool
ends_well true e = is_success e
ends_well false e = is_failure e

-- the kind of an end that is a success, or a failure
abbrev pub kind_of : Bool → Kind
kind_of true = S
kind_of false = F

-- the answer that an owner got to a `tally` of this kind
abbrev pub answer_of : Asked → Kind → Option ℕ
answer_of asked S = asked.successes
answer_of asked F = asked.failures
answer_of asked U = asked.unavailable

-- is the end in the group?
abbrev pub has_end : Joiner → Group → End → Bool
has_end j Counting e = is_trigger j e
has_end j (Of kind) e = is_kind kind (Some e)
has_end j (Counted succeeds) e = ends_well succeeds e && is_trigger j e
has_end j (Uncounted succeeds) e = ends_well succeeds e && not (is_trigger j e)

-- is a subtask that is unavailable in the group?
abbrev pub has_unavailable : Group → Bool
has_unavailable (Of kind) = is_kind kind None
has_unavailable _ = false

-- is the state in the group?
abbrev pub is_in : Joiner → Group → Option End → Bool
is_in j g None = has_unavailable g
is_in j g (Some e) = has_end j g e

-- may the part be in the group? may it be out of it?
abbrev pub may_be_in : Joiner → Group → Part → Bool
may_be_in j g part =
    (part.is_open && has_unavailable g) || list_any (λ (way : Way). has_end j g way.end) part.ways

abbrev pub may_be_out : Joiner → Group → Part → Bool
may_be_out j g part =
    (part.is_open && not (has_unavailable g))
    || list_any (λ (way : Way). not (has_end j g way.end)) part.ways
