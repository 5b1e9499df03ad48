use Rattle.std.proofs.Common.{◌≡◌, drop}
use Rattle.serde_json.specs.Data.{no_members}
use Rattle.serde_json.specs.View.{members_view}
use Rattle.look_cases.specs.Objects as def
use Rattle.look_cases.proofs.objects.object_of.Given as goal

-- the members so far, and those of the rest
abbrev pub invariant-loop-member : goal.invariant-loop-member
invariant-loop-member l = def.all_put (drop l.member-index l.members) (members_view l.object.entries) ≡ def.all_put l.members no_members
