use Rattle.std.proofs.Common.{[], sym}
use Rattle.std.proofs.lemmas.List.{append-nil}
use Rattle.look_places.specs.Reports.{added, none}
use Rattle.look_places.proofs.marks.Source.say_ways.Goals as goal

pub returns-in_default : goal.returns-in_default
returns-in_default c = added [] (none c.in_default.not-StatesDiffer) (sym (append-nil c.args.out.now.items))
