use Rattle.std.proofs.Common.{rules}
use Rattle.std.proofs.lemmas.List.{take_min}
use Rattle.sts_output.proofs.reasons.say_line.Goals as goal

pub returns-in-Some : goal.returns-in-Some
returns-in-Some c = search (rules, take_min)
