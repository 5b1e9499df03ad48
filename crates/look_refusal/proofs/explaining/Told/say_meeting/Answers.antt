use Rattle.std.proofs.Common.{refl}
use Rattle.std.proofs.lemmas.Result.{on_ok_weaker}
use Rattle.sts_rules.specs.Refusal.{IsTypeRefusal}
use Rattle.sts_rules.specs.declared.typing.Cause.TheVariants.{StatesDiffer}
use Rattle.look_refusal.proofs.TellLemmas.{type_refusal, meeting_told}
use Rattle.look_refusal.proofs.explaining.Told.say_meeting.Goals as goal

pub returns-in-None : goal.returns-in-None
returns-in-None c =
    let none : ¬ IsTypeRefusal c.args.self.program.now c.args.function c.args.pc StatesDiffer = rw c.in-None.is at c.in_ok-find_meeting.ensures in
    absurd (none (type_refusal c.args.self.program.now c.args.function c.args.pc StatesDiffer refl c.requires.1))

pub returns-in-Some : goal.returns-in-Some
returns-in-Some c =
    on_ok_weaker c.difference_lines.result
    (meeting_told c.args.self.program.now c.args.self.outline.now c.args.function c.args.pc c.in-Some.meeting c.args.out.now.items
    c.difference_lines.new.out.items
    (rw c.in-Some.is at c.in_ok-find_meeting.ensures)) c.difference_lines.ensures
