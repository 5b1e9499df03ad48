use Rattle.std.proofs.Common.{refl}
use Rattle.std.proofs.lemmas.Result.{on_ok_weaker}
use Rattle.sts_rules.specs.Refusal.{IsTypeRefusal}
use Rattle.sts_rules.specs.declared.typing.Cause.TheVariants.{StatesDiffer}
use Rattle.look_refusal.proofs.TellLemmas.{type_refusal}
use Rattle.look_places.specs.Reports.{added, meeting_notes, meets}
use Rattle.look_places.proofs.marks.Source.say_met.Goals as goal

pub returns-in-None : goal.returns-in-None
returns-in-None c =
    let none : ¬ IsTypeRefusal c.args.program.now c.args.function c.args.pc StatesDiffer = rw c.in-None.is at c.in_ok-find_meeting.ensures in
    absurd (none (type_refusal c.args.program.now c.args.function c.args.pc StatesDiffer refl c.requires.1))

pub returns-in-Some : goal.returns-in-Some
returns-in-Some c =
    on_ok_weaker c.say_meeting.result
    (λ e. added (meeting_notes c.args.self.now c.args.function c.in-Some.meeting)
    (meets c.in-Some.meeting (rw c.in-Some.is at c.in_ok-find_meeting.ensures)) e)
    c.say_meeting.ensures
