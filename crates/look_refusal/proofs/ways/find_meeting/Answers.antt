use Rattle.std.proofs.Common.{◌≡◌}
use Rattle.sts_rules.specs.declared.typing.Cause.TheVariants.{StatesDiffer, DeadCode}
use Rattle.look_refusal.proofs.WayLemmas.{alone_there}
use Rattle.look_refusal.proofs.MeetingLemmas.{reached_by, finds}
use Rattle.look_refusal.proofs.ways.find_meeting.Goals as goal

pub returns-in_default-first_way : goal.returns-in_default-first_way
returns-in_default-first_way c =
    λ refusal. c.in_default-first_way.ensures {u = tt} (reached_by c.args.program.now c.args.function c.args.pc StatesDiffer
    (λ e. (let no : StatesDiffer ≡ DeadCode = e in absurd (cc))) refusal.1)

pub turn_at-requires-clause-alone : goal.turn_at-requires-clause-alone
turn_at-requires-clause-alone c =
    alone_there c.args.program.now c.args.function c.args.pc c.in-Some-first_way.one c.in-Some-first_way.ensures c.in-None.ensures

pub returns : goal.returns
returns c =
    finds c.args.program.now c.args.function c.args.pc c.in-Some-first_way.one.state (alone_there c.args.program.now c.args.function c.args.pc
    c.in-Some-first_way.one c.in-Some-first_way.ensures c.in-None.ensures) c.turn_at.result c.turn_at.ensures
