use Rattle.std.proofs.Common.{subst}
use Rattle.sts_rules.specs.Refusal.{IsOneVerdict}
use Rattle.sts_cli.proofs.Alike.{alike}
use Rattle.sts_cli.proofs.laws.replay_prints_what_plain_prints.Goals as goal

pub returns : goal.returns
returns c =
    alike c.args.verified.now c.program.ensures.accepted
    (subst IsOneVerdict c.program.ensures.value c.verdict_is_one.ensures)
