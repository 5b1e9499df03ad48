use Rattle.std.proofs.Common.{◌+◌, drop, ap, sym, ◌∙◌}
use Rattle.std.proofs.lemmas.List.{at_drop_all, at_drop_more}
use Rattle.clap.specs.Words.{App, app_of}
use Rattle.sts_args.specs.Command as def
use Rattle.sts_args.proofs.command.with_subcommands.Goals as goal

pub loop-subcommand-preserved : goal.loop-subcommand-preserved
loop-subcommand-preserved c =
    ap (λ (a : App). def.with_subcommands a (drop (c.loop-subcommand.subcommand-index + 1) c.args.subcommands.now)) c.in_ok-program.ensures
    ∙ sym (at_drop_more (def.with_subcommands (app_of c.loop-subcommand.program))
    c.args.subcommands.now c.loop-subcommand.subcommand-index _ c.loop-subcommand-test.true)
    ∙ c.loop-subcommand.invariant

pub returns : goal.returns
returns c a h =
    sym (at_drop_all (def.with_subcommands (app_of c.loop-subcommand.program))
    c.args.subcommands.now c.loop-subcommand.subcommand-index c.loop-subcommand-test.false)
    ∙ c.loop-subcommand.invariant ∙ ap (λ (b : App). def.with_subcommands b c.args.subcommands.now) h
