use Rattle.std.proofs.Common.{◌+◌, ◌||◌, drop, ap, sym, ◌∙◌}
use Rattle.std.proofs.lemmas.List.{at_drop_all, at_drop_more}
use Rattle.clap.specs.Words.{App, app_of, with_rule}
use Rattle.sts_args.specs.Command.{with_arguments}
use Rattle.sts_args.proofs.command.command_of.Goals as goal

pub loop-argument-preserved : goal.loop-argument-preserved
loop-argument-preserved c =
    let before = app_of c.loop-argument.command in
    let added = c.in_ok-command.ensures.shape c.arg_of.ensures.local ∙ ap (with_rule before) c.arg_of.ensures.rule in
    record {
      app = ap (λ (a : App). with_arguments a (drop (c.loop-argument.argument-index + 1) c.args.subcommand.arguments.now)) added
          ∙ sym (at_drop_more (with_arguments before) c.args.subcommand.arguments.now c.loop-argument.argument-index _ c.loop-argument-test.true)
          ∙ c.loop-argument.invariant.app;
      local = c.in_ok-command.ensures.globals ∙ ap (λ g. g || c.arg_of.result.global) c.loop-argument.invariant.local ∙ c.arg_of.ensures.local;
    }

pub returns-clause-app : goal.returns-clause-app
returns-clause-app c =
    sym (at_drop_all (with_arguments (app_of c.loop-argument.command))
    c.args.subcommand.arguments.now c.loop-argument.argument-index c.loop-argument-test.false)
    ∙ c.loop-argument.invariant.app
