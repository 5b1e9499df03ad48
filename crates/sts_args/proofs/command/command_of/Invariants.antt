use Rattle.std.proofs.Common.{◌≡◌, drop, false}
use Rattle.clap.specs.Words.{app_of}
use Rattle.clap.specs.declared.builder.command.Command.TheViews.{out-Command}
use Rattle.sts_args.specs.Command.{subcommand_app, with_arguments}
use Rattle.sts_args.proofs.command.command_of.Given as goal

-- it is the whole command once the rest of the arguments are added
abbrev pub invariant-loop-argument : goal.invariant-loop-argument
invariant-loop-argument l = record {
  app : with_arguments (app_of l.command) (drop l.argument-index l.subcommand.arguments.now) ≡ subcommand_app l.subcommand;
  local : (out-Command l.command).has_globals ≡ false;
}
