use Rattle.std.proofs.Common.{◌≡◌, drop}
use Rattle.clap.specs.Words.{app_of}
use Rattle.sts_args.specs.Command as def
use Rattle.sts_args.proofs.command.with_subcommands.Given as goal

-- it is the whole program once the rest of the commands are added
abbrev pub invariant-loop-subcommand : goal.invariant-loop-subcommand
invariant-loop-subcommand l =
    def.with_subcommands (app_of l.program) (drop l.subcommand-index l.subcommands) ≡ def.with_subcommands (app_of l.fn.program) l.subcommands
