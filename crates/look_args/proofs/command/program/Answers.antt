use Rattle.std.proofs.Common.{ap, ◌∙◌}
use Rattle.clap.specs.Simple.{app_of_fields}
use Rattle.sts_args.specs.Command.{required}
use Rattle.look_args.specs.Command.{versioned}
use Rattle.look_args.proofs.command.program.Goals as goal

pub returns : goal.returns
returns c =
    let bare = ap app_of_fields c.subcommand_required-bare.ensures
    ∙ ap (λ f. required (app_of_fields f)) c.version.ensures
    ∙ ap (λ f. required (versioned (app_of_fields f))) c.about.ensures
    ∙ ap (λ a. required (versioned a)) c.new.ensures.app in
    c.with_subcommands.ensures _ bare
