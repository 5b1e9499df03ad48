use Rattle.std.proofs.Common.{ap, ◌∙◌}
use Rattle.clap.specs.Simple.{app_of_fields}
use Rattle.sts_args.specs.Command as def
use Rattle.sts_args.proofs.program.program.Goals as goal

pub returns : goal.returns
returns c =
    let bare = ap app_of_fields c.subcommand_required-bare.ensures
    ∙ ap (λ f. def.required (app_of_fields f)) c.after_help.ensures
    ∙ ap (λ f. def.required (app_of_fields f)) c.about.ensures
    ∙ ap def.required c.new.ensures.app in
    c.with_subcommands.ensures _ bare
