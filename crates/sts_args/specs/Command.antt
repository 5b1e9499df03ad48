-- The commands that the program knows, as `clap` sees them (this project's own).
use Rattle.std.specs.Prelude.{true, codes, Some, List, [], ◌∷◌, length}
use Rattle.clap.specs.Words.{App, Rule, Text, new_app, new_rule, with_rule, with_subcommand}
use Rattle.clap.specs.declared.builder.action.ArgAction.TheVariants.{SetTrue}
use Rattle.sts_args.specs.declared.command.Argument.{Argument}
use Rattle.sts_args.specs.declared.command.ArgumentForm.{ArgumentForm}
use Rattle.sts_args.specs.declared.command.ArgumentForm.TheVariants.{Word, Flag, Values}
use Rattle.sts_args.specs.declared.command.Subcommand.{Subcommand}

abbrev pub file_rule : Rule
file_rule = record (new_rule (codes "FILE")) { required = true }

abbrev pub trace_rule : Rule
trace_rule = record (new_rule (codes "TRACE")) { required = true }

-- an option that takes one value
abbrev pub option_rule : Text → Rule
option_rule name = record (new_rule name) { long = Some name; value_names = 1 }

abbrev pub workers_rule : Rule
workers_rule = record (option_rule (codes "workers")) { required = true }

abbrev pub verify : App
verify = with_rule (new_app (codes "verify")) file_rule

abbrev pub list : App
list = with_rule (new_app (codes "list")) file_rule

abbrev pub plain : App
plain = with_rule (with_rule (new_app (codes "plain")) file_rule) trace_rule

abbrev pub replay : App
replay = with_rule (with_rule (new_app (codes "replay")) file_rule) trace_rule

abbrev pub run : App
run = with_rule (with_rule (with_rule (with_rule (new_app (codes "run")) file_rule) workers_rule)
    (option_rule (codes "outside"))) (option_rule (codes "trace"))

-- with a command that has to be there
abbrev pub required : App → App
required a = record a { top = record a.top { subcommand_required = true } }

-- the program: a command is required
abbrev pub program : App
program = with_subcommand (with_subcommand (with_subcommand (with_subcommand (with_subcommand
    (required (new_app (codes "sts"))) verify.top) list.top) plain.top) replay.top) run.top

-- ---- commands as data

-- the rule of an option of this name
abbrev pub long_rule : Text → Rule → Rule
long_rule name r = record r { long = Some name }

abbrev pub form_rule : Text → ArgumentForm → Rule → Rule
form_rule name Word r = r
form_rule name Flag r = record (long_rule name r) { action = Some SetTrue }
form_rule name (Values names) r = record (long_rule name r) { value_names = length names.now }

abbrev pub argument_rule : Argument → Rule
argument_rule a =
    form_rule a.name.now a.form (record (new_rule a.name.now) { required = a.required })

-- with these arguments too
abbrev pub with_arguments : App → List Argument → App
with_arguments a [] = a
with_arguments a (x ∷ xs) = with_arguments (with_rule a (argument_rule x)) xs

abbrev pub subcommand_app : Subcommand → App
subcommand_app s = with_arguments (new_app s.name.now) s.arguments.now

-- with these commands too
abbrev pub with_subcommands : App → List Subcommand → App
with_subcommands a [] = a
with_subcommands a (s ∷ ss) = with_subcommands (with_subcommand a (subcommand_app s).top) ss
