-- The commands that `look` knows, as `clap` sees them (this project's own).
use Rattle.std.specs.Prelude.{codes, Some, true}
use Rattle.clap.specs.Words.{App, Rule, Text, new_app, new_rule, with_rule, with_subcommand}
use Rattle.clap.specs.declared.builder.action.ArgAction.TheVariants.{SetTrue}
use Rattle.sts_args.specs.Command.{file_rule, option_rule, required, trace_rule}

abbrev pub long_rule : Text → Rule
long_rule name = record (new_rule name) { long = Some name }

-- an option that takes no value
abbrev pub flag_rule : Text → Rule
flag_rule name = record (long_rule name) { action = Some SetTrue }

-- the number and the file of a trace that is kept
abbrev pub kept_rule : Rule
kept_rule = record (long_rule (codes "trace")) { value_names = 2 }

abbrev pub view : App
view = with_rule (with_rule (with_rule (with_rule (with_rule (with_rule (new_app (codes "view"))
    file_rule) trace_rule) (flag_rule (codes "each"))) (flag_rule (codes "full")))
    (flag_rule (codes "living"))) (flag_rule (codes "json"))

-- a trace that may be left out
abbrev pub maybe_trace_rule : Rule
maybe_trace_rule = new_rule (codes "TRACE")

abbrev pub explain : App
explain = with_rule (with_rule (with_rule (with_rule (new_app (codes "explain")) file_rule)
    maybe_trace_rule) (flag_rule (codes "lines"))) (flag_rule (codes "json"))

abbrev pub draw : App
draw = with_rule (with_rule (with_rule (with_rule (new_app (codes "draw")) file_rule) trace_rule)
    (option_rule (codes "events"))) (flag_rule (codes "brief"))

-- two numbers in their places among the words, which may be left out
abbrev pub tell : App
tell = with_rule (with_rule (with_rule (with_rule (with_rule (with_rule (with_rule
    (new_app (codes "tell")) file_rule) trace_rule) (new_rule (codes "FROM")))
    (new_rule (codes "TO"))) (flag_rule (codes "each"))) (flag_rule (codes "strict")))
    (flag_rule (codes "json"))

-- with the options that say which events may come, and when a search stops
abbrev pub ends_by_limits : App
ends_by_limits = with_rule (with_rule (with_rule (with_rule (with_rule (new_app (codes "ends"))
    file_rule) (flag_rule (codes "no-expiries"))) (option_rule (codes "interrupts")))
    (option_rule (codes "most"))) (option_rule (codes "seconds"))

abbrev pub ends : App
ends = with_rule (with_rule (with_rule (with_rule (with_rule ends_by_limits
    (flag_rule (codes "calls"))) (option_rule (codes "sample"))) (option_rule (codes "seed")))
    kept_rule) (flag_rule (codes "json"))

abbrev pub cases : App
cases = with_rule (new_app (codes "cases")) file_rule

-- with `--version`
abbrev pub versioned : App → App
versioned a = record a { top = record a.top { has_version = true } }

abbrev pub bare : App
bare = required (versioned (new_app (codes "look")))

-- the program: a command is required
abbrev pub program : App
program =
    with_subcommand (with_subcommand (with_subcommand (with_subcommand (with_subcommand
    (with_subcommand bare view.top) explain.top) draw.top) tell.top) ends.top) cases.top
