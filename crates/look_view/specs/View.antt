-- The lines of `look view`: those of `look_lines`, with the lines and the names of the text (this
-- project's own).
use Rattle.std.specs.Prelude.{ℕ, List}
use Rattle.sts_output.specs.Output.{Output}
use Rattle.look_lines.specs.Form.{Form, IsShownOf}
use Rattle.look_lines.specs.View.{lines_form}
use Rattle.look_options.specs.declared.views.ViewOptions.{ViewOptions}
use Rattle.look_view.specs.Named.{named}

abbrev pub named_form : List ℕ → ViewOptions → Form
named_form text wanted = lines_form (named text) wanted

-- what `look view` prints for a text and a trace, or that memory ran out
abbrev pub IsNamedViewOf : ViewOptions → List ℕ → List ℕ → Output → Type 0
IsNamedViewOf wanted text trace output = IsShownOf (named_form text wanted) text trace output
