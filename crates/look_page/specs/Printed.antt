-- The output for a text and a trace (this project's own).
use Rattle.std.specs.Prelude.{ℕ, Bool, List, Some, None}
use Rattle.sts_output.specs.Output.{IsOutputOf, Output}
use Rattle.sts_output.specs.declared.mode.Mode.TheVariants as mode
use Rattle.look_picture.specs.Picture.{IsPictureOf}
use Rattle.look_options.specs.declared.pictures.DrawOptions.{DrawOptions}
use Rattle.look_places.specs.Named.{IsNamedExplanation}
use Rattle.look_run.specs.Output.{IsRunExplanation}
use Rattle.look_lines.specs.View.{IsViewOf}
use Rattle.look_view.specs.View.{IsNamedViewOf}
use Rattle.look_page.specs.Ends.{IsListing}
use Rattle.look_page.specs.declared.printing.Asked.{Asked}
use Rattle.look_page.specs.declared.printing.Asked.TheVariants as asked

-- the events from the first to the last that a trace may have, or of them those that `tell` lists
abbrev pub all_events : Bool → DrawOptions
all_events brief = record { window = Some (record { first = 1; last = 4294967295 }); brief = brief }

abbrev pub Prints : Asked → List ℕ → List ℕ → Output → Type 0
Prints asked.Verify text trace o = IsOutputOf mode.Verify text trace o
Prints asked.List text trace o = IsOutputOf mode.List text trace o
Prints asked.Plain text trace o = IsOutputOf mode.Plain text trace o
Prints (asked.View wanted) text trace o = IsViewOf wanted text trace o
Prints (asked.NamedView wanted) text trace o = IsNamedViewOf wanted text trace o
Prints asked.Explanation text trace o = IsNamedExplanation text o
Prints asked.RunExplanation text trace o = IsRunExplanation text trace o
Prints (asked.Picture brief) text trace o = IsPictureOf (all_events brief) None text trace o
Prints (asked.Ends wanted) text trace o = IsListing wanted text o
