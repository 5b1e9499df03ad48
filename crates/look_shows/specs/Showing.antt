-- What is shown of a text, or of a text and a trace (this project's own).
use Rattle.std.specs.Prelude.{◌≡◌, ◌⊎◌, ℕ, Bool, true, false, List, Some}
use Rattle.clap.specs.Words.{Text}
use Rattle.sts_output.specs.Output.{Output, memory_output}
use Rattle.look_picture.specs.Picture.{IsPictureOf}
use Rattle.look_places.specs.Named.{IsNamedExplanation}
use Rattle.look_places.specs.Reports.{IsReport}
use Rattle.look_run.specs.Output.{IsRunExplanation}
use Rattle.look_json.specs.Explained.{IsExplainedBy}
use Rattle.look_json.specs.Stories.{AreStoriesOf}
use Rattle.look_tell.specs.Telling.{IsStoryOf}
use Rattle.look_options.specs.declared.stories.TellOptions.{TellOptions}
use Rattle.look_traces.specs.Short.{full_trace}
use Rattle.look_options.specs.declared.views.ViewOptions.{ViewOptions}
use Rattle.look_view.specs.View.{IsNamedViewOf}
use Rattle.look_views.specs.Views.{AreViewsOf}
use Rattle.look_args.specs.declared.asked.ExplainForm.{ExplainForm}
use Rattle.look_args.specs.declared.asked.ExplainForm.TheVariants.{Words, Places, Json}
use Rattle.look_shows.specs.declared.showing.Showing.{Showing}
use Rattle.look_shows.specs.declared.showing.Showing.TheVariants as showing

-- the views of a run, as lines of JSON or not
abbrev pub IsViewed : Bool → ViewOptions → List ℕ → List ℕ → Output → Type 0
IsViewed true = AreViewsOf
IsViewed false = IsNamedViewOf

-- the story of a run, as lines of JSON or not
abbrev pub IsTold : Bool → TellOptions → List ℕ → List ℕ → Output → Type 0
IsTold true = AreStoriesOf
IsTold false = IsStoryOf

-- what is shown of a text and a trace
abbrev pub Shows : Showing → List ℕ → List ℕ → Output → Type 0
Shows (showing.View view) = IsViewed view.json view.wanted
Shows showing.Run = IsRunExplanation
Shows (showing.Picture options files) = IsPictureOf options (Some files)
Shows (showing.Story story) = IsTold story.json story.wanted

-- what is shown of a text and a trace, which may be in the short form, or that memory ran out
abbrev pub ShowsInFull : Showing → List ℕ → List ℕ → Output → Type 0
ShowsInFull s text trace o = Shows s text (full_trace trace) o ⊎ (o ≡ memory_output)

-- what is wrong with the text of a file
abbrev pub IsExplainedIn : ExplainForm → Text → List ℕ → Output → Type 0
IsExplainedIn Words file text o = IsNamedExplanation text o
IsExplainedIn Places file text o = IsReport (record { file = file; text = text }) o
IsExplainedIn Json file text o = IsExplainedBy text o
