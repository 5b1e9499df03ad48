use Rattle.std.proofs.Common.{ℕ, List, ◌∙◌, ap, sym, subst}
use Rattle.sts_output.specs.Output.{Output}
use Rattle.look_tell.specs.Telling.{IsStoryOf}
use Rattle.look_json.proofs.stories.of_events.Goals as goal

pub returns : goal.returns
returns c =
    let asked = c.args.asked in
    let made : (b : List ℕ) → Output = λ b. record { bytes = b; status = c.in_ok-story.story.status } in
    record {
      story = c.in_ok-story.story;
      words = subst (λ (o : Output). IsStoryOf asked.options asked.text.now asked.trace.now o) (sym c.in_ok-story.ensures.same) c.in_ok-printed.ensures;
      whole = c.in_ok-story.ensures.whole;
      printed = c.with_status.ensures ∙ ap made c.in_ok-said.ensures;
    }
