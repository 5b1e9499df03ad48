use Rattle.std.proofs.Common.{ap, ◌∙◌, map}
use Rattle.std.specs.Prelude.{filter}
use Rattle.look_names.specs.Marked.{begins_function, name_in}
use Rattle.look_names.specs.Names.{value_among}
use Rattle.look_names.proofs.names.Names.new.Goals as goal

pub invariant_of-result : goal.invariant_of-result
invariant_of-result c =
    let all = c.in_ok-text_lines.ensures in
    let begun = c.in_ok-begun.ensures ∙ ap (λ xs. filter begins_function (map (λ l. l.now) xs)) c.as_slice.ensures.value ∙ ap (filter begins_function) all in (
      c.in_ok-line_names.ensures ∙ ap (λ xs. map name_in (map (λ l. l.now) xs)) c.as_slice-2.ensures.value ∙ ap (map name_in) all,
      c.in_ok-line_names-2.ensures ∙ ap (λ xs. map name_in (map (λ l. l.now) xs)) c.as_slice-3.ensures.value ∙ ap (map name_in) begun,
      (λ v. c.in_ok-value_names.ensures v ∙ ap (λ xs. value_among (map (λ l. l.now) xs) v) c.as_slice-4.ensures.value ∙ ap (λ ls. value_among ls v) all),
      c.requires,
    )
