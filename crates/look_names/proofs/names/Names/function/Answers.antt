use Rattle.std.proofs.Common.{ap, refl, sym, ◌∙◌, ◌≡◌, Some}
use Rattle.std.specs.Prelude.{filter, option_map, slice_get}
use Rattle.std.proofs.lemmas.Option.{slice_get_read}
use Rattle.sts_text.specs.Words.{lines}
use Rattle.look_names.specs.Marked.{begins_function, name_in}
use Rattle.look_names.proofs.Named.{found_at}
use Rattle.look_names.proofs.names.Names.function.Goals as goal

pub returns : goal.returns
returns c =
    let s = c.self.inside in
    let here = c.in_ok-get.ensures.lookup in
    let at : slice_get s.functions.items c.args.function ≡ Some c.in_ok-get.field-0.now =
    sym (ap (λ xs. slice_get xs c.args.function) c.deref.ensures.value) ∙ slice_get_read _ _ _ _ refl here.3.0 here.1 in
    rw (← c.self.view_is) (found_at (λ x. option_map (λ n. n.now) x) name_in s.functions.items (filter begins_function (lines s.text.now))
    c.args.function c.in_ok-get.field-0.now c.self.invariant.1 at)
