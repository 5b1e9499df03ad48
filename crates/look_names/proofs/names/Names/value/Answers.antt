use Rattle.std.proofs.Common.{◌≡◌, ap, ◌∙◌}
use Rattle.std.specs.Prelude.{option_map}
use Rattle.std.specs.BTreeMap.{get, get_by}
use Rattle.std.specs.Ordering.{int_cmp}
use Rattle.std.proofs.lemmas.Int.{to_z-of_z}
use Rattle.look_names.proofs.names.Names.value.Goals as goal

pub returns : goal.returns
returns c =
    let s = c.self.inside in
    let at : c.copied.result ≡ get int_cmp s.values c.args.value =
    c.copied.ensures ∙ c.get.ensures.value ∙ ap (λ k. get_by (int_cmp k) s.values) (to_z-of_z _ c.args.value c.ranges.value) in
    rw (← c.self.view_is) (ap (option_map (λ n. n.now)) at ∙ c.self.invariant.2 c.args.value)
