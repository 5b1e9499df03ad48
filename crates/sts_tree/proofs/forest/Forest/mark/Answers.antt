use Rattle.std.proofs.Common.{◌∙◌, ap}
use Rattle.sts_tree.specs.Marks.{with_mark}
use Rattle.sts_tree.proofs.Rows.{marked_family, same_families, seen_field, scopes_are}
use Rattle.sts_tree.proofs.forest.Forest.mark.Goals as goal

pub invariant_of-self : goal.invariant_of-self
invariant_of-self g c =
    let row = c.at.result.now in
    let q = record row { scope = with_mark c.args.mark row.scope } in
    let same = same_families c.self.inside.scopes.slots c.args.s row q c.at.ensures.value (marked_family c.args.mark row) in
    rw c.mark.ensures (rw same c.self.invariant)

pub returns : goal.returns
returns g c x is = rw (← c.self.view_is) (scopes_are _ _ (seen_field c.self.inside.scopes.slots c.args.s c.at.result.now
    (record c.at.result.now { scope = c.mark.new.self }) x (with_mark c.args.mark x) c.at.ensures.value
    (rw (← c.self.view_is) at is) (λ own. c.mark.ensures ∙ ap (with_mark c.args.mark) own)))
