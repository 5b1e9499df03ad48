use Rattle.std.proofs.Common.{rules, ◌≡◌, None}
use Rattle.sts_asm.specs.Marks.{Mark, marked}
use Rattle.sts_asm.proofs.BucketLemmas.{found_added}
use Rattle.sts_asm.proofs.marks.Marks.push_again.Goals as goal

pub invariant_of-self : goal.invariant_of-self
invariant_of-self c =
    let new : Mark = record { name = c.args.name.now; at = c.args.at } in
    let stands : marked c.self.inside.list.items c.args.name.now ≡ None → ⊥ = search rules in
    found_added c.push_mark.result c.self.inside.list.items c.push_mark.new.list.items c.self.inside.firsts.items c.self.inside.others new
    c.self.invariant stands c.push_mark.ensures.ok c.push_mark.ensures.err
