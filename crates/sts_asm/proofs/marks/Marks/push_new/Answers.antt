use Rattle.std.proofs.Common.{rules, ◌≡◌, ◌<◌, None, length}
use Rattle.sts_asm.specs.Buckets.{bucket_of, first_of}
use Rattle.sts_asm.specs.Marks.{Mark, marked}
use Rattle.sts_asm.proofs.BucketLemmas.{found_filled, found_begun, found_tried}
use Rattle.sts_asm.proofs.marks.Marks.push_new.Goals as goal

pub invariant_of-self-then-is_some : goal.invariant_of-self-then-is_some
invariant_of-self-then-is_some c =
    let list = c.self.inside.list.items in
    let firsts = c.fill.new.firsts.items in
    let new : Mark = record { name = c.args.name.now; at = c.args.at } in
    let filled = found_filled list c.self.inside.firsts.items firsts c.self.inside.others c.self.invariant c.fill.ensures.same in
    let taken : first_of firsts (bucket_of new.name) ≡ None → ⊥ = search rules in
    let free : marked list new.name ≡ None = search rules in
    found_tried c.push_other.result list c.push_other.new.list.items firsts c.self.inside.others c.push_other.new.others new filled taken
    free c.push_other.ensures.list c.push_other.ensures.map c.push_other.ensures.same_list c.push_other.ensures.same_map

pub invariant_of-self-2 : goal.invariant_of-self-2
invariant_of-self-2 c =
    let list = c.self.inside.list.items in
    let firsts = c.fill.new.firsts.items in
    let bucket = c.bucket_of-bucket.result in
    let new : Mark = record { name = c.args.name.now; at = c.args.at } in
    let filled = found_filled list c.self.inside.firsts.items firsts c.self.inside.others c.self.invariant c.fill.ensures.same in
    let is : bucket ≡ bucket_of new.name = c.bucket_of-bucket.ensures in
    let small : bucket < length firsts = search rules in
    let none : first_of firsts bucket ≡ None = search rules in
    found_begun c.push_first.result list c.push_first.new.list.items firsts c.push_first.new.firsts.items c.self.inside.others new bucket
    filled is small none c.push_first.ensures.list c.push_first.ensures.first c.push_first.ensures.same_list
    c.push_first.ensures.same_firsts
