use Rattle.std.proofs.Common.{◌≡◌, ◌<◌, length, refl, arith}
use Rattle.sts_types.specs.Arrivals.{state_of}
use Rattle.sts_types.proofs.Marking.{first_arrived, first_marked}
use Rattle.sts_types.proofs.arrivals.Arrivals.new.Goals as goal

pub returns : goal.returns
returns c =
    let first : state_of c.push.new.self.items (record { height = c.height.result; like = 0 }) ≡ c.args.first =
    simp (c.in_ok-push.ensures.items, c.in_ok-kept.ensures.items, c.copy.ensures, c.height.ensures.value) in
    (first_arrived _ c.in_ok-marks.marks.items c.args.places _ c.args.first c.in_ok-marks.ensures first, refl)

pub invariant_of-result : goal.invariant_of-result
invariant_of-result c =
    let some : 0 < length c.push.new.self.items = simp (c.in_ok-push.ensures.items, c.in_ok-kept.ensures.items) (omega arith) in (
      first_marked _ c.in_ok-marks.marks.items c.args.places _ c.in_ok-marks.ensures (some, c.height.ensures.few),
      some,
      simp (c.in_ok-push.ensures.items, c.in_ok-kept.ensures.items, c.copy.ensures),
      (some, c.height.ensures.few),
    )
