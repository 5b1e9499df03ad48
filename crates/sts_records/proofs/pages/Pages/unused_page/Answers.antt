use Rattle.std.proofs.Common.{◌≡◌, ℕ, Some, refl, arith}
use Rattle.sts_records.specs.Pages.{page_of}
use Rattle.sts_records.specs.Slots.{birth_of, births}
use Rattle.sts_records.proofs.Cells.{one_more, pages_le}
use Rattle.sts_records.proofs.pages.Pages.unused_page.Goals as goal

pub loop-page-preserved : goal.loop-page-preserved
loop-page-preserved g c = one_more (λ p. (k : ℕ) × (page_of c.args.self.now.offsets (births c.args.places.now.slots k) ≡ Some p))
    c.loop-page.page c.loop-page.invariant (c.if-not-is_used.ensures.used refl)

pub returns-clause-unused : goal.returns-clause-unused
returns-clause-unused g c key e =
    let all = pages_le (λ o. page_of c.args.self.now.offsets (birth_of o)) c.args.places.now.slots c.args.self.now.pages refl
    (λ p l. c.loop-page.invariant p (omega (arith, l))) in
    let room = c.requires.room in
    omega (arith, all, room)
