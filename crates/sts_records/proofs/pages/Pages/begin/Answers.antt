use Rattle.std.proofs.Common.{refl}
use Rattle.sts_records.specs.Slots.{births}
use Rattle.sts_records.proofs.Cells.{IsFree, begins, own_free}
use Rattle.sts_records.proofs.pages.Pages.begin.Goals as goal
use Rattle.sts_records.proofs.pages.Pages.begin.Goals.{then-self-eq-BLOCKS, else-self-eq-BLOCKS}

pub returns-clause-keys : goal.returns-clause-keys
returns-clause-keys g c =
    let p = c.args.self.now in
    let at = births c.args.places.now.slots in
    let free : IsFree p at c.args.block c.if-self-eq-BLOCKS.page = elim c.if-self-eq-BLOCKS.branch [
      | then-self-eq-BLOCKS w ↦ rw w.page-is (own_free p at c.args.block c.requires.block.0 c.requires.keys w.if-self-eq-BLOCKS.true)
      | else-self-eq-BLOCKS w ↦ rw w.page-is (w.unused_page-page.ensures.unused, λ e. absurd (w.if-self-eq-BLOCKS.false e))
    ] in
    begins p _ at c.args.block c.if-self-eq-BLOCKS.page c.requires.block c.requires.keys free c.extend.ensures.long c.extend.ensures.kept
    c.extend.ensures.capacity refl refl
