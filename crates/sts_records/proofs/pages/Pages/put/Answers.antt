use Rattle.std.proofs.Common.{ap, refl, set}
use Rattle.sts_records.proofs.Cells.{put_kept}
use Rattle.sts_records.proofs.pages.Pages.put.Goals as goal

pub returns-clause-keys : goal.returns-clause-keys
returns-clause-keys c at after kept comes =
    let p = c.args.self.now in
    put_kept p _ at after c.args.key c.args.birth kept comes refl (ap (λ n. set p.cells.items n c.args.key) c.cell-cell.ensures.value) refl refl
