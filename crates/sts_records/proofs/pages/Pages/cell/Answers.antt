use Rattle.std.proofs.Common.{◌/◌}
use Rattle.sts_records.proofs.Cells.{cell_in}
use Rattle.sts_records.proofs.pages.Pages.cell.Goals as goal

pub overflow_sub-result : goal.overflow_sub-result
overflow_sub-result c =
    let (latest, at, kept, le) = c.requires in
    (cell_in c.args.self.now.offsets c.args.self.now.cells.items c.args.birth (kept.page (c.args.birth / 4096) le)).0

pub returns-clause-inside : goal.returns-clause-inside
returns-clause-inside c =
    let (latest, at, kept, le) = c.requires in
    (cell_in c.args.self.now.offsets c.args.self.now.cells.items c.args.birth (kept.page (c.args.birth / 4096) le)).1
