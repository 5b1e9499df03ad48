use Rattle.std.proofs.Common.{List, subst, sym}
use Rattle.laws_calls.specs.Outside.{only_interrupts}
use Rattle.laws_calls.specs.declared.table.Row.{Row}
use Rattle.ends_table.specs.Led.{IsClosed}
use Rattle.ends_whole.proofs.WholeLemmas.{are_all}
use Rattle.ends_whole.proofs.whole.are_whole.Goals as goal

pub returns-in-Some-get : goal.returns-in-Some-get
returns-in-Some-get c all never =
    let rows = rw c.in-Some.is at c.in_ok-rows.ensures in
    let closed = subst (λ (t : List Row). IsClosed c.args.setting.now.program (only_interrupts c.args.setting.now.interrupts) t)
    (sym c.as_slice.ensures.value) rows in
    are_all c.ends_are_ways.ensures c.args.setting.now c.as_slice.result.now c.in-Some-get.root.now c.as_slice-in-Some-get.result.now
    c.args.found.now closed
    c.in-Some-get.ensures.lookup.0 c.in-Some-get.ensures.lookup.1 c.as_slice-in-Some-get.ensures (c.have_ways.ensures all) never
