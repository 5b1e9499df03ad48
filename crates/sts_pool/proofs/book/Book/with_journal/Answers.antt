use Rattle.std.proofs.Common.{◌+◌, vec_capacity, arith}
use Rattle.sts_pool.proofs.Books.{opening_room}
use Rattle.sts_pool.proofs.Kept.{opening_journal, opening_kept}
use Rattle.sts_pool.proofs.book.Book.with_journal.Goals as goal

pub invariant_of-result : goal.invariant_of-result
invariant_of-result c =
    let budget = c.every_run-budget.result in
    let run = c.every_run-budget.ensures in
    let made = c.in_ok-machine.ensures in
    let out = c.in_ok-out.ensures.capacity in
    let room = opening_room c.args.verified.now _ budget (vec_capacity c.in_ok-out.out) made.program run.printed run.runs_well
    c.stands_stay.ensures c.turns_are_seen.ensures c.views_are_within.ensures (omega arith) (omega (arith, out)) in
    rw c.in_ok-out.ensures.items
    (opening_kept c.in_ok-machine.machine c.in_ok-journal.journal (budget.steps + 4096) _ made.stands made.steps
    c.in_ok-journal.ensures.holds room)

pub returns-clause-opening : goal.returns-clause-opening
returns-clause-opening c =
    opening_journal c.in_ok-machine.machine c.in_ok-journal.journal (c.every_run-budget.result.steps + 4096) c.in_ok-out.out.items
    c.in_ok-machine.ensures.stands c.in_ok-machine.ensures.steps c.in_ok-journal.ensures.holds
