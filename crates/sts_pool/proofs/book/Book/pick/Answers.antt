use Rattle.std.proofs.Common.{not, ◌&&◌, ◌==◌, ap}
use Rattle.std.specs.List.{list_any}
use Rattle.laws_live.specs.Waiting.{live_can_step}
use Rattle.sts_machine.specs.Turned.{Picks}
use Rattle.sts_pool.specs.Book.{book_of, is_free, may_turn}
use Rattle.sts_pool.specs.Journal.{written}
use Rattle.sts_pool.proofs.Books.{picks_alike, step_seen}
use Rattle.sts_pool.proofs.Kept.{told}
use Rattle.sts_pool.proofs.book.Book.pick.Goals as goal

pub returns-clause-free : goal.returns-clause-free
returns-clause-free c =
    let m = c.self.inside.machine in
    let out = c.self.inside.out.items in
    let beside : Picks (λ t. live_can_step m.program m.live t && not (list_any (λ o. o == t) out)) c.ready_beside.result =
    rw (← c.as_slice.ensures.value) c.ready_beside.ensures in
    rw (← c.self.view_is) beside

pub returns-clause-told : goal.returns-clause-told
returns-clause-told c =
    let m = c.self.inside.machine in
    let j = c.self.inside.journal in
    let n = c.self.inside.outside in
    let out = c.self.inside.out.items in
    let b = book_of m (written j) n out in
    let beside : Picks (λ t. live_can_step m.program m.live t && not (list_any (λ o. o == t) out)) c.ready_beside.result =
    rw (← c.as_slice.ensures.value) c.ready_beside.ensures in
    told m j n out _ c.args.self.now c.self.view_is (λ z events. Picks (may_turn z events) c.ready_beside.result) c.self.invariant
    (λ events may. picks_alike (is_free b) (may_turn b events) c.ready_beside.result
    (λ t. ap (λ can. can && not (list_any (λ o. o == t) out)) (step_seen m events may.stands c.self.invariant.room.turns t)) beside)
