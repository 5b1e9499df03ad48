use Rattle.std.proofs.Common.{◌≡◌, length, rules, vec_len, arith}
use Rattle.sts_pool.proofs.Kept.{claimed, out_kept_fits}
use Rattle.sts_pool.proofs.book.Book.claim.Goals as goal

pub push_reserved-requires : goal.push_reserved-requires
push_reserved-requires c =
    let m = c.self.inside.machine in
    let out = c.self.inside.out.items in
    let more = claimed m c.self.inside.journal c.self.inside.outside out _ c.in_ok-task.task _ c.self.view_is c.self.invariant c.in_ok-task.ensures.free in
    let fits = out_kept_fits m c.self.inside.journal c.self.inside.outside out _ c.in_ok-task.task more in
    let long : vec_len c.self.inside.out ≡ length out = search rules in
    omega (arith, fits, long)

pub invariant_of-self : goal.invariant_of-self
invariant_of-self c =
    let more = claimed c.self.inside.machine c.self.inside.journal c.self.inside.outside c.self.inside.out.items _ c.in_ok-task.task _
    c.self.view_is c.self.invariant c.in_ok-task.ensures.free in
    rw (c.push_reserved.ensures.items, c.push_reserved.ensures.capacity) more
