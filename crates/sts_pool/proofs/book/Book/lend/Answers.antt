use Rattle.std.proofs.Common.{◌≡◌, true, sym, ◌∙◌, subst, length, rules, vec_len, arith}
use Rattle.laws_live.specs.Waiting.{live_can_step}
use Rattle.sts_pool.specs.Book.{BookSeen, is_free}
use Rattle.sts_pool.proofs.Books.{free_parts}
use Rattle.sts_pool.proofs.Kept.{claimed, out_kept_fits}
use Rattle.sts_pool.proofs.book.Book.lend.Goals as goal

pub push_reserved-requires : goal.push_reserved-requires
push_reserved-requires c =
    let b = c.self.inside in
    let free : is_free c.args.self.now c.args.task ≡ true = sym c.is_at_hand.ensures ∙ c.if-not-is_at_hand.false in
    let more = claimed b.machine b.journal b.outside b.out.items _ c.args.task _ c.self.view_is c.self.invariant free in
    let fits = out_kept_fits b.machine b.journal b.outside b.out.items _ c.args.task more in
    let long : vec_len b.out ≡ length b.out.items = search rules in
    omega (arith, fits, long)

pub invariant_of-self : goal.invariant_of-self
invariant_of-self c =
    let b = c.self.inside in
    let free : is_free c.args.self.now c.args.task ≡ true = sym c.is_at_hand.ensures ∙ c.if-not-is_at_hand.false in
    let more = claimed b.machine b.journal b.outside b.out.items _ c.args.task _ c.self.view_is c.self.invariant free in
    rw (c.push_reserved.ensures.items, c.push_reserved.ensures.capacity) more

pub slice-requires : goal.slice-requires
slice-requires c =
    let before = c.args.self.now in
    let free : is_free before c.args.task ≡ true = sym c.is_at_hand.ensures ∙ c.if-not-is_at_hand.false in
    let can = (free_parts (live_can_step before.machine.program before.machine.live c.args.task) before.out c.args.task free).0 in
    subst (λ (b : BookSeen). live_can_step b.machine.program b.machine.live c.args.task ≡ true) (sym c.self.view_is) can
