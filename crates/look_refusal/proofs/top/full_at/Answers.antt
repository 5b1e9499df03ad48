use Rattle.std.proofs.Common.{◌≡◌, ◌+◌, ◌-◌, ◌<◌, sym, ap, ◌∙◌, subst, arith, get_or}
use Rattle.std.specs.Prelude.{MatchOption}
use Rattle.look_refusal.specs.Search.{flow}
use Rattle.look_refusal.specs.Trail.{sum_in, looped, full_in, greatest_number}
use Rattle.look_refusal.proofs.Fulls.{full_over, full_alone, summed}
use Rattle.look_refusal.proofs.Leading.{around_found, around_missing}
use Rattle.look_refusal.proofs.top.full_at.Goals as goal

pub loop_from-around-requires-clause-opens : goal.loop_from-around-requires-clause-opens
loop_from-around-requires-clause-opens c =
    let r = around_found c.args.search.now c.requires.ready c.args.pc c.in-Some.head _ _ c.requires.in_code c.head.ensures c.in-Some.is in
    (c.requires.ready.good.nested c.args.pc c.in-Some.head r.0 r.1).0

pub bounds-fulls-head : goal.bounds-fulls-head
bounds-fulls-head c =
    let r = around_found c.args.search.now c.requires.ready c.args.pc c.in-Some.head _ _ c.requires.in_code c.head.ensures c.in-Some.is in
    let less = c.requires.ready.good.lesser c.args.pc c.in-Some.head r.0 r.1 in
    omega (arith, c.requires.fulls.0)

pub returns-in_err-base-in-Some : goal.returns-in_err-base-in-Some
returns-in_err-base-in-Some c =
    let s = c.args.search.now in
    let t = c.args.trail.now in
    let l = c.loop_from-around.result in
    let r = around_found c.args.search.now c.requires.ready c.args.pc c.in-Some.head _ _ c.requires.in_code c.head.ensures c.in-Some.is in
    let e = full_over s c.requires.ready t c.requires.trail l c.loop_from-around.ensures.right c.args.pc c.in-Some.head r.0
    (get_or c.args.fulls.now c.in-Some.head 0) c.depth_at-depth.result r.1 c.loop_from-around.ensures.head
    (c.requires.fulls.1 c.in-Some.head (c.requires.ready.good.lesser c.args.pc c.in-Some.head r.0 r.1)) c.depth_at-depth.ensures.value in
    let over : greatest_number < looped s (sum_in t) l.head l.end (l.turns - 1) (get_or c.args.fulls.now c.in-Some.head 0) c.depth_at-depth.result =
    c.in_err-base-in-Some.ensures {u = tt} in
    let more : greatest_number < full_in s t c.args.pc = omega (arith, e, over) in
    subst (λ o. MatchOption o (greatest_number < full_in s t c.args.pc) (λ x. x ≡ full_in s t c.args.pc)) (sym c.from_residual.ensures) more

pub returns-in_ok-base-in-Some : goal.returns-in_ok-base-in-Some
returns-in_ok-base-in-Some c =
    let base : c.in_ok-base-in-Some.base ≡ looped c.args.search.now (sum_in c.args.trail.now) c.loop_from-around.result.head c.loop_from-around.result.end
    (c.loop_from-around.result.turns - 1) (get_or c.args.fulls.now c.in-Some.head 0) c.depth_at-depth.result = c.in_ok-base-in-Some.ensures {u = tt} in
    let turn : c.sum_at-turn.result ≡ sum_in c.args.trail.now c.args.pc ((flow c.args.search.now).depth c.args.pc) =
    c.sum_at-turn.ensures ∙ ap (λ d. sum_in c.args.trail.now c.args.pc d) c.depth_at.ensures.value in
    let r = around_found c.args.search.now c.requires.ready c.args.pc c.in-Some.head _ _ c.requires.in_code c.head.ensures c.in-Some.is in
    let e = full_over c.args.search.now c.requires.ready c.args.trail.now c.requires.trail c.loop_from-around.result c.loop_from-around.ensures.right c.args.pc
    c.in-Some.head r.0 (get_or c.args.fulls.now c.in-Some.head 0) c.depth_at-depth.result r.1 c.loop_from-around.ensures.head
    (c.requires.fulls.1 c.in-Some.head (c.requires.ready.good.lesser c.args.pc c.in-Some.head r.0 r.1)) c.depth_at-depth.ensures.value in
    let all : c.in_ok-base-in-Some.base + c.sum_at-turn.result ≡ full_in c.args.search.now c.args.trail.now c.args.pc = omega (arith, base, turn, e) in
    summed c.checked_add.result (c.in_ok-base-in-Some.base + c.sum_at-turn.result) (full_in c.args.search.now c.args.trail.now c.args.pc) c.checked_add.ensures
    all

pub returns-in-None : goal.returns-in-None
returns-in-None c =
    let alone = full_alone c.args.search.now c.requires.ready c.args.trail.now c.requires.trail c.args.pc
    (around_missing c.args.search.now c.requires.ready c.args.pc _ _ c.requires.in_code c.head.ensures c.in-None.is) in
    c.sum_at-turn.ensures ∙ ap (λ d. sum_in c.args.trail.now c.args.pc d) c.depth_at.ensures.value ∙ sym alone
