use Rattle.std.proofs.Common.{◌≡◌, ℕ, true, false, not, ◌&&◌, refl, sym, ◌∙◌, subst}
use Rattle.sts_tree.specs.Steps.{can_step}
use Rattle.sts_tree.proofs.PassingLemmas.{is_out, is_at, is_ready, one_more, fewer_left}
use Rattle.sts_tree.proofs.tree.Tree.ready_beside.Goals as goal

pub returns-then-not-contains-clause-some : goal.returns-then-not-contains-clause-some
returns-then-not-contains-clause-some g c t e =
    let ready = c.args.self.now.ready in
    let out = c.args.out.now in
    let h = is_at ready out c.loop-at.at c.in-Some.t c.loop-at.invariant c.in-Some.is in
    let steps : can_step c.args.self.now c.in-Some.t ≡ true = sym (c.ready_front-at.ensures.list c.in-Some.t) ∙ is_ready ready out c.in-Some.t h in
    let beside : is_out out c.in-Some.t ≡ false = sym c.contains.ensures.value ∙ c.if-not-contains.true in
    let same : c.in-Some.t ≡ t = cc in
    subst (λ (u : ℕ). (can_step c.args.self.now u && not (is_out out u)) ≡ true) same (rw (steps, beside) refl)

pub ready_after-at-requires : goal.ready_after-at-requires
ready_after-at-requires g c =
    let ready = c.args.self.now.ready in
    let out = c.args.out.now in
    let h = is_at ready out c.loop-at.at c.in-Some.t c.loop-at.invariant c.in-Some.is in
    sym (c.ready_front-at.ensures.list c.in-Some.t) ∙ is_ready ready out c.in-Some.t h

pub loop-at-smaller : goal.loop-at-smaller
loop-at-smaller g c =
    let ready = c.args.self.now.ready in
    let out = c.args.out.now in
    let h = is_at ready out c.loop-at.at c.in-Some.t c.loop-at.invariant c.in-Some.is in
    rw c.in-Some.is (fewer_left ready out c.in-Some.t h c.ready_after-at.result c.ready_front-at.ensures.once
    (c.ready_after-at.ensures h.front h.back h.all_are))

pub loop-at-preserved : goal.loop-at-preserved
loop-at-preserved g c =
    let ready = c.args.self.now.ready in
    let out = c.args.out.now in
    let h = is_at ready out c.loop-at.at c.in-Some.t c.loop-at.invariant c.in-Some.is in
    one_more ready out c.in-Some.t h c.ready_after-at.result (sym c.contains.ensures.value ∙ c.if-not-contains.false)
    (c.ready_after-at.ensures h.front h.back h.all_are)
