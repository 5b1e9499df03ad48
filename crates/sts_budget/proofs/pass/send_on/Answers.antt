use Rattle.std.proofs.Common.{◌+◌, ◌<◌, ℕ, length, get_or, arith, sym, ◌∙◌, subst}
use Rattle.sts_budget.specs.Change.{depth_of}
use Rattle.sts_budget.specs.Ready.{names_in}
use Rattle.sts_budget.specs.Table.{IsSent, IsStopped}
use Rattle.sts_budget.proofs.Sorts.{straight}
use Rattle.sts_budget.proofs.Rows.{sent_one, stopped_one}
use Rattle.sts_budget.proofs.pass.send_on.Goals as goal

pub returns-then-goes_straight_on-clause-sent : goal.returns-then-goes_straight_on-clause-sent
returns-then-goes_straight_on-clause-sent g c = λ t.
    (let e = straight c.args.instr c.args.pc (sym c.goes_straight_on.ensures ∙ c.if-goes_straight_on.true) in
    let within : c.args.pc + 1 < length c.args.best.now.items = subst
    (λ ps. (k d : ℕ) → k < length ps → get_or ps k d < length c.args.best.now.items) (sym e) c.requires.inside 0 0 (omega arith) in
    subst (λ ps. IsSent c.args.values.now (λ q. depth_of c.args.pass.now.resource (names_in c.args.pass.now.layout.now q))
    c.args.pass.now.most ps c.args.best.now.items c.raise_at.new.best.items) e (sent_one c.args.values.now
    (λ q. depth_of c.args.pass.now.resource (names_in c.args.pass.now.layout.now q)) c.args.pass.now.most (c.args.pc + 1)
    c.args.best.now.items c.raise_at.new.best.items within (c.raise_at.ensures.raised t)))

pub returns-then-goes_straight_on-clause-over : goal.returns-then-goes_straight_on-clause-over
returns-then-goes_straight_on-clause-over g c = λ t. subst (λ ps. IsStopped c.args.values.now
    (λ q. depth_of c.args.pass.now.resource (names_in c.args.pass.now.layout.now q)) c.args.pass.now.most ps)
    (straight c.args.instr c.args.pc (sym c.goes_straight_on.ensures ∙ c.if-goes_straight_on.true)) (stopped_one c.args.values.now
    (λ q. depth_of c.args.pass.now.resource (names_in c.args.pass.now.layout.now q)) c.args.pass.now.most (c.args.pc + 1)
    (c.raise_at.ensures.over t))
