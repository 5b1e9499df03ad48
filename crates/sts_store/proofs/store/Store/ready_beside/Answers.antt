use Rattle.std.proofs.Common.{sym, ap, ◌∙◌, ◌&&◌, not}
use Rattle.sts_store.specs.contracts.store.Store.{the_view}
use Rattle.sts_store.specs.Parts.{can_go_on}
use Rattle.sts_store.proofs.Seeing.{steps_seen}
use Rattle.sts_tree.proofs.PassingLemmas.{is_out}
use Rattle.sts_store.proofs.store.Store.ready_beside.Goals as goal

pub returns-clause-some : goal.returns-clause-some
returns-clause-some c t e =
    sym (ap (λ m. can_go_on m t && not (is_out c.args.out.now t)) c.self.view_is)
    ∙ sym (ap (λ b. b && not (is_out c.args.out.now t)) (steps_seen (the_view c.self.inside) t))
    ∙ c.ready_beside.ensures.some t e

pub returns-clause-none : goal.returns-clause-none
returns-clause-none c t e =
    sym (ap (λ m. can_go_on m t && not (is_out c.args.out.now t)) c.self.view_is)
    ∙ sym (ap (λ b. b && not (is_out c.args.out.now t)) (steps_seen (the_view c.self.inside) t))
    ∙ c.ready_beside.ensures.none t e
