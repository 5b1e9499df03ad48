use Rattle.std.proofs.Common.{◌∙◌, ap, refl}
use Rattle.sts_env.specs.declared.env.Env.{Env}
use Rattle.sts_tree.specs.declared.record.ScopeNode.{ScopeNode}
use Rattle.sts_tree.specs.Steps.{with_scope}
use Rattle.laws_live.specs.Reading.{with_live_phase}
use Rattle.sts_store.specs.contracts.store.Store.{the_view}
use Rattle.sts_store.specs.Parts.{live_of, unseen_of}
use Rattle.sts_store.proofs.Seeing.{scope_stands, scope_is_some}
use Rattle.sts_store.proofs.Phases.{phase_live}
use Rattle.sts_store.proofs.Scoping.{kept_scope}
use Rattle.sts_store.proofs.Keeping.{store_seen, rest_seen}
use Rattle.sts_store.proofs.store.Store.set_phase.Goals as goal

pub set_phase-requires : goal.set_phase-requires
set_phase-requires c = scope_is_some (the_view c.self.inside) c.args.s (rw (← c.self.view_is) at c.requires)

pub invariant_of-self : goal.invariant_of-self
invariant_of-self c =
    let m = the_view c.self.inside in
    let p = scope_stands m c.args.s (rw (← c.self.view_is) at c.requires) in
    let d : ScopeNode Env = record p.0 { phase = c.args.phase } in
    store_seen m c.set_phase.new.self (with_scope m.tree c.args.s d) (c.set_phase.ensures p.0 p.1)
    (kept_scope m c.args.s p.0 d c.self.invariant p.1 refl)

pub returns-clause-live : goal.returns-clause-live
returns-clause-live c =
    let m = the_view c.self.inside in
    let p = scope_stands m c.args.s (rw (← c.self.view_is) at c.requires) in
    phase_live m c.args.s p.0 p.1 c.args.phase c.set_phase.new.self (c.set_phase.ensures p.0 p.1)
    ∙ ap (λ n. with_live_phase (live_of n) c.args.s c.args.phase) c.self.view_is

pub returns-clause-unseen : goal.returns-clause-unseen
returns-clause-unseen c =
    let m = the_view c.self.inside in
    let p = scope_stands m c.args.s (rw (← c.self.view_is) at c.requires) in
    rest_seen m c.set_phase.new.self (with_scope m.tree c.args.s (record p.0 { phase = c.args.phase })) (c.set_phase.ensures p.0 p.1)
    ∙ ap unseen_of c.self.view_is
