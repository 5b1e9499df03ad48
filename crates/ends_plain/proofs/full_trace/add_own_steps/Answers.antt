use Rattle.std.proofs.Common.{◌≡◌, ◌-◌, ◌∙◌, ◌++◌, ◌∷◌, [], List, ap, sym, arith, append_assoc, append-nil}
use Rattle.sts_model.specs.declared.event.Event.{Event}
use Rattle.sts_model.specs.declared.event.Event.TheVariants as event
use Rattle.ends_plain.specs.Configs.{next, own_events}
use Rattle.ends_plain.proofs.SettleLemmas.{own_none, own_some, settled_none, settled_some}
use Rattle.ends_plain.proofs.full_trace.add_own_steps.Goals as goal

pub returns-in_default-clause-config : goal.returns-in_default-clause-config
returns-in_default-clause-config c =
    let none = sym c.own_step.ensures ∙ c.in_default.is in
    sym (settled_none c.loop-left.left c.args.setting.now c.loop-left.way.config none) ∙ c.loop-left.invariant.0

pub returns-in_default-clause-trace : goal.returns-in_default-clause-trace
returns-in_default-clause-trace c =
    let none = sym c.own_step.ensures ∙ c.in_default.is in
    sym (append-nil c.loop-left.way.trace)
    ∙ ap (λ (es : List Event). c.loop-left.way.trace ++ es) (sym (own_none c.loop-left.left c.args.setting.now c.loop-left.way.config none))
    ∙ c.loop-left.invariant.1

pub loop-left-preserved : goal.loop-left-preserved
loop-left-preserved c =
    let g = c.args.setting.now in
    let x = c.loop-left.way.config in
    let left = c.loop-left.left in
    let some = sym c.own_step.ensures ∙ c.in-Some.is in
    let rest = own_events (left - 1) g (next g x (event.Step c.in-Some.t)) in
    rw (c.in_ok-go.ensures.trace, c.in_ok-go.ensures.config) (
      settled_some left (left - 1) g x c.in-Some.t (omega arith) some ∙ c.loop-left.invariant.0,
      append_assoc c.loop-left.way.trace (event.Step c.in-Some.t ∷ []) rest
          ∙ ap (λ (es : List Event). c.loop-left.way.trace ++ es) (sym (own_some left (left - 1) g x c.in-Some.t (omega arith) some))
          ∙ c.loop-left.invariant.1,
    )

pub returns-clause-config : goal.returns-clause-config
returns-clause-config c =
    let none : c.loop-left.left ≡ 0 = omega arith in
    rw none at c.loop-left.invariant.0

pub returns-clause-trace : goal.returns-clause-trace
returns-clause-trace c =
    let none : c.loop-left.left ≡ 0 = omega arith in
    sym (append-nil c.loop-left.way.trace) ∙ (rw none at c.loop-left.invariant.1)
