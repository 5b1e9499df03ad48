use Rattle.std.proofs.Common.{sym, ◌∙◌, ap, subst, arith}
use Rattle.sts_frames.specs.Locals.{AreSafe}
use Rattle.sts_machine.specs.Slice.{Cut}
use Rattle.sts_machine.proofs.Cutting.{goes, slice_safe}
use Rattle.sts_machine.proofs.slice.Slice.run_local.Goals as goal

pub run_local-done-requires-clause-safe : goal.run_local-done-requires-clause-safe
run_local-done-requires-clause-safe c =
    let s = c.self.inside in
    let own = c.code-code.ensures.value ∙ sym (ap (λ (x : Cut). x.code) c.self.view_is) in
    subst (λ q. AreSafe q c.code-code.result.now s.frame) (sym c.program.ensures.value)
    (slice_safe s.verified.now s.task s.start s.frame s.count c.self.invariant c.code-code.result.now own)

pub overflow_add-self : goal.overflow_add-self
overflow_add-self c =
    let s = c.self.inside in
    let own = c.code-code.ensures.value ∙ sym (ap (λ (x : Cut). x.code) c.self.view_is) in
    let few = (goes s.verified.now s.task s.start s.frame s.count c.self.invariant c.code-code.result.now own c.run_local-done.result
    c.run_local-done.new.frame c.run_local-done.ensures.local).few in
    omega (arith, few)

pub invariant_of-self : goal.invariant_of-self
invariant_of-self c =
    let s = c.self.inside in
    let own = c.code-code.ensures.value ∙ sym (ap (λ (x : Cut). x.code) c.self.view_is) in
    (goes s.verified.now s.task s.start s.frame s.count c.self.invariant c.code-code.result.now own c.run_local-done.result
    c.run_local-done.new.frame c.run_local-done.ensures.local).kept
