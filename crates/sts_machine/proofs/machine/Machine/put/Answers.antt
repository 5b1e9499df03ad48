use Rattle.std.proofs.Common.{◌++◌, refl, sym, ◌∙◌, arith}
use Rattle.sts_machine.specs.Slice.{steps_of}
use Rattle.sts_machine.proofs.Putting.{same_view, puts, in_order, others_there, put_back, stands_there}
use Rattle.sts_machine.proofs.Turning.{runs_well}
use Rattle.sts_machine.proofs.machine.Machine.put.Goals as goal

pub returns-then-count-eq0-clause-live : goal.returns-then-count-eq0-clause-live
returns-then-count-eq0-clause-live c =
    same_view c.args.self.now c.args.slice.now (sym c.count.ensures.value ∙ c.if-count-eq0.true) c.requires c.frame-frame.ensures.local

pub returns-then-count-eq0-clause-runs_well : goal.returns-then-count-eq0-clause-runs_well
returns-then-count-eq0-clause-runs_well c =
    λ events b h is. runs_well c.args.self.now.program c.laws.ensures b is (events ++ steps_of c.args.slice.now.count c.args.slice.now.task)

pub put_frame-requires-clause-entries : goal.put_frame-requires-clause-entries
put_frame-requires-clause-entries c =
    (puts c.self.invariant c.self.view_is c.requires c.task-task.ensures c.frame-frame.ensures.value refl c.frame-frame.ensures.local).entries

pub say_stand-requires-clause-order : goal.say_stand-requires-clause-order
say_stand-requires-clause-order c =
    let g = puts c.self.invariant c.self.view_is c.requires c.task-task.ensures c.frame-frame.ensures.value refl c.frame-frame.ensures.local in
    in_order c.put_frame.new.self g c.put_frame.ensures.live

pub say_stand-requires-clause-others : goal.say_stand-requires-clause-others
say_stand-requires-clause-others c =
    let g = puts c.self.invariant c.self.view_is c.requires c.task-task.ensures c.frame-frame.ensures.value refl c.frame-frame.ensures.local in
    others_there c.put_frame.new.self g c.put_frame.ensures.live c.program.result.now c.program.ensures.value c.put_frame.ensures.unseen

pub overflow_add-self : goal.overflow_add-self
overflow_add-self c =
    let g = puts c.self.invariant c.self.view_is c.requires c.task-task.ensures c.frame-frame.ensures.value
    (c.from.ensures ∙ c.count-2.ensures.value) c.frame-frame.ensures.local in
    let few = g.few in
    omega (arith, few)

pub invariant_of-self : goal.invariant_of-self
invariant_of-self c =
    let g = puts c.self.invariant c.self.view_is c.requires c.task-task.ensures c.frame-frame.ensures.value
    (c.from.ensures ∙ c.count-2.ensures.value) c.frame-frame.ensures.local in
    put_back c.put_frame.new.self g c.put_frame.ensures.live c.say_stand.new.store c.say_stand.ensures.live
    c.program.result.now c.program.ensures.value c.put_frame.ensures.unseen c.self.invariant
    c.say_stand.ensures.standing c.say_stand.ensures.room

pub returns-clause-stands : goal.returns-clause-stands
returns-clause-stands c =
    let g = puts c.self.invariant c.self.view_is c.requires c.task-task.ensures c.frame-frame.ensures.value
    (c.from.ensures ∙ c.count-2.ensures.value) c.frame-frame.ensures.local in
    stands_there c.put_frame.new.self g c.put_frame.ensures.live c.say_stand.new.store c.say_stand.ensures.live
    c.args.self.now c.args.slice.now c.self.view_is c.task-task.ensures (c.from.ensures ∙ c.count-2.ensures.value)

pub returns-clause-runs_well : goal.returns-clause-runs_well
returns-clause-runs_well c =
    λ events b h is. runs_well c.args.self.now.program c.laws.ensures b is (events ++ steps_of c.args.slice.now.count c.args.slice.now.task)
