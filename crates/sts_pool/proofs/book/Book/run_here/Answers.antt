use Rattle.std.proofs.Common.{vec_capacity, refl}
use Rattle.std.proofs.lemmas.List.{length-replicate}
use Rattle.sts_model.specs.declared.event.Event.TheVariants as event
use Rattle.sts_machine.specs.Slice.{frame_at, steps_of}
use Rattle.sts_pool.proofs.Kept.{Grows, all_steps, none_outside, ran_grows, records, records_none}
use Rattle.sts_pool.proofs.book.Book.run_here.Goals as goal
use Rattle.sts_pool.proofs.book.Book.run_here.Goals.{After-run_here-done}

pub returns-then-not-is_at_hand-clause-journal : goal.returns-then-not-is_at_hand-clause-journal
returns-then-not-is_at_hand-clause-journal c = records_none c.args.self.now c.args.self.now refl

grown : (c : After-run_here-done) → Grows c.self.inside.journal (steps_of c.run_here-done.result c.args.task) c.run_here-done.new.self c.self.inside.outside c.self.inside.out.items (vec_capacity c.self.inside.out)
grown c =
    let b = c.self.inside in
    let run = c.run_here-done.ensures in
    let x = c.run_here-done.new.self in
    ran_grows b.machine x b.journal b.outside b.out.items _ c.run_here-done.result c.args.task (frame_at x c.args.task) c.self.invariant
    run.program run.stands run.live run.steps

pub push_steps-requires : goal.push_steps-requires
push_steps-requires c =
    let n = c.run_here-done.result in
    (grown (goal.at.push_steps-requires c).After-run_here-done).fits n (length-replicate n (event.Step c.args.task))

pub invariant_of-self : goal.invariant_of-self
invariant_of-self c = (grown (goal.at.invariant_of-self c).After-run_here-done).kept c.push_steps.new.self c.push_steps.ensures

pub returns-clause-journal : goal.returns-clause-journal
returns-clause-journal c =
    let b = c.self.inside in
    let run = c.run_here-done.ensures in
    let x = c.run_here-done.new.self in
    let n = c.run_here-done.result in
    records b.machine x b.journal c.push_steps.new.self b.outside b.outside b.out.items b.out.items _ c.args.self.now c.self.view_is
    c.push_steps.ensures (all_steps n c.args.task b.machine.steps x.steps run.steps) (none_outside n c.args.task b.outside) run.stands
