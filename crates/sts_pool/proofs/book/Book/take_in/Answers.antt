use Rattle.std.proofs.Common.{◌≡◌, vec_capacity, ap, ◌∙◌}
use Rattle.std.proofs.lemmas.List.{length-replicate}
use Rattle.sts_model.specs.declared.event.Event.TheVariants as event
use Rattle.sts_machine.specs.Slice.{steps_of}
use Rattle.sts_pool.specs.Book.{BookSeen, is_out}
use Rattle.sts_pool.specs.Journal.{IsRecorded}
use Rattle.sts_pool.proofs.Kept.{Grows, all_steps, back_grows, none_outside, records}
use Rattle.sts_pool.proofs.Outs.{others_left, taken_out, without}
use Rattle.sts_pool.proofs.book.Book.take_in.Goals as goal
use Rattle.sts_pool.proofs.book.Book.take_in.Goals.{After-put}

grown : (c : After-put) → Grows c.self.inside.journal (steps_of c.args.slice.now.count c.args.slice.now.task) c.put.new.self c.self.inside.outside (without c.args.slice.now.task c.self.inside.out.items) (vec_capacity c.self.inside.out)
grown c =
    let b = c.self.inside in
    let s = c.args.slice.now in
    let put = c.put.ensures in
    back_grows b.machine c.put.new.self b.journal b.outside b.out.items _ s.count s.task s.frame c.self.invariant put.program put.stands
    put.live put.steps

pub push_steps-requires : goal.push_steps-requires
push_steps-requires c =
    let s = c.args.slice.now in
    rw c.count.ensures.value ((grown (goal.at.push_steps-requires c).After-put).fits s.count (length-replicate s.count (event.Step s.task)))

pub invariant_of-self : goal.invariant_of-self
invariant_of-self c =
    let t = c.args.slice.now.task in
    let recorded : IsRecorded c.self.inside.journal c.push_steps.new.self (steps_of c.args.slice.now.count t) =
    rw (c.count.ensures.value, c.task-task.ensures) at c.push_steps.ensures in
    let left : c.remove_task.new.out.items ≡ without t c.self.inside.out.items = rw c.task-task.ensures at c.remove_task.ensures.items in
    rw (left, c.remove_task.ensures.capacity) ((grown (goal.at.invariant_of-self c).After-put).kept c.push_steps.new.self recorded)

pub returns-clause-journal : goal.returns-clause-journal
returns-clause-journal c =
    let t = c.args.slice.now.task in
    let put = c.put.ensures in
    let recorded : IsRecorded c.self.inside.journal c.push_steps.new.self (steps_of c.args.slice.now.count t) =
    rw (c.count.ensures.value, c.task-task.ensures) at c.push_steps.ensures in
    λ is. records c.self.inside.machine c.put.new.self c.self.inside.journal c.push_steps.new.self c.self.inside.outside
    c.self.inside.outside c.self.inside.out.items c.remove_task.new.out.items _ c.args.self.now c.self.view_is recorded
    (all_steps c.args.slice.now.count t c.self.inside.machine.steps c.put.new.self.steps put.steps)
    (none_outside c.args.slice.now.count t c.self.inside.outside) put.stands

pub returns-clause-back : goal.returns-clause-back
returns-clause-back c =
    let t = c.args.slice.now.task in
    let left : c.remove_task.new.out.items ≡ without t c.self.inside.out.items = rw c.task-task.ensures at c.remove_task.ensures.items in
    λ is. rw left (taken_out t c.self.inside.out.items)

pub returns-clause-others : goal.returns-clause-others
returns-clause-others c =
    let t = c.args.slice.now.task in
    let left : c.remove_task.new.out.items ≡ without t c.self.inside.out.items = rw c.task-task.ensures at c.remove_task.ensures.items in
    λ is q other. rw left (others_left t q c.self.inside.out.items other ∙ ap (λ (b : BookSeen). is_out b q) c.self.view_is)
