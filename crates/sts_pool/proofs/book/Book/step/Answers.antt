use Rattle.std.proofs.Common.{◌≡◌, ◌∷◌, [], true, false, vec_capacity, refl}
use Rattle.laws_live.specs.Waiting.{live_can_step}
use Rattle.sts_model.specs.declared.event.Event.TheVariants as event
use Rattle.sts_pool.proofs.Books.{still_free}
use Rattle.sts_pool.proofs.Kept.{Grows, counted_step, counts_one, free_in, none_outside, records, step_grows}
use Rattle.sts_pool.proofs.Outs.{among}
use Rattle.sts_pool.proofs.book.Book.step.Goals as goal
use Rattle.sts_pool.proofs.book.Book.step.Goals.{After-step-can_step}

-- the task could step, and isn't out
free : (c : After-step-can_step) → (live_can_step c.self.inside.machine.program c.self.inside.machine.live c.args.task ≡ true) × (among c.self.inside.out.items c.args.task ≡ false)
free c = free_in c.self.inside.machine c.self.inside.journal c.self.inside.outside c.self.inside.out.items c.args.task _ c.self.view_is c.requires

grown : (c : After-step-can_step) → Grows c.self.inside.journal (event.Step c.args.task ∷ []) c.step-can_step.new.self c.self.inside.outside c.self.inside.out.items (vec_capacity c.self.inside.out)
grown c =
    let b = c.self.inside in
    let step = c.step-can_step.ensures in
    let is = free c in
    step_grows b.machine c.step-can_step.new.self b.journal b.outside b.out.items _ c.args.task c.self.invariant step.program step.stands
    step.live (counted_step b.machine c.args.task c.step-can_step.new.self.steps is.0 step.steps) is.0 is.1

pub step-can_step-requires : goal.step-can_step-requires
step-can_step-requires c =
    let b = c.self.inside in
    (free_in b.machine b.journal b.outside b.out.items c.args.task _ c.self.view_is c.requires).0

pub push-requires : goal.push-requires
push-requires c = (grown (goal.at.push-requires c).After-step-can_step).fits 1 refl

pub invariant_of-self : goal.invariant_of-self
invariant_of-self c = (grown (goal.at.invariant_of-self c).After-step-can_step).kept c.push.new.self c.push.ensures

pub returns-clause-free : goal.returns-clause-free
returns-clause-free c = still_free _ _ _ c.args.task c.step-can_step.ensures.can_step (free (goal.at.returns-clause-free c).After-step-can_step).1

pub returns-clause-journal : goal.returns-clause-journal
returns-clause-journal c =
    let b = c.self.inside in
    let x = c.step-can_step.new.self in
    let step = c.step-can_step.ensures in
    records b.machine x b.journal c.push.new.self b.outside b.outside b.out.items b.out.items _ c.args.self.now c.self.view_is
    c.push.ensures (counts_one c.args.task b.machine.steps x.steps step.steps) (none_outside 1 c.args.task b.outside) step.stands
