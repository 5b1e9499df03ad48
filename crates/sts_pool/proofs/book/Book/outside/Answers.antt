use Rattle.std.proofs.Common.{◌≡◌, ◌+◌, ◌∷◌, [], vec_capacity, refl}
use Rattle.sts_model.specs.Run.{after, counts}
use Rattle.sts_machine.specs.Turned.{turned}
use Rattle.sts_pool.proofs.Kept.{Grows, event_grows, few_more, no_step, records, told}
use Rattle.sts_pool.proofs.OutsideLemmas.{one_outside}
use Rattle.sts_pool.proofs.book.Book.outside.Goals as goal
use Rattle.sts_pool.proofs.book.Book.outside.Goals.{After-turn-turned}

grown : (c : After-turn-turned) → Grows c.self.inside.journal (c.args.event ∷ []) c.turn-turned.new.self (c.self.inside.outside + 1) c.self.inside.out.items (vec_capacity c.self.inside.out)
grown c =
    let b = c.self.inside in
    let turn = c.turn-turned.ensures in
    let few = few_more b.machine b.journal b.outside b.out.items _ c.args.self.now _ c.self.view_is c.self.invariant
    c.is_full.ensures.full.1 c.if-is_full.false in
    event_grows b.machine c.turn-turned.new.self b.journal b.outside b.out.items _ c.args.event c.self.invariant few c.requires turn.program
    turn.stands turn.live turn.steps

pub push-requires : goal.push-requires
push-requires c = (grown (goal.at.push-requires c).After-turn-turned).fits 1 refl

pub invariant_of-self : goal.invariant_of-self
invariant_of-self c = (grown (goal.at.invariant_of-self c).After-turn-turned).kept c.push.new.self c.push.ensures

pub returns-clause-turned : goal.returns-clause-turned
returns-clause-turned c =
    let b = c.self.inside in
    told b.machine b.journal b.outside b.out.items _ c.args.self.now c.self.view_is
    (λ z events. c.turn-turned.result ≡ turned (counts z.program (after z.program events) c.args.event)) c.self.invariant
    (λ events may. c.turn-turned.ensures.counted events may.stands)

pub returns-clause-journal : goal.returns-clause-journal
returns-clause-journal c =
    let b = c.self.inside in
    let turn = c.turn-turned.ensures in
    let steps = no_step b.machine.program b.machine.live c.args.event b.machine.steps c.turn-turned.new.self.steps turn.steps c.requires in
    records b.machine c.turn-turned.new.self b.journal c.push.new.self b.outside (b.outside + 1) b.out.items b.out.items _
    c.args.self.now c.self.view_is c.push.ensures steps (one_outside c.args.event b.outside c.requires) turn.stands
