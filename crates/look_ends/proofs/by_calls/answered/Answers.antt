use Rattle.look_ends.proofs.by_calls.answered.Goals as goal

pub returns-then-ends-clause-sound : goal.returns-then-ends-clause-sound
returns-then-ends-clause-sound c = rw c.whole.ensures.0 c.requires.ends

pub returns-then-ends-clause-complete : goal.returns-then-ends-clause-complete
returns-then-ends-clause-complete c whole = rw c.whole.ensures.0 (c.requires.all c.if-ends.true)

pub returns-then-calls-clause-sound : goal.returns-then-calls-clause-sound
returns-then-calls-clause-sound c = rw c.whole-then-calls.ensures.0 c.requires.calls

pub returns-then-calls-clause-complete : goal.returns-then-calls-clause-complete
returns-then-calls-clause-complete c whole = rw c.whole-then-calls.ensures.0 (c.requires.called c.if-calls.true)
