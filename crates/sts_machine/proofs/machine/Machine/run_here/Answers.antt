use Rattle.std.proofs.Common.{◌≡◌, ◌+◌, ◌++◌, true, Some, None, refl, sym, ◌∙◌, ap, subst, arith}
use Rattle.sts_model.specs.World.{code}
use Rattle.sts_frames.specs.Locals.{AreSafe, local_at, locals}
use Rattle.sts_model.specs.Live.{Live}
use Rattle.laws_live.specs.Reading.{alive_at, lives_in, with_live_frame}
use Rattle.laws_live.specs.Waiting.{live_can_step}
use Rattle.sts_store.specs.Parts.{Unseen, frame_of, live_of, stand_in, unseen_of}
use Rattle.sts_machine.specs.Machine.{Seen}
use Rattle.sts_machine.specs.Slice.{code_at, frame_at, steps_of}
use Rattle.sts_machine.proofs.Cutting.{are_safe}
use Rattle.sts_machine.proofs.LocalSteps.{was-free}
use Rattle.sts_machine.proofs.Putting.{Puts, in_order, lawful, others_there, put_back, put_on, reached, stands_there}
use Rattle.sts_machine.proofs.Turning.{alive, runs_well}
use Rattle.sts_machine.proofs.machine.Machine.run_here.Goals as goal
use Rattle.sts_machine.proofs.machine.Machine.run_here.Goals.{After-program-program, After-code-code, After-run_local-done, After-from}

-- the task can step, so it lives
can : (c : After-program-program) → live_can_step c.self.inside.verified.now (live_of c.self.inside.store) c.args.task ≡ true
can c = subst (λ (s : Seen). live_can_step s.program s.live c.args.task ≡ true) (sym c.self.view_is) c.requires

lives : (c : After-program-program) → lives_in (live_of c.self.inside.store) c.args.task ≡ true
lives c = alive c.self.inside.verified.now c.self.inside.store c.self.inside.steps c.self.invariant c.args.task (can c)

-- the code is that of its function
own : (c : After-code-code) → c.code-code.result.now ≡ code c.self.inside.verified.now (frame_of c.self.inside.store c.args.task)
own c =
    c.code-code.ensures.value ∙ ap (λ q. code q c.frame.result.now) c.program-program.ensures.value ∙ ap (code c.self.inside.verified.now) c.frame.ensures

-- so are the instructions that it did
did : (c : After-run_local-done) → locals (code c.self.inside.verified.now (frame_of c.self.inside.store c.args.task)) (frame_of c.self.inside.store c.args.task) c.run_local-done.result ≡ Some (frame_of c.run_local-done.new.self c.args.task)
did c =
    ap (λ is. locals is (frame_of c.self.inside.store c.args.task) c.run_local-done.result) (sym (own (goal.at.After-run_local-done c).After-code-code))
    ∙ c.run_local-done.ensures.local

put : (c : After-run_local-done) → Puts c.self.inside.verified.now c.self.inside.store c.self.inside.steps c.args.task (frame_of c.run_local-done.new.self c.args.task) c.run_local-done.result
put c =
    let life = lives (goal.at.After-run_local-done c).After-program-program in
    put_on c.self.inside.verified.now c.self.inside.store c.self.inside.steps c.self.invariant c.args.task life _ c.run_local-done.result (did c)

-- each is a step
steps : (c : After-from) → Puts c.self.inside.verified.now c.self.inside.store c.self.inside.steps c.args.task (frame_of c.run_local-done.new.self c.args.task) c.from.result
steps c = rw c.from.ensures (put (goal.at.After-from c).After-run_local-done)

pub run_local-done-requires-clause-safe : goal.run_local-done-requires-clause-safe
run_local-done-requires-clause-safe c =
    let p = c.self.inside.verified.now in
    let m = c.self.inside.store in
    let t = c.args.task in
    let known = goal.at.run_local-done-requires-clause-safe c in
    subst (λ q. AreSafe q c.code-code.result.now (frame_of m t)) (sym c.program-program.ensures.value)
    (are_safe p t (lawful p m c.self.inside.steps c.self.invariant) (frame_of m t) c.code-code.result.now (own known.After-code-code)
    (reached p m c.self.inside.steps c.self.invariant t (can known.After-program-program)))

pub say_stand-requires-clause-order : goal.say_stand-requires-clause-order
say_stand-requires-clause-order c =
    in_order c.run_local-done.new.self (put (goal.at.say_stand-requires-clause-order c).After-run_local-done) c.run_local-done.ensures.live

pub say_stand-requires-clause-others : goal.say_stand-requires-clause-others
say_stand-requires-clause-others c =
    let g = put (goal.at.say_stand-requires-clause-others c).After-run_local-done in
    others_there c.run_local-done.new.self g c.run_local-done.ensures.live c.program-program.result.now c.program-program.ensures.value
    c.run_local-done.ensures.unseen

pub say_stand-requires-clause-free : goal.say_stand-requires-clause-free
say_stand-requires-clause-free c = λ some.
    let t = c.args.task in
    let known = goal.at.say_stand-requires-clause-free c in
    ap (λ u. stand_in u t) c.run_local-done.ensures.unseen
    ∙ c.self.invariant.standing t (lives known.After-program-program)
    ∙ was-free c.self.inside.verified.now (live_of c.self.inside.store) t c.run_local-done.result (frame_of c.run_local-done.new.self t) some
    (did known.After-run_local-done)

pub overflow_add-self : goal.overflow_add-self
overflow_add-self c =
    let few = (steps (goal.at.overflow_add-self c).After-from).few in
    omega (arith, few)

pub invariant_of-self : goal.invariant_of-self
invariant_of-self c =
    let g = steps (goal.at.invariant_of-self c).After-from in
    put_back c.run_local-done.new.self g c.run_local-done.ensures.live c.say_stand.new.store c.say_stand.ensures.live
    c.program-program.result.now c.program-program.ensures.value c.run_local-done.ensures.unseen c.self.invariant
    c.say_stand.ensures.standing c.say_stand.ensures.room

pub returns-clause-stands : goal.returns-clause-stands
returns-clause-stands c =
    let t = c.args.task in
    let f = frame_of c.run_local-done.new.self t in
    let g = steps (goal.at.returns-clause-stands c).After-from in
    stands_there c.run_local-done.new.self g c.run_local-done.ensures.live c.say_stand.new.store c.say_stand.ensures.live
    c.args.self.now (record { task = t; code = c.code-code.result.now; start = f; frame = f; count = c.run_local-done.result })
    c.self.view_is refl c.from.ensures

pub returns-clause-runs_well : goal.returns-clause-runs_well
returns-clause-runs_well c =
    λ events b h is. runs_well c.args.self.now.program c.laws.ensures b is (events ++ steps_of c.run_local-done.result c.args.task)

pub frame-requires : goal.frame-requires
frame-requires c = lives (goal.at.frame-requires c).After-program-program

pub run_local-done-requires-clause-lives : goal.run_local-done-requires-clause-lives
run_local-done-requires-clause-lives c = lives (goal.at.run_local-done-requires-clause-lives c).After-program-program

pub run_local-done-requires-clause-short : goal.run_local-done-requires-clause-short
run_local-done-requires-clause-short c = c.code-code.ensures.short

pub returns-clause-program : goal.returns-clause-program
returns-clause-program c = ap (λ (s : Seen). s.program) c.self.view_is

pub returns-clause-live : goal.returns-clause-live
returns-clause-live c =
    let m = c.self.inside.store in
    let t = c.args.task in
    c.say_stand.ensures.live ∙ c.run_local-done.ensures.live
    ∙ ap (λ (v : Live). with_live_frame (live_of m) t (alive_at v t).frame) (sym c.say_stand.ensures.live)
    ∙ ap (λ (s : Seen). with_live_frame s.live t (alive_at (live_of c.say_stand.new.store) t).frame) c.self.view_is

pub returns-clause-local : goal.returns-clause-local
returns-clause-local c =
    subst (λ (s : Seen). locals (code_at s c.args.task) (frame_at s c.args.task) c.run_local-done.result
    ≡ Some (alive_at (live_of c.say_stand.new.store) c.args.task).frame) c.self.view_is
    (did (goal.at.returns-clause-local c).After-run_local-done ∙ ap (λ (v : Live). Some (alive_at v c.args.task).frame) (sym c.say_stand.ensures.live))

pub returns-clause-most : goal.returns-clause-most
returns-clause-most c = c.run_local-done.ensures.most

pub returns-clause-stops : goal.returns-clause-stops
returns-clause-stops c = λ less.
    let t = c.args.task in
    subst (λ (s : Seen). local_at (code_at s t) (alive_at (live_of c.say_stand.new.store) t).frame ≡ None) c.self.view_is
    (ap (λ (v : Live). local_at (code c.self.inside.verified.now (frame_of c.self.inside.store t)) (alive_at v t).frame)
    c.say_stand.ensures.live
    ∙ ap (λ is. local_at is (frame_of c.run_local-done.new.self t)) (sym (own (goal.at.returns-clause-stops c).After-code-code))
    ∙ c.run_local-done.ensures.stops less)

pub returns-clause-unseen : goal.returns-clause-unseen
returns-clause-unseen c =
    let stands = (unseen_of c.say_stand.new.store).stands in
    c.say_stand.ensures.unseen
    ∙ ap (λ (u : Unseen). record u { stands = stands }) c.run_local-done.ensures.unseen
    ∙ ap (λ (s : Seen). record s.unseen { stands = stands }) c.self.view_is

pub returns-clause-steps : goal.returns-clause-steps
returns-clause-steps c =
    ap (λ k. c.self.inside.steps + k) c.from.ensures ∙ ap (λ (s : Seen). s.steps + c.run_local-done.result) c.self.view_is
