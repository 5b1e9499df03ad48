use Rattle.std.proofs.Common.{sym, ◌∙◌, ap, List}
use Rattle.sts_code.specs.declared.instr.Instr.{Instr}
use Rattle.sts_model.specs.Local.{local}
use Rattle.sts_model.specs.Live.{Live}
use Rattle.laws_live.specs.Reading.{lives_in, with_live_frame}
use Rattle.sts_store.specs.Parts.{Unseen, frame_of, live_of, stand_in, unseen_of}
use Rattle.sts_machine.proofs.Changing.{as_are, changes-quiet, lives_quiet}
use Rattle.sts_machine.proofs.Fine.{local_effect}
use Rattle.sts_machine.proofs.LocalSteps.{next_at}
use Rattle.sts_machine.proofs.Quiet.{local_quiet, quiet-effect}
use Rattle.sts_machine.proofs.Stood.{unwaiting_next}
use Rattle.sts_machine.proofs.perform.local_step.Goals as goal

pub returns-clause-live : goal.returns-clause-live
returns-clause-live c =
    let v = live_of c.args.store.now in
    let f = frame_of c.args.store.now c.args.t in
    c.local-next.ensures.live
    ∙ ap (λ (is : List Instr). with_live_frame v c.args.t (local is c.args.instr.now f)) c.requires.own_code
    ∙ sym (local_effect c.args.program.now v c.args.t f c.args.instr.now c.requires.in_frame)

pub returns-clause-rest : goal.returns-clause-rest
returns-clause-rest c =
    let m = c.args.store.now in
    let v = live_of m in
    let t = c.args.t in
    let f = frame_of m t in
    let live =
    c.local-next.ensures.live
    ∙ ap (λ (is : List Instr). with_live_frame v t (local is c.args.instr.now f)) c.requires.own_code
    ∙ sym (local_effect c.args.program.now v t f c.args.instr.now c.requires.in_frame) in
    as_are v _ _ (unseen_of m) _ _ t live c.local-next.ensures.unseen
    (changes-quiet v _ (unseen_of m) t (quiet-effect c.args.program.now v t c.args.instr.now (local_quiet c.args.instr.now c.requires.in_frame)))

pub returns-clause-own : goal.returns-clause-own
returns-clause-own c = ap (λ (u : Unseen). stand_in u c.args.t) c.local-next.ensures.unseen

pub returns-clause-stays : goal.returns-clause-stays
returns-clause-stays c =
    let v = live_of c.args.store.now in
    let t = c.args.t in
    let f = frame_of c.args.store.now t in
    ap (λ (x : Live). lives_in x t) (c.local-next.ensures.live
    ∙ ap (λ (is : List Instr). with_live_frame v t (local is c.args.instr.now f)) c.requires.own_code
    ∙ sym (local_effect c.args.program.now v t f c.args.instr.now c.requires.in_frame))
    ∙ lives_quiet v _ t (quiet-effect c.args.program.now v t c.args.instr.now (local_quiet c.args.instr.now c.requires.in_frame))
    ∙ c.requires.lives

pub returns-clause-free : goal.returns-clause-free
returns-clause-free c = λ e.
    let p = c.args.program.now in
    let v = live_of c.args.store.now in
    let t = c.args.t in
    unwaiting_next p (live_of c.local-next.new.self) t _
    (next_at p v (live_of c.local-next.new.self) t (frame_of c.args.store.now t) c.args.code.now c.args.instr.now _ c.requires.own_code
    c.requires.lives c.local-next.ensures.live c.local-next.ensures.next)
    (sym c.may_wait_next.ensures ∙ e)
