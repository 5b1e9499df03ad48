use Rattle.std.proofs.Common.{◌≡◌, ◌+◌, ◌<◌, ◌^◌, ◌∙◌, sym, ap, length, slice_get, false}
use Rattle.sts_model.specs.Local.{local}
use Rattle.sts_model.specs.Misuse.{breaks_loop, overflows}
use Rattle.sts_model.specs.World.{code}
use Rattle.sts_model.specs.declared.record.Frame.{Frame}
use Rattle.sts_store.specs.contracts.store.Store.{the_view}
use Rattle.laws_runs.proofs.EntryLemmas.{same-local}
use Rattle.sts_store.proofs.Writing.{Hand, hand_of, living, has_frame, at_hand, frame_is, frame_done, frame_kept}
use Rattle.sts_store.proofs.store.Store.local.Goals as goal

pub at-requires : goal.at-requires
at-requires c = has_frame (living (the_view c.self.inside) c.args.self.now c.self.invariant c.self.view_is c.args.t c.requires.lives)

hand : (c : goal.After-local-arg-1) → Hand (the_view c.self.inside) c.args.self.now c.args.t c.at.result.now
hand c = hand_of c.self.invariant c.self.view_is c.args.t c.requires.lives c.at.ensures.value

pub local-requires-clause-own_code : goal.local-requires-clause-own_code
local-requires-clause-own_code c = at_hand (hand c) (λ f. c.args.code.now ≡ code c.args.program.now f) c.requires.own_code

pub local-requires-clause-room : goal.local-requires-clause-room
local-requires-clause-room c = at_hand (hand c) (λ f. overflows c.args.program.now f c.args.instr ≡ false) c.requires.room

pub local-requires-clause-more : goal.local-requires-clause-more
local-requires-clause-more c = at_hand (hand c) (λ f. f.pc + 1 < 2 ^ 32) c.requires.more

pub local-requires-clause-inside : goal.local-requires-clause-inside
local-requires-clause-inside c = at_hand (hand c) (λ f. f.pc < length c.args.code.now) c.requires.inside

pub local-requires-clause-loops : goal.local-requires-clause-loops
local-requires-clause-loops c = at_hand (hand c) (λ f. breaks_loop c.args.program.now f c.args.instr ≡ false) c.requires.loops

pub invariant_of-self : goal.invariant_of-self
invariant_of-self c =
    frame_kept (hand_of c.self.invariant c.self.view_is c.args.t c.requires.lives c.at.ensures.value) c.local.new.frame
    (ap (λ (f : Frame). f.entries) c.local.ensures ∙ same-local c.args.code.now c.args.instr c.at.result.now.frame)

pub returns-clause-live : goal.returns-clause-live
returns-clause-live c =
    let h = hand_of c.self.invariant c.self.view_is c.args.t c.requires.lives c.at.ensures.value in
    frame_done h c.local.new.frame (local c.args.code.now c.args.instr) c.local.ensures

pub returns-clause-next : goal.returns-clause-next
returns-clause-next c =
    let h = hand_of c.self.invariant c.self.view_is c.args.t c.requires.lives c.at.ensures.value in
    c.instr_in.ensures
    ∙ ap (λ (f : Frame). slice_get c.args.code.now f.pc) c.local.ensures
    ∙ ap (λ (f : Frame). slice_get c.args.code.now (local c.args.code.now c.args.instr f).pc) (sym (frame_is h))
