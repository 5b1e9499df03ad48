use Rattle.std.proofs.Common.{◌≡◌, ◌++◌, ◌∷◌, [], refl, sym, ◌∙◌, ap, subst, arith, Bool, true, false, Option, is_some, ℕ}
use Rattle.std.proofs.lemmas.Bool.{not-false}
use Rattle.sts_code.specs.declared.instr.Instr.{Instr}
use Rattle.sts_code.specs.declared.instr.Instr.TheVariants.{Open, Fork, Close, Bind, Unbind, Ret, Fail}
use Rattle.sts_code.specs.declared.instr.Joiner.{Joiner}
use Rattle.sts_model.specs.declared.record.Frame.{Frame}
use Rattle.sts_model.specs.Effect.{named}
use Rattle.sts_model.specs.Misuse.{slot, innermost, is_entry_of, is_binding}
use Rattle.sts_model.specs.Live.{Live}
use Rattle.laws_live.specs.Effect.{live_effect, live_fork, live_close}
use Rattle.laws_live.specs.Reading.{lives_in, scope_in}
use Rattle.sts_store.specs.Parts.{Unseen, frame_of, live_of, stand_in, unseen_of}
use Rattle.laws_live.specs.Fine.{IsLiveFine}
use Rattle.sts_machine.specs.Changing.{ends_task, is_quiet, may_wait}
use Rattle.sts_machine.specs.Room.{HasRoomLeft}
use Rattle.sts_machine.proofs.Changing.{as_are, changes-quiet, lives_quiet, living, opens, opener_lives, forks, forker_lives, forker_stands, binds, binder_lives, unbinds, unbinder_lives, ends, ended_dead, none_bound}
use Rattle.sts_machine.proofs.Closing.{closes, closer_lives}
use Rattle.sts_machine.proofs.Fine.{fork_room, close_stands, close_entry}
use Rattle.sts_machine.proofs.Quiet.{quiet-effect}
use Rattle.sts_machine.proofs.Stood.{stands_born}
use Rattle.sts_machine.proofs.effect.effect.Goals as goal

-- each other instruction is quiet
others_quiet : (i : Instr) → ((a : ℕ) (b : Bool) (c : Joiner) → i ≡ Open a b c → ⊥) → ((a b : ℕ) (c : Option ℕ) → i ≡ Fork a b c → ⊥) → ((a : ℕ) → i ≡ Close a → ⊥) → ((a : ℕ) → i ≡ Bind a → ⊥) → (i ≡ Unbind → ⊥) → (i ≡ Ret → ⊥) → (i ≡ Fail → ⊥) → is_quiet i ≡ true
others_quiet (Open a b c) n1 n2 n3 n4 n5 n6 n7 = absurd (n1 a b c refl)
others_quiet (Fork a b c) n1 n2 n3 n4 n5 n6 n7 = absurd (n2 a b c refl)
others_quiet (Close a) n1 n2 n3 n4 n5 n6 n7 = absurd (n3 a refl)
others_quiet (Bind a) n1 n2 n3 n4 n5 n6 n7 = absurd (n4 a refl)
others_quiet Unbind n1 n2 n3 n4 n5 n6 n7 = absurd (n5 refl)
others_quiet Ret n1 n2 n3 n4 n5 n6 n7 = absurd (n6 refl)
others_quiet Fail n1 n2 n3 n4 n5 n6 n7 = absurd (n7 refl)
others_quiet i n1 n2 n3 n4 n5 n6 n7 = cc

-- no other instruction ends its task
others_stay : (i : Instr) → (i ≡ Ret → ⊥) → (i ≡ Fail → ⊥) → ends_task i ≡ false
others_stay Ret n1 n2 = absurd (n1 refl)
others_stay Fail n1 n2 = absurd (n2 refl)
others_stay i n1 n2 = cc

pub returns-in-Open-clause-rest : goal.returns-in-Open-clause-rest
returns-in-Open-clause-rest c =
    let m = c.args.store.now in
    let t = c.args.t in
    let room = subst (HasRoomLeft (unseen_of m) (frame_of m t)) c.in-Open.is c.requires.room in
    let q = c.open.ensures.unseen in
    as_are (live_of m) _ _ (unseen_of m) _ _ t c.open.ensures.live q.1
    (opens (live_of m) (unseen_of m) t ((unseen_of m).scope_keys ++ q.0 ∷ []) room c.in-Open.slot c.in-Open.joiner c.in-Open.timed)

pub returns-in-Fork-clause-rest : goal.returns-in-Fork-clause-rest
returns-in-Fork-clause-rest c =
    let m = c.args.store.now in
    let v = live_of m in
    let u = unseen_of m in
    let t = c.args.t in
    let p = c.args.program.now in
    let left = fork_room p v t c.in-Fork.slot c.requires.lives c.requires.order u c.in-Fork.function c.in-Fork.handle c.args.instr.now
    c.in-Fork.is c.requires.fine c.requires.room in
    let q = c.fork.ensures.unseen in
    as_are v _ _ u _ _ t c.fork.ensures.live q.1
    (forks p v u t c.named-s.result c.in-Fork.function _ (u.task_keys ++ q.0 ∷ []) c.requires.lives (stands_born m) left.0 left.1)

pub returns-in-Close-clause-rest : goal.returns-in-Close-clause-rest
returns-in-Close-clause-rest c =
    let m = c.args.store.now in
    let v = live_of m in
    let t = c.args.t in
    let p = c.args.program.now in
    let x = c.in-Close.x in
    let fine = subst (IsLiveFine p v t (frame_of m t)) c.in-Close.is c.requires.fine in
    let same = c.named-s-in-Close.ensures ∙ ap (λ (f : Frame). named (slot f x)) c.frame-in-Close.ensures in
    as_are v _ _ (unseen_of m) _ _ t c.close.ensures.live c.close.ensures.unseen
    (closes v (unseen_of m) t c.named-s-in-Close.result
    (subst (λ (s : ℕ). is_some (scope_in v s) ≡ true) (sym same) (close_stands p v t x c.requires.lives c.requires.order fine))
    (subst (λ (s : ℕ). innermost (is_entry_of s) (frame_of m t).entries ≡ true) (sym same) (close_entry p v t x c.requires.lives c.requires.order fine)))

pub returns-in-Unbind-clause-rest : goal.returns-in-Unbind-clause-rest
returns-in-Unbind-clause-rest c =
    let m = c.args.store.now in
    let v = live_of m in
    let t = c.args.t in
    let fine = subst (IsLiveFine c.args.program.now v t (frame_of m t)) c.in-Unbind.is c.requires.fine in
    as_are v _ _ (unseen_of m) _ _ t c.unbind.ensures.live c.unbind.ensures.unseen
    (unbinds v t (living v t c.requires.lives) (unseen_of m) (not-false (innermost is_binding (frame_of m t).entries) fine.structure))

pub returns-in-Ret-clause-rest : goal.returns-in-Ret-clause-rest
returns-in-Ret-clause-rest c =
    let m = c.args.store.now in
    let v = live_of m in
    let t = c.args.t in
    let fine = subst (IsLiveFine c.args.program.now v t (frame_of m t)) c.in-Ret.is c.requires.fine in
    as_are v _ _ (unseen_of m) _ _ t c.end.ensures.live c.end.ensures.unseen
    (ends v t (living v t c.requires.lives) (unseen_of m) _ (none_bound (frame_of m t).entries fine.structure))

pub returns-in-Fail-clause-rest : goal.returns-in-Fail-clause-rest
returns-in-Fail-clause-rest c =
    let m = c.args.store.now in
    let v = live_of m in
    let t = c.args.t in
    let fine = subst (IsLiveFine c.args.program.now v t (frame_of m t)) c.in-Fail.is c.requires.fine in
    as_are v _ _ (unseen_of m) _ _ t c.end-in-Fail.ensures.live c.end-in-Fail.ensures.unseen
    (ends v t (living v t c.requires.lives) (unseen_of m) _ (none_bound (frame_of m t).entries fine.structure))

pub returns-in_default-clause-rest : goal.returns-in_default-clause-rest
returns-in_default-clause-rest c =
    let n = c.in_default in
    let m = c.args.store.now in
    let v = live_of m in
    let t = c.args.t in
    as_are v _ _ (unseen_of m) _ _ t c.quiet.ensures.live c.quiet.ensures.unseen
    (changes-quiet v _ (unseen_of m) t (quiet-effect c.args.program.now v t c.args.instr.now
    (others_quiet c.args.instr.now n.not-Open n.not-Fork n.not-Close n.not-Bind n.not-Unbind n.not-Ret n.not-Fail)))

pub returns-in-Open-clause-own : goal.returns-in-Open-clause-own
returns-in-Open-clause-own c = λ e. ap (λ (u : Unseen). stand_in u c.args.t) c.open.ensures.unseen.1

pub returns-in-Fork-clause-own : goal.returns-in-Fork-clause-own
returns-in-Fork-clause-own c = λ e.
    let m = c.args.store.now in
    ap (λ (u : Unseen). stand_in u c.args.t) c.fork.ensures.unseen.1
    ∙ forker_stands (live_of m) (unseen_of m) c.args.t c.requires.lives (stands_born m)

pub returns-in-Close-clause-own : goal.returns-in-Close-clause-own
returns-in-Close-clause-own c = λ e. let never : true ≡ false = ap may_wait (sym c.in-Close.is) ∙ e in cc

pub returns-in-Bind-clause-own : goal.returns-in-Bind-clause-own
returns-in-Bind-clause-own c = λ e. ap (λ (u : Unseen). stand_in u c.args.t) c.bind.ensures.unseen

pub returns-in-Unbind-clause-own : goal.returns-in-Unbind-clause-own
returns-in-Unbind-clause-own c = λ e. ap (λ (u : Unseen). stand_in u c.args.t) c.unbind.ensures.unseen

pub returns-in-Ret-clause-own : goal.returns-in-Ret-clause-own
returns-in-Ret-clause-own c = λ e. ap (λ (u : Unseen). stand_in u c.args.t) c.end.ensures.unseen

pub returns-in-Fail-clause-own : goal.returns-in-Fail-clause-own
returns-in-Fail-clause-own c = λ e. ap (λ (u : Unseen). stand_in u c.args.t) c.end-in-Fail.ensures.unseen

pub returns-in_default-clause-own : goal.returns-in_default-clause-own
returns-in_default-clause-own c = λ e. ap (λ (u : Unseen). stand_in u c.args.t) c.quiet.ensures.unseen

pub returns-in-Open-clause-stays : goal.returns-in-Open-clause-stays
returns-in-Open-clause-stays c = λ e.
    let m = c.args.store.now in
    ap (λ (x : Live). lives_in x c.args.t) c.open.ensures.live
    ∙ opener_lives (live_of m) c.args.t c.in-Open.slot (frame_of m c.args.t) c.in-Open.joiner c.in-Open.timed c.requires.lives

pub returns-in-Fork-clause-stays : goal.returns-in-Fork-clause-stays
returns-in-Fork-clause-stays c = λ e.
    let m = c.args.store.now in
    ap (λ (x : Live). lives_in x c.args.t) c.fork.ensures.live
    ∙ forker_lives c.args.program.now (live_of m) c.args.t c.named-s.result c.in-Fork.function (frame_of m c.args.t) _ c.requires.lives

pub returns-in_default-clause-stays : goal.returns-in_default-clause-stays
returns-in_default-clause-stays c = λ e.
    let n = c.in_default in
    let v = live_of c.args.store.now in
    ap (λ (x : Live). lives_in x c.args.t) c.quiet.ensures.live
    ∙ lives_quiet v _ c.args.t (quiet-effect c.args.program.now v c.args.t c.args.instr.now
    (others_quiet c.args.instr.now n.not-Open n.not-Fork n.not-Close n.not-Bind n.not-Unbind n.not-Ret n.not-Fail))
    ∙ c.requires.lives

pub returns-in-Close-clause-stays : goal.returns-in-Close-clause-stays
returns-in-Close-clause-stays c = λ e.
    let m = c.args.store.now in
    ap (λ (x : Live). lives_in x c.args.t) c.close.ensures.live
    ∙ closer_lives (live_of m) c.args.t c.named-s-in-Close.result (frame_of m c.args.t) c.requires.lives

pub returns-in-Ret-clause-ended : goal.returns-in-Ret-clause-ended
returns-in-Ret-clause-ended c = λ e.
    ap (λ (x : Live). lives_in x c.args.t) c.end.ensures.live
    ∙ ended_dead (live_of c.args.store.now) c.args.t _ c.requires.lives

pub returns-in-Fail-clause-ended : goal.returns-in-Fail-clause-ended
returns-in-Fail-clause-ended c = λ e.
    ap (λ (x : Live). lives_in x c.args.t) c.end-in-Fail.ensures.live
    ∙ ended_dead (live_of c.args.store.now) c.args.t _ c.requires.lives

pub returns-in-Open-clause-live : goal.returns-in-Open-clause-live
returns-in-Open-clause-live c = c.open.ensures.live ∙ ap
    (live_effect c.args.program.now (live_of c.args.store.now) c.args.t (frame_of c.args.store.now c.args.t)) (sym c.in-Open.is)

pub returns-in-Bind-clause-live : goal.returns-in-Bind-clause-live
returns-in-Bind-clause-live c = c.bind.ensures.live ∙ ap
    (live_effect c.args.program.now (live_of c.args.store.now) c.args.t (frame_of c.args.store.now c.args.t)) (sym c.in-Bind.is)

pub returns-in-Unbind-clause-live : goal.returns-in-Unbind-clause-live
returns-in-Unbind-clause-live c = c.unbind.ensures.live ∙ ap
    (live_effect c.args.program.now (live_of c.args.store.now) c.args.t (frame_of c.args.store.now c.args.t)) (sym c.in-Unbind.is)

pub returns-in-Fork-clause-live : goal.returns-in-Fork-clause-live
returns-in-Fork-clause-live c =
    let m = c.args.store.now in
    let same = c.named-s.ensures ∙ ap (λ (f : Frame). named (slot f c.in-Fork.slot)) c.frame.ensures in
    c.fork.ensures.live
    ∙ ap (λ (s : ℕ). live_fork c.args.program.now (live_of m) c.args.t (frame_of m c.args.t) s c.in-Fork.function c.in-Fork.handle) same
    ∙ ap (live_effect c.args.program.now (live_of c.args.store.now) c.args.t (frame_of c.args.store.now c.args.t)) (sym c.in-Fork.is)

pub returns-in-Close-clause-live : goal.returns-in-Close-clause-live
returns-in-Close-clause-live c =
    let m = c.args.store.now in
    let same = c.named-s-in-Close.ensures ∙ ap (λ (f : Frame). named (slot f c.in-Close.x)) c.frame-in-Close.ensures in
    c.close.ensures.live
    ∙ ap (λ (s : ℕ). live_close (live_of m) c.args.t (frame_of m c.args.t) s) same
    ∙ ap (live_effect c.args.program.now (live_of c.args.store.now) c.args.t (frame_of c.args.store.now c.args.t)) (sym c.in-Close.is)

pub returns-in_default-clause-live : goal.returns-in_default-clause-live
returns-in_default-clause-live c = c.quiet.ensures.live

pub returns-in-Open-clause-ended : goal.returns-in-Open-clause-ended
returns-in-Open-clause-ended c = λ e. let never : false ≡ true = ap ends_task (sym c.in-Open.is) ∙ e in cc

pub returns-in-Fork-clause-ended : goal.returns-in-Fork-clause-ended
returns-in-Fork-clause-ended c = λ e. let never : false ≡ true = ap ends_task (sym c.in-Fork.is) ∙ e in cc

pub returns-in-Close-clause-ended : goal.returns-in-Close-clause-ended
returns-in-Close-clause-ended c = λ e. let never : false ≡ true = ap ends_task (sym c.in-Close.is) ∙ e in cc

pub returns-in-Bind-clause-ended : goal.returns-in-Bind-clause-ended
returns-in-Bind-clause-ended c = λ e. let never : false ≡ true = ap ends_task (sym c.in-Bind.is) ∙ e in cc

pub returns-in-Unbind-clause-ended : goal.returns-in-Unbind-clause-ended
returns-in-Unbind-clause-ended c = λ e. let never : false ≡ true = ap ends_task (sym c.in-Unbind.is) ∙ e in cc

pub returns-in-Ret-clause-stays : goal.returns-in-Ret-clause-stays
returns-in-Ret-clause-stays c = λ e. let never : true ≡ false = ap ends_task (sym c.in-Ret.is) ∙ e in cc

pub returns-in-Fail-clause-stays : goal.returns-in-Fail-clause-stays
returns-in-Fail-clause-stays c = λ e. let never : true ≡ false = ap ends_task (sym c.in-Fail.is) ∙ e in cc

pub open-requires-clause-lives : goal.open-requires-clause-lives
open-requires-clause-lives c = c.requires.lives

pub open-requires-clause-more : goal.open-requires-clause-more
open-requires-clause-more c = omega (arith, c.requires.inside, c.requires.short)

pub open-requires-clause-order : goal.open-requires-clause-order
open-requires-clause-order c = c.requires.order

pub fork-requires-clause-lives : goal.fork-requires-clause-lives
fork-requires-clause-lives c = c.requires.lives

pub fork-requires-clause-more : goal.fork-requires-clause-more
fork-requires-clause-more c = omega (arith, c.requires.inside, c.requires.short)

pub fork-requires-clause-order : goal.fork-requires-clause-order
fork-requires-clause-order c = c.requires.order

pub close-requires-clause-lives : goal.close-requires-clause-lives
close-requires-clause-lives c = c.requires.lives

pub close-requires-clause-more : goal.close-requires-clause-more
close-requires-clause-more c = omega (arith, c.requires.inside, c.requires.short)

pub close-requires-clause-order : goal.close-requires-clause-order
close-requires-clause-order c = c.requires.order

pub bind-requires-clause-lives : goal.bind-requires-clause-lives
bind-requires-clause-lives c = c.requires.lives

pub bind-requires-clause-more : goal.bind-requires-clause-more
bind-requires-clause-more c = omega (arith, c.requires.inside, c.requires.short)

pub unbind-requires-clause-lives : goal.unbind-requires-clause-lives
unbind-requires-clause-lives c = c.requires.lives

pub unbind-requires-clause-more : goal.unbind-requires-clause-more
unbind-requires-clause-more c = omega (arith, c.requires.inside, c.requires.short)

pub unbind-requires-clause-order : goal.unbind-requires-clause-order
unbind-requires-clause-order c = c.requires.order

pub frame-requires : goal.frame-requires
frame-requires c = c.requires.lives

pub frame-requires-in-Close : goal.frame-requires-in-Close
frame-requires-in-Close c = c.requires.lives

pub frame-requires-in-Ret : goal.frame-requires-in-Ret
frame-requires-in-Ret c = c.requires.lives

pub frame-requires-in-Fail : goal.frame-requires-in-Fail
frame-requires-in-Fail c = c.requires.lives

pub end-requires : goal.end-requires
end-requires c = c.requires.lives

pub end-requires-in-Fail : goal.end-requires-in-Fail
end-requires-in-Fail c = c.requires.lives

pub returns-in-Bind-clause-rest : goal.returns-in-Bind-clause-rest
returns-in-Bind-clause-rest c =
    let m = c.args.store.now in
    let v = live_of m in
    let t = c.args.t in
    let room = subst (HasRoomLeft (unseen_of m) (frame_of m t)) c.in-Bind.is c.requires.room in
    as_are v _ _ (unseen_of m) _ _ t c.bind.ensures.live c.bind.ensures.unseen
    (binds v t (living v t c.requires.lives) (unseen_of m) c.in-Bind.k room)

pub returns-in-Bind-clause-stays : goal.returns-in-Bind-clause-stays
returns-in-Bind-clause-stays c = λ e.
    let m = c.args.store.now in
    ap (λ (x : Live). lives_in x c.args.t) c.bind.ensures.live
    ∙ binder_lives (live_of m) c.args.t (frame_of m c.args.t) c.in-Bind.k c.requires.lives

pub returns-in-Unbind-clause-stays : goal.returns-in-Unbind-clause-stays
returns-in-Unbind-clause-stays c = λ e.
    let m = c.args.store.now in
    ap (λ (x : Live). lives_in x c.args.t) c.unbind.ensures.live
    ∙ unbinder_lives (live_of m) c.args.t (frame_of m c.args.t) c.requires.lives

pub quiet-requires-clause-is_quiet : goal.quiet-requires-clause-is_quiet
quiet-requires-clause-is_quiet c =
    let n = c.in_default in
    others_quiet c.args.instr.now n.not-Open n.not-Fork n.not-Close n.not-Bind n.not-Unbind n.not-Ret n.not-Fail

pub returns-in_default-clause-ended : goal.returns-in_default-clause-ended
returns-in_default-clause-ended c = λ e. let never : false ≡ true = sym (others_stay c.args.instr.now c.in_default.not-Ret c.in_default.not-Fail) ∙ e in cc
