use Rattle.std.proofs.Common.{◌≡◌, ℕ, true, Option, refl, sym, ◌∙◌, ap}
use Rattle.sts_code.specs.declared.instr.Instr.{Instr}
use Rattle.sts_code.specs.declared.instr.Instr.TheVariants.{Join, Cancelled, Case, Get, Except, Tally, Total, Read, Bound, OrElse, Interrupted}
use Rattle.sts_code.specs.declared.instr.Kind.{Kind}
use Rattle.sts_model.specs.Local.{stays_in_frame}
use Rattle.sts_model.specs.World.{code}
use Rattle.laws_live.specs.Effect.{live_effect}
use Rattle.sts_store.specs.Parts.{frame_of, live_of}
use Rattle.sts_machine.specs.Changing.{is_quiet}
use Rattle.sts_machine.proofs.Fine.{local_effect}
use Rattle.sts_machine.proofs.effect.quiet.Goals as goal

-- each other instruction stays in the frame
others_stay : (i : Instr) → is_quiet i ≡ true
    → ((a : ℕ) (b c : Option ℕ) (d : ℕ) → i ≡ Join a b c d → ⊥) → ((a : ℕ) → i ≡ Cancelled a → ⊥) → ((a b c : ℕ) → i ≡ Case a b c → ⊥) → ((a : ℕ) → i ≡ Get a → ⊥) → ((a : ℕ) → i ≡ Except a → ⊥) → ((a : ℕ) (b : Kind) → i ≡ Tally a b → ⊥)
    → ((a : ℕ) → i ≡ Total a → ⊥) → ((a : ℕ) → i ≡ Read a → ⊥) → ((a : ℕ) → i ≡ Bound a → ⊥) → ((a : ℕ) → i ≡ OrElse a → ⊥) → (i ≡ Interrupted → ⊥)
    → stays_in_frame i ≡ true
others_stay (Join a b c d) q n1 n2 n3 n4 n5 n6 n7 n8 n9 n10 n11 = absurd (n1 a b c d refl)
others_stay (Cancelled a) q n1 n2 n3 n4 n5 n6 n7 n8 n9 n10 n11 = absurd (n2 a refl)
others_stay (Case a b c) q n1 n2 n3 n4 n5 n6 n7 n8 n9 n10 n11 = absurd (n3 a b c refl)
others_stay (Get a) q n1 n2 n3 n4 n5 n6 n7 n8 n9 n10 n11 = absurd (n4 a refl)
others_stay (Except a) q n1 n2 n3 n4 n5 n6 n7 n8 n9 n10 n11 = absurd (n5 a refl)
others_stay (Tally a b) q n1 n2 n3 n4 n5 n6 n7 n8 n9 n10 n11 = absurd (n6 a b refl)
others_stay (Total a) q n1 n2 n3 n4 n5 n6 n7 n8 n9 n10 n11 = absurd (n7 a refl)
others_stay (Read a) q n1 n2 n3 n4 n5 n6 n7 n8 n9 n10 n11 = absurd (n8 a refl)
others_stay (Bound a) q n1 n2 n3 n4 n5 n6 n7 n8 n9 n10 n11 = absurd (n9 a refl)
others_stay (OrElse a) q n1 n2 n3 n4 n5 n6 n7 n8 n9 n10 n11 = absurd (n10 a refl)
others_stay Interrupted q n1 n2 n3 n4 n5 n6 n7 n8 n9 n10 n11 = absurd (n11 refl)
others_stay i q n1 n2 n3 n4 n5 n6 n7 n8 n9 n10 n11 = cc

pub returns-in-Cancelled-clause-live : goal.returns-in-Cancelled-clause-live
returns-in-Cancelled-clause-live c = c.push_cancelled.ensures.live c.args.program.now ∙ ap
    (live_effect c.args.program.now (live_of c.args.store.now) c.args.t (frame_of c.args.store.now c.args.t)) (sym c.in-Cancelled.is)

pub returns-in-Case-clause-live : goal.returns-in-Case-clause-live
returns-in-Case-clause-live c = c.case.ensures.live c.args.program.now ∙ ap
    (live_effect c.args.program.now (live_of c.args.store.now) c.args.t (frame_of c.args.store.now c.args.t)) (sym c.in-Case.is)

pub returns-in-Tally-clause-live : goal.returns-in-Tally-clause-live
returns-in-Tally-clause-live c = c.push_tally.ensures.live c.args.program.now ∙ ap
    (live_effect c.args.program.now (live_of c.args.store.now) c.args.t (frame_of c.args.store.now c.args.t)) (sym c.in-Tally.is)

pub returns-in-Total-clause-live : goal.returns-in-Total-clause-live
returns-in-Total-clause-live c = c.push_total.ensures.live c.args.program.now ∙ ap
    (live_effect c.args.program.now (live_of c.args.store.now) c.args.t (frame_of c.args.store.now c.args.t)) (sym c.in-Total.is)

pub returns-in-Read-clause-live : goal.returns-in-Read-clause-live
returns-in-Read-clause-live c = c.push_bound.ensures.live c.args.program.now ∙ ap
    (live_effect c.args.program.now (live_of c.args.store.now) c.args.t (frame_of c.args.store.now c.args.t)) (sym c.in-Read.is)

pub returns-in-Bound-clause-live : goal.returns-in-Bound-clause-live
returns-in-Bound-clause-live c = c.push_is_bound.ensures.live c.args.program.now ∙ ap
    (live_effect c.args.program.now (live_of c.args.store.now) c.args.t (frame_of c.args.store.now c.args.t)) (sym c.in-Bound.is)

pub returns-in-OrElse-clause-live : goal.returns-in-OrElse-clause-live
returns-in-OrElse-clause-live c = c.or_else.ensures.live c.args.program.now ∙ ap
    (live_effect c.args.program.now (live_of c.args.store.now) c.args.t (frame_of c.args.store.now c.args.t)) (sym c.in-OrElse.is)

pub returns-in-Get-clause-live : goal.returns-in-Get-clause-live
returns-in-Get-clause-live c = c.push_value.ensures.get c.args.program.now ∙ ap
    (live_effect c.args.program.now (live_of c.args.store.now) c.args.t (frame_of c.args.store.now c.args.t)) (sym c.in-Get.is)

pub returns-in-Except-clause-live : goal.returns-in-Except-clause-live
returns-in-Except-clause-live c = c.push_value-in-Except.ensures.except c.args.program.now ∙ ap
    (live_effect c.args.program.now (live_of c.args.store.now) c.args.t (frame_of c.args.store.now c.args.t)) (sym c.in-Except.is)

pub empties-requires-clause-stays : goal.empties-requires-clause-stays
empties-requires-clause-stays c =
    let n = c.in_default in
    others_stay c.args.instr.now c.requires.is_quiet
    n.not-Join n.not-Cancelled n.not-Case n.not-Get n.not-Except n.not-Tally n.not-Total n.not-Read n.not-Bound n.not-OrElse n.not-Interrupted

pub returns-in_default-clause-live : goal.returns-in_default-clause-live
returns-in_default-clause-live c =
    let n = c.in_default in
    let p = c.args.program.now in
    let f = frame_of c.args.store.now c.args.t in
    let stays =
    others_stay c.args.instr.now c.requires.is_quiet
    n.not-Join n.not-Cancelled n.not-Case n.not-Get n.not-Except n.not-Tally n.not-Total n.not-Read n.not-Bound n.not-OrElse n.not-Interrupted in
    c.empties.ensures.live (code p f) ∙ sym (local_effect p (live_of c.args.store.now) c.args.t f c.args.instr.now stays)
