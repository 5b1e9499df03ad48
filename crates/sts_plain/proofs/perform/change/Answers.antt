use Rattle.std.proofs.Common.{◌≡◌, ℕ, ◌+◌, ◌-◌, ◌<◌, length, true, false, Option, List, refl, sym, ap, ◌∙◌, arith, nat_lt}
use Rattle.std.proofs.lemmas.Bool.Decides.{nat_tests}
use Rattle.sts_code.specs.Facts.{pops, pushes}
use Rattle.sts_code.specs.Program.{Program}
use Rattle.sts_code.specs.declared.instr.Instr.{Instr}
use Rattle.sts_code.specs.declared.instr.Instr.TheVariants.{Join, Close, Cancelled, Case, Get, Except, Tally, Total, Bind, Unbind, Read, Bound, OrElse, Interrupted}
use Rattle.sts_code.specs.declared.instr.Kind.{Kind}
use Rattle.sts_code.specs.declared.limits.TheConstants.{MAX_OPERANDS}
use Rattle.sts_model.specs.Effect.{effect, takes_memory}
use Rattle.sts_model.specs.Local.{stays_in_frame, local}
use Rattle.sts_model.specs.Misuse.{IsFine}
use Rattle.sts_model.specs.World.{World, code, task_at, with_frame}
use Rattle.sts_model.specs.declared.record.Frame.{Frame}
use Rattle.sts_plain.proofs.perform.change.Goals as goal

-- an instruction that pushes one value has room for it
room : {p : Program} {w : World} {t : ℕ} {f : Frame} {i : Instr} (j : Instr) (n : ℕ) → IsFine p w t f i → i ≡ j → pops p j ≡ n → pushes j ≡ 1 → length f.operands - n < MAX_OPERANDS
room {p} {w} {t} {f} {i} j n fine is pop push =
    let here : nat_lt MAX_OPERANDS (length f.operands - pops p j + pushes j) ≡ false = rw is at fine.room in
    let few : nat_lt MAX_OPERANDS (length f.operands - n + 1) ≡ false = rw (pop, push) at here in
    grind (arith, nat_tests)

local_effect : (p : Program) (w : World) (t : ℕ) (f : Frame) (i : Instr) → stays_in_frame i ≡ true → with_frame w t (local (code p f) i f) ≡ effect p w t f i
local_effect p w t f (Join a b c d) e = cc
local_effect p w t f i e = cc

-- no other instruction is left
no_other : (p : Program) (w : World) (t : ℕ) (f : Frame) (i : Instr) → stays_in_frame i ≡ false → takes_memory i ≡ false
    → ((a : ℕ) (b c : Option ℕ) (d : ℕ) → i ≡ Join a b c d → ⊥) → ((a : ℕ) → i ≡ Close a → ⊥) → ((a : ℕ) → i ≡ Cancelled a → ⊥) → ((a b c : ℕ) → i ≡ Case a b c → ⊥)
    → ((a : ℕ) → i ≡ Get a → ⊥) → ((a : ℕ) → i ≡ Except a → ⊥) → ((a : ℕ) (b : Kind) → i ≡ Tally a b → ⊥) → ((a : ℕ) → i ≡ Total a → ⊥)
    → ((a : ℕ) → i ≡ Bind a → ⊥) → (i ≡ Unbind → ⊥) → ((a : ℕ) → i ≡ Read a → ⊥) → ((a : ℕ) → i ≡ Bound a → ⊥) → ((a : ℕ) → i ≡ OrElse a → ⊥) → (i ≡ Interrupted → ⊥)
    → w ≡ effect p w t f i
no_other p w t f (Join a b c d) l m n1 n2 n3 n4 n5 n6 n7 n8 n9 n10 n11 n12 n13 n14 = absurd (n1 a b c d refl)
no_other p w t f (Close a) l m n1 n2 n3 n4 n5 n6 n7 n8 n9 n10 n11 n12 n13 n14 = absurd (n2 a refl)
no_other p w t f (Cancelled a) l m n1 n2 n3 n4 n5 n6 n7 n8 n9 n10 n11 n12 n13 n14 = absurd (n3 a refl)
no_other p w t f (Case a b c) l m n1 n2 n3 n4 n5 n6 n7 n8 n9 n10 n11 n12 n13 n14 = absurd (n4 a b c refl)
no_other p w t f (Get a) l m n1 n2 n3 n4 n5 n6 n7 n8 n9 n10 n11 n12 n13 n14 = absurd (n5 a refl)
no_other p w t f (Except a) l m n1 n2 n3 n4 n5 n6 n7 n8 n9 n10 n11 n12 n13 n14 = absurd (n6 a refl)
no_other p w t f (Tally a b) l m n1 n2 n3 n4 n5 n6 n7 n8 n9 n10 n11 n12 n13 n14 = absurd (n7 a b refl)
no_other p w t f (Total a) l m n1 n2 n3 n4 n5 n6 n7 n8 n9 n10 n11 n12 n13 n14 = absurd (n8 a refl)
no_other p w t f (Bind a) l m n1 n2 n3 n4 n5 n6 n7 n8 n9 n10 n11 n12 n13 n14 = absurd (n9 a refl)
no_other p w t f Unbind l m n1 n2 n3 n4 n5 n6 n7 n8 n9 n10 n11 n12 n13 n14 = absurd (n10 refl)
no_other p w t f (Read a) l m n1 n2 n3 n4 n5 n6 n7 n8 n9 n10 n11 n12 n13 n14 = absurd (n11 a refl)
no_other p w t f (Bound a) l m n1 n2 n3 n4 n5 n6 n7 n8 n9 n10 n11 n12 n13 n14 = absurd (n12 a refl)
no_other p w t f (OrElse a) l m n1 n2 n3 n4 n5 n6 n7 n8 n9 n10 n11 n12 n13 n14 = absurd (n13 a refl)
no_other p w t f Interrupted l m n1 n2 n3 n4 n5 n6 n7 n8 n9 n10 n11 n12 n13 n14 = absurd (n14 refl)
no_other p w t f i l m n1 n2 n3 n4 n5 n6 n7 n8 n9 n10 n11 n12 n13 n14 = cc

pub push_value-requires-clause-room : goal.push_value-requires-clause-room
push_value-requires-clause-room c = room (Cancelled c.in-Cancelled.x) 0 c.requires.next.fine c.in-Cancelled.is refl refl

pub push_value-requires-in-Tally-clause-room : goal.push_value-requires-in-Tally-clause-room
push_value-requires-in-Tally-clause-room c = room (Tally c.in-Tally.x c.in-Tally.kind) 0 c.requires.next.fine c.in-Tally.is refl refl

pub push_value-requires-in-Total-clause-room : goal.push_value-requires-in-Total-clause-room
push_value-requires-in-Total-clause-room c = room (Total c.in-Total.x) 0 c.requires.next.fine c.in-Total.is refl refl

pub push_value-requires-in-Read-clause-room : goal.push_value-requires-in-Read-clause-room
push_value-requires-in-Read-clause-room c = room (Read c.in-Read.k) 0 c.requires.next.fine c.in-Read.is refl refl

pub push_value-requires-in-Bound-clause-room : goal.push_value-requires-in-Bound-clause-room
push_value-requires-in-Bound-clause-room c = room (Bound c.in-Bound.k) 0 c.requires.next.fine c.in-Bound.is refl refl

pub push_value-requires-in-OrElse-clause-room : goal.push_value-requires-in-OrElse-clause-room
push_value-requires-in-OrElse-clause-room c = room (OrElse c.in-OrElse.k) 1 c.requires.next.fine c.in-OrElse.is refl refl

pub returns-then-stays_in_frame : goal.returns-then-stays_in_frame
returns-then-stays_in_frame c =
    let p = c.args.program.now in
    let w = c.args.world.now in
    ap (λ (g : Frame). with_frame w c.args.t g)
    (c.local.ensures
    ∙ ap (λ (is : List Instr). local is c.args.instr c.living-frame.result.now) c.code-instructions.ensures.value
    ∙ ap (λ (g : Frame). local (code p g) c.args.instr g) c.living-frame.ensures.value)
    ∙ local_effect p w c.args.t (task_at w c.args.t).frame c.args.instr (sym c.stays_in_frame.ensures ∙ c.if-stays_in_frame.true)

pub returns-in_default-2 : goal.returns-in_default-2
returns-in_default-2 c =
    let n = c.in_default-2 in
    let other = sym c.stays_in_frame.ensures ∙ c.if-stays_in_frame.false in
    no_other c.args.program.now c.args.world.now c.args.t (task_at c.args.world.now c.args.t).frame c.args.instr other c.requires.fixed
    n.not-Join n.not-Close n.not-Cancelled n.not-Case n.not-Get n.not-Except n.not-Tally n.not-Total n.not-Bind
    n.not-Unbind n.not-Read n.not-Bound n.not-OrElse n.not-Interrupted
