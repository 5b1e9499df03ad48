-- The root ends last, and the living task that was born last never waits.
use Rattle.std.proofs.Common.{◌≡◌, ℕ, zero, suc, ◌<◌, ◌≤◌, Bool, true, false, Option, Some, None, refl, ap, length, arith, cond, ◌||◌, not, nat_eq}
use Rattle.std.proofs.lemmas.Bool.Decides.{nat_tests}
use Rattle.sts_code.specs.Program.{Program}
use Rattle.sts_code.specs.declared.instr.Instr.{Instr}
use Rattle.sts_code.specs.declared.instr.Instr.TheVariants.{Join, Close}
use Rattle.sts_model.specs.declared.event.End.{End}
use Rattle.sts_model.specs.declared.event.Fault.{Fault}
use Rattle.sts_model.specs.declared.event.Stand.TheVariants.{Free, AtClose}
use Rattle.sts_model.specs.declared.record.Slot.{Slot}
use Rattle.sts_model.specs.declared.record.Slot.TheVariants.{Empty, Own, Lent, Sub}
use Rattle.sts_model.specs.World.{World, task_at, scope_at, no_task, instr_at}
use Rattle.sts_model.specs.Living.{lives, any_lives, is_closed}
use Rattle.sts_model.specs.Misuse.{slot, misuse}
use Rattle.sts_model.specs.Waiting.{stands_at_join, stands_at_close, stand_at_instr, can_go, is_closing, can_step}
use Rattle.laws_runs.specs.States.{IsLast, GoesOn, RootEndsLast, SomeTaskSteps}
use Rattle.laws_runs.proofs.ListLemmas.{past}
use Rattle.std.specs.Cmp.Derive.{both_true}
use Rattle.laws_runs.proofs.SoundLemmas.{Sound, Owner}
use Rattle.laws_runs.proofs.EffectLemmas.{alive_in}
use Rattle.laws_runs.proofs.EventLemmas.{ever}
use Rattle.laws_runs.proofs.StayLemmas.{ended_is_dead}

-- ---- the root

-- the owner of a living task's scope lives
owner_lives : (w : World) (u s : ℕ) → Sound w → lives (task_at w u) ≡ true → (task_at w u).scope ≡ Some s → lives (task_at w (scope_at w s).owner) ≡ true
owner_lives w u s o alive inside = by (is_closed (scope_at w s).phase) refl
  where
    by : (b : Bool) → is_closed (scope_at w s).phase ≡ b → lives (task_at w (scope_at w s).owner) ≡ true
    by true closed = let dead = o.empty s u closed inside in cc
    by false still = (o.held s (o.born u s inside).0 still).alive

by_scope : (w : World) (n u : ℕ) → Sound w → lives (task_at w u) ≡ true → u < suc n → ((t : ℕ) → lives (task_at w t) ≡ true → t < n → lives (task_at w 0) ≡ true) → (o : Option ℕ) → (task_at w u).scope ≡ o → lives (task_at w 0) ≡ true
by_scope w n u o alive less below None e = let q = o.root u alive e in rw q at alive
by_scope w n u o alive less below (Some s) e =
    let b = (o.born u s e).1 in
    below (scope_at w s).owner (owner_lives w u s o alive e) (omega (arith, b, less))

upto : (w : World) → Sound w → (n u : ℕ) → lives (task_at w u) ≡ true → u < n → lives (task_at w 0) ≡ true
upto w o zero u alive less = absurd (omega arith)
upto w o (suc n) u alive less = by_scope w n u o alive less (upto w o n) (task_at w u).scope refl

-- if any task lives, the root lives
pub root_lives : (w : World) (u : ℕ) → Sound w → lives (task_at w u) ≡ true → lives (task_at w 0) ≡ true
root_lives w u o alive = upto w o (suc u) u alive (omega arith)

pub root_ends_last : RootEndsLast
root_ends_last = ever _ (λ p w h end u e. by w h.sound end u e (lives (task_at w u)) refl)
  where
    by : (w : World) → Sound w → (end : End) (u : ℕ) → (task_at w 0).outcome ≡ Some end → (b : Bool) → lives (task_at w u) ≡ b → lives (task_at w u) ≡ false
    by w o end u e false h = h
    by w o end u e true h = let r = root_lives w u o h in let d = ended_is_dead (task_at w 0) end e in cc

-- ---- who waits

-- no subtask of a scope of the last living task lives
none_waited_for : (w : World) (t s : ℕ) → Sound w → IsLast w t → Owner w.scopes s t → (b : Bool) → any_lives w s ≡ b → b ≡ false
none_waited_for w t s o last mine false e = refl
none_waited_for w t s o last mine true e =
    let h = alive_in w s e in
    let born = (o.born h.0 s h.1).1 in
    let owner = mine.owner in
    let later : t < h.0 = omega (arith, born, owner) in
    let dead = last h.0 later in
    let alive = h.2 in
    cc

goes_at_join : (w : World) (t : ℕ) (x : Slot) → ((s : ℕ) → x ≡ Own s → any_lives w s ≡ false) → (m : Option Fault) → can_go w (task_at w t) (stands_at_join m x) ≡ true
goes_at_join w t (Own s) none None = by (scope_at w s).expired (scope_at w s).cancelled (any_lives w s) (task_at w t).flag (none s refl)
  where
    by : (a b c d : Bool) → c ≡ false → (a || b || not c || d) ≡ true
    by true b c d e = refl
    by false true c d e = refl
    by false false true d e = cc
    by false false false d e = refl
goes_at_join w t (Own s) none (Some k) = refl
goes_at_join w t Empty none None = refl
goes_at_join w t Empty none (Some k) = refl
goes_at_join w t (Lent s) none None = refl
goes_at_join w t (Lent s) none (Some k) = refl
goes_at_join w t (Sub s) none None = refl
goes_at_join w t (Sub s) none (Some k) = refl

goes_at_close : (w : World) (t : ℕ) (x : Slot) → ((s : ℕ) → x ≡ Own s → any_lives w s ≡ false) → can_go w (task_at w t) (stands_at_close w x) ≡ true
goes_at_close w t (Own s) none = by (is_closing (scope_at w s).phase)
  where
    by : (b : Bool) → can_go w (task_at w t) (cond b (AtClose s) Free) ≡ true
    by true = rw (none s refl) refl
    by false = refl
goes_at_close w t _ none = refl

goes : (p : Program) (w : World) (t : ℕ) → Sound w → IsLast w t → (i : Option Instr) → can_go w (task_at w t) (stand_at_instr p w t i) ≡ true
goes p w t o last (Some (Join x failed timeout i)) =
    goes_at_join w t (slot (task_at w t).frame x) (λ s e. none_waited_for w t s o last (o.own t x s e) (any_lives w s) refl) (misuse p w t)
goes p w t o last (Some (Close x)) =
    goes_at_close w t (slot (task_at w t).frame x) (λ s e. none_waited_for w t s o last (o.own t x s e) (any_lives w s) refl)
goes p w t o last _ = refl

last_steps : (p : Program) (w : World) → Sound w → (t : ℕ) → lives (task_at w t) ≡ true → IsLast w t → can_step p w t ≡ true
last_steps p w o t alive last = both_true alive (goes p w t o last (instr_at p (task_at w t).frame))

-- the living task that was born last
greatest : (w : World) (n : ℕ) → ((u : ℕ) → n ≤ u → lives (task_at w u) ≡ false) → lives (task_at w 0) ≡ true → (t : ℕ) × (lives (task_at w t) ≡ true) × IsLast w t
greatest w zero dead root = let d = dead 0 (omega arith) in cc
greatest w (suc n) dead root = by (lives (task_at w n)) refl (λ below. greatest w n below root)
  where
    same : (u : ℕ) → lives (task_at w n) ≡ false → n ≤ u → (b : Bool) → nat_eq n u ≡ b → lives (task_at w u) ≡ false
    same u h le true e = let q : n ≡ u = grind (arith, nat_tests) in rw q at h
    same u h le false e = dead u (grind (arith, nat_tests))

    by : (b : Bool) → lives (task_at w n) ≡ b → (((u : ℕ) → n ≤ u → lives (task_at w u) ≡ false) → (t : ℕ) × (lives (task_at w t) ≡ true) × IsLast w t) → (t : ℕ) × (lives (task_at w t) ≡ true) × IsLast w t
    by true h next = (n, h, λ u less. dead u (omega arith))
    by false h next = next (λ u le. same u h le (nat_eq n u) refl)

goes_on : (p : Program) (w : World) → Sound w → GoesOn p w
goes_on p w o =
    record {
      last = last_steps p w o;
      some = λ root.
          let g = greatest w (length w.tasks) (λ u h. ap lives (past w.tasks u no_task h)) root in
          (g.0, last_steps p w o g.0 g.1 g.2);
    }

pub some_task_steps : SomeTaskSteps
some_task_steps = ever GoesOn (λ p w h. goes_on p w h.sound)
