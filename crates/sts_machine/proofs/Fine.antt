-- Facts that an instruction may rely on if it is no misuse.
use Rattle.std.proofs.Common.{◌≡◌, ℕ, ◌<◌, Bool, true, not, Option, refl, sym, ◌∙◌, subst, is_some}
use Rattle.std.proofs.lemmas.Bool.{not-false}
use Rattle.sts_code.specs.Program.{Program}
use Rattle.sts_code.specs.declared.instr.Instr.{Instr}
use Rattle.sts_code.specs.declared.instr.Instr.TheVariants.{Open, Fork, Join, Close, Cancelled, Case, Get, Except, Tally, Total, Bind, Unbind, Read, Bound, OrElse, Interrupted, Ret, Fail}
use Rattle.sts_model.specs.declared.record.Slot.{Slot}
use Rattle.sts_model.specs.declared.record.Slot.TheVariants.{Own}
use Rattle.sts_model.specs.declared.record.Frame.{Frame}
use Rattle.sts_model.specs.Local.{stays_in_frame, local}
use Rattle.sts_model.specs.World.{code}
use Rattle.sts_model.specs.Misuse.{slot, innermost, is_entry_of}
use Rattle.sts_model.specs.Effect.{named}
use Rattle.sts_model.specs.Live.{Live, LiveScope}
use Rattle.laws_runs.proofs.EffectLemmas.{first_no}
use Rattle.laws_runs.proofs.FrameLemmas.{own_slot}
use Rattle.laws_live.specs.Reading.{lives_in, alive_at, scope_in, live_scope_at, with_live_frame}
use Rattle.laws_live.specs.Effect.{live_effect}
use Rattle.laws_live.specs.Fine.{IsLiveFine, live_at_own}
use Rattle.laws_live.specs.Order.{InOrder}
use Rattle.sts_store.specs.Parts.{Unseen}
use Rattle.sts_machine.specs.Room.{HasRoomLeft}

-- a test of the scope that a slot owns
own_test : (v : Live) (y : Slot) (test : ℕ → LiveScope → Bool) → y ≡ Own (named y) → live_at_own v y test ≡ test (named y) (live_scope_at v (named y))
own_test v (Own s) test e = refl
own_test v _ test e = cc

-- the frame of a task, and the scope that its slot names
abbrev pub frame_in : Live → ℕ → Frame
frame_in v t = (alive_at v t).frame

abbrev pub scope_at : Live → ℕ → ℕ → ℕ
scope_at v t x = named (slot (frame_in v t) x)

module _ (p : Program) (v : Live) (t x : ℕ) (lives : lives_in v t ≡ true) (order : InOrder v) where
  stands : slot (frame_in v t) x ≡ Own (scope_at v t x) → is_some (scope_in v (scope_at v t x)) ≡ true
  stands e = ((order.alive t lives).own x (scope_at v t x) e).stands

  pub fork_own : (g : ℕ) (h : Option ℕ) → IsLiveFine p v t (frame_in v t) (Fork x g h) → slot (frame_in v t) x ≡ Own (scope_at v t x)
  fork_own g h fine = own_slot (slot (frame_in v t) x) (first_no _ _ (first_no _ _ fine.slots)) fine.own

  -- and so there is room for the task
  pub fork_room : (u : Unseen) (g : ℕ) (h : Option ℕ) (i : Instr) → i ≡ Fork x g h → IsLiveFine p v t (frame_in v t) i → HasRoomLeft u (frame_in v t) i → (0 < u.task_room) × (0 < u.frame_room)
  fork_room u g h i is fine room = (subst (HasRoomLeft u (frame_in v t)) is room) (scope_at v t x) (fork_own g h (subst (IsLiveFine p v t (frame_in v t)) is fine))

  close_own : IsLiveFine p v t (frame_in v t) (Close x) → slot (frame_in v t) x ≡ Own (scope_at v t x)
  close_own fine = own_slot (slot (frame_in v t) x) (first_no _ _ (first_no _ _ fine.slots)) fine.own

  pub close_stands : IsLiveFine p v t (frame_in v t) (Close x) → is_some (scope_in v (scope_at v t x)) ≡ true
  close_stands fine = stands (close_own fine)

  pub close_entry : IsLiveFine p v t (frame_in v t) (Close x) → innermost (is_entry_of (scope_at v t x)) (frame_in v t).entries ≡ true
  close_entry fine =
      not-false (innermost (is_entry_of (scope_at v t x)) (frame_in v t).entries)
      (sym (own_test v (slot (frame_in v t) x) (λ n _. not (innermost (is_entry_of n) (frame_in v t).entries)) (close_own fine)) ∙ fine.structure)

-- an instruction that stays in the frame
pub local_effect : (p : Program) (v : Live) (t : ℕ) (f : Frame) (i : Instr) → stays_in_frame i ≡ true → live_effect p v t f i ≡ with_live_frame v t (local (code p f) i f)
local_effect p v t f (Open x timed joiner) e = cc
local_effect p v t f (Fork x g h) e = cc
local_effect p v t f (Join x failed timeout interrupted) e = cc
local_effect p v t f (Close x) e = cc
local_effect p v t f (Cancelled x) e = cc
local_effect p v t f (Case x success failed) e = cc
local_effect p v t f (Get x) e = cc
local_effect p v t f (Except x) e = cc
local_effect p v t f (Tally x k) e = cc
local_effect p v t f (Total x) e = cc
local_effect p v t f (Bind k) e = cc
local_effect p v t f Unbind e = cc
local_effect p v t f (Read k) e = cc
local_effect p v t f (Bound k) e = cc
local_effect p v t f (OrElse k) e = cc
local_effect p v t f Interrupted e = cc
local_effect p v t f Ret e = cc
local_effect p v t f Fail e = cc
local_effect p v t f i e = refl
