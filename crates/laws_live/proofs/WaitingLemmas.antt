-- Which tasks can step.
use Rattle.std.proofs.Common.{◌≡◌, ℕ, Bool, true, false, Option, Some, None, refl, sym, ◌∙◌, ap, cond, ◌&&◌, not}
use Rattle.sts_code.specs.Program.{Program}
use Rattle.sts_code.specs.declared.instr.Instr.{Instr}
use Rattle.sts_code.specs.declared.instr.Instr.TheVariants.{Join, Close}
use Rattle.sts_model.specs.declared.event.Fault.{Fault}
use Rattle.sts_model.specs.declared.event.Stand.TheVariants.{Free, AtClose}
use Rattle.sts_model.specs.declared.record.Slot.{Slot}
use Rattle.sts_model.specs.declared.record.Slot.TheVariants.{Empty, Own}
use Rattle.sts_model.specs.declared.record.Frame.{Frame}
use Rattle.sts_model.specs.World.{World, task_at, scope_at, instr_at}
use Rattle.sts_model.specs.Living.{lives}
use Rattle.sts_model.specs.Misuse.{slot, misuse}
use Rattle.sts_model.specs.Waiting.{stands_at_join, stands_at_close, stand_at_instr, can_go, is_closing, can_step}
use Rattle.sts_model.specs.Live.{Alive, live}
use Rattle.laws_live.specs.Reading.{alive_at}
use Rattle.laws_live.specs.Waiting.{live_stands_at_join, live_stands_at_close, live_stand_at_instr, live_can_go, live_can_step}
use Rattle.laws_live.proofs.ViewLemmas.{scope_is, alive_is, any_is, lives_is}
use Rattle.laws_live.proofs.EffectLemmas.{Facts}
use Rattle.laws_live.proofs.EndLemmas.{open_some}

-- the frame of a living task
pub frame_is : (w : World) (t : ℕ) → Facts w → lives (task_at w t) ≡ true → (alive_at (live w) t).frame ≡ (task_at w t).frame
frame_is w t o alive = ap (λ (a : Alive). a.frame) (alive_is w t o.sound alive)

goes_at_join : (w : World) (t x : ℕ) → Facts w → lives (task_at w t) ≡ true → can_go w (task_at w t) (stands_at_join None (slot (task_at w t).frame x)) ≡ live_can_go (live w) t (live_stands_at_join (slot (task_at w t).frame x))
goes_at_join w t x o alive = by (slot (task_at w t).frame x) refl
  where
    by : (y : Slot) → slot (task_at w t).frame x ≡ y → can_go w (task_at w t) (stands_at_join None y) ≡ live_can_go (live w) t (live_stands_at_join y)
    by (Own s) e = rw (scope_is w s (open_some w s ((o.named t x alive).own s e)), any_is w s o.sound, alive_is w t o.sound alive) refl
    by _ e = refl

goes_at_close : (w : World) (t x : ℕ) → Facts w → lives (task_at w t) ≡ true → can_go w (task_at w t) (stands_at_close w (slot (task_at w t).frame x)) ≡ live_can_go (live w) t (live_stands_at_close (live w) (slot (task_at w t).frame x))
goes_at_close w t x o alive = by (slot (task_at w t).frame x) refl
  where
    closing : (s : ℕ) (b : Bool) → can_go w (task_at w t) (cond b (AtClose s) Free) ≡ live_can_go (live w) t (cond b (AtClose s) Free)
    closing s true = ap not (sym (any_is w s o.sound))
    closing s false = refl

    by : (y : Slot) → slot (task_at w t).frame x ≡ y → can_go w (task_at w t) (stands_at_close w y) ≡ live_can_go (live w) t (live_stands_at_close (live w) y)
    by (Own s) e = rw (scope_is w s (open_some w s ((o.named t x alive).own s e))) (closing s (is_closing (scope_at w s).phase))
    by _ e = refl

-- two answers: they are the same if nothing is misused, and the second is no if the first is
pub record Agrees (p : Program) (w : World) (t : ℕ) (a b : Bool) : Type 0 where
  pub proper : misuse p w t ≡ None → a ≡ b
  pub still : a ≡ false → b ≡ false

same_agrees : (p : Program) (w : World) (t : ℕ) (a b : Bool) → a ≡ b → Agrees p w t a b
same_agrees p w t a b e = record { proper = λ m. e; still = λ h. sym e ∙ h }

-- a misused `join` goes on
misused_goes : (w : World) (t : ℕ) (k : Fault) (y : Slot) → can_go w (task_at w t) (stands_at_join (Some k) y) ≡ true
misused_goes w t k Empty = refl
misused_goes w t k _ = refl

go_is : (p : Program) (w : World) (t : ℕ) (i : Option Instr) → Facts w → lives (task_at w t) ≡ true → Agrees p w t (can_go w (task_at w t) (stand_at_instr p w t i)) (live_can_go (live w) t (live_stand_at_instr (live w) t i))
go_is p w t (Some (Join x failed timeout interrupted)) o alive =
    record { proper = same; still = λ h. by (misuse p w t) refl h }
  where
    same : misuse p w t ≡ None → can_go w (task_at w t) (stands_at_join (misuse p w t) (slot (task_at w t).frame x)) ≡ live_can_go (live w) t (live_stands_at_join (slot (alive_at (live w) t).frame x))
    same m =
        ap (λ q. can_go w (task_at w t) (stands_at_join q (slot (task_at w t).frame x))) m
        ∙ goes_at_join w t x o alive
        ∙ ap (λ (f : Frame). live_can_go (live w) t (live_stands_at_join (slot f x))) (sym (frame_is w t o alive))

    by : (m : Option Fault) → misuse p w t ≡ m → can_go w (task_at w t) (stands_at_join (misuse p w t) (slot (task_at w t).frame x)) ≡ false → live_can_go (live w) t (live_stands_at_join (slot (alive_at (live w) t).frame x)) ≡ false
    by None m h = sym (same m) ∙ h
    by (Some k) m h =
        let goes : can_go w (task_at w t) (stands_at_join (misuse p w t) (slot (task_at w t).frame x)) ≡ true = ap (λ q. can_go w (task_at w t) (stands_at_join q (slot (task_at w t).frame x))) m ∙ misused_goes w t k (slot (task_at w t).frame x) in
        let never : true ≡ false = sym goes ∙ h in
        cc
go_is p w t (Some (Close x)) o alive =
    same_agrees p w t _ _
    (goes_at_close w t x o alive ∙ ap (λ (f : Frame). live_can_go (live w) t (live_stands_at_close (live w) (slot f x))) (sym (frame_is w t o alive)))
go_is p w t i o alive = same_agrees p w t _ _ refl

pub can_is : (p : Program) (w : World) (t : ℕ) → Facts w → Agrees p w t (can_step p w t) (live_can_step p (live w) t)
can_is p w t o = by (lives (task_at w t)) refl
  where
    by : (b : Bool) → lives (task_at w t) ≡ b → Agrees p w t (can_step p w t) (live_can_step p (live w) t)
    by false e = same_agrees p w t _ _ (rw (lives_is w t o.sound, e) refl)
    by true e =
        let h : Agrees p w t (can_go w (task_at w t) (stand_at_instr p w t (instr_at p (task_at w t).frame))) (live_can_go (live w) t (live_stand_at_instr (live w) t (instr_at p (task_at w t).frame))) = go_is p w t (instr_at p (task_at w t).frame) o e in
        let f : (alive_at (live w) t).frame ≡ (task_at w t).frame = frame_is w t o e in
        let can : can_step p w t ≡ can_go w (task_at w t) (stand_at_instr p w t (instr_at p (task_at w t).frame)) = ap (λ b. b && can_go w (task_at w t) (stand_at_instr p w t (instr_at p (task_at w t).frame))) e in
        let seen : live_can_step p (live w) t ≡ live_can_go (live w) t (live_stand_at_instr (live w) t (instr_at p (task_at w t).frame)) =
        ap (λ b. b && live_can_go (live w) t (live_stand_at_instr (live w) t (instr_at p (alive_at (live w) t).frame))) (lives_is w t o.sound ∙ e)
        ∙ ap (λ (g : Frame). live_can_go (live w) t (live_stand_at_instr (live w) t (instr_at p g))) f
        in
        record { proper = λ m. can ∙ h.proper m ∙ sym seen; still = λ a. seen ∙ h.still (sym can ∙ a) }
