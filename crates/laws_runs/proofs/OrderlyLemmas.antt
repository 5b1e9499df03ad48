-- Scopes in every state of every run: cancelled for a cause, settled, entered by their owners.
use Rattle.std.proofs.Common.{◌≡◌, ℕ, zero, suc, ◌≤◌, List, [], ◌∷◌, true, false, refl, sym, ◌∙◌, arith, get_or, not}
use Rattle.sts_code.specs.Program.{Program}
use Rattle.sts_code.specs.declared.instr.Instr.{Instr}
use Rattle.sts_code.specs.declared.instr.Instr.TheVariants.{Open, Fork, Close, Ret, Fail}
use Rattle.sts_model.specs.declared.event.Event.{Event}
use Rattle.sts_model.specs.declared.event.End.{End}
use Rattle.sts_model.specs.declared.event.End.TheVariants.{Success, Failed}
use Rattle.sts_model.specs.declared.record.Slot.TheVariants as slots
use Rattle.sts_model.specs.declared.record.Frame.{Frame}
use Rattle.sts_model.specs.World.{World, task_at, scope_at, no_task, opening}
use Rattle.sts_model.specs.Local.{operand}
use Rattle.sts_model.specs.Living.{lives}
use Rattle.sts_model.specs.Misuse.{slot, is_opened, is_entry_of, innermost, IsFine}
use Rattle.sts_model.specs.Effect.{effect, named, end_task}
use Rattle.sts_model.specs.Run.{after}
use Rattle.laws_runs.specs.Runs.{In, Ever, Leads}
use Rattle.laws_runs.proofs.KeptLemmas.{Kept}
use Rattle.laws_runs.proofs.FrameLemmas.{own_slot, at_own-is}
use Rattle.laws_runs.proofs.EffectLemmas.{first_no, still-effect, kept-end, still-interrupt, still-expire}
use Rattle.laws_runs.proofs.EventLemmas.{Also, main, root-in_nothing, also-kept, ever-from}
use Rattle.laws_runs.proofs.CauseLemmas.{follow-end, follow-effect, follow-interrupt, follow-expire}
use Rattle.laws_runs.proofs.SettledLemmas.{Settled, settled-kept, settled-open, settled-fork}
use Rattle.laws_runs.proofs.EntryLemmas.{Has, times_in, enters-end, enters-effect, enters-interrupt, enters-expire}
use Rattle.laws_runs.proofs.EnteredLemmas.{Entered, entered-enters, entered-open, entered-fork, entered-close}

-- the facts about a state that these files add
pub record Orderly (w : World) : Type 0 where
  pub settled : Settled w
  pub entered : Entered w

-- ---- effects

orderly-end : (w : World) (t : ℕ) (end : End) → Also Orderly w → Kept w (end_task w t (task_at w t).frame end) → Orderly (end_task w t (task_at w t).frame end)
orderly-end w t end h k =
    record {
      settled = settled-kept w _ h.also.settled k (follow-end w t (task_at w t).frame end h.right.sound h.also.settled.caused);
      entered = entered-enters w _ h.also.entered k (enters-end w t end);
    }

orderly-effect : (p : Program) (w : World) (t : ℕ) (i : Instr) → Also Orderly w → lives (task_at w t) ≡ true → IsFine p w t (task_at w t).frame i → Orderly (effect p w t (task_at w t).frame i)
orderly-effect p w t (Open x timed joiner) h alive is = record { settled = settled-open w t x joiner timed h.also.settled; entered = entered-open w t x joiner timed h.also.entered alive }
orderly-effect p w t (Fork x g q) h alive is =
    let f : Frame = (task_at w t).frame in
    let mine : slot f x ≡ slots.Own (named (slot f x)) = own_slot (slot f x) (first_no _ _ (first_no _ _ is.slots)) is.own in
    let legal : not (is_opened (scope_at w (named (slot f x))).phase) ≡ false = sym (at_own-is w (slot f x) (λ n scope. not (is_opened scope.phase)) mine) ∙ is.legal in
    record { settled = settled-fork p w t (named (slot f x)) g q h.also.settled alive legal; entered = entered-fork p w t (named (slot f x)) g q h.also.entered alive }
orderly-effect p w t Ret h alive is = orderly-end w t (Success (operand (task_at w t).frame 0)) h (kept-end w t (Success (operand (task_at w t).frame 0)) alive is.structure)
orderly-effect p w t Fail h alive is = orderly-end w t (Failed (operand (task_at w t).frame 0)) h (kept-end w t (Failed (operand (task_at w t).frame 0)) alive is.structure)
orderly-effect p w t (Close x) h alive is =
    let f : Frame = (task_at w t).frame in
    let mine : slot f x ≡ slots.Own (named (slot f x)) = own_slot (slot f x) (first_no _ _ (first_no _ _ is.slots)) is.own in
    let order : not (innermost (is_entry_of (named (slot f x))) f.entries) ≡ false = sym (at_own-is w (slot f x) (λ n scope. not (innermost (is_entry_of n) f.entries)) mine) ∙ is.structure in
    record {
      settled = settled-kept w _ h.also.settled (still-effect p w t (Close x) h.right.sound is refl).kept (follow-effect p w t (Close x) h.right.sound h.also.settled.caused is);
      entered = entered-close w t (named (slot f x)) h.also.entered (h.right.sound.own t x (named (slot f x)) mine) alive order;
    }
orderly-effect p w t i h alive is =
    let k = still-effect p w t i h.right.sound is refl in
    record {
      settled = settled-kept w _ h.also.settled k.kept (follow-effect p w t i h.right.sound h.also.settled.caused is);
      entered = entered-enters w _ h.also.entered k.kept (enters-effect p w t i refl);
    }

pub orderly-leads : (p : Program) → Leads p (Also Orderly) (λ w v. Orderly v)
orderly-leads p =
    record {
      nothing = λ w h. h.also;
      effect = λ w t i h d. orderly-effect p w t i h d.alive d.fine;
      interrupt = λ w t h.
          let k = still-interrupt w t in
          record {
            settled = settled-kept w _ h.also.settled k.kept (follow-interrupt w t h.also.settled.caused);
            entered = entered-enters w _ h.also.entered k.kept (enters-interrupt w t);
          };
      expire = λ w s h.
          let k = still-expire w s in
          record {
            settled = settled-kept w _ h.also.settled k.kept (follow-expire w s h.also.settled.caused);
            entered = entered-enters w _ h.also.entered k.kept (enters-expire w s);
          };
    }

-- ---- the beginning

root-enters_nothing : (p : Program) (t s : ℕ) → Has s (get_or (main p ∷ []) t no_task).frame.entries → ⊥
root-enters_nothing p zero s e = cc
root-enters_nothing p (suc t) s e = cc

root-once : (p : Program) (t s : ℕ) → times_in s (get_or (main p ∷ []) t no_task).frame.entries ≤ 1
root-once p zero s = omega arith
root-once p (suc t) s = omega arith

pub orderly-opening : (p : Program) → In Orderly (opening p)
orderly-opening p =
    record {
      settled =
          record {
            caused = λ s born. absurd (omega (arith, born));
            joined = λ s u e. cc;
            started = λ s u inside. absurd (root-in_nothing p u s inside);
          };
      entered = record { opens = λ t s alive has. absurd (root-enters_nothing p t s has); once = root-once p };
    }

-- in every state of every run these facts hold too
pub orderly-after : (p : Program) (events : List Event) → In (Also Orderly) (after p events)
orderly-after p events = also-kept p Orderly (orderly-opening p) (orderly-leads p) events

-- a law of single states
pub ever-orderly : (P : Program → World → Type 0) → ((p : Program) (w : World) → Also Orderly w → P p w) → Ever P
ever-orderly = ever-from (λ p w. Also Orderly w) orderly-after
