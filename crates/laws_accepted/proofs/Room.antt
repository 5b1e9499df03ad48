-- There is room for each task and scope that a run of an accepted program makes, so its living
-- tasks misuse nothing.
use Rattle.std.proofs.Common.{◌≡◌, ℕ, false, Option, Some, None, refl, length}
use Rattle.sts_code.specs.Checks.{program_fault}
use Rattle.sts_code.specs.Program.{Program}
use Rattle.sts_code.specs.declared.instr.Instr.{Instr}
use Rattle.sts_code.specs.declared.instr.Instr.TheVariants.{Open, Fork}
use Rattle.sts_model.specs.declared.record.Frame.{Frame}
use Rattle.sts_model.specs.declared.record.Slot.{Slot}
use Rattle.sts_model.specs.declared.record.Slot.TheVariants.{Own}
use Rattle.sts_model.specs.World.{World, State, Running, Faulted, task_at, instr_at}
use Rattle.sts_model.specs.Misuse.{slot, at_own, is_crowded}
use Rattle.sts_model.specs.Standing.{standing_tasks}
use Rattle.sts_rules.specs.Refusal.{IsAccepted}
use Rattle.sts_model.specs.Run.{after}
use Rattle.laws_runs.specs.Runs.{In}
use Rattle.laws_accepted.specs.Costs.{AcceptedHasPlace, HasPlaceFor, HasPlace}
use Rattle.laws_accepted.specs.Typed.{crowds, WantsRoomAlone, OnlyRoomIsWanted}
use Rattle.laws_accepted.specs.Accepted.{AllFine, LivingTasksAreFine}

-- no instruction breaks a limit, if there is room for it
no_crowd : (w : World) (f : Frame) (o : Option Instr) → ((i : Instr) → o ≡ Some i → HasPlaceFor w f i) → crowds w f o ≡ false
no_crowd w f (Some (Open x timed joiner)) place = place (Open x timed joiner) refl
no_crowd w f (Some (Fork x g h)) place = by (slot f x) (place (Fork x g h) refl)
  where
    by : (q : Slot) → ((s : ℕ) → q ≡ Own s → is_crowded (standing_tasks w) (length w.tasks) ≡ false) → at_own w q (λ s scope. is_crowded (standing_tasks w) (length w.tasks)) ≡ false
    by (Own s) at = at s refl
    by _ at = refl
no_crowd w f o place = refl

pub living_tasks_are_fine : (p : Program) → program_fault p.routines ≡ None → IsAccepted p → OnlyRoomIsWanted p → AcceptedHasPlace → LivingTasksAreFine p
living_tasks_are_fine p checked accepted wanted places events = by (after p events) (wanted events) (places p checked accepted events)
  where
    by : (state : State) → In (WantsRoomAlone p) state → In (HasPlace p) state → In (AllFine p) state
    by (Running w) h place = λ t alive. h t alive (no_crowd w (task_at w t).frame (instr_at p (task_at w t).frame) (λ i at. place t i alive at))
    by (Faulted kind t f pc) h place = tt
