-- The laws: living tasks are typed, and misuse nothing if there is room.
use Rattle.std.proofs.Common.{◌≡◌, ℕ, zero, suc, ◌<◌, List, [], ◌∷◌, length, true, false, Some, refl, arith, slice_get}
use Rattle.sts_code.specs.Program.{Program, routine}
use Rattle.sts_model.specs.declared.record.Frame.{Frame}
use Rattle.sts_model.specs.World.{World, State, Running, Faulted, task_at}
use Rattle.sts_model.specs.Living.{lives}
use Rattle.sts_model.specs.Run.{after}
use Rattle.laws_runs.specs.Runs.{In}
use Rattle.laws_runs.proofs.EventLemmas.{Also}
use Rattle.laws_accepted.specs.Typed.{is_crowding, AllTyped, IsFineAt, WantsRoomAlone, LivingTasksAreTyped, OnlyRoomIsWanted}
use Rattle.laws_accepted.proofs.Stands.{stands-typed}
use Rattle.laws_accepted.proofs.Steps.{Sure}
use Rattle.laws_accepted.proofs.TypedRuns.{Accepted, sure-after}
use Rattle.laws_accepted.proofs.Fine.{is-fine}

pub living_tasks_are_typed : (p : Program) → Accepted p → LivingTasksAreTyped p
living_tasks_are_typed p ok events = by (after p events) (sure-after p ok events)
  where
    by : (state : State) → In (Also (Sure p)) state → In (AllTyped p) state
    by (Running w) h = h.also.typed
    by (Faulted kind t f pc) h = tt

-- ---- no misuse

-- what is within the list is there
there : {X : Type 0} (xs : List X) (n : ℕ) → n < length xs → (x : X) × (slice_get xs n ≡ Some x)
there [] n less = absurd (omega arith)
there (x ∷ xs) zero less = (x, refl)
there (x ∷ xs) (suc n) less = there xs n (omega (arith, less))

-- a typed task is at an instruction, at which nothing is misused if there is room
fine-at : (p : Program) (w : World) (t : ℕ) → Accepted p → Also (Sure p) w → lives (task_at w t) ≡ true → is_crowding p w t ≡ false → IsFineAt p w t
fine-at p w t ok h alive room =
    let f : Frame = (task_at w t).frame in
    let typed = h.also.typed t alive in
    let within : f.pc < length (routine p f.function).code = (ok.promises f.function f.pc typed.state typed.function typed.reached).within in
    let i = there (routine p f.function).code f.pc within in
    let st = stands-typed p w f (task_at w t).scope i.0 ok.accepted ok.promises typed i.1 in
    record { instr = i.0; at = i.1; fine = is-fine p w t i.0 typed.state ok.checked st typed.bound (rw i.1 at room) }

pub only_room_is_wanted : (p : Program) → Accepted p → OnlyRoomIsWanted p
only_room_is_wanted p ok events = by (after p events) (sure-after p ok events)
  where
    by : (state : State) → In (Also (Sure p)) state → In (WantsRoomAlone p) state
    by (Running w) h = λ t alive room. fine-at p w t ok h alive room
    by (Faulted kind t f pc) h = tt
