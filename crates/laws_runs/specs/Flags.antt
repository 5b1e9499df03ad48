-- Which events of a run set a flag, and which clear one.
-- Restates "Description" of JEP 505 (a cancelled scope interrupts the threads of its unfinished
-- subtasks), `Thread.interrupt` (sets the flag), `Thread.interrupted` and `join` of
-- `StructuredTaskScope` (clear the flag when the task asks for it, or when it ends a wait).
-- It is this project's own that no other event sets or clears a flag.
use Rattle.std.specs.Prelude.{◌≡◌, ◌⊎◌, ℕ, Bool, true, false, Option, Some, ◌==◌, ◌&&◌, not}
use Rattle.sts_code.specs.Program.{Program}
use Rattle.sts_code.specs.declared.instr.Instr.{Instr}
use Rattle.sts_code.specs.declared.instr.Instr.TheVariants.{Join, Interrupted}
use Rattle.sts_model.specs.declared.event.Event.{Event}
use Rattle.sts_model.specs.declared.event.Event.TheVariants as event
use Rattle.sts_model.specs.declared.record.Frame.{Frame}
use Rattle.sts_model.specs.World.{World, task_at, scope_at, instr_at}
use Rattle.sts_model.specs.Living.{lives, any_lives}
use Rattle.sts_model.specs.Misuse.{slot}
use Rattle.sts_model.specs.Waiting.{can_step}
use Rattle.sts_model.specs.Effect.{named}
use Rattle.laws_runs.specs.Runs.{Each}

-- ---- what is set

-- between the two states the scope was cancelled
pub record IsCancelled (w v : World) (s : ℕ) : Type 0 where
  pub before : (scope_at w s).cancelled ≡ false
  pub after : (scope_at v s).cancelled ≡ true

-- an event that cancels a scope sets the flag of each subtask of it that lives
abbrev pub CancelInterrupts : Type 0
CancelInterrupts =
    Each (λ p w e v. (s u : ℕ) → IsCancelled w v s → (task_at v u).scope ≡ Some s
    → lives (task_at v u) ≡ true → (task_at v u).flag ≡ true)

-- an interrupt sets the flag of a task that lives
abbrev pub InterruptSetsFlag : Type 0
InterruptSetsFlag =
    Each (λ p w e v. (t : ℕ) → e ≡ event.Interrupt t → lives (task_at w t) ≡ true
    → (task_at v t).flag ≡ true)

-- a flag is set only by an interrupt of the task or by the cancel of its scope
abbrev pub FlagsHaveCause : Type 0
FlagsHaveCause =
    Each (λ p w e v. (t : ℕ) → (task_at w t).flag ≡ false → (task_at v t).flag ≡ true
    → (e ≡ event.Interrupt t) ⊎ ((s : ℕ) × ((task_at w t).scope ≡ Some s) × IsCancelled w v s))

-- ---- what is cleared

-- has a `join` of this scope no outcome yet? It has not expired, is not cancelled, and a subtask of
-- it lives
abbrev pub is_unfinished : World → ℕ → Bool
is_unfinished w s = not (scope_at w s).expired && (not (scope_at w s).cancelled && any_lives w s)

-- does the instruction take the flag of its task? `interrupted` does, and so does a `join` that
-- ends as interrupted
abbrev pub takes_flag : World → Frame → Option Instr → Bool
takes_flag w f (Some Interrupted) = true
takes_flag w f (Some (Join s failed timeout interrupted)) = is_unfinished w (named (slot f s))
takes_flag w f _ = false

-- is the event a step in which the task takes its flag?
abbrev pub is_taken : Program → World → Event → ℕ → Bool
is_taken p w (event.Step u) t =
    u == t && (can_step p w t && takes_flag w (task_at w t).frame (instr_at p (task_at w t).frame))
is_taken p w _ t = false

-- a task that takes its flag no longer has it, and a flag is cleared in no other way
pub record Takes (p : Program) (w : World) (e : Event) (v : World) (t : ℕ) : Type 0 where
  pub taken : is_taken p w e t ≡ true → (task_at v t).flag ≡ false
  pub cleared : (task_at w t).flag ≡ true → (task_at v t).flag ≡ false → is_taken p w e t ≡ true

abbrev pub FlagsAreTaken : Type 0
FlagsAreTaken = Each (λ p w e v. (t : ℕ) → Takes p w e v t)
