-- The effect of an instruction that is no misuse.
-- Restates `open`, `fork`, `join`, `close` and `Subtask` of `StructuredTaskScope`, and
-- `ScopedValue.where(..).run` as `bind` and `unbind`. This project's own are the order in which
-- `join` looks (expired, then cancelled or all ended, then the flag), the operands pushed, and the
-- slots.
use Rattle.std.specs.Prelude.{ℕ, ◌+◌, ◌-◌, ℤ, pos, List, [], ◌∷◌, ◌++◌, length, take, drop, reverse}
use Rattle.std.specs.Prelude.{map, count_by, Bool, true, false, Option, Some, None, is_some}
use Rattle.std.specs.Prelude.{unwrap_or, ◌==◌, ◌||◌, not, if◌then◌else◌, slice_set}
use Rattle.sts_code.specs.Program.{Program, routine}
use Rattle.sts_code.specs.declared.instr.Instr.{Instr}
use Rattle.sts_code.specs.declared.instr.Instr.TheVariants.{Open, Fork, Join, Close, Cancelled}
use Rattle.sts_code.specs.declared.instr.Instr.TheVariants.{Case, Get, Except, Tally, Total}
use Rattle.sts_code.specs.declared.instr.Instr.TheVariants.{Bind, Unbind, Read, Bound, OrElse}
use Rattle.sts_code.specs.declared.instr.Instr.TheVariants.{Interrupted, Ret, Fail}
use Rattle.sts_code.specs.declared.instr.Joiner.{Joiner}
use Rattle.sts_code.specs.declared.instr.Kind.{Kind}
use Rattle.sts_code.specs.declared.instr.Kind.TheVariants.{S, F, U}
use Rattle.sts_model.specs.declared.event.End.{End}
use Rattle.sts_model.specs.declared.event.End.TheVariants.{Success, Failed}
use Rattle.sts_model.specs.declared.event.Verdict.{Verdict}
use Rattle.sts_model.specs.declared.event.Verdict.TheVariants as verdict
use Rattle.sts_model.specs.declared.event.Phase.{Phase}
use Rattle.sts_model.specs.declared.event.Phase.TheVariants.{Attempted, Joined, Closing, Closed}
use Rattle.sts_model.specs.declared.record.Slot.{Slot}
use Rattle.sts_model.specs.declared.record.Slot.TheVariants.{Empty, Own, Lent, Sub}
use Rattle.sts_model.specs.declared.record.Entry.TheVariants as entry
use Rattle.sts_model.specs.declared.record.Frame.{Frame}
use Rattle.sts_model.specs.declared.record.Task.{Task}
use Rattle.sts_model.specs.declared.record.Scope.{Scope}
use Rattle.sts_model.specs.Local.{local, operand, goes, steps, truth}
use Rattle.sts_model.specs.Joining.{is_success, is_failure, cancels, result_of, total_of}
use Rattle.sts_model.specs.World.{World, code, entry_frame, task_at, scope_at, fresh_scope}
use Rattle.sts_model.specs.World.{with_task, with_scope, with_frame}
use Rattle.sts_model.specs.Living.{is_in, subtask_count, any_lives, sub_state, ends}
use Rattle.sts_model.specs.Cancelling.{cancel}
use Rattle.sts_model.specs.Environment.{environment_of, read}
use Rattle.sts_model.specs.Misuse.{slot}

-- the scope that a slot names
abbrev pub named : Slot → ℕ
named Empty = 0
named (Own s) = s
named (Lent s) = s
named (Sub t) = t

-- ---- scopes

abbrev pub with_phase : World → ℕ → Phase → World
with_phase w s phase = with_scope w s (record (scope_at w s) { phase = phase })

unfoldable pub open_scope : World → ℕ → Frame → ℕ → Joiner → Bool → World
open_scope w t f x joiner timed =
    with_frame
    (record w {
      scopes = w.scopes ++ fresh_scope t joiner timed (environment_of (task_at w t) w) ∷ [];
    })
    t
    (record (steps f 0 []) {
      entries = entry.Scope (length w.scopes) ∷ f.entries;
      slots = slice_set f.slots x (Own (length w.scopes));
    })

abbrev pub with_slot : List Slot → Option ℕ → Slot → List Slot
with_slot slots None x = slots
with_slot slots (Some h) x = slice_set slots h x

-- the forker's frame afterwards
abbrev pub forked : Frame → ℕ → Option ℕ → ℕ → Frame
forked f args handle child =
    record (steps f args []) { slots = with_slot f.slots handle (Sub child) }

-- a new subtask, which never runs if the scope is cancelled
abbrev pub subtask_of : Program → World → Frame → ℕ → ℕ → Task
subtask_of p w f s g =
    record {
      frame = entry_frame g (reverse (take (routine p g).args f.operands)) (Lent s);
      started = not (scope_at w s).cancelled;
      flag = false;
      scope = Some s;
      outcome = None;
    }

unfoldable pub fork_task : Program → World → ℕ → Frame → ℕ → ℕ → Option ℕ → World
fork_task p w t f s g h =
    with_frame (record w { tasks = w.tasks ++ subtask_of p w f s g ∷ [] }) t (forked f
    (routine p g).args h (length w.tasks))

-- the frame after a verdict, with the value or the code of the failure pushed
abbrev pub answered : Verdict → Frame → ℕ → Frame
answered (verdict.Ok None) f failed = steps f 0 []
answered (verdict.Ok (Some v)) f failed = steps f 0 (v ∷ [])
answered (verdict.Failed c) f failed = goes f failed 0 (c ∷ [])

-- after an outcome of `join` other than interrupted
abbrev pub joined : World → ℕ → ℕ → Frame → World
joined w t s f = with_frame (with_phase w s Joined) t f

abbrev pub join_verdict : Verdict → World → ℕ → ℕ → Frame → ℕ → World
join_verdict answer w t s f failed = joined w t s (answered answer f failed)

-- the outcome of a `join`: a timeout, or the joiner's result, or interrupted. The last needs no
-- test: a task waits here if its flag isn't set.
unfoldable pub join_scope : World → ℕ → Frame → ℕ → ℕ → ℕ → ℕ → World
join_scope w t f s failed timeout interrupted =
    let scope = scope_at w s in
    if scope.expired
    then joined w t s (goes f timeout 0 [])
    else (if scope.cancelled || not (any_lives w s)
    then join_verdict (result_of scope.joiner (ends scope) (subtask_count w s)) w t s f failed
    else with_task (with_phase w s Attempted) t (record
    (task_at w t) { frame = goes f interrupted 0 []; flag = false }))

-- does a slot name the scope or one of its subtasks?
abbrev pub is_of : World → ℕ → Slot → Bool
is_of w s (Own r) = r == s
is_of w s (Sub t) = is_in s (task_at w t).scope
is_of w s _ = false

abbrev pub cleared : World → ℕ → List Slot → List Slot
cleared w s slots = map (λ x. if is_of w s x then Empty else x) slots

-- the end of a close
abbrev pub closed : World → ℕ → Frame → ℕ → World
closed w t f s =
    with_frame (with_phase w s Closed) t (record (steps f 0 []) {
      entries = drop 1 f.entries;
      slots = cleared w s f.slots;
    })

-- a step of a close
unfoldable pub close_scope : World → ℕ → Frame → ℕ → World
close_scope w t f s =
    if any_lives (cancel w s) s then with_phase (cancel w s) s Closing
    else closed (cancel w s) t f s

-- ---- the end of a task

-- the scope after its joiner was told of an end
abbrev pub told : Scope → ℕ → End → Scope
told scope t end =
    record scope { completions = scope.completions ++ record { task = t; end = end } ∷ [] }

-- cancels the scope if its joiner asks for it
abbrev pub decide : World → ℕ → World
decide w s = let scope = scope_at w s in if cancels scope.joiner (ends scope) then cancel w s else w

abbrev pub complete : World → ℕ → ℕ → End → World
complete w t s end =
    if (scope_at w s).cancelled then w else decide (with_scope w s (told (scope_at w s) t end)) s

abbrev pub tell : World → ℕ → Option ℕ → End → World
tell w t None end = w
tell w t (Some s) end = complete w t s end

-- the task has ended, and its end was not reported to a joiner
abbrev pub ended : World → ℕ → Frame → End → World
ended w t f end = with_task w t (record (task_at w t) { frame = steps f 1 []; outcome = Some end })

unfoldable pub end_task : World → ℕ → Frame → End → World
end_task w t f end = tell (ended w t f end) t (task_at w t).scope end

-- ---- readings

-- the number of subtasks in a state; unavailable are those that did not complete
abbrev pub tally : World → ℕ → Kind → ℕ
tally w s S = count_by is_success (ends (scope_at w s))
tally w s F = count_by is_failure (ends (scope_at w s))
tally w s U = subtask_count w s - length (scope_at w s).completions

-- the sum of the values of the successes
abbrev pub total : World → ℕ → ℤ
total w s = total_of (ends (scope_at w s))

abbrev pub case_target : Option End → (success failed otherwise : ℕ) → ℕ
case_target None success failed otherwise = otherwise
case_target (Some (Success v)) success failed otherwise = success
case_target (Some (Failed c)) success failed otherwise = failed

abbrev pub value_or_zero : Option End → ℤ
value_or_zero None = pos 0
value_or_zero (Some (Success v)) = v
value_or_zero (Some (Failed c)) = c

-- ---- the task alone

abbrev pub bind : World → ℕ → Frame → ℕ → World
bind w t f k =
    with_frame w t (record (steps f 1 []) { entries = entry.Binding k (operand f 0) ∷ f.entries })

abbrev pub unbind : World → ℕ → Frame → World
unbind w t f = with_frame w t (record (steps f 0 []) { entries = drop 1 f.entries })

abbrev pub take_flag : World → ℕ → Frame → World
take_flag w t f =
    with_task w t (record (task_at w t) {
      frame = steps f 0 (truth (task_at w t).flag ∷ []);
      flag = false;
    })

-- ---- an instruction

-- does it make a task, a scope or a completion?
abbrev pub takes_memory : Instr → Bool
takes_memory (Open s timed joiner) = true
takes_memory (Fork s g h) = true
takes_memory Ret = true
takes_memory Fail = true
takes_memory _ = false

-- the frame after an instruction that changes the frame alone, and may read what is around it
abbrev pub moved : Program → World → ℕ → Frame → Instr → Frame
moved p w t f (Cancelled s) = steps f 0 (truth (scope_at w (named (slot f s))).cancelled ∷ [])
moved p w t f (Case h success failed) =
    goes f (case_target (sub_state w (named (slot f h))) success failed (f.pc + 1)) 0 []
moved p w t f (Get h) = steps f 0 (value_or_zero (sub_state w (named (slot f h))) ∷ [])
moved p w t f (Except h) = steps f 0 (value_or_zero (sub_state w (named (slot f h))) ∷ [])
moved p w t f (Tally s k) = steps f 0 (pos (tally w (named (slot f s)) k) ∷ [])
moved p w t f (Total s) = steps f 0 (total w (named (slot f s)) ∷ [])
moved p w t f (Read k) =
    steps f 0 (unwrap_or (read (environment_of (task_at w t) w) k) (pos 0) ∷ [])
moved p w t f (Bound k) =
    steps f 0 (truth (is_some (read (environment_of (task_at w t) w) k)) ∷ [])
moved p w t f (OrElse k) =
    steps f 1 (unwrap_or (read (environment_of (task_at w t) w) k) (operand f 0) ∷ [])
moved p w t f i = local (code p f) i f

abbrev pub effect : Program → World → ℕ → Frame → Instr → World
effect p w t f (Open s timed joiner) = open_scope w t f s joiner timed
effect p w t f (Fork s g h) = fork_task p w t f (named (slot f s)) g h
effect p w t f (Join s failed timeout interrupted) =
    join_scope w t f (named (slot f s)) (unwrap_or failed 0) (unwrap_or timeout 0) interrupted
effect p w t f (Close s) = close_scope w t f (named (slot f s))
effect p w t f (Bind k) = bind w t f k
effect p w t f Unbind = unbind w t f
effect p w t f Interrupted = take_flag w t f
effect p w t f Ret = end_task w t f (Success (operand f 0))
effect p w t f Fail = end_task w t f (Failed (operand f 0))
effect p w t f i = with_frame w t (moved p w t f i)
