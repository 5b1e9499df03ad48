-- The effect of an instruction that is no misuse on a live view (this project's own).
use Rattle.std.specs.Prelude.{ℕ, ◌+◌, ◌-◌, ℤ, pos, List, [], ◌∷◌, ◌++◌, length, take, drop, reverse}
use Rattle.std.specs.Prelude.{map, Bool, false, Option, Some, None, is_some, unwrap_or, ◌==◌, ◌||◌}
use Rattle.std.specs.Prelude.{not, if◌then◌else◌, slice_set}
use Rattle.sts_code.specs.Program.{Program, routine}
use Rattle.sts_code.specs.declared.instr.Instr.{Instr}
use Rattle.sts_code.specs.declared.instr.Instr.TheVariants.{Open, Fork, Join, Close, Cancelled}
use Rattle.sts_code.specs.declared.instr.Instr.TheVariants.{Case, Get, Except, Tally, Total}
use Rattle.sts_code.specs.declared.instr.Instr.TheVariants.{Bind, Unbind, Read, Bound, OrElse}
use Rattle.sts_code.specs.declared.instr.Instr.TheVariants.{Interrupted, Ret, Fail}
use Rattle.sts_code.specs.declared.instr.Joiner.{Joiner}
use Rattle.sts_code.specs.declared.instr.Kind.{Kind}
use Rattle.sts_code.specs.declared.instr.Kind.TheVariants.{S, F, U}
use Rattle.sts_model.specs.declared.event.End.{End}
use Rattle.sts_model.specs.declared.event.End.TheVariants.{Success, Failed}
use Rattle.sts_model.specs.declared.event.Verdict.{Verdict}
use Rattle.sts_model.specs.declared.event.Phase.TheVariants.{Attempted, Joined, Closing}
use Rattle.sts_model.specs.declared.record.Slot.{Slot}
use Rattle.sts_model.specs.declared.record.Slot.TheVariants.{Empty, Own, Lent, Sub}
use Rattle.sts_model.specs.declared.record.Entry.TheVariants as entry
use Rattle.sts_model.specs.declared.record.Frame.{Frame}
use Rattle.sts_model.specs.World.{code, entry_frame, fresh_scope}
use Rattle.sts_model.specs.Local.{local, operand, goes, steps, truth}
use Rattle.sts_model.specs.Living.{is_in}
use Rattle.sts_model.specs.Told.{told, tell, result_told, cancels_told}
use Rattle.sts_model.specs.Environment.{read}
use Rattle.sts_model.specs.Misuse.{slot}
use Rattle.sts_model.specs.Effect.{answered, named, forked, case_target, value_or_zero}
use Rattle.sts_model.specs.Live.{Live, LiveTask, LiveScope, Alive, shown_scope}
use Rattle.laws_live.specs.Reading.{live_task_at, live_scope_at, alive_at, with_live_task}
use Rattle.laws_live.specs.Reading.{with_alive, with_live_frame, with_live_scope, with_live_phase}
use Rattle.laws_live.specs.Reading.{live_count, live_any_lives}
use Rattle.laws_live.specs.Cancelling.{live_cancel}

-- ---- scopes

abbrev pub opened_scope : Live → ℕ → Joiner → Bool → LiveScope
opened_scope v t joiner timed =
    shown_scope (fresh_scope t joiner timed (alive_at v t).environment)

unfoldable pub live_open : Live → ℕ → Frame → ℕ → Joiner → Bool → Live
live_open v t f x joiner timed =
    with_live_frame
    (record v { scopes = v.scopes ++ Some (opened_scope v t joiner timed) ∷ [] })
    t
    (record (steps f 0 []) {
      entries = entry.Scope (length v.scopes) ∷ f.entries;
      slots = slice_set f.slots x (Own (length v.scopes));
    })

-- what a new task of the scope begins with
abbrev pub live_child : Program → LiveScope → Frame → ℕ → ℕ → Alive
live_child p scope f s g =
    record {
      frame = entry_frame g (reverse (take (routine p g).args f.operands)) (Lent s);
      flag = false;
      environment = scope.environment;
    }

-- a new subtask, which never runs if the scope is cancelled
abbrev pub live_subtask_of : Program → LiveScope → Frame → ℕ → ℕ → LiveTask
live_subtask_of p scope f s g =
    record {
      scope = Some s;
      state = None;
      alive = if scope.cancelled then None else Some (live_child p scope f s g);
    }

unfoldable pub live_fork : Program → Live → ℕ → Frame → ℕ → ℕ → Option ℕ → Live
live_fork p v t f s g h =
    with_live_frame
    (record v { tasks = v.tasks ++ Some (live_subtask_of p (live_scope_at v s) f s g) ∷ [] })
    t
    (forked f (routine p g).args h (length v.tasks))

-- after an outcome of `join` other than interrupted
abbrev pub live_joined : Live → ℕ → ℕ → Frame → Live
live_joined v t s f = with_live_frame (with_live_phase v s Joined) t f

abbrev pub live_verdict : Verdict → Live → ℕ → ℕ → Frame → ℕ → Live
live_verdict answer v t s f failed = live_joined v t s (answered answer f failed)

-- the outcome of a `join`: a timeout, or the joiner's result, or interrupted. The last needs no
-- test: a task waits here if its flag isn't set.
unfoldable pub live_join : Live → ℕ → Frame → ℕ → ℕ → ℕ → ℕ → Live
live_join v t f s failed timeout interrupted =
    let scope = live_scope_at v s in
    if scope.expired
    then live_joined v t s (goes f timeout 0 [])
    else (if scope.cancelled || not (live_any_lives v s)
    then live_verdict (result_told scope.joiner scope.told (live_count v s)) v t s f failed
    else with_alive (with_live_phase v s Attempted) t
    (λ alive. record alive { frame = goes f interrupted 0 []; flag = false }))

-- does a slot name the scope or one of its subtasks?
abbrev pub is_live_of : Live → ℕ → Slot → Bool
is_live_of v s (Own r) = r == s
is_live_of v s (Sub t) = is_in s (live_task_at v t).scope
is_live_of v s _ = false

abbrev pub live_cleared : Live → ℕ → List Slot → List Slot
live_cleared v s slots = map (λ x. if is_live_of v s x then Empty else x) slots

-- a hole for each subtask of s
abbrev pub without : ℕ → Option LiveTask → Option LiveTask
without s None = None
without s (Some task) = if is_in s task.scope then None else Some task

-- neither the scope nor its subtasks count any longer
abbrev pub live_gone : Live → ℕ → Live
live_gone v s = record v { tasks = map (without s) v.tasks; scopes = slice_set v.scopes s None }

-- the end of a close
abbrev pub live_closed : Live → ℕ → Frame → ℕ → Live
live_closed v t f s =
    with_live_frame (live_gone v s) t
    (record (steps f 0 []) { entries = drop 1 f.entries; slots = live_cleared v s f.slots })

-- a step of a close
unfoldable pub live_close : Live → ℕ → Frame → ℕ → Live
live_close v t f s =
    if live_any_lives (live_cancel v s) s
    then with_live_phase (live_cancel v s) s Closing
    else live_closed (live_cancel v s) t f s

-- ---- the end of a task

-- the task's state and the scope's counters, after the joiner was told of an end
abbrev pub live_told : Live → ℕ → ℕ → End → Live
live_told v t s end =
    with_live_scope (with_live_task v t (λ task. record task { state = Some end })) s
    (λ scope. record scope { told = tell scope.joiner scope.told end })

-- cancels the scope if its joiner asks for it
abbrev pub live_decide : Live → ℕ → Live
live_decide v s =
    let scope = live_scope_at v s in
    if cancels_told scope.joiner scope.told then live_cancel v s else v

abbrev pub live_complete : Live → ℕ → ℕ → End → Live
live_complete v t s end =
    if (live_scope_at v s).cancelled then v else live_decide (live_told v t s end) s

abbrev pub live_tell : Live → ℕ → Option ℕ → End → Live
live_tell v t None end = v
live_tell v t (Some s) end = live_complete v t s end

-- the task has ended, and no joiner was told
abbrev pub live_ended : Live → ℕ → End → Live
live_ended v t end =
    record (with_live_task v t (λ task. record task { alive = None })) {
      root_end = if t == 0 then Some end else v.root_end;
    }

unfoldable pub live_end : Live → ℕ → End → Live
live_end v t end = live_tell (live_ended v t end) t (live_task_at v t).scope end

-- ---- readings

-- the number of subtasks in a state; those that did not complete are unavailable
abbrev pub live_tally : Live → ℕ → Kind → ℕ
live_tally v s S = (live_scope_at v s).told.successes
live_tally v s F = (live_scope_at v s).told.failures
live_tally v s U =
    live_count v s - ((live_scope_at v s).told.successes + (live_scope_at v s).told.failures)

abbrev pub live_state : Live → ℕ → Option End
live_state v t = (live_task_at v t).state

-- ---- the task alone

abbrev pub live_bind : Live → ℕ → Frame → ℕ → Live
live_bind v t f k =
    with_alive v t
    (λ alive. record alive {
      frame = record (steps f 1 []) { entries = entry.Binding k (operand f 0) ∷ f.entries };
      environment = record { key = k; value = operand f 0 } ∷ alive.environment;
    })

abbrev pub live_unbind : Live → ℕ → Frame → Live
live_unbind v t f =
    with_alive v t
    (λ alive. record alive {
      frame = record (steps f 0 []) { entries = drop 1 f.entries };
      environment = drop 1 alive.environment;
    })

abbrev pub live_take_flag : Live → ℕ → Frame → Live
live_take_flag v t f =
    with_alive v t
    (λ alive. record alive { frame = steps f 0 (truth alive.flag ∷ []); flag = false })

-- what the task reads under a key
abbrev pub live_read : Live → ℕ → ℕ → Option ℤ
live_read v t k = read (alive_at v t).environment k

-- ---- an instruction

-- the frame after an instruction that changes the frame alone, and may read what is around it
abbrev pub live_moved : Program → Live → ℕ → Frame → Instr → Frame
live_moved p v t f (Cancelled s) =
    steps f 0 (truth (live_scope_at v (named (slot f s))).cancelled ∷ [])
live_moved p v t f (Case h success failed) =
    goes f (case_target (live_state v (named (slot f h))) success failed (f.pc + 1)) 0 []
live_moved p v t f (Get h) = steps f 0 (value_or_zero (live_state v (named (slot f h))) ∷ [])
live_moved p v t f (Except h) = steps f 0 (value_or_zero (live_state v (named (slot f h))) ∷ [])
live_moved p v t f (Tally s k) = steps f 0 (pos (live_tally v (named (slot f s)) k) ∷ [])
live_moved p v t f (Total s) = steps f 0 ((live_scope_at v (named (slot f s))).told.total ∷ [])
live_moved p v t f (Read k) = steps f 0 (unwrap_or (live_read v t k) (pos 0) ∷ [])
live_moved p v t f (Bound k) = steps f 0 (truth (is_some (live_read v t k)) ∷ [])
live_moved p v t f (OrElse k) = steps f 1 (unwrap_or (live_read v t k) (operand f 0) ∷ [])
live_moved p v t f i = local (code p f) i f

abbrev pub live_effect : Program → Live → ℕ → Frame → Instr → Live
live_effect p v t f (Open s timed joiner) = live_open v t f s joiner timed
live_effect p v t f (Fork s g h) = live_fork p v t f (named (slot f s)) g h
live_effect p v t f (Join s failed timeout interrupted) =
    live_join v t f (named (slot f s)) (unwrap_or failed 0) (unwrap_or timeout 0) interrupted
live_effect p v t f (Close s) = live_close v t f (named (slot f s))
live_effect p v t f (Bind k) = live_bind v t f k
live_effect p v t f Unbind = live_unbind v t f
live_effect p v t f Interrupted = live_take_flag v t f
live_effect p v t f Ret = live_end v t (Success (operand f 0))
live_effect p v t f Fail = live_end v t (Failed (operand f 0))
live_effect p v t f i = with_live_frame v t (live_moved p v t f i)
