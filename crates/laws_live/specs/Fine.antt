-- No instruction that a task is at is misused: in words of the view alone, the instructions that a
-- machine may take without a test (this project's own).
use Rattle.std.specs.Prelude.{◌≡◌, ℕ, List, length, Bool, true, false, Option, Some, None, is_some}
use Rattle.std.specs.Prelude.{is_none, nat_lt, nat_le, count_by, ◌&&◌, ◌||◌, not}
use Rattle.sts_code.specs.Program.{Program}
use Rattle.sts_code.specs.declared.instr.Instr.{Instr}
use Rattle.sts_code.specs.declared.instr.Instr.TheVariants.{Open, Fork, Join, Close, Get, Except}
use Rattle.sts_code.specs.declared.instr.Instr.TheVariants.{Tally, Total, Bind, Unbind, Read, Ret}
use Rattle.sts_code.specs.declared.instr.Instr.TheVariants.{Fail}
use Rattle.sts_code.specs.declared.limits.TheConstants.{MAX_ENTRIES}
use Rattle.sts_code.specs.declared.profile.Profile.{Profile}
use Rattle.sts_model.specs.declared.event.Event.{Event}
use Rattle.sts_model.specs.declared.record.Slot.{Slot}
use Rattle.sts_model.specs.declared.record.Slot.TheVariants.{Own, Sub}
use Rattle.sts_model.specs.declared.record.Frame.{Frame}
use Rattle.sts_model.specs.World.{instr_at}
use Rattle.sts_model.specs.Misuse.{slot, lacks_operands, overflows, breaks_loop, has_wrong_slot}
use Rattle.sts_model.specs.Misuse.{is_strangers, is_crowded, is_opened, can_join, is_joined}
use Rattle.sts_model.specs.Misuse.{has_succeeded, has_failed, is_binding, is_entry_of, innermost}
use Rattle.sts_model.specs.Misuse.{binds_after, misfits}
use Rattle.sts_code.specs.Facts.{is_two}
use Rattle.sts_model.specs.Live.{Live, LiveScope}
use Rattle.laws_live.specs.Reading.{live_task_at, live_scope_at, no_live_scope, alive_at, live_count}
use Rattle.laws_live.specs.Effect.{live_state, live_read}
use Rattle.laws_live.specs.Waiting.{live_can_step}
use Rattle.laws_live.specs.Seen.{StandsAt}

-- ---- scopes

-- a test of the scope that a slot owns, if it owns one
abbrev pub live_at_own : Live → Slot → (ℕ → LiveScope → Bool) → Bool
live_at_own v (Own s) test = test s (live_scope_at v s)
live_at_own v _ test = false

-- the scope of a subtask
abbrev pub live_parent : Live → Option ℕ → LiveScope
live_parent v None = no_live_scope
live_parent v (Some s) = live_scope_at v s

-- a test of the subtask that a slot names, and of its scope
abbrev pub live_at_sub : Live → Slot → (ℕ → LiveScope → Bool) → Bool
live_at_sub v (Sub t) test = test t (live_parent v (live_task_at v t).scope)
live_at_sub v _ test = false

-- a `join` with no room for the answer, or with targets that don't fit the scope
abbrev pub live_joins_wrongly : Frame → Option ℕ → Option ℕ → LiveScope → Bool
live_joins_wrongly f failed timeout scope = misfits f failed timeout scope.joiner scope.timed

abbrev pub live_misjoins : Live → Frame → Instr → Bool
live_misjoins v f (Join s failed timeout interrupted) =
    live_at_own v (slot f s) (λ _ scope. live_joins_wrongly f failed timeout scope)
live_misjoins v f _ = false

-- no room for an entry, a scope or a task
abbrev pub live_has_no_room : Live → Frame → Instr → Bool
live_has_no_room v f (Open s timed j) =
    nat_le MAX_ENTRIES (length f.entries) || is_crowded (count_by is_some v.scopes) (length v.scopes)
live_has_no_room v f (Bind k) = nat_le MAX_ENTRIES (length f.entries)
live_has_no_room v f (Fork s g h) = is_crowded (count_by is_some v.tasks) (length v.tasks)
live_has_no_room v f _ = false

-- may the scope's subtasks be read?
abbrev pub live_is_readable : Profile → LiveScope → Bool
live_is_readable profile scope = is_joined scope.phase && (is_two profile || not scope.expired)

-- is the scope or subtask not in the state for the instruction?
abbrev pub live_is_illegal : Program → Live → Frame → Instr → Bool
live_is_illegal p v f (Fork s g h) =
    live_at_own v (slot f s) (λ _ scope. not (is_opened scope.phase))
live_is_illegal p v f (Join s failed timeout i) =
    live_at_own v (slot f s) (λ _ scope. not (can_join scope.phase))
live_is_illegal p v f (Close s) =
    live_at_own v (slot f s) (λ n scope. is_opened scope.phase && nat_lt 0 (live_count v n))
live_is_illegal p v f (Tally s k) =
    live_at_own v (slot f s) (λ _ scope. not (live_is_readable p.profile scope))
live_is_illegal p v f (Total s) =
    live_at_own v (slot f s) (λ _ scope. not (live_is_readable p.profile scope))
live_is_illegal p v f (Get h) =
    live_at_sub v (slot f h)
    (λ t scope. not (live_is_readable p.profile scope && has_succeeded (live_state v t)))
live_is_illegal p v f (Except h) =
    live_at_sub v (slot f h)
    (λ t scope. not (live_is_readable p.profile scope && has_failed (live_state v t)))
live_is_illegal p v f _ = false

-- does the instruction break the order of the structure list?
abbrev pub live_breaks_structure : Live → Frame → Instr → Bool
live_breaks_structure v f (Fork s g h) = live_at_own v (slot f s) (λ n _. binds_after n f.entries)
live_breaks_structure v f (Close s) =
    live_at_own v (slot f s) (λ n _. not (innermost (is_entry_of n) f.entries))
live_breaks_structure v f Unbind = not (innermost is_binding f.entries)
live_breaks_structure v f Ret = nat_lt 0 (length f.entries)
live_breaks_structure v f Fail = nat_lt 0 (length f.entries)
live_breaks_structure v f _ = false

-- a key that is not bound
abbrev pub live_is_unbound : Live → ℕ → Instr → Bool
live_is_unbound v t (Read k) = is_none (live_read v t k)
live_is_unbound v t _ = false

-- no row of misuse applies to the instruction
pub record IsLiveFine (p : Program) (v : Live) (t : ℕ) (f : Frame) (i : Instr) : Type 0 where
  pub operands : lacks_operands p f i ≡ false
  pub room : overflows p f i ≡ false
  pub loops : breaks_loop p f i ≡ false
  pub slots : has_wrong_slot f i ≡ false
  pub joins : live_misjoins v f i ≡ false
  pub births : live_has_no_room v f i ≡ false
  pub own : is_strangers f i ≡ false
  pub legal : live_is_illegal p v f i ≡ false
  pub structure : live_breaks_structure v f i ≡ false
  pub bound : live_is_unbound v t i ≡ false

-- ---- what is next

-- the task is at an instruction, which is no misuse
pub record IsSafe (p : Program) (v : Live) (t : ℕ) : Type 0 where
  pub instr : Instr
  pub at : instr_at p (alive_at v t).frame ≡ Some instr
  pub fine : IsLiveFine p v t (alive_at v t).frame instr

-- in every view after a list of events, each task that can step is safe
abbrev pub TurnsAreSafe : Program → Type 0
TurnsAreSafe p =
    (events : List Event) (v : Live) (n : ℕ) → StandsAt p events v n
    → (t : ℕ) → live_can_step p v t ≡ true → IsSafe p v t
