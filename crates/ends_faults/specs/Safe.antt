-- The states of a table at which no step is a fault (this project's own). Each line restates the
-- tests of `misuse` by what the state knows. The limits of births are left out.
use Rattle.std.specs.Prelude.{◌≡◌, ℕ, List, [], ◌∷◌, length, Bool, true, false, Option, Some, None}
use Rattle.std.specs.Prelude.{is_none, nat_le, not, ◌==◌, ◌&&◌, ◌||◌, if◌then◌else◌}
use Rattle.std.specs.Prelude.{slice_index_or, All}
use Rattle.std.specs.List.{filter}
use Rattle.sts_code.specs.Program.{Program}
use Rattle.sts_code.specs.declared.limits.TheConstants.{MAX_ENTRIES}
use Rattle.sts_code.specs.declared.profile.Profile.{Profile}
use Rattle.sts_code.specs.declared.instr.Instr.{Instr}
use Rattle.sts_code.specs.declared.instr.Instr.TheVariants.{Open, Fork, Join, Close, Cancelled}
use Rattle.sts_code.specs.declared.instr.Instr.TheVariants.{Case, Get, Except, Tally, Total}
use Rattle.sts_code.specs.declared.instr.Instr.TheVariants.{Bind, Unbind, Read, Ret, Fail}
use Rattle.sts_code.specs.Facts.{is_two}
use Rattle.sts_model.specs.declared.event.End.{End}
use Rattle.sts_model.specs.declared.record.Entry.{Entry}
use Rattle.sts_model.specs.declared.record.Entry.TheVariants as entry
use Rattle.sts_model.specs.declared.record.Frame.{Frame}
use Rattle.sts_model.specs.Local.{emptied_slot}
use Rattle.sts_model.specs.World.{instr_at}
use Rattle.sts_model.specs.Environment.{read}
use Rattle.sts_model.specs.Misuse.{lacks_operands, overflows, breaks_loop, misfits, is_opened}
use Rattle.sts_model.specs.Misuse.{can_join, is_joined, has_succeeded, has_failed, innermost}
use Rattle.sts_model.specs.Misuse.{is_binding}
use Rattle.laws_calls.specs.declared.table.Held.{Held}
use Rattle.laws_calls.specs.declared.table.Held.TheVariants as held
use Rattle.laws_calls.specs.Tasks.{births_in, bindings, held_at}
use Rattle.laws_calls.specs.declared.table.Call.{Call}
use Rattle.laws_calls.specs.declared.table.Own.{Own}
use Rattle.laws_calls.specs.declared.table.Seen.{Seen}
use Rattle.laws_calls.specs.declared.table.Part.{Part}
use Rattle.laws_calls.specs.declared.table.Way.{Way}
use Rattle.laws_calls.specs.declared.table.Row.{Row}
use Rattle.laws_calls.specs.declared.table.Knowledge.{Knowledge}
use Rattle.laws_calls.specs.declared.table.Knowledge.TheVariants.{Late}
use Rattle.laws_calls.specs.Fitting.{Fits}
use Rattle.laws_calls.specs.Steps.{Table, Owns, Knows}

-- ---- slots

abbrev pub is_empty : Held → Bool
is_empty held.Empty = true
is_empty _ = false

-- a scope, also a lent one
abbrev pub is_scope : Held → Bool
is_scope held.Lent = true
is_scope (held.Own place) = true
is_scope _ = false

abbrev pub is_sub : Held → Bool
is_sub (held.Sub place i) = true
is_sub _ = false

-- the slot that is filled, if one is, is empty
abbrev pub is_free : Own → Option ℕ → Bool
is_free own None = true
is_free own (Some h) = is_empty (held_at own h)

-- the slot that is emptied, if one is, holds a subtask
abbrev pub holds_subtask : Own → Option ℕ → Bool
holds_subtask own None = true
holds_subtask own (Some h) = is_sub (held_at own h)

-- the slot holds an open scope of the task, for which P holds
pub record OwnsOne (own : Own) (x : ℕ) (P : ℕ → Seen → Type 0) : Type 0 where
  pub place : ℕ
  pub seen : Seen
  pub owns : Owns own x place seen
  pub holds : P place seen

-- the slot holds a subtask of such a scope, for whose number P holds
pub record KnowsOne (own : Own) (h : ℕ) (P : Seen → ℕ → Type 0) : Type 0 where
  pub place : ℕ
  pub seen : Seen
  pub i : ℕ
  pub part : Part
  pub knows : Knows own h place seen i part
  pub holds : P seen i

-- ---- scopes

-- a `join` with no room for the answer, or with targets that don't fit the scope
abbrev pub joins_wrongly : Frame → Option ℕ → Option ℕ → Seen → Bool
joins_wrongly f failed timeout x = misfits f failed timeout x.joiner x.timed

abbrev pub is_late : Knowledge → Bool
is_late Late = true
is_late _ = false

-- may the scope's subtasks be read? After a timeout only in profile two
abbrev pub is_readable : Profile → Seen → Bool
is_readable profile x = is_joined x.phase && (is_two profile || not (is_late x.knowledge))

-- whatever became of the subtasks, the state of this one passes the test
abbrev pub Always : (Option End → Bool) → Seen → ℕ → Type 0
Always test x i =
    (pick : List (Option End)) → Fits x pick → test (slice_index_or pick i None) ≡ true

-- the part, if it has not ended in a state that passes the test
abbrev pub without : (Option End → Bool) → Part → Part
without test part =
    record part { ways = filter (λ (way : Way). not (test (Some way.end))) part.ways }

-- ---- the structure list

-- does a binding come after the scope at this place, innermost first?
abbrev pub binds_after : ℕ → List Entry → Bool
binds_after place [] = false
binds_after place (entry.Binding k v ∷ es) = true
binds_after place (entry.Scope s ∷ es) =
    if place == length (births_in es) then false else binds_after place es

-- is the innermost entry the scope at this place?
abbrev pub is_innermost : ℕ → List Entry → Bool
is_innermost place [] = false
is_innermost place (entry.Binding k v ∷ es) = false
is_innermost place (entry.Scope s ∷ es) = place == length (births_in es)

-- is there room for an entry more?
abbrev pub is_full : Frame → Bool
is_full f = nat_le MAX_ENTRIES (length f.entries)

-- ---- instructions

pub record CanFork (own : Own) (place : ℕ) (x : Seen) : Type 0 where
  pub phase : is_opened x.phase ≡ true
  pub order : binds_after place own.frame.entries ≡ false

pub record CanJoin (own : Own) (failed timeout : Option ℕ) (x : Seen) : Type 0 where
  pub phase : can_join x.phase ≡ true
  pub form : joins_wrongly own.frame failed timeout x ≡ false

-- a scope whose `join` was never tried closes only if nothing was forked in it
pub record CanClose (own : Own) (place : ℕ) (x : Seen) : Type 0 where
  pub phase : is_opened x.phase ≡ true → x.parts ≡ []
  pub order : is_innermost place own.frame.entries ≡ true

pub record CanRead (profile : Profile) (test : Option End → Bool) (x : Seen) (i : ℕ)
    : Type 0 where
  pub readable : is_readable profile x ≡ true
  pub always : Always test x i

-- what an instruction asks of slots, of scopes, of the structure list and of bindings
abbrev pub IsAllowed : Program → Call → Own → Instr → Type 0
IsAllowed p c own (Open x timed joiner) =
    (is_empty (held_at own x) ≡ true) × (is_full own.frame ≡ false)
IsAllowed p c own (Fork x g h) = OwnsOne own x (CanFork own) × (is_free own h ≡ true)
IsAllowed p c own (Join x failed timeout to_i) =
    OwnsOne own x (λ place seen. CanJoin own failed timeout seen)
IsAllowed p c own (Close x) = OwnsOne own x (CanClose own)
IsAllowed p c own (Cancelled x) = is_scope (held_at own x) ≡ true
IsAllowed p c own (Case h success failed) = is_sub (held_at own h) ≡ true
IsAllowed p c own (Get h) = KnowsOne own h (CanRead p.profile has_succeeded)
IsAllowed p c own (Except h) = KnowsOne own h (CanRead p.profile has_failed)
IsAllowed p c own (Tally x kind) =
    OwnsOne own x (λ place seen. is_readable p.profile seen ≡ true)
IsAllowed p c own (Total x) = OwnsOne own x (λ place seen. is_readable p.profile seen ≡ true)
IsAllowed p c own (Bind k) = is_full own.frame ≡ false
IsAllowed p c own Unbind = innermost is_binding own.frame.entries ≡ true
IsAllowed p c own (Read k) = is_none (read (bindings c own) k) ≡ false
IsAllowed p c own Ret = own.frame.entries ≡ []
IsAllowed p c own Fail = own.frame.entries ≡ []
IsAllowed p c own i = holds_subtask own (emptied_slot i) ≡ true

-- ---- states

-- there is a next instruction, and it is no misuse
pub record IsSafe (p : Program) (c : Call) (own : Own) : Type 0 where
  pub instr : Instr
  pub at : instr_at p own.frame ≡ Some instr
  pub operands : lacks_operands p own.frame instr ≡ false
  pub room : overflows p own.frame instr ≡ false
  pub loops : breaks_loop p own.frame instr ≡ false
  pub allowed : IsAllowed p c own instr

-- each state of each row is safe
abbrev pub AreSafe : Program → Table → Type 0
AreSafe p t = All (λ (row : Row). All (IsSafe p row.call) row.states) t
