-- The steps of a task by itself, and the tables that are closed under them (this project's own).
-- A step may lead to more states than a run does: each task may be interrupted again and again, if
-- any interrupt may come. If a cancel may come, each may see its scope cancelled.
use Rattle.std.specs.Prelude.{◌≡◌, ℕ, ◌+◌, ◌-◌, ℤ, pos, List, [], ◌∷◌, ◌++◌, length, take, drop}
use Rattle.std.specs.Prelude.{reverse, nat_le, not, ◌&&◌, ◌||◌, ◌<◌, ◌≤◌}
use Rattle.std.specs.Prelude.{map, count_by, Bool, true, false, Option, Some, None, is_some}
use Rattle.std.specs.Prelude.{unwrap_or, if◌then◌else◌, slice_get, slice_set}
use Rattle.std.specs.List.{filter, list_any}
use Rattle.sts_code.specs.Facts.{can_fail, is_until}
use Rattle.sts_code.specs.Program.{Program, routine}
use Rattle.sts_code.specs.declared.instr.Instr.{Instr}
use Rattle.sts_code.specs.declared.instr.Instr.TheVariants.{Open, Fork, Join, Close, Cancelled}
use Rattle.sts_code.specs.declared.instr.Instr.TheVariants.{Case, Get, Except, Tally, Total}
use Rattle.sts_code.specs.declared.instr.Instr.TheVariants.{Bind, Unbind, Read, Bound, OrElse}
use Rattle.sts_code.specs.declared.instr.Instr.TheVariants.{Interrupted, Ret, Fail}
use Rattle.sts_code.specs.declared.instr.Joiner.{Joiner}
use Rattle.sts_code.specs.declared.instr.Joiner.TheVariants.{AnySucceeds}
use Rattle.sts_code.specs.declared.instr.Kind.{Kind}
use Rattle.sts_code.specs.declared.instr.Kind.TheVariants.{S, F, U}
use Rattle.sts_model.specs.declared.event.End.{End}
use Rattle.sts_model.specs.declared.event.End.TheVariants.{Success, Failed}
use Rattle.sts_model.specs.declared.event.Phase.TheVariants.{Opened, Attempted, Joined}
use Rattle.sts_model.specs.declared.event.Verdict.{Verdict}
use Rattle.sts_model.specs.declared.record.Entry.TheVariants as entry
use Rattle.sts_model.specs.declared.record.Frame.{Frame}
use Rattle.sts_model.specs.World.{code, instr_at}
use Rattle.sts_model.specs.Local as local
use Rattle.sts_model.specs.Local.{emptied_slot, stays_in_frame, operand, goes, steps, truth}
use Rattle.sts_model.specs.Effect.{answered}
use Rattle.sts_model.specs.Environment.{read}
use Rattle.sts_model.specs.Joining.{is_success, is_failure, result_of, total_of}
use Rattle.laws_runs.specs.Tallies.{is_kind}
use Rattle.laws_calls.specs.Held.{Held, is_at}
use Rattle.laws_calls.specs.Held as held
use Rattle.laws_calls.specs.Outside.{Outside, may_flag, per_birth}
use Rattle.laws_calls.specs.Tasks.{Among, at_place, put_place, Call, Way, HasWay, Part, Knowledge}
use Rattle.laws_calls.specs.Tasks.{nothing, Unseen, ByJoiner, Late, Heard, Seen, Own, begin}
use Rattle.laws_calls.specs.Tasks.{bindings, held_at}
pub use Rattle.laws_calls.specs.declared.table.Row.{Row}
use Rattle.laws_calls.specs.Fitting.{Fits, ArePossible, heard_in, most}
use Rattle.laws_calls.specs.Triggers.{is_trigger, triggers}

-- ---- tables

abbrev pub Table : Type 0
Table = List Row

-- ---- a state with a change

-- with another frame
abbrev pub to : Own → Frame → Own
to own f = record own { frame = f }

-- at the next place, after it popped n operands and pushed a value
abbrev pub pushes : Own → ℕ → ℤ → Own
pushes own n value = to own (steps own.frame n (value ∷ []))

-- the slots, after this one was set, if there is one
abbrev pub with_handle : List Held → Option ℕ → Held → List Held
with_handle slots None x = slots
with_handle slots (Some h) x = slice_set slots h x

-- after an instruction that reads and changes the frame alone, where a slot may be emptied
abbrev pub alone : Program → Own → Instr → Own
alone p own i =
    record own {
      frame = local.local (code p own.frame) i own.frame;
      held = with_handle own.held (emptied_slot i) held.Empty;
    }

-- with another scope at a place
abbrev pub with_seen : Own → ℕ → Seen → Own
with_seen own place x = record own { scopes = put_place own.scopes place x }

-- a scope with another part, also at a place
abbrev pub parts_with : Seen → ℕ → Part → Seen
parts_with x i part = record x { parts = slice_set x.parts i part }

abbrev pub with_part : Own → ℕ → Seen → ℕ → Part → Own
with_part own place x i part = with_seen own place (parts_with x i part)

-- ---- parts

-- the part has ended by this end
abbrev pub only : End → Part → Part
only e part = record part { ways = record { end = e } ∷ []; is_open = false }

-- the part has ended by one of its ways that pass the test
abbrev pub kept : (End → Bool) → Part → Part
kept test part =
    record part { ways = filter (λ (way : Way). test way.end) part.ways; is_open = false }

-- the ends that pass the test and count towards a cancel, or those that don't count
abbrev pub split : Joiner → Bool → (End → Bool) → End → Bool
split j counting test e = test e && (if counting then is_trigger j e else not (is_trigger j e))

-- the part has ended
abbrev pub ended : Part → Part
ended part = record part { is_open = false }

-- The part had not ended when the owner looked. After that it may end only if nothing is known of a
-- cancel. If the owner has seen a failure, another subtask failed before it.
abbrev pub missed : Knowledge → Bool → Part → Part
missed Unseen false part = part
missed Unseen true part = record part { is_early = false }
missed _ has_failure part = record part { ways = []; is_open = true }

-- ---- open, fork, close

abbrev pub opened : Call → Own → ℕ → Joiner → Bool → Own
opened c own x joiner timed =
    record {
      frame = record (steps own.frame 0 []) { entries = entry.Scope 0 ∷ own.frame.entries };
      held = slice_set own.held x (held.Own (length own.scopes));
      scopes = record {
        joiner = joiner;
        timed = timed;
        environment = bindings c own;
        phase = Opened;
        knowledge = Unseen;
        asked = nothing;
        has_failure = false;
        parts = [];
      } ∷ own.scopes;
      left = own.left;
    }

-- the call of a subtask
abbrev pub call_of : Program → Own → Seen → ℕ → Call
call_of p own x g =
    record {
      function = g;
      args = reverse (take (routine p g).args own.frame.operands);
      environment = x.environment;
    }

-- a new part, with these ways; it is not early if a failure was seen before
abbrev pub new_part : List Way → Seen → Part
new_part ways x = record { ways = ways; is_open = true; is_early = not x.has_failure }

abbrev pub forked : Program → Own → ℕ → Seen → List Way → ℕ → Option ℕ → Own
forked p own place x ways g h =
    record {
      frame = steps own.frame (routine p g).args [];
      held = with_handle own.held h (held.Sub place (length x.parts));
      scopes = put_place own.scopes place
          (record x { parts = x.parts ++ new_part ways x ∷ [] });
      left = own.left;
    }

abbrev pub clear : ℕ → Held → Held
clear place x = if is_at place x then held.Empty else x

-- after the innermost scope was closed
abbrev pub closed : Own → Own
closed own =
    record {
      frame = record (steps own.frame 0 []) { entries = drop 1 own.frame.entries };
      held = map (clear (length (drop 1 own.scopes))) own.held;
      scopes = drop 1 own.scopes;
      left = own.left;
    }

-- ---- join

abbrev pub joined : Own → ℕ → Seen → Verdict → ℕ → Own
joined own place x answer failed =
    record (with_seen own place (record x { phase = Joined })) {
      frame = answered answer own.frame failed;
    }

abbrev pub is_any : Joiner → Bool
is_any AnySucceeds = true
is_any _ = false

-- What a scope may be, for all that is known: cancelled by its joiner before it may have expired,
-- expired before its joiner has cancelled it, or not cancelled.
pub record Chances : Type 0 where
  pub by_joiner : Bool
  pub late : Bool
  pub neither : Bool

abbrev pub chances : Knowledge → Chances
chances Unseen = record { by_joiner = true; late = true; neither = true }
chances ByJoiner = record { by_joiner = true; late = false; neither = false }
chances Late = record { by_joiner = false; late = true; neither = false }
chances Heard = record { by_joiner = false; late = false; neither = true }

-- known to be cancelled; known not to be
abbrev pub is_cancelled : Knowledge → Bool
is_cancelled known = not (chances known).neither

abbrev pub is_heard : Knowledge → Bool
is_heard known = not ((chances known).by_joiner || (chances known).late)

abbrev pub may_decide : Knowledge → Bool
may_decide known = (chances known).by_joiner

abbrev pub may_be_late : Knowledge → Bool
may_be_late known = (chances known).late

-- nothing is known of a cancel
abbrev pub is_unseen : Knowledge → Bool
is_unseen known = (chances known).by_joiner && (chances known).late

-- the scope after a `join` of a cancelled scope, and of one whose subtasks have all ended
abbrev pub after_cancel : Seen → Seen
after_cancel x = record x { knowledge = ByJoiner }

abbrev pub after_expiry : Seen → Seen
after_expiry x = record x { knowledge = Late }

abbrev pub after_all : Seen → Seen
after_all x = record x { knowledge = Heard; parts = map ended x.parts }

-- with one part that has ended by this end
abbrev pub decided : Seen → ℕ → End → Part → Seen
decided x i e part = parts_with x i (only e part)

-- after a timeout
abbrev pub timed_out : Own → ℕ → Seen → ℕ → Own
timed_out own place x timeout =
    record (with_seen own place (record (after_expiry x) { phase = Joined })) {
      frame = goes own.frame timeout 0 [];
    }

-- after an interrupt
abbrev pub attempted : Own → ℕ → Seen → ℕ → Own
attempted own place x to_i =
    record (with_seen own place (record x { phase = Attempted })) {
      frame = goes own.frame to_i 0 [];
    }

-- ---- case

-- has the part ended by an end that counts, whichever it was?
abbrev pub is_sure : Joiner → Part → Bool
is_sure j part =
    not part.is_open && not (list_any (λ (way : Way). not (is_trigger j way.end)) part.ways)

-- known to be cancelled, if as many parts as cancel it have ended by ends that count
abbrev pub settled : Seen → Seen
settled x =
    if is_unseen x.knowledge && nat_le (most x.joiner) (count_by (is_sure x.joiner) x.parts)
    then after_cancel x else x

-- after the owner saw that a part has ended by an end of this kind
abbrev pub told : Seen → ℕ → Part → Bool → (End → Bool) → Seen
told x i part counting test = settled (parts_with x i (kept (split x.joiner counting test) part))

abbrev pub saw_failure : Seen → Seen
saw_failure x = record x { has_failure = true }

-- ---- answers

-- after `tally` gave this number
abbrev pub counted : Kind → ℕ → Seen → Seen
counted S n x = record x { asked = record x.asked { successes = Some n } }
counted F n x = record x { asked = record x.asked { failures = Some n } }
counted U n x = record x { asked = record x.asked { unavailable = Some n } }

-- after `total` gave this sum
abbrev pub summed : ℤ → Seen → Seen
summed sum x = record x { asked = record x.asked { total = Some sum } }

-- ---- what a state has

-- the slot holds the open scope at this place
pub record Owns (own : Own) (x place : ℕ) (seen : Seen) : Type 0 where
  pub holds : held_at own x ≡ held.Own place
  pub there : at_place own.scopes place ≡ Some seen

-- the slot holds a part of an open scope
pub record Knows (own : Own) (h place : ℕ) (seen : Seen) (i : ℕ) (part : Part) : Type 0 where
  pub holds : held_at own h ≡ held.Sub place i
  pub there : at_place own.scopes place ≡ Some seen
  pub known : slice_get seen.parts i ≡ Some part

-- the part may have ended by this end
pub record MayEnd (seen : Seen) (i : ℕ) (part : Part) (e : End) : Type 0 where
  pub known : slice_get seen.parts i ≡ Some part
  pub way : HasWay part.ways e

-- a row of the table for this call, which has the call's beginning
pub record IsRowOf (t : Table) (row : Row) (c : Call) : Type 0 where
  pub there : Among t row
  pub call : row.call ≡ c
  pub begins : Among row.states (begin held.Lent c row.births)

-- ---- steps

-- from a state of a call by an instruction to another state
pub data Steps (p : Program) (outside : Outside) (c : Call) (own : Own) : Instr → Own → Type 0 where
  -- the frame, and a slot that is emptied
  local_step : {i : Instr} → stays_in_frame i ≡ true → Steps p outside c own i (alone p own i)
  read_step : {k : ℕ}
      → Steps p outside c own (Read k)
      (pushes own 0 (unwrap_or (read (bindings c own) k) (pos 0)))
  bound_step : {k : ℕ}
      → Steps p outside c own (Bound k)
      (pushes own 0 (truth (is_some (read (bindings c own) k))))
  or_else_step : {k : ℕ} → Steps p outside c own (OrElse k)
      (pushes own 1 (unwrap_or (read (bindings c own) k) (operand own.frame 0)))
  bind_step : {k : ℕ} → Steps p outside c own (Bind k) (to own (record (steps own.frame 1 []) {
    entries = entry.Binding k (operand own.frame 0) ∷ own.frame.entries;
  }))
  unbind_step : Steps p outside c own Unbind
      (to own (record (steps own.frame 0 []) { entries = drop 1 own.frame.entries }))
  -- whether the task was interrupted
  calm_step : Steps p outside c own Interrupted (pushes own 0 (truth false))
  interrupted_step : may_flag outside ≡ true
      → Steps p outside c own Interrupted (pushes own 0 (truth true))
  -- the scope that the task is in: a table that allows no cancel leaves out what the task does
  -- after it, since nobody sees that
  lent_step : {x : ℕ} → held_at own x ≡ held.Lent
      → Steps p outside c own (Cancelled x) (pushes own 0 (truth false))
  lent_cancelled_step : {x : ℕ} → held_at own x ≡ held.Lent → outside.cancels ≡ true
      → Steps p outside c own (Cancelled x) (pushes own 0 (truth true))
  going_step : {x : ℕ} (place : ℕ) (seen : Seen) (pick : List (Option End))
      → Owns own x place seen → is_cancelled seen.knowledge ≡ false → Fits seen pick
      → triggers seen.joiner (heard_in pick) < most seen.joiner
      → Steps p outside c own (Cancelled x) (pushes own 0 (truth false))
  cancelled_step : {x : ℕ} (place : ℕ) (seen : Seen) → Owns own x place seen
      → may_decide seen.knowledge ≡ true
      → Steps p outside c own (Cancelled x)
      (pushes (with_seen own place (after_cancel seen)) 0 (truth true))
  expired_step : {x : ℕ} (place : ℕ) (seen : Seen) → Owns own x place seen
      → may_be_late seen.knowledge ≡ true → seen.timed ≡ true
      → Steps p outside c own (Cancelled x)
      (pushes (with_seen own place (after_expiry seen)) 0 (truth true))
  -- scopes
  open_step : {x : ℕ} {joiner : Joiner} {timed : Bool}
      → Steps p outside c own (Open x timed joiner) (opened c own x joiner timed)
  -- no subtask runs in a scope that is known to be cancelled; in another one, see `IsTable`
  unstarted_step : {x g : ℕ} {h : Option ℕ} (place : ℕ) (seen : Seen)
      → Owns own x place seen → is_cancelled seen.knowledge ≡ true
      → Steps p outside c own (Fork x g h) (forked p own place seen [] g h)
  close_step : {x : ℕ} → Steps p outside c own (Close x) (closed own)
  -- `join` that is interrupted while a subtask lives and the scope is not cancelled
  attempted_step : {x to_i : ℕ} {failed timeout : Option ℕ} (place : ℕ) (seen : Seen)
      → may_flag outside ≡ true → Owns own x place seen → is_unseen seen.knowledge ≡ true
      → list_any (λ (part : Part). part.is_open) seen.parts ≡ true
      → Steps p outside c own (Join x failed timeout to_i) (attempted own place seen to_i)
  -- `join` of a scope that has expired
  timeout_step : {x to_i : ℕ} {failed timeout : Option ℕ} (place : ℕ) (seen : Seen)
      → Owns own x place seen → is_heard seen.knowledge ≡ false → seen.timed ≡ true
      → Steps p outside c own (Join x failed timeout to_i)
      (timed_out own place seen (unwrap_or timeout 0))
  -- `join` of a cancelled scope: one end decided, if the joiner's answer can be a failure, or as
  -- many as the joiner waits for
  by_one_step : {x to_i : ℕ} {failed timeout : Option ℕ} (place : ℕ) (seen : Seen) (i : ℕ)
      (part : Part) (e : End)
      → Owns own x place seen → may_decide seen.knowledge ≡ true → can_fail seen.joiner ≡ true
      → MayEnd seen i part e → is_trigger seen.joiner e ≡ true
      → Steps p outside c own (Join x failed timeout to_i)
      (joined own place (decided (after_cancel seen) i e part)
      (result_of seen.joiner (e ∷ []) (length seen.parts)) (unwrap_or failed 0))
  by_count_step : {x to_i : ℕ} {failed timeout : Option ℕ} (place : ℕ) (seen : Seen)
      → Owns own x place seen → may_decide seen.knowledge ≡ true → is_until seen.joiner ≡ true
      → Steps p outside c own (Join x failed timeout to_i)
      (joined own place (after_cancel seen) (result_of seen.joiner [] (length seen.parts))
      (unwrap_or failed 0))
  -- `join` after all subtasks ended: nothing decided; under `any` one failure is reported
  heard_step : {x to_i : ℕ} {failed timeout : Option ℕ} (place : ℕ) (seen : Seen)
      → Owns own x place seen → is_cancelled seen.knowledge ≡ false
      → (is_any seen.joiner ≡ true → seen.parts ≡ [])
      → Steps p outside c own (Join x failed timeout to_i)
      (joined own place (after_all seen) (result_of seen.joiner [] (length seen.parts))
      (unwrap_or failed 0))
  none_step : {x to_i : ℕ} {failed timeout : Option ℕ} (place : ℕ) (seen : Seen) (i : ℕ)
      (part : Part) (e : End)
      → Owns own x place seen → is_cancelled seen.knowledge ≡ false → is_any seen.joiner ≡ true
      → MayEnd seen i part e → is_failure e ≡ true → part.is_early ≡ true
      → Steps p outside c own (Join x failed timeout to_i)
      (joined own place (decided (after_all seen) i e part)
      (result_of seen.joiner (e ∷ []) (length seen.parts)) (unwrap_or failed 0))
  -- a subtask
  success_step : {h succeeded failed : ℕ} (place : ℕ) (seen : Seen) (i : ℕ) (part : Part)
      (counting : Bool) → Knows own h place seen i part
      → Steps p outside c own (Case h succeeded failed)
      (to (with_seen own place (told seen i part counting is_success))
      (goes own.frame succeeded 0 []))
  failure_step : {h succeeded failed : ℕ} (place : ℕ) (seen : Seen) (i : ℕ) (part : Part)
      (counting : Bool) → Knows own h place seen i part
      → Steps p outside c own (Case h succeeded failed)
      (to (with_seen own place (told (saw_failure seen) i part counting is_failure))
      (goes own.frame failed 0 []))
  missed_step : {h succeeded failed : ℕ} (place : ℕ) (seen : Seen) (i : ℕ) (part : Part)
      → Knows own h place seen i part → part.is_open ≡ true
      → Steps p outside c own (Case h succeeded failed)
      (to (with_part own place seen i (missed seen.knowledge seen.has_failure part))
      (goes own.frame (own.frame.pc + 1) 0 []))
  get_step : {h : ℕ} (place : ℕ) (seen : Seen) (i : ℕ) (part : Part) (v : ℤ)
      → Knows own h place seen i part → HasWay part.ways (Success v)
      → Steps p outside c own (Get h)
      (pushes (with_part own place seen i (only (Success v) part)) 0 v)
  except_step : {h : ℕ} (place : ℕ) (seen : Seen) (i : ℕ) (part : Part) (v : ℤ)
      → Knows own h place seen i part → HasWay part.ways (Failed v)
      → Steps p outside c own (Except h)
      (pushes (with_part own place seen i (only (Failed v) part)) 0 v)
  -- a count, a sum: of some pick
  tally_step : {x : ℕ} {kind : Kind} (place : ℕ) (seen : Seen) (pick : List (Option End))
      → Owns own x place seen → Fits seen pick
      → Steps p outside c own (Tally x kind) (pushes
      (with_seen own place (counted kind (count_by (is_kind kind) pick) seen)) 0
      (pos (count_by (is_kind kind) pick)))
  total_step : {x : ℕ} (place : ℕ) (seen : Seen) (pick : List (Option End))
      → Owns own x place seen → Fits seen pick
      → Steps p outside c own (Total x) (pushes
      (with_seen own place (summed (total_of (heard_in pick)) seen)) 0 (total_of (heard_in pick)))

-- ---- a table that has all steps

-- a state that is possible is among these, where at least `born` of the births that were left are
-- taken
abbrev pub LeadsBy : ℕ → List Own → Own → Type 0
LeadsBy born states next =
    ArePossible next.scopes
    → (k : ℕ) × (born + k ≤ next.left) × Among states (record next { left = k })

-- a state that is possible is among these, perhaps with fewer births left
abbrev pub Leads : List Own → Own → Type 0
Leads states next = LeadsBy 0 states next

-- the births by an instruction, apart from those of the new task of a `fork`
abbrev pub born_by : Outside → Instr → ℕ
born_by outside (Open x timed joiner) = per_birth outside
born_by outside (Fork x g h) = per_birth outside
born_by outside _ = 0

-- a `fork`: the call has a row, and the state with a new part, which has the ways of that row, is
-- among these
pub record Forks (p : Program) (outside : Outside) (t : Table) (states : List Own) (own : Own)
    (x g : ℕ) (h : Option ℕ) (place : ℕ) (seen : Seen) : Type 0 where
  pub row : Row
  pub is_row : IsRowOf t row (call_of p own seen g)
  pub leads : LeadsBy (per_birth outside + row.births) states
      (forked p own place seen row.ways g h)

-- the end of a task by its last instruction
abbrev pub end_by : Instr → Frame → Option End
end_by Ret f = Some (Success (operand f 0))
end_by Fail f = Some (Failed (operand f 0))
end_by _ f = None

-- the call of the root task
abbrev pub root_call : Program → Call
root_call p = record { function = length p.routines - 1; args = []; environment = [] }

pub record IsTable (p : Program) (outside : Outside) (t : Table) (root : Row) : Type 0 where
  -- the root's call begins; its slot 0 is empty
  pub listed : Among t root
  pub call : root.call ≡ root_call p
  pub begins : Among root.states (begin held.Empty (root_call p) root.births)
  -- each fork has a row for its call, unless its scope is known to be cancelled
  pub forks : (row : Row) (own : Own) (x g place : ℕ) (h : Option ℕ) (seen : Seen) → Among t row
      → Among row.states own → instr_at p own.frame ≡ Some (Fork x g h) → Owns own x place seen
      → is_cancelled seen.knowledge ≡ false → Forks p outside t row.states own x g h place seen
  -- each step to a state that is possible leads to a state of the row
  pub closed : (row : Row) (own next : Own) (i : Instr) → Among t row → Among row.states own
      → instr_at p own.frame ≡ Some i → Steps p outside row.call own i next
      → LeadsBy (born_by outside i) row.states next
  -- each end is a way of the row
  pub ends : (row : Row) (own : Own) (i : Instr) (e : End) → Among t row → Among row.states own
      → instr_at p own.frame ≡ Some i → end_by i own.frame ≡ Some e → HasWay row.ways e
