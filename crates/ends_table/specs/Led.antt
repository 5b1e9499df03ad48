-- What a check of one state of a row shows: each step leads to a state of the row (this project's
-- own).
use Rattle.std.specs.Prelude.{◌≡◌, ℕ, ◌+◌, ℤ, List, [], ◌∷◌, length, Bool, true, false, Option}
use Rattle.std.specs.Prelude.{Some, All, ◌&&◌}
use Rattle.std.specs.List.{list_any}
use Rattle.sts_code.specs.Facts.{can_fail, is_until}
use Rattle.sts_code.specs.Program.{Program}
use Rattle.sts_code.specs.declared.instr.Instr.{Instr}
use Rattle.sts_code.specs.declared.instr.Instr.TheVariants.{Fork, Get, Except}
use Rattle.sts_model.specs.declared.event.End.{End}
use Rattle.sts_model.specs.declared.event.End.TheVariants.{Success, Failed}
use Rattle.sts_model.specs.Joining.{is_success, is_failure, result_of}
use Rattle.sts_model.specs.Local.{truth, goes}
use Rattle.sts_model.specs.World.{instr_at}
use Rattle.laws_calls.specs.declared.table.Held.TheVariants as held
use Rattle.laws_calls.specs.declared.table.Outside.{Outside}
use Rattle.laws_calls.specs.Tasks.{Among, HasWay, begin}
use Rattle.laws_calls.specs.declared.table.Part.{Part}
use Rattle.laws_calls.specs.declared.table.Seen.{Seen}
use Rattle.laws_calls.specs.declared.table.Own.{Own}
use Rattle.laws_calls.specs.declared.table.Call.{Call}
use Rattle.laws_calls.specs.Steps.{Table, Steps, Leads, LeadsBy, born_by, Forks, Owns, MayEnd, is_cancelled}
use Rattle.laws_calls.specs.declared.table.Row.{Row}
use Rattle.laws_calls.specs.Steps.{may_decide, may_be_late, is_heard, is_any}
use Rattle.laws_calls.specs.Steps.{is_unseen, attempted}
use Rattle.laws_calls.specs.Steps.{pushes, to, with_seen, with_part, after_cancel, after_expiry}
use Rattle.laws_calls.specs.Steps.{after_all, decided, timed_out, joined, told, saw_failure, missed}
use Rattle.laws_calls.specs.Steps.{only, end_by, IsTable, root_call}
use Rattle.laws_calls.specs.Triggers.{is_trigger}
use Rattle.ends_table.specs.declared.around.Around.{Around}
use Rattle.ends_table.specs.declared.joins.Deciding.{Deciding}
use Rattle.ends_table.specs.declared.joins.Deciding.TheVariants.{Counting, Failing}

-- each step leads to a state that is there, or to one that isn't possible
abbrev pub AllLead : Program → Outside → Call → List Own → Own → Instr → Type 0
AllLead p outside c states own i =
    (next : Own) → Steps p outside c own i next → LeadsBy (born_by outside i) states next

-- the same for a state of a row
abbrev pub LeadsOn : Around → Instr → Type 0
LeadsOn a i = AllLead a.program.now a.outside a.call.now a.states.now a.own.now i

-- ---- kinds of ends

-- is the end a success, or a failure?
abbrev pub of_kind : Bool → End → Bool
of_kind true e = is_success e
of_kind false e = is_failure e

-- may this end of the part decide what a `join` answers?
abbrev pub decides : Deciding → Seen → Part → End → Bool
decides Counting seen part e = is_trigger seen.joiner e
decides Failing seen part e = part.is_early && is_failure e

-- the value, or the code of the failure
abbrev pub value_in : End → ℤ
value_in (Success v) = v
value_in (Failed c) = c

-- the scope, after its owner saw a failure if there was one
abbrev pub noted : Bool → Seen → Seen
noted true x = x
noted false x = saw_failure x

-- a `get`, or an `except`
abbrev pub read_of : Bool → ℕ → Instr
read_of true x = Get x
read_of false x = Except x

-- ---- instructions

-- 0 is pushed, or else 1, if that may be
pub record AnswersLead (states : List Own) (own : Own) (may : Bool) : Type 0 where
  pub no : Leads states (pushes own 0 (truth false))
  pub yes : may ≡ true → Leads states (pushes own 0 (truth true))

-- `cancelled` of a scope at this place
pub record LooksLead (states : List Own) (own : Own) (place : ℕ) (seen : Seen) : Type 0 where
  pub going : is_cancelled seen.knowledge ≡ false → Leads states (pushes own 0 (truth false))
  pub cancelled : may_decide seen.knowledge ≡ true
      → Leads states (pushes (with_seen own place (after_cancel seen)) 0 (truth true))
  pub expired : may_be_late seen.knowledge ≡ true → seen.timed ≡ true
      → Leads states (pushes (with_seen own place (after_expiry seen)) 0 (truth true))

-- `join` that is interrupted
abbrev pub AttemptLeads : List Own → Own → ℕ → Seen → ℕ → Type 0
AttemptLeads states own place seen to_i =
    is_unseen seen.knowledge ≡ true → list_any (λ (part : Part). part.is_open) seen.parts ≡ true
    → Leads states (attempted own place seen to_i)

-- `join` after this end of a part decided; the scope is as it is apart from that
abbrev pub DecidedLeads : List Own → Own → ℕ → Seen → ℕ → ℕ → Part → End → Type 0
DecidedLeads states own place seen failed i part e =
    Leads states (joined own place (decided seen i e part)
    (result_of seen.joiner (e ∷ []) (length seen.parts)) failed)

-- the end cancelled the scope
abbrev pub OneLeads : List Own → Own → ℕ → Seen → ℕ → ℕ → Part → End → Type 0
OneLeads states own place seen failed i part e =
    DecidedLeads states own place (after_cancel seen) failed i part e

-- all parts failed, and this end was the first
abbrev pub FirstLeads : List Own → Own → ℕ → Seen → ℕ → ℕ → Part → End → Type 0
FirstLeads states own place seen failed i part e =
    Leads states (joined own place (decided (after_all seen) i e part)
    (result_of seen.joiner (e ∷ []) (length seen.parts)) failed)

-- `join` of a scope at this place
pub record JoinsLead (states : List Own) (own : Own) (place : ℕ) (seen : Seen)
    (failed timeout : ℕ) : Type 0 where
  pub late : is_heard seen.knowledge ≡ false → seen.timed ≡ true
      → Leads states (timed_out own place seen timeout)
  pub by_one : may_decide seen.knowledge ≡ true → can_fail seen.joiner ≡ true → (i : ℕ)
      → (part : Part) → (e : End) → MayEnd seen i part e → is_trigger seen.joiner e ≡ true
      → OneLeads states own place seen failed i part e
  pub by_count : may_decide seen.knowledge ≡ true → is_until seen.joiner ≡ true
      → Leads states (joined own place (after_cancel seen)
      (result_of seen.joiner [] (length seen.parts)) failed)
  pub heard : is_cancelled seen.knowledge ≡ false → (is_any seen.joiner ≡ true → seen.parts ≡ [])
      → Leads states (joined own place (after_all seen)
      (result_of seen.joiner [] (length seen.parts)) failed)
  pub none : is_cancelled seen.knowledge ≡ false → is_any seen.joiner ≡ true → (i : ℕ)
      → (part : Part) → (e : End) → MayEnd seen i part e → is_failure e ≡ true
      → part.is_early ≡ true → FirstLeads states own place seen failed i part e

-- `case` that saw an end of this kind
abbrev pub KindLeads : List Own → Own → ℕ → Seen → ℕ → Part → Bool → Bool → ℕ → Type 0
KindLeads states own place seen i part succeeds counting target =
    Leads states (to (with_seen own place (told (noted succeeds seen) i part counting
    (of_kind succeeds))) (goes own.frame target 0 []))

-- `case` of a part that had not ended
abbrev pub MissedLeads : List Own → Own → ℕ → Seen → ℕ → Part → Type 0
MissedLeads states own place seen i part =
    part.is_open ≡ true → Leads states
    (to (with_part own place seen i (missed seen.knowledge seen.has_failure part))
    (goes own.frame (own.frame.pc + 1) 0 []))

-- `case` of a part of a scope at this place
pub record CasesLead (states : List Own) (own : Own) (place : ℕ) (seen : Seen) (i : ℕ) (part : Part)
    (succeeded failed : ℕ) : Type 0 where
  pub success : (counting : Bool) → KindLeads states own place seen i part true counting succeeded
  pub failure : (counting : Bool) → KindLeads states own place seen i part false counting failed
  pub unended : MissedLeads states own place seen i part

-- a part whose value is read, if it ended by this end
abbrev pub EndLeads : List Own → Own → ℕ → Seen → ℕ → Part → Bool → End → Type 0
EndLeads states own place seen i part succeeds e =
    of_kind succeeds e ≡ true
    → Leads states (pushes (with_part own place seen i (only e part)) 0 (value_in e))

-- a part whose value is read
abbrev pub ReadsLead : List Own → Own → ℕ → Seen → ℕ → Part → Bool → Type 0
ReadsLead states own place seen i part succeeds =
    (e : End) → HasWay part.ways e → EndLeads states own place seen i part succeeds e

-- `fork` in a scope at this place that is not known to be cancelled
abbrev pub Starts : Around → ℕ → Seen → ℕ → Option ℕ → Type 0
Starts a place seen g h =
    (x : ℕ) → Forks a.program.now a.outside a.table.now a.states.now a.own.now x g h place seen

-- the same for the instruction, if it is a `fork`
abbrev pub StartsOn : Around → Instr → Type 0
StartsOn a i =
    (x g place : ℕ) (h : Option ℕ) (seen : Seen) → i ≡ Fork x g h → Owns a.own.now x place seen
    → is_cancelled seen.knowledge ≡ false → Starts a place seen g h

-- ---- a state, a row

-- what a table owes at a state whose next instruction is a `fork`
abbrev pub ForksLead : Program → Outside → Table → Row → Own → Instr → Type 0
ForksLead p outside t row own i =
    (x g place : ℕ) (h : Option ℕ) (seen : Seen) → i ≡ Fork x g h → Owns own x place seen
    → is_cancelled seen.knowledge ≡ false → Forks p outside t row.states own x g h place seen

-- all that a table owes at a state of a row whose next instruction is this
pub record IsLed (p : Program) (outside : Outside) (t : Table) (row : Row) (own : Own) (i : Instr)
    : Type 0 where
  pub forks : ForksLead p outside t row own i
  pub closed : AllLead p outside row.call row.states own i
  pub ends : (e : End) → end_by i own.frame ≡ Some e → HasWay row.ways e

abbrev pub IsLedAt : Program → Outside → Table → Row → Own → Type 0
IsLedAt p outside t row own =
    (i : Instr) → instr_at p own.frame ≡ Some i → IsLed p outside t row own i

abbrev pub IsLedRow : Program → Outside → Table → Row → Type 0
IsLedRow p outside t row = All (IsLedAt p outside t row) row.states

-- the row is that of the root's call
pub record IsRoot (p : Program) (root : Row) : Type 0 where
  pub call : root.call ≡ root_call p
  pub begins : Among root.states (begin held.Empty (root_call p) root.births)

-- the table is closed, and its first row is the root's
abbrev pub IsClosed : Program → Outside → Table → Type 0
IsClosed p outside [] = Unit {0}
IsClosed p outside (root ∷ rows) = IsTable p outside (root ∷ rows) root
