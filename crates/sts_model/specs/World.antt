-- The state of the plain machine: all tasks and all scopes that were ever born, by birth number.
-- Restates "Description" of JEP 505 (a scope, its owner and its subtasks). It is this project's own
-- that nothing is ever forgotten.
use Rattle.std.specs.Prelude.{ℕ, ◌-◌, ℤ, pos, List, [], ◌∷◌, ◌++◌, length, Bool, true, false}
use Rattle.std.specs.Prelude.{Option, None, replicate, slice_get, slice_set, slice_index_or}
use Rattle.sts_code.specs.Program.{Program, routine}
use Rattle.sts_code.specs.declared.instr.Instr.{Instr}
use Rattle.sts_code.specs.declared.instr.Joiner.{Joiner}
use Rattle.sts_code.specs.declared.instr.Joiner.TheVariants.{AwaitAll}
use Rattle.sts_model.specs.declared.record.Slot.{Slot}
use Rattle.sts_model.specs.declared.record.Slot.TheVariants.{Empty}
use Rattle.sts_model.specs.declared.record.Frame.{Frame}
use Rattle.sts_model.specs.declared.record.Task.{Task}
use Rattle.sts_model.specs.declared.record.Scope.{Scope}
use Rattle.sts_model.specs.declared.record.Bound.{Bound}
use Rattle.sts_model.specs.declared.event.Phase.TheVariants.{Opened, Closed}
use Rattle.sts_model.specs.declared.event.Fault.{Fault}

pub record World : Type 0 where
  pub tasks : List Task
  pub scopes : List Scope

-- a state runs, or a task has faulted at an instruction of a function
pub data State : Type 0 where
  Running : World → State
  Faulted : (kind : Fault) (task function pc : ℕ) → State

-- ---- a program

-- the instructions of the frame's function
abbrev pub code : Program → Frame → List Instr
code p f = (routine p f.function).code

-- the instruction that is next, or none at the end of the function
abbrev pub instr_at : Program → Frame → Option Instr
instr_at p f = slice_get (code p f) f.pc

-- ---- tasks and scopes

-- the arguments in order, and zeros after them
abbrev pub entry_locals : List ℤ → List ℤ
entry_locals args = args ++ replicate (16 - length args) (pos 0)

-- the frame at the beginning of a function, with these arguments, and this in slot 0
abbrev pub entry_frame : ℕ → List ℤ → Slot → Frame
entry_frame function args slot =
    record {
      function = function;
      pc = 0;
      operands = [];
      locals = entry_locals args;
      loops = [];
      entries = [];
      slots = slot ∷ replicate 15 Empty;
    }

-- the task that is read if no task has this birth number
abbrev pub no_task : Task
no_task =
    record {
      frame = entry_frame 0 [] Empty;
      started = false;
      flag = false;
      scope = None;
      outcome = None;
    }

-- a scope that was just opened, with the environment of its owner
abbrev pub fresh_scope : ℕ → Joiner → Bool → List Bound → Scope
fresh_scope owner joiner timed environment =
    record {
      owner = owner;
      joiner = joiner;
      timed = timed;
      phase = Opened;
      cancelled = false;
      expired = false;
      completions = [];
      environment = environment;
    }

-- the scope that is read if no scope has this birth number; it is closed, so nothing can be done
-- with it
abbrev pub no_scope : Scope
no_scope = record (fresh_scope 0 AwaitAll false []) { phase = Closed }

-- the task, the scope of this birth number
abbrev pub task_at : World → ℕ → Task
task_at w t = slice_index_or w.tasks t no_task

abbrev pub scope_at : World → ℕ → Scope
scope_at w s = slice_index_or w.scopes s no_scope

-- the world with one task, one scope, one frame changed
abbrev pub with_task : World → ℕ → Task → World
with_task w t task = record w { tasks = slice_set w.tasks t task }

abbrev pub with_scope : World → ℕ → Scope → World
with_scope w s scope = record w { scopes = slice_set w.scopes s scope }

abbrev pub with_frame : World → ℕ → Frame → World
with_frame w t f = with_task w t (record (task_at w t) { frame = f })

-- ---- the beginning

-- the root task of the last function, `main`
abbrev pub opening : Program → State
opening p =
    Running (record {
      tasks = record {
        frame = entry_frame (length p.routines - 1) [] Empty;
        started = true;
        flag = false;
        scope = None;
        outcome = None;
      } ∷ [];
      scopes = [];
    })
