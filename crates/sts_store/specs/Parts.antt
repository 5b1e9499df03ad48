-- The parts of a store, the live view that they make up together, and what that view doesn't show
-- (this project's own).
use Rattle.std.specs.Prelude.{ℕ, List, [], ◌∷◌, map, Option, Some, None, option_map, unwrap_or}
use Rattle.std.specs.Prelude.{Bool, false, ◌&&◌, slice_index_or, slice_set}
use Rattle.sts_env.specs.Environments.{Records, list_of}
use Rattle.sts_env.specs.declared.env.Env.{Env}
use Rattle.sts_tree.specs.Forest.{Forest}
use Rattle.sts_tree.specs.declared.record.TaskNode.{TaskNode}
use Rattle.sts_records.specs.Holes.{Holes}
use Rattle.sts_model.specs.declared.event.End.{End}
use Rattle.sts_model.specs.declared.event.Stand.{Stand}
use Rattle.sts_model.specs.declared.event.Stand.TheVariants.{Free}
use Rattle.sts_model.specs.declared.record.Frame.{Frame}
use Rattle.sts_model.specs.Live.{Live}
use Rattle.laws_live.specs.Reading.{alive_at, lives_in, no_alive}
use Rattle.laws_live.specs.Waiting.{live_can_go}
use Rattle.sts_store.specs.View.{Beside, view_of}
use Rattle.sts_store.specs.declared.running.Running.{Running}

-- the tree, the frames of the living tasks by birth, the records of bindings, and the root's end
pub record Parts : Type 0 where
  pub tree : Forest Env
  pub frames : Holes Running
  pub chains : Records
  pub root_end : Option End

-- ---- the live view

-- the frame that is read if no living task has one
abbrev pub no_running : Running
no_running = record { frame = no_alive.frame; env = record { front = None; length = 0 } }

-- what the task of this birth has
abbrev pub running_at : Parts → ℕ → Running
running_at m t = unwrap_or (slice_index_or m.frames.slots t None) no_running

-- the parts outside the tree
abbrev pub beside : Parts → Beside Env
beside m =
    record {
      frame = λ t. (running_at m t).frame;
      bindings = λ t. list_of m.chains (running_at m t).env;
      kept = list_of m.chains;
      root_end = m.root_end;
    }

-- what can be asked of the parts
abbrev pub live_of : Parts → Live
live_of m = view_of (beside m) m.tree

-- the frame of a living task
abbrev pub frame_of : Parts → ℕ → Frame
frame_of m t = (alive_at (live_of m) t).frame

-- the root task at this frame, with nothing bound, and nothing else
abbrev pub root_alone : Frame → Live
root_alone frame =
    record {
      tasks = Some (record {
        scope = None;
        state = None;
        alive = Some (record { frame = frame; flag = false; environment = [] });
      }) ∷ [];
      scopes = [];
      root_end = None;
    }

-- ---- what the view doesn't show

abbrev pub stand_of : TaskNode → Stand
stand_of x = x.stand

-- the scope that is recorded for each task, the keys that births were given, and how many more fit
pub record Unseen : Type 0 where
  pub stands : List (Option Stand)
  pub task_keys : List ℕ
  pub scope_keys : List ℕ
  pub task_room : ℕ
  pub frame_room : ℕ
  pub scope_room : ℕ
  pub binding_room : ℕ

abbrev pub unseen_of : Parts → Unseen
unseen_of m =
    record {
      stands = map (option_map stand_of) m.tree.tasks;
      task_keys = m.tree.task_keys;
      scope_keys = m.tree.scope_keys;
      task_room = m.tree.task_room;
      frame_room = m.frames.room;
      scope_room = m.tree.scope_room;
      binding_room = m.chains.room;
    }

-- the scope that is recorded for a task; a task that doesn't count is at none
abbrev pub stand_in : Unseen → ℕ → Stand
stand_in u t = unwrap_or (slice_index_or u.stands t None) Free

-- it is recorded at which scope a task is
abbrev pub stood_unseen : Unseen → ℕ → Stand → Unseen
stood_unseen u t stand = record u { stands = slice_set u.stands t (Some stand) }

-- may the task take its next step, by the scope that is recorded for it?
abbrev pub can_go_on : Parts → ℕ → Bool
can_go_on m t = lives_in (live_of m) t && live_can_go (live_of m) t (stand_in (unseen_of m) t)
