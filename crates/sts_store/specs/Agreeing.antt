-- The changes of a forest, and those of its live view (this project's own).
use Rattle.std.specs.Prelude.{◌≡◌, ℕ, List, [], ◌∷◌, ◌++◌, length, Bool, true, Some}
use Rattle.std.specs.Prelude.{None, ◌==◌, if◌then◌else◌, slice_index_or, ◌&&◌}
use Rattle.laws_live.specs.Waiting.{live_can_go}
use Rattle.sts_code.specs.declared.instr.Joiner.{Joiner}
use Rattle.sts_model.specs.declared.event.End.{End}
use Rattle.sts_model.specs.declared.event.Phase.{Phase}
use Rattle.sts_model.specs.declared.event.Stand.{Stand}
use Rattle.sts_model.specs.Live.{LiveScope, Alive, shown_scope}
use Rattle.sts_model.specs.World.{fresh_scope}
use Rattle.sts_joiners.specs.Tallied.{with_end}
use Rattle.sts_tree.specs.Births.{births}
use Rattle.sts_tree.specs.Forest.{Forest, any_lives, is_of, closed, opened, subtask}
use Rattle.sts_tree.specs.declared.record.TaskNode.{TaskNode}
use Rattle.sts_tree.specs.declared.record.ScopeNode.{ScopeNode}
use Rattle.sts_tree.specs.Ending.{asks_ended, ended, gone}
use Rattle.sts_tree.specs.Ending as ending
use Rattle.sts_tree.specs.Reading.{lives_at}
use Rattle.sts_tree.specs.Steps.{seen, with_task, with_scope, can_step}
use Rattle.sts_cancel.specs.Cancelling.{cancel, expire}
use Rattle.laws_live.specs.Reading.{with_alive, with_live_scope, with_live_phase, lives_in}
use Rattle.laws_live.specs.Reading.{live_any_lives, live_count}
use Rattle.laws_live.specs.Cancelling.{live_cancel}
use Rattle.laws_live.specs.Effect.{live_gone, live_told, live_ended, live_tell}
use Rattle.sts_store.specs.View.{Beside, alive_of, view_of}

-- the parts outside the forest after a task ends
abbrev pub at_end : {E : Type 0} → Beside E → ℕ → End → Beside E
at_end b t end = record b { root_end = if t == 0 then Some end else b.root_end }

-- the forest has this task at this birth
abbrev pub TaskAt : {E : Type 0} → Forest E → ℕ → TaskNode → Type 0
TaskAt f t x = slice_index_or f.tasks t None ≡ Some x

-- the forest has this scope at this birth
abbrev pub ScopeAt : {E : Type 0} → Forest E → ℕ → ScopeNode E → Type 0
ScopeAt f s c = slice_index_or f.scopes s None ≡ Some c

-- a task of s has ended, and the scope is cancelled if its joiner asks for it
abbrev pub decided : {E : Type 0} → Forest E → ℕ → TaskNode → End → ℕ → ScopeNode E → Forest E
decided f t x end s c =
    if asks_ended f x end
    then cancel (ended f t x end) s (record c { tally = with_end c.tally end })
    else ended f t x end

-- the live view after a change of the forest is the live view's own change; what is read from both
-- is the same
pub record WordsAgree (E : Type 0) : Type 0 where
  pub same : (b : Beside E) (f g : Forest E) → seen f ≡ seen g → view_of b f ≡ view_of b g
  pub flag : (b : Beside E) (f : Forest E) (t : ℕ) (x : TaskNode) (flag : Bool) → TaskAt f t x →
      view_of b (with_task f t (record x { flag = flag }))
      ≡ with_alive (view_of b f) t (λ (alive : Alive). record alive { flag = flag })
  pub stand : (b : Beside E) (f : Forest E) (t : ℕ) (x : TaskNode) (stand : Stand) → TaskAt f t x →
      view_of b (with_task f t (record x { stand = stand })) ≡ view_of b f
  pub phase : (b : Beside E) (f : Forest E) (s : ℕ) (c : ScopeNode E) (phase : Phase) →
      ScopeAt f s c → view_of b (with_scope f s (record c { phase = phase }))
      ≡ with_live_phase (view_of b f) s phase
  pub cancel_is : (b : Beside E) (f : Forest E) (s : ℕ) (c : ScopeNode E) → ScopeAt f s c →
      view_of b (cancel f s c) ≡ live_cancel (view_of b f) s
  pub expire_is : (b : Beside E) (f : Forest E) (s : ℕ) (c : ScopeNode E) → ScopeAt f s c →
      view_of b (expire f s c)
      ≡ live_cancel (with_live_scope (view_of b f) s
      (λ (scope : LiveScope). record scope { expired = true })) s
  pub close_is : (b : Beside E) (f : Forest E) (s : ℕ) →
      view_of b (closed f s) ≡ live_gone (view_of b f) s
  pub gone_is : (b : Beside E) (f : Forest E) (t : ℕ) (x : TaskNode) (end : End) → TaskAt f t x →
      view_of (at_end b t end) (gone f t x) ≡ live_ended (view_of b f) t end
  pub told_is : (b : Beside E) (f : Forest E) (t s : ℕ) (x : TaskNode) (c : ScopeNode E) (end : End) →
      TaskAt f t x → ScopeAt f s c → view_of (at_end b t end) (ending.told f t x end s c)
      ≡ live_told (live_ended (view_of b f) t end) t s end
  pub fork_is : (b : Beside E) (f : Forest E) (s : ℕ) (lives : Bool) (keys : List ℕ) (room : ℕ) →
      view_of b (record f {
        tasks = f.tasks ++ Some (subtask s lives) ∷ [];
        task_keys = keys;
        task_room = room;
      })
      ≡ record (view_of b f) {
        tasks = (view_of b f).tasks
            ++ Some (record {
              scope = Some s;
              state = None;
              alive = alive_of b (length f.tasks) (subtask s lives);
            }) ∷ [];
      }
  pub open_is : (b : Beside E) (f : Forest E) (owner : ℕ) (joiner : Joiner)
      (timed : Bool) (environment : E) (keys : List ℕ) (room : ℕ) →
      view_of b (record f {
        scopes = f.scopes ++ Some (opened owner joiner timed environment) ∷ [];
        scope_keys = keys;
        scope_room = room;
      })
      ≡ record (view_of b f) {
        scopes = (view_of b f).scopes
            ++ Some (shown_scope (fresh_scope owner joiner timed (b.kept environment))) ∷ [];
      }
  pub lives_is : (b : Beside E) (f : Forest E) (t : ℕ) → lives_in (view_of b f) t ≡ lives_at f t
  pub root_is : (b : Beside E) (f : Forest E) (t : ℕ) (x : TaskNode) (end : End) → TaskAt f t x →
      x.scope ≡ None → view_of (at_end b t end) (ended f t x end)
      ≡ live_tell (live_ended (view_of b f) t end) t None end
  pub end_is : (b : Beside E) (f : Forest E) (t s : ℕ) (x : TaskNode) (c : ScopeNode E) (end : End) →
      TaskAt f t x → x.scope ≡ Some s → ScopeAt f s c →
      view_of (at_end b t end) (decided f t x end s c)
      ≡ live_tell (live_ended (view_of b f) t end) t (Some s) end
  pub any_is : (b : Beside E) (f : Forest E) (s : ℕ) →
      live_any_lives (view_of b f) s ≡ any_lives f.tasks s
  pub count_is : (b : Beside E) (f : Forest E) (s : ℕ) →
      live_count (view_of b f) s ≡ length (births (is_of s) 0 f.tasks)
  pub step_is : (b : Beside E) (f : Forest E) (t : ℕ) (x : TaskNode) → TaskAt f t x →
      (lives_in (view_of b f) t && live_can_go (view_of b f) t x.stand) ≡ can_step f t
