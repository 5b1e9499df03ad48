-- Walks on the plain machine (this project's own).
use Rattle.std.specs.Prelude.{◌≡◌, ℕ, List, [], ◌∷◌, ◌++◌, true}
use Rattle.sts_model.specs.declared.event.Event.{Event}
use Rattle.ends_search.specs.Search.{IsWay}
use Rattle.ends_plain.specs.declared.config.Setting.{Setting}
use Rattle.ends_plain.specs.Configs.{next, can, start}
use Rattle.look_calls.specs.Calls.{IsForked}
use Rattle.look_calls.specs.declared.checked.Forked.{Forked}
use Rattle.look_calls.specs.declared.walk.Walk.{Walk}

-- the events of the walk lead from the start to its state
abbrev pub IsWalk : Setting → Walk → Type 0
IsWalk g w = IsWay (next g) (can g) (start g) w.trace.items w.config

-- the walk after one event more, which can come
pub record IsNext (g : Setting) (w : Walk) (e : Event) (after : Walk) : Type 0 where
  pub comes : can g w.config e ≡ true
  pub leads : after.config ≡ next g w.config e
  pub trace : after.trace.items ≡ w.trace.items ++ e ∷ []

-- the walk after some events more
pub record GoesOn (g : Setting) (w after : Walk) : Type 0 where
  pub later : List Event
  pub trace : after.trace.items ≡ w.trace.items ++ later
  pub walk : IsWalk g after

-- the last event of the walk forks the task
pub record IsForkedBy (g : Setting) (t : ℕ) (f : Forked) : Type 0 where
  pub walk : IsWalk g f.walk
  pub forked : IsForked g.program f.walk.trace.items t f.function f.arguments.items
