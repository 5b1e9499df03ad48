-- The tasks and scopes that a column can show. They live or are open in the column before, or were
-- born since (this project's own).
use Rattle.std.specs.Prelude.{◌≡◌, ℕ, ◌-◌, ◌<◌, ◌≤◌, List, ◌++◌, length, Bool, true, false, not, filter, count_by, if◌then◌else◌}
use Rattle.std.specs.List.{range_with_len}
use Rattle.sts_model.specs.declared.record.Scope.{Scope}
use Rattle.sts_model.specs.Living.{is_closed, lives}
use Rattle.sts_model.specs.Misuse.{is_entry_of}
use Rattle.sts_model.specs.World.{World, scope_at, task_at}
use Rattle.look_drawing.specs.Place.{is_open_of}

-- birth numbers of tasks and scopes
pub record Numbers : Type 0 where
  pub tasks : List ℕ
  pub scopes : List ℕ

abbrev pub is_open : Scope → Bool
is_open scope = not (is_closed scope.phase)

-- those of them that live or are open in a world
abbrev pub kept : Numbers → World → Numbers
kept n w = record {
  tasks = filter (λ t. lives (task_at w t)) n.tasks;
  scopes = filter (λ s. is_open (scope_at w s)) n.scopes;
}

-- all that were born
abbrev pub born : World → Numbers
born w = record {
  tasks = range_with_len 0 (length w.tasks);
  scopes = range_with_len 0 (length w.scopes);
}

-- the tasks that live and the scopes that are open
abbrev pub present : World → Numbers
present w = kept (born w) w

-- also those that were born between two worlds
abbrev pub with_born : Numbers → World → World → Numbers
with_born n before w = record {
  tasks = n.tasks ++ range_with_len (length before.tasks) (length w.tasks - length before.tasks);
  scopes = n.scopes ++ range_with_len (length before.scopes) (length w.scopes - length before.scopes);
}

-- those that a column can show
abbrev pub shown : World → World → Numbers
shown before w = with_born (present before) before w

-- a world and a later one: nothing is lost, a task that doesn't live stays as it is, and a closed
-- scope stays closed
pub record Follows (before w : World) : Type 0 where
  pub tasks : length before.tasks ≤ length w.tasks
  pub scopes : length before.scopes ≤ length w.scopes
  pub resting : (t : ℕ) → t < length before.tasks → lives (task_at before t) ≡ false
      → task_at w t ≡ task_at before t
  pub closed : (s : ℕ) → s < length before.scopes
      → is_closed (scope_at before s).phase ≡ true → is_closed (scope_at w s).phase ≡ true

-- a task that lives has each open scope of its own once in its structure list, and no other scope;
-- a task that doesn't live has no open scope
pub record AreHeld (w : World) : Type 0 where
  pub entered : (t s : ℕ) → lives (task_at w t) ≡ true
      → count_by (is_entry_of s) (task_at w t).frame.entries
      ≡ (if is_open_of t (scope_at w s) then 1 else 0)
  pub resting : (t s : ℕ) → lives (task_at w t) ≡ false → is_open_of t (scope_at w s) ≡ false
