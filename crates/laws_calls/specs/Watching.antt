-- The laws on the tasks that are watched (this project's own).
use Rattle.std.specs.Prelude.{◌≡◌, ◌≢◌, ℕ, ◌<◌, length, false}
use Rattle.sts_model.specs.declared.event.Event.TheVariants as event
use Rattle.sts_model.specs.World.{task_at}
use Rattle.laws_runs.specs.Runs.{Each}
use Rattle.laws_calls.specs.Covers.{Watched}

-- a task that is watched after an event, and was born before it, was watched before it
abbrev pub WatchedWasWatched : Type 0
WatchedWasWatched =
    Each (λ p w e v. (u : ℕ) → u < length w.tasks → Watched v u → Watched w u)

-- a watched task gets its flag only by an interrupt
abbrev pub WatchedIsNotCancelled : Type 0
WatchedIsNotCancelled =
    Each (λ p w e v. (u : ℕ) → u < length w.tasks → Watched v u → e ≢ event.Interrupt u
    → (task_at w u).flag ≡ false → (task_at v u).flag ≡ false)
