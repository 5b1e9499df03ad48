-- Which tasks live once the state of one was written.
use Rattle.std.proofs.Common.{◌≡◌, ℕ, Option, Some, None, is_some, refl}
use Rattle.std.specs.Prelude.{option_map, unwrap_or}
use Rattle.sts_model.specs.Live.{Live, LiveTask, Alive}
use Rattle.sts_model.specs.declared.record.Frame.{Frame}
use Rattle.laws_words.proofs.OptionLemmas.{some_mapped}
use Rattle.laws_runs.proofs.ListLemmas.{at_set}
use Rattle.laws_live.specs.Reading.{task_in, no_live_task, lives_in, with_alive, with_live_frame}

-- a task lives if and only if it lives with another state of its own
pub lives_changed : (v : Live) (t : ℕ) (change : Alive → Alive) (i : ℕ) → lives_in (with_alive v t change) i ≡ lives_in v i
lives_changed v t change i = at_set (λ o. is_some (unwrap_or o no_live_task).alive ≡ lives_in v i) v.tasks t i (option_map over (task_in v t)) None (λ e. rw e (by (task_in v t))) refl
  where
    over : LiveTask → LiveTask
    over task = record task { alive = option_map change task.alive }

    by : (o : Option LiveTask) → is_some (unwrap_or (option_map over o) no_live_task).alive ≡ is_some (unwrap_or o no_live_task).alive
    by None = refl
    by (Some task) = some_mapped change task.alive

-- and at another frame
pub lives_written : (v : Live) (t : ℕ) (f : Frame) (i : ℕ) → lives_in (with_live_frame v t f) i ≡ lives_in v i
lives_written v t f i = lives_changed v t (λ alive. record alive { frame = f }) i
