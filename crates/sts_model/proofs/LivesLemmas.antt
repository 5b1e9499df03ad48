-- Who lives: only what was born, and as many after a cancel.
use Rattle.std.proofs.Common.{◌≡◌, ℕ, ◌<◌, zero, suc, List, [], ◌∷◌, Bool, true, false, refl, length, arith, get_or, cond}
use Rattle.sts_model.specs.declared.record.Task.{Task}
use Rattle.sts_model.specs.World.{World, task_at, scope_at, no_task}
use Rattle.sts_model.specs.Living.{lives, is_living_subtask}
use Rattle.sts_model.specs.Cancelling.{raised, marked, cancel}

pub born_alive : (w : World) (t : ℕ) → lives (task_at w t) ≡ true → t < length w.tasks
born_alive w t alive = by w.tasks t alive
  where
    by : (xs : List Task) (u : ℕ) → lives (get_or xs u no_task) ≡ true → u < length xs
    by [] u e = cc
    by (x ∷ xs) zero e = omega arith
    by (x ∷ xs) (suc u) e = let h = by xs u e in omega (arith, h)

pub raised_alive : (s : ℕ) (xs : List Task) (t : ℕ) → lives (get_or (raised s xs) t no_task) ≡ lives (get_or xs t no_task)
raised_alive s [] t = refl
raised_alive s (x ∷ xs) zero = by (is_living_subtask s x)
  where
    by : (b : Bool) → lives (cond b (record x { flag = true }) x) ≡ lives x
    by true = refl
    by false = refl
raised_alive s (x ∷ xs) (suc t) = raised_alive s xs t

pub cancel_alive : (w : World) (s t : ℕ) → lives (task_at (cancel w s) t) ≡ lives (task_at w t)
cancel_alive w s t = by (scope_at w s).cancelled
  where
    by : (b : Bool) → lives (task_at (cond b w (marked w s)) t) ≡ lives (task_at w t)
    by true = refl
    by false = raised_alive s w.tasks t
