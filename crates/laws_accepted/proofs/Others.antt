-- The tasks that don't step stay typed.
use Rattle.std.proofs.Common.{◌≡◌, ℕ, ◌<◌, true, Option, Some, None, refl, ◌∙◌, ap, length}
use Rattle.std.specs.Prelude.{is_some}
use Rattle.sts_code.specs.Program.{Program}
use Rattle.sts_model.specs.declared.record.Task.{Task}
use Rattle.sts_model.specs.World.{World, task_at, no_task}
use Rattle.sts_model.specs.Living.{parent}
use Rattle.laws_runs.proofs.ListLemmas.{within}
use Rattle.laws_runs.specs.Later.{Later}
use Rattle.laws_runs.proofs.CompletionLemmas.{keeps_state}
use Rattle.laws_runs.proofs.SoundLemmas.{Sound}
use Rattle.laws_accepted.specs.Typed.{IsTyped}
use Rattle.laws_accepted.proofs.Quiet.{Quiet}
use Rattle.laws_accepted.proofs.Same.{Knows, Same, fits-same}

-- of subtasks no less is known later
pub knows-later : (w v : World) → Later w v → Knows w v
knows-later w v l =
    record {
      task = λ u n e.
          let there : is_some (task_at w u).scope ≡ true = rw e refl in
          let less = within (λ (task : Task). is_some task.scope) w.tasks u no_task refl there in
          (l.task u less).same.scope ∙ e;
      state = λ u end e. keeps_state w v l u end e;
    }

-- another's step is the same to a frame
pub same-quiet : (w v : World) (o : Option ℕ) (u : ℕ) → Sound w → Later w v → Quiet w v o → (o ≡ Some u → ⊥) → Same w v (task_at w u).frame
same-quiet w v o u sound l q other =
    record {
      scope = λ x n e.
          let mine = sound.own u x n e in
          let k = l.scope n mine.born in
          record {
            joiner = k.same.joiner;
            timed = k.same.timed;
            environment = k.same.environment;
            phase = q.phase n mine.born (λ d. other (d ∙ ap Some mine.owner));
            expired = k.moves.timely;
          };
      knows = knows-later w v l;
    }

-- a task keeps what its scope keeps
pub environment-later : (w v : World) (u : ℕ) → Sound w → Later w v → u < length w.tasks → (parent v (task_at v u).scope).environment ≡ (parent w (task_at w u).scope).environment
environment-later w v u sound l less = rw ((l.task u less).same.scope) (by (task_at w u).scope refl)
  where
    by : (o : Option ℕ) → (task_at w u).scope ≡ o → (parent v o).environment ≡ (parent w o).environment
    by None e = refl
    by (Some s) e = (l.scope s (sound.born u s e).0).same.environment

pub typed-other : (p : Program) (w v : World) (o : Option ℕ) (u : ℕ) → Sound w → Later w v → Quiet w v o → (o ≡ Some u → ⊥) → u < length w.tasks → IsTyped p w (task_at w u).frame (task_at w u).scope → IsTyped p v (task_at v u).frame (task_at v u).scope
typed-other p w v o u sound l q other less h =
    rw (q.frame u less other)
    (record {
      function = h.function;
      state = h.state;
      reached = h.reached;
      fits = fits-same p w v (task_at w u).frame h.state (same-quiet w v o u sound l q other) h.fits;
      bound = rw (environment-later w v u sound l less) h.bound;
    })
