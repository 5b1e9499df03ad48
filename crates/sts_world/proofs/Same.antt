-- Changes that keep the lines.
use Rattle.std.proofs.Common.{◌≡◌, ℕ, List, [], ◌∷◌, map, Bool, true, false, cond, refl, ap}
use Rattle.std.proofs.Math.Seq.{map-set_same}
use Rattle.sts_model.specs.declared.record.Task.{Task}
use Rattle.sts_model.specs.declared.record.Scope.{Scope}
use Rattle.sts_model.specs.World.{World, task_at, scope_at, with_task, with_scope, no_task, no_scope}
use Rattle.sts_model.specs.Living.{is_living_subtask}
use Rattle.sts_model.specs.Cancelling.{raised}
use Rattle.sts_world.specs.Lines.{Line, line, is_shut, tally_of, lines}

pub same_task : (w : World) (t : ℕ) (x : Task) → line x ≡ line (task_at w t) → lines (with_task w t x) ≡ lines w
same_task w t x e = ap (λ (xs : List Line). record (lines w) { tasks = xs }) (map-set_same line w.tasks t x no_task e)

pub same_scope : (w : World) (s : ℕ) (x : Scope) → is_shut x ≡ is_shut (scope_at w s) → tally_of x ≡ tally_of (scope_at w s) → lines (with_scope w s x) ≡ lines w
same_scope w s x e f = rw (map-set_same is_shut w.scopes s x no_scope e, map-set_same tally_of w.scopes s x no_scope f) refl

same_line : (b : Bool) (x : Task) → line (cond b (record x { flag = true }) x) ≡ line x
same_line true x = refl
same_line false x = refl

pub same_raised : (s : ℕ) (xs : List Task) → map line (raised s xs) ≡ map line xs
same_raised s [] = refl
same_raised s (x ∷ xs) = rw (same_line (is_living_subtask s x) x, same_raised s xs) refl
