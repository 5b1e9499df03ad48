-- The parts of a state that decide whether a task can step: the task itself, its own scopes and who
-- lives in them.
use Rattle.std.proofs.Common.{◌≡◌, ℕ, ◌<◌, ◌≤◌, [], ◌∷◌, ◌++◌, Bool, true, false, Option, Some, refl, sym, ◌∙◌, ap, length, arith, set, cond, ◌&&◌, ◌||◌, not}
use Rattle.std.proofs.Common.{nat_lt, length-set, length-append, get_or-set_other}
use Rattle.std.proofs.lemmas.Bool.Decides.{nat_tests}
use Rattle.std.proofs.lemmas.List.{length-map, get_or_append_left, get_or-map}
use Rattle.std.proofs.lemmas.List.Folds.{list_any-append}
use Rattle.sts_code.specs.Program.{Program}
use Rattle.sts_code.specs.declared.instr.Instr.{Instr}
use Rattle.sts_code.specs.declared.instr.Instr.TheVariants.{Join, Close}
use Rattle.sts_model.specs.declared.event.Stand.TheVariants.{Free, AtClose}
use Rattle.sts_model.specs.declared.record.Slot.{Slot}
use Rattle.sts_model.specs.declared.record.Slot.TheVariants.{Own}
use Rattle.sts_model.specs.declared.record.Frame.{Frame}
use Rattle.sts_model.specs.declared.record.Task.{Task}
use Rattle.sts_model.specs.declared.record.Scope.{Scope}
use Rattle.sts_model.specs.World.{World, task_at, scope_at, no_task, no_scope, with_task, with_scope, instr_at}
use Rattle.sts_model.specs.Living.{lives, is_in, is_living_subtask, any_lives}
use Rattle.sts_model.specs.Cancelling.{raise, raised, marked, cancel}
use Rattle.sts_model.specs.Misuse.{slot}
use Rattle.sts_model.specs.Waiting.{is_closing}
use Rattle.sts_model.specs.Live.{Alive, live}
use Rattle.laws_runs.proofs.ListLemmas.{at_set, past}
use Rattle.laws_runs.proofs.KeptLemmas.{at_raised}
use Rattle.laws_runs.proofs.BirthLemmas.{more_tasks, more_scopes}
use Rattle.laws_live.specs.Reading.{alive_at}
use Rattle.laws_live.specs.Waiting.{live_stands_at_join, live_stands_at_close, live_stand_at_instr, live_can_go, live_can_step}
use Rattle.laws_live.proofs.ListLemmas.{any_alike}
use Rattle.laws_live.proofs.ViewLemmas.{scope_is, alive_is, any_is, lives_is}
use Rattle.laws_live.proofs.EndLemmas.{open_some}
use Rattle.laws_live.proofs.EffectLemmas.{Facts}

-- the change concerns neither u, nor its scopes, nor their living subtasks
pub record Looks (w v : World) (u : ℕ) : Type 0 where
  pub scopes : length w.scopes ≤ length v.scopes
  pub task : task_at v u ≡ task_at w u
  pub scope : (s : ℕ) → s < length w.scopes → (scope_at w s).owner ≡ u → scope_at v s ≡ scope_at w s
  pub any : (s : ℕ) → s < length w.scopes → (scope_at w s).owner ≡ u → any_lives v s ≡ any_lives w s

pub looks-refl : (w : World) (u : ℕ) → Looks w w u
looks-refl w u = record { scopes = omega arith; task = refl; scope = λ s born mine. refl; any = λ s born mine. refl }

pub looks-trans : (w v x : World) (u : ℕ) → Looks w v u → Looks v x u → Looks w x u
looks-trans w v x u h k =
    record {
      scopes = let a = h.scopes in let b = k.scopes in omega (arith, a, b);
      task = k.task ∙ h.task;
      scope = λ s born mine. k.scope s (still s born) (same s born mine) ∙ h.scope s born mine;
      any = λ s born mine. k.any s (still s born) (same s born mine) ∙ h.any s born mine;
    }
  where
    still : (s : ℕ) → s < length w.scopes → s < length v.scopes
    still s born = let a = h.scopes in omega (arith, a, born)

    same : (s : ℕ) → s < length w.scopes → (scope_at w s).owner ≡ u → (scope_at v s).owner ≡ u
    same s born mine = ap (λ (scope : Scope). scope.owner) (h.scope s born mine) ∙ mine

pub looks-cond : (w : World) (u : ℕ) (b : Bool) (x y : World) → (b ≡ true → Looks w x u) → (b ≡ false → Looks w y u) → Looks w (cond b x y) u
looks-cond w u true x y h k = h refl
looks-cond w u false x y h k = k refl

-- ---- it can step where it could

pub same-scope-owned : (w : World) (u x s : ℕ) → Facts w → slot (task_at w u).frame x ≡ Own s → (s < length w.scopes) × ((scope_at w s).owner ≡ u)
same-scope-owned w u x s o e = let h = o.sound.own u x s e in (h.born, h.owner)

go-same : (w v : World) (u : ℕ) (i : Option Instr) → Facts w → Facts v → Looks w v u → lives (task_at w u) ≡ true → lives (task_at v u) ≡ true → live_can_go (live v) u (live_stand_at_instr (live v) u i) ≡ live_can_go (live w) u (live_stand_at_instr (live w) u i)
go-same w v u (Some (Join x failed timeout interrupted)) o q h alive alive_v =
    rw (alive_is v u q.sound alive_v, alive_is w u o.sound alive, h.task) (by (slot (task_at w u).frame x) refl)
  where
    by : (y : Slot) → slot (task_at w u).frame x ≡ y → live_can_go (live v) u (live_stands_at_join y) ≡ live_can_go (live w) u (live_stands_at_join y)
    by (Own s) e =
        let mine = same-scope-owned w u x s o e in
        let e_v : slot (task_at v u).frame x ≡ Own s = ap (λ (task : Task). slot task.frame x) h.task ∙ e in
        let scope = h.scope s mine.0 mine.1 in
        let any = h.any s mine.0 mine.1 in
        let flag = h.task in
        rw (scope_is v s (open_some v s ((q.named u x alive_v).own s e_v)), scope_is w s (open_some w s ((o.named u x alive).own s e)), any_is v s q.sound, any_is w s o.sound, alive_is v u q.sound alive_v, alive_is w u o.sound alive, scope, any, flag) refl
    by _ e = refl
go-same w v u (Some (Close x)) o q h alive alive_v =
    rw (alive_is v u q.sound alive_v, alive_is w u o.sound alive, h.task) (by (slot (task_at w u).frame x) refl)
  where
    closing : (s : ℕ) (b : Bool) → any_lives v s ≡ any_lives w s → live_can_go (live v) u (cond b (AtClose s) Free) ≡ live_can_go (live w) u (cond b (AtClose s) Free)
    closing s true any = ap not (any_is v s q.sound ∙ any ∙ sym (any_is w s o.sound))
    closing s false any = refl

    by : (y : Slot) → slot (task_at w u).frame x ≡ y → live_can_go (live v) u (live_stands_at_close (live v) y) ≡ live_can_go (live w) u (live_stands_at_close (live w) y)
    by (Own s) e =
        let mine = same-scope-owned w u x s o e in
        let e_v : slot (task_at v u).frame x ≡ Own s = ap (λ (task : Task). slot task.frame x) h.task ∙ e in
        let scope = h.scope s mine.0 mine.1 in
        rw (scope_is v s (open_some v s ((q.named u x alive_v).own s e_v)), scope_is w s (open_some w s ((o.named u x alive).own s e)), scope) (closing s (is_closing (scope_at w s).phase) (h.any s mine.0 mine.1))
    by _ e = refl
go-same w v u i o q h alive alive_v = refl

pub can-same : (p : Program) (w v : World) (u : ℕ) → Facts w → Facts v → Looks w v u → live_can_step p (live v) u ≡ live_can_step p (live w) u
can-same p w v u o q h = by (lives (task_at w u)) refl
  where
    by : (b : Bool) → lives (task_at w u) ≡ b → live_can_step p (live v) u ≡ live_can_step p (live w) u
    by false e =
        let dead : lives (task_at v u) ≡ false = ap lives h.task ∙ e in
        rw (lives_is w u o.sound, lives_is v u q.sound, e, dead) refl
    by true e =
        let alive : lives (task_at v u) ≡ true = ap lives h.task ∙ e in
        let f : (alive_at (live w) u).frame ≡ (task_at w u).frame = ap (λ (a : Alive). a.frame) (alive_is w u o.sound e) in
        let g : (alive_at (live v) u).frame ≡ (task_at w u).frame = ap (λ (a : Alive). a.frame) (alive_is v u q.sound alive) ∙ ap (λ (task : Task). task.frame) h.task in
        ap (λ b. b && live_can_go (live v) u (live_stand_at_instr (live v) u (instr_at p (alive_at (live v) u).frame))) (lives_is v u q.sound ∙ alive)
        ∙ ap (λ (k : Frame). live_can_go (live v) u (live_stand_at_instr (live v) u (instr_at p k))) g
        ∙ go-same w v u (instr_at p (task_at w u).frame) o q h e alive
        ∙ ap (λ (k : Frame). live_can_go (live w) u (live_stand_at_instr (live w) u (instr_at p k))) (sym f)
        ∙ ap (λ b. b && live_can_go (live w) u (live_stand_at_instr (live w) u (instr_at p (alive_at (live w) u).frame))) (sym (lives_is w u o.sound ∙ e))

-- ---- building blocks

-- another task, which lives on or is in no scope of u
pub looks-task : (w : World) (t u : ℕ) (x : Task) → (u ≡ t → ⊥) → ((s : ℕ) → s < length w.scopes → (scope_at w s).owner ≡ u → is_living_subtask s x ≡ is_living_subtask s (task_at w t)) → Looks w (with_task w t x) u
looks-task w t u x other same =
    record {
      scopes = omega arith;
      task = get_or-set_other w.tasks t u x no_task other;
      scope = λ s born mine. refl;
      any = λ s born mine.
          any_alike (is_living_subtask s) (is_living_subtask s) (set w.tasks t x) w.tasks no_task no_task (length-set w.tasks t x)
          (λ i less. at_set (λ (task : Task). is_living_subtask s task ≡ is_living_subtask s (task_at w i)) w.tasks t i x no_task (λ e. rw e (same s born mine)) refl);
    }

-- a scope of another task
pub looks-scope : (w : World) (s u : ℕ) (y : Scope) → ((scope_at w s).owner ≡ u → ⊥) → Looks w (with_scope w s y) u
looks-scope w s u y other =
    let n = length-set w.scopes s y in
    record {
      scopes = omega (arith, n);
      task = refl;
      scope = λ r born mine. get_or-set_other w.scopes s r y no_scope (λ e. other (rw (← e) mine));
      any = λ r born mine. refl;
    }

not_raised : (s : ℕ) (task : Task) → is_in s task.scope ≡ false → raise s task ≡ task
not_raised s task e = rw e refl

pub looks-cancel : (w : World) (s u : ℕ) → ((scope_at w s).owner ≡ u → ⊥) → is_in s (task_at w u).scope ≡ false → Looks w (cancel w s) u
looks-cancel w s u other out =
    looks-cond w u (scope_at w s).cancelled w (marked w s) (λ e. looks-refl w u)
    (λ e. looks-trans w v (marked w s) u
    (record {
      scopes = omega arith;
      task = by (nat_lt u (length w.tasks)) refl;
      scope = λ r born mine. refl;
      any = λ r born mine.
          any_alike (is_living_subtask r) (is_living_subtask r) (raised s w.tasks) w.tasks no_task no_task (length-map w.tasks (raise s))
          (λ i less. at_raised (λ (task : Task). is_living_subtask r task ≡ is_living_subtask r (task_at w i)) s w.tasks i refl refl);
    })
    (looks-scope v s u (record (scope_at w s) { cancelled = true }) other))
  where
    v : World
    v = record w { tasks = raised s w.tasks }

    by : (b : Bool) → nat_lt u (length w.tasks) ≡ b → task_at v u ≡ task_at w u
    by true e = get_or-map (raise s) w.tasks u no_task no_task (grind (arith, nat_tests)) ∙ not_raised s (task_at w u) out
    by false e =
        let n = length-map w.tasks (raise s) in
        let more : length w.tasks ≤ u = grind (arith, nat_tests) in
        past (raised s w.tasks) u no_task (omega (arith, n, more)) ∙ sym (past w.tasks u no_task more)

-- a task more, in no scope of u
pub looks-more_tasks : (w : World) (u : ℕ) (x : Task) → (u ≡ length w.tasks → ⊥) → ((s : ℕ) → s < length w.scopes → (scope_at w s).owner ≡ u → is_living_subtask s x ≡ false) → Looks w (more_tasks w x) u
looks-more_tasks w u x other none =
    record {
      scopes = omega arith;
      task = by (nat_lt u (length w.tasks)) refl;
      scope = λ s born mine. refl;
      any = λ s born mine. list_any-append (is_living_subtask s) w.tasks (x ∷ []) ∙ nothing (any_lives w s) (is_living_subtask s x) (none s born mine);
    }
  where
    nothing : (a b : Bool) → b ≡ false → (a || (b || false)) ≡ a
    nothing true b e = refl
    nothing false true e = cc
    nothing false false e = refl

    by : (b : Bool) → nat_lt u (length w.tasks) ≡ b → task_at (more_tasks w x) u ≡ task_at w u
    by true e = get_or_append_left w.tasks (x ∷ []) no_task u (grind (arith, nat_tests))
    by false e =
        let n = length-append w.tasks (x ∷ []) in
        let late : length w.tasks ≤ u = grind (arith, nat_tests) in
        past (w.tasks ++ x ∷ []) u no_task (omega (arith, n, late, other)) ∙ sym (past w.tasks u no_task late)

pub looks-more_scopes : (w : World) (u : ℕ) (x : Scope) → Looks w (more_scopes w x) u
looks-more_scopes w u x =
    let n = length-append w.scopes (x ∷ []) in
    record {
      scopes = omega (arith, n);
      task = refl;
      scope = λ s born mine. get_or_append_left w.scopes (x ∷ []) no_scope s born;
      any = λ s born mine. refl;
    }
