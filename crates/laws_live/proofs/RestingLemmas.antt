-- The parts of a view that say at which scope a task is. Steps of other tasks leave them alone.
use Rattle.std.proofs.Common.{◌≡◌, ℕ, zero, suc, List, [], ◌∷◌, ◌++◌, Bool, true, false, Option, Some, None, refl, sym, ◌∙◌, ap, get_or, set, map, cond, ◌&&◌}
use Rattle.std.proofs.Common.{get_or-set_other, length, arith, is_some}
use Rattle.std.specs.Prelude.{option_map, unwrap_or}
use Rattle.sts_model.specs.declared.record.Frame.{Frame}
use Rattle.sts_model.specs.Living.{is_in}
use Rattle.sts_model.specs.Live.{Live, LiveTask, LiveScope, Alive}
use Rattle.laws_runs.proofs.ListLemmas.{at_set, at_more, past, none_found}
use Rattle.laws_live.specs.Reading.{scope_in, task_in, no_live_task, no_live_scope, no_alive, live_scope_at, alive_at, lives_in, with_alive, with_live_scope}
use Rattle.laws_live.specs.Reading.{is_live_living, live_any_lives}
use Rattle.laws_live.specs.Cancelling.{live_raise, live_raised, live_marked, live_cancel}
use Rattle.laws_live.specs.Effect.{without, live_gone}

-- the scope is still in the view, with the same owner and in the same phase
pub record IsAsWas (o : Option LiveScope) (c : LiveScope) : Type 0 where
  pub now : LiveScope
  pub there : o ≡ Some now
  pub owner : now.owner ≡ c.owner
  pub phase : now.phase ≡ c.phase

-- u lives if it did before, and its frame and its own scopes are the same
pub record Rests (v x : Live) (u : ℕ) : Type 0 where
  pub alive : lives_in v u ≡ true → lives_in x u ≡ true
  pub frame : (alive_at x u).frame ≡ (alive_at v u).frame
  pub scope : (s : ℕ) (c : LiveScope) → scope_in v s ≡ Some c → c.owner ≡ u → IsAsWas (scope_in x s) c

pub rests-refl : (v : Live) (u : ℕ) → Rests v v u
rests-refl v u =
    record {
      alive = λ e. e;
      frame = refl;
      scope = λ s c is mine. record { now = c; there = is; owner = refl; phase = refl };
    }

pub rests-trans : (v w x : Live) (u : ℕ) → Rests v w u → Rests w x u → Rests v x u
rests-trans v w x u h k =
    record {
      alive = λ e. k.alive (h.alive e);
      frame = k.frame ∙ h.frame;
      scope = λ s c is mine.
          let a = h.scope s c is mine in
          let b = k.scope s a.now a.there (a.owner ∙ mine) in
          record { now = b.now; there = b.there; owner = b.owner ∙ a.owner; phase = b.phase ∙ a.phase };
    }

pub rests-cond : (v : Live) (u : ℕ) (b : Bool) (x y : Live) → (b ≡ true → Rests v x u) → (b ≡ false → Rests v y u) → Rests v (cond b x y) u
rests-cond v u true x y h k = h refl
rests-cond v u false x y h k = k refl

-- ---- tasks

-- does it live, and with which frame?
abbrev pub life : Option LiveTask → Bool
life o = is_some (unwrap_or o no_live_task).alive

abbrev pub frame_of : Option LiveTask → Frame
frame_of o = (unwrap_or (unwrap_or o no_live_task).alive no_alive).frame

-- a task that lives if it did before, with the same frame
pub record IsSame (o q : Option LiveTask) : Type 0 where
  pub alive : life q ≡ true → life o ≡ true
  pub frame : frame_of o ≡ frame_of q

same-refl : (o : Option LiveTask) → IsSame o o
same-refl o = record { alive = λ e. e; frame = refl }

-- other tasks
rests-tasks : (v : Live) (ts : List (Option LiveTask)) (u : ℕ) → IsSame (get_or ts u None) (get_or v.tasks u None) → Rests v (record v { tasks = ts }) u
rests-tasks v ts u same =
    record {
      alive = same.alive;
      frame = same.frame;
      scope = λ s c is mine. record { now = c; there = is; owner = refl; phase = refl };
    }

-- another task written
pub rests-other : (v : Live) (t u : ℕ) (o : Option LiveTask) → (u ≡ t → ⊥) → Rests v (record v { tasks = set v.tasks t o }) u
rests-other v t u o other = rests-tasks v (set v.tasks t o) u (rw (get_or-set_other v.tasks t u o None other) (same-refl (get_or v.tasks u None)))

-- another task more
pub rests-more_tasks : (v : Live) (u : ℕ) (o : Option LiveTask) → (u ≡ length v.tasks → ⊥) → Rests v (record v { tasks = v.tasks ++ o ∷ [] }) u
rests-more_tasks v u o other = rests-tasks v (v.tasks ++ o ∷ []) u (at_more (λ q. IsSame q (get_or v.tasks u None)) v.tasks o u None (λ e. absurd (other e)) (same-refl (get_or v.tasks u None)))

flagged : (b : Bool) (a : Option Alive) → IsSame (Some (record { scope = None; state = None; alive = option_map (λ (alive : Alive). record alive { flag = b }) a })) (Some (record { scope = None; state = None; alive = a }))
flagged b None = record { alive = λ e. e; frame = refl }
flagged b (Some alive) = record { alive = λ e. e; frame = refl }

-- a flag
flag-same : (b : Bool) (task : LiveTask) → IsSame (Some (record task { alive = option_map (λ (alive : Alive). record alive { flag = b }) task.alive })) (Some task)
flag-same b task = let h = flagged b task.alive in record { alive = h.alive; frame = h.frame }

pub rests-flag : (v : Live) (t u : ℕ) (b : Bool) → Rests v (with_alive v t (λ alive. record alive { flag = b })) u
rests-flag v t u b =
    rests-tasks v (set v.tasks t (flag_in (task_in v t))) u
    (at_set (λ o. IsSame o (get_or v.tasks u None)) v.tasks t u (flag_in (task_in v t)) None (λ e. rw e (by (task_in v t))) (same-refl (get_or v.tasks u None)))
  where
    flag_in : Option LiveTask → Option LiveTask
    flag_in o = option_map (λ (task : LiveTask). record task { alive = option_map (λ (alive : Alive). record alive { flag = b }) task.alive }) o

    by : (o : Option LiveTask) → IsSame (flag_in o) o
    by None = same-refl None
    by (Some task) = flag-same b task

-- a list after a function that keeps holes, at one place
pub mapped : {X : Type 0} (f : Option X → Option X) (xs : List (Option X)) (u : ℕ) → f None ≡ None → get_or (map f xs) u None ≡ f (get_or xs u None)
mapped f [] u none = sym none
mapped f (x ∷ xs) zero none = refl
mapped f (x ∷ xs) (suc u) none = mapped f xs u none

-- flags raised
raise-same : (s : ℕ) (o : Option LiveTask) → IsSame (option_map (live_raise s) o) o
raise-same s None = same-refl None
raise-same s (Some task) = by (is_in s task.scope)
  where
    by : (b : Bool) → IsSame (Some (cond b (record task { alive = option_map (λ (alive : Alive). record alive { flag = true }) task.alive }) task)) (Some task)
    by true = flag-same true task
    by false = same-refl (Some task)

rests-raised : (v : Live) (s u : ℕ) → Rests v (live_raised s v) u
rests-raised v s u =
    rests-tasks v (map (option_map (live_raise s)) v.tasks) u
    (rw (mapped (option_map (live_raise s)) v.tasks u refl) (raise-same s (get_or v.tasks u None)))

-- ---- scopes

-- other scopes
rests-scopes : (v : Live) (ss : List (Option LiveScope)) (u : ℕ) → ((s : ℕ) (c : LiveScope) → scope_in v s ≡ Some c → c.owner ≡ u → IsAsWas (get_or ss s None) c) → Rests v (record v { scopes = ss }) u
rests-scopes v ss u same = record { alive = λ e. e; frame = refl; scope = same }

-- a change that leaves owner and phase
pub rests-scope : (v : Live) (s u : ℕ) (change : LiveScope → LiveScope) → ((c : LiveScope) → (change c).owner ≡ c.owner) → ((c : LiveScope) → (change c).phase ≡ c.phase) → Rests v (with_live_scope v s change) u
rests-scope v s u change owner phase =
    rests-scopes v (set v.scopes s (option_map change (scope_in v s))) u
    (λ r c is mine.
    at_set (λ o. IsAsWas o c) v.scopes s r (option_map change (scope_in v s)) None
    (λ e. record { now = change c; there = ap (option_map change) (ap (scope_in v) (sym e) ∙ is); owner = owner c; phase = phase c })
    (record { now = c; there = is; owner = refl; phase = refl }))

-- the scope doesn't belong to u
abbrev pub IsAlien : Live → ℕ → ℕ → Type 0
IsAlien v s u = (c : LiveScope) → scope_in v s ≡ Some c → c.owner ≡ u → ⊥

-- another task's scope written
pub rests-alien : (v : Live) (s u : ℕ) (o : Option LiveScope) → IsAlien v s u → Rests v (record v { scopes = set v.scopes s o }) u
rests-alien v s u o alien =
    rests-scopes v (set v.scopes s o) u
    (λ r c is mine.
    at_set (λ q. IsAsWas q c) v.scopes s r o None
    (λ e. absurd (alien c (ap (scope_in v) (sym e) ∙ is) mine))
    (record { now = c; there = is; owner = refl; phase = refl }))

-- a scope more
pub rests-more_scopes : (v : Live) (u : ℕ) (o : Option LiveScope) → Rests v (record v { scopes = v.scopes ++ o ∷ [] }) u
rests-more_scopes v u o =
    rests-scopes v (v.scopes ++ o ∷ []) u
    (λ s c is mine.
    at_more (λ q. IsAsWas q c) v.scopes o s None
    (λ e. let none : scope_in v s ≡ None = past v.scopes s None (omega (arith, e)) in let never : None ≡ Some c = sym none ∙ is in cc)
    (record { now = c; there = is; owner = refl; phase = refl }))

pub alien_of : (v : Live) (s t u : ℕ) → (live_scope_at v s).owner ≡ t → (u ≡ t → ⊥) → IsAlien v s u
alien_of v s t u mine other c is e = other (sym e ∙ ap (λ o. (unwrap_or o no_live_scope).owner) (sym is) ∙ mine)

-- the owner of a scope after a write that leaves it
pub owner-scope : (v : Live) (s r : ℕ) (change : LiveScope → LiveScope) → ((c : LiveScope) → (change c).owner ≡ c.owner) → (live_scope_at (with_live_scope v s change) r).owner ≡ (live_scope_at v r).owner
owner-scope v s r change owner =
    at_set (λ o. (unwrap_or o no_live_scope).owner ≡ (live_scope_at v r).owner) v.scopes s r (option_map change (scope_in v s)) None
    (λ e. rw e (by (scope_in v s)))
    refl
  where
    by : (o : Option LiveScope) → (unwrap_or (option_map change o) no_live_scope).owner ≡ (unwrap_or o no_live_scope).owner
    by None = refl
    by (Some c) = owner c

-- ---- a cancel

pub rests-cancel : (v : Live) (s u : ℕ) → Rests v (live_cancel v s) u
rests-cancel v s u =
    rests-cond v u (live_scope_at v s).cancelled v (live_marked v s) (λ e. rests-refl v u)
    (λ e.
    rests-trans v (live_raised s v) (live_marked v s) u (rests-raised v s u)
    (rests-scope (live_raised s v) s u (λ scope. record scope { cancelled = true }) (λ c. refl) (λ c. refl)))

pub owner-cancel : (v : Live) (s r : ℕ) → (live_scope_at (live_cancel v s) r).owner ≡ (live_scope_at v r).owner
owner-cancel v s r = by (live_scope_at v s).cancelled
  where
    by : (b : Bool) → (live_scope_at (cond b v (live_marked v s)) r).owner ≡ (live_scope_at v r).owner
    by true = refl
    by false = owner-scope (live_raised s v) s r (λ scope. record scope { cancelled = true }) (λ c. refl)

-- ---- a scope that goes, with its subtasks

-- a subtask that goes didn't live
gone-same : (s : ℕ) (o : Option LiveTask) → is_live_living s o ≡ false → IsSame (without s o) o
gone-same s None e = same-refl None
gone-same s (Some task) e = by (is_in s task.scope) e
  where
    idle : (a : Option Alive) → is_some a ≡ false → IsSame None (Some (record task { alive = a }))
    idle None d = record { alive = λ f. f; frame = refl }
    idle (Some alive) d = cc

    by : (b : Bool) → (b && is_some task.alive) ≡ false → IsSame (cond b None (Some task)) (Some task)
    by true d = idle task.alive d
    by false d = same-refl (Some task)

pub rests-gone : (v : Live) (s u : ℕ) → live_any_lives v s ≡ false → IsAlien v s u → Rests v (live_gone v s) u
rests-gone v s u none alien =
    rests-trans v w (live_gone v s) u
    (rests-tasks v (map (without s) v.tasks) u
    (rw (mapped (without s) v.tasks u refl) (gone-same s (get_or v.tasks u None) (none_found (is_live_living s) v.tasks u None refl none))))
    (rests-alien w s u None alien)
  where
    w : Live
    w = record v { tasks = map (without s) v.tasks }
