-- The building blocks: the view after a change is the view's own change.
use Rattle.std.proofs.Common.{◌≡◌, ℕ, ◌<◌, ◌≤◌, ◌+◌, List, [], ◌∷◌, ◌++◌, Bool, true, false, Option, Some, None, refl, sym, ◌∙◌, ap, length, arith, get_or, set}
use Rattle.std.proofs.Common.{cond, ◌&&◌, nat_lt, length-set, length-append, get_or-set_same, get_or-set_other}
use Rattle.std.proofs.lemmas.Bool.Decides.{nat_tests}
use Rattle.std.proofs.lemmas.List.{length-map, get_or-map, get_or_append_left, get_or_push}
use Rattle.std.specs.Prelude.{option_map, ◌==◌}
use Rattle.sts_model.specs.declared.event.End.{End}
use Rattle.sts_model.specs.declared.event.Phase.TheVariants.{Closed}
use Rattle.sts_model.specs.declared.record.Frame.{Frame}
use Rattle.sts_model.specs.declared.record.Task.{Task}
use Rattle.sts_model.specs.declared.record.Scope.{Scope}
use Rattle.sts_model.specs.declared.record.Bound.{Bound}
use Rattle.sts_model.specs.World.{World, task_at, scope_at, no_task, no_scope, with_task, with_scope}
use Rattle.sts_model.specs.Living.{lives, is_in, is_subtask, is_closed}
use Rattle.sts_model.specs.Standing.{is_standing_scope, stands_in}
use Rattle.sts_model.specs.Cancelling.{raise, raised, marked, cancel}
use Rattle.sts_model.specs.Effect.{with_phase}
use Rattle.sts_model.specs.Live.{Live, LiveTask, LiveScope, Alive, live, shown_scope}
use Rattle.laws_runs.proofs.ListLemmas.{at_set, at_put}
use Rattle.laws_runs.proofs.SoundLemmas.{Sound, born_open}
use Rattle.laws_runs.proofs.BirthLemmas.{more_tasks, more_scopes}
use Rattle.laws_live.specs.Reading.{task_in, scope_in, with_alive, with_live_scope}
use Rattle.laws_live.specs.Cancelling.{live_raise, live_raised, live_marked, live_cancel}
use Rattle.laws_live.specs.Effect.{without, live_gone}
use Rattle.laws_live.proofs.ListLemmas.{map_kept}
use Rattle.laws_live.proofs.ViewLemmas.{had, shown, seen_of, seen, seen_scope, tasks_born, scopes_born, task_here, scope_here, same_view, scope_is}

-- ---- one task

-- a task's own state is changed, if the task is in the view and lives
kept_alive : (o : Option ℕ) (q : Option End) (a : Alive) (change : Alive → Alive) (b c : Bool) → cond b (Some (record { scope = o; state = q; alive = cond c (Some (change a)) None })) None ≡ option_map (λ (task : LiveTask). record task { alive = option_map change task.alive }) (cond b (Some (record { scope = o; state = q; alive = cond c (Some a) None })) None)
kept_alive o q a change true true = refl
kept_alive o q a change true false = refl
kept_alive o q a change false c = refl

-- one task is written, and the view shows it so
pub seen-written : (w : World) (t : ℕ) (x : Task) (to : Option LiveTask) (end : Option End) → t < length w.tasks → seen (with_task w t x) t x ≡ to → (get_or (set w.tasks t x) 0 no_task).outcome ≡ end → live (with_task w t x) ≡ record (live w) { tasks = set (live w).tasks t to; root_end = end }
seen-written w t x to end born is root =
    let v : World = with_task w t x in
    let n = tasks_born w in
    same_view v (record (live w) { tasks = set (live w).tasks t to; root_end = end })
    (length-set (live w).tasks t to ∙ n ∙ sym (length-set w.tasks t x))
    (scopes_born w)
    (λ u less.
    let count = length-set w.tasks t x in
    at_put (λ (y : Option LiveTask). seen v u (get_or (set w.tasks t x) u no_task) ≡ y) (live w).tasks t u to None (omega (arith, n, born))
    (λ e. rw (e, get_or-set_same w.tasks t x no_task born) is)
    (λ other. rw (get_or-set_other w.tasks t u x no_task other) (sym (task_here w u (omega (arith, count, less))))))
    (λ s less. sym (scope_here w s less))
    root

-- the frame and the flag of one task
pub seen-task : (w : World) (t : ℕ) (f : Frame) (flag : Bool) (change : Alive → Alive) → t < length w.tasks → had w (task_at w t).scope (record (task_at w t) { frame = f; flag = flag }) ≡ change (had w (task_at w t).scope (task_at w t)) → live (with_task w t (record (task_at w t) { frame = f; flag = flag })) ≡ with_alive (live w) t change
seen-task w t f flag change born same =
    let x : Task = record (task_at w t) { frame = f; flag = flag } in
    seen-written w t x (option_map (λ (task : LiveTask). record task { alive = option_map change task.alive }) (task_in (live w) t)) (task_at w 0).outcome born
    (rw (task_here w t born, same) (kept_alive (task_at w t).scope _ (had w (task_at w t).scope (task_at w t)) change (stands_in w (task_at w t).scope) (lives (task_at w t))))
    (at_set (λ (task : Task). task.outcome ≡ (task_at w 0).outcome) w.tasks t 0 x no_task (λ e. rw e refl) refl)

-- ---- one scope

-- the views of the tasks of two scopes are the same
pub record ShowsAlike (x y : Scope) : Type 0 where
  pub stands : is_standing_scope y ≡ is_standing_scope x
  pub completions : y.completions ≡ x.completions
  pub environment : y.environment ≡ x.environment

pub alike-refl : (x : Scope) → ShowsAlike x x
alike-refl x = record { stands = refl; completions = refl; environment = refl }

pub same_seen : (w v : World) (u : ℕ) (task : Task) → ((r : ℕ) → task.scope ≡ Some r → ShowsAlike (scope_at w r) (scope_at v r)) → seen v u task ≡ seen w u task
same_seen w v u task h = by task.scope refl
  where
    by : (o : Option ℕ) → task.scope ≡ o → seen_of v o u task ≡ seen_of w o u task
    by None e = refl
    by (Some r) e = let k = h r e in rw (k.stands, k.completions, k.environment) refl

pub seen-scope : (w : World) (s : ℕ) (y : Scope) (change : LiveScope → LiveScope) → is_closed (scope_at w s).phase ≡ false → ShowsAlike (scope_at w s) y → shown_scope y ≡ change (shown_scope (scope_at w s)) → live (with_scope w s y) ≡ with_live_scope (live w) s change
seen-scope w s y change still like same =
    let v : World = with_scope w s y in
    let n = scopes_born w in
    let born = born_open w s still in
    let to : Option LiveScope = option_map change (scope_in (live w) s) in
    same_view v (with_live_scope (live w) s change) (tasks_born w)
    (length-set (live w).scopes s to ∙ n ∙ sym (length-set w.scopes s y))
    (λ u less. same_seen w v u (task_at w u) (λ r inside. at_set (λ (scope : Scope). ShowsAlike (scope_at w r) scope) w.scopes s r y no_scope (λ e. rw e like) (alike-refl (scope_at w r))) ∙ sym (task_here w u less))
    (λ r less.
    let count = length-set w.scopes s y in
    at_put (λ (z : Option LiveScope). seen_scope (get_or (set w.scopes s y) r no_scope) ≡ z) (live w).scopes s r to None (omega (arith, n, born))
    (λ e. rw (e, get_or-set_same w.scopes s y no_scope born, scope_here w s born, like.stands, same) (sym (map_kept change (is_standing_scope (scope_at w s)) (shown_scope (scope_at w s)))))
    (λ other. rw (get_or-set_other w.scopes s r y no_scope other) (sym (scope_here w r (omega (arith, count, less))))))
    refl

-- ---- cancel

raised_seen : (s : ℕ) (o : Option ℕ) (q : Option End) (f : Frame) (flag : Bool) (env : List Bound) (a b c : Bool) → is_in s o ≡ a → cond c (Some (record { scope = o; state = q; alive = cond b (Some (record { frame = f; flag = cond (a && b) true flag; environment = env })) None })) None ≡ option_map (live_raise s) (cond c (Some (record { scope = o; state = q; alive = cond b (Some (record { frame = f; flag = flag; environment = env })) None })) None)
raised_seen s o q f flag env a b false e = refl
raised_seen s o q f flag env true true true e = rw e refl
raised_seen s o q f flag env true false true e = rw e refl
raised_seen s o q f flag env false true true e = rw e refl
raised_seen s o q f flag env false false true e = rw e refl

raise_flag : (task : Task) (b : Bool) → cond b (record task { flag = true }) task ≡ record task { flag = cond b true task.flag }
raise_flag task true = refl
raise_flag task false = refl

seen-raise : (w : World) (s u : ℕ) (task : Task) → seen w u (raise s task) ≡ option_map (live_raise s) (seen w u task)
seen-raise w s u task =
    ap (seen w u) (raise_flag task (is_subtask s task && lives task))
    ∙ raised_seen s task.scope _ task.frame task.flag (had w task.scope task).environment (is_in s task.scope) (lives task) (stands_in w task.scope) refl

seen-raised : (w : World) (s : ℕ) → live (record w { tasks = raised s w.tasks }) ≡ live_raised s (live w)
seen-raised w s =
    let v : World = record w { tasks = raised s w.tasks } in
    let n = tasks_born w in
    let count = length-map w.tasks (raise s) in
    same_view v (live_raised s (live w))
    (length-map (live w).tasks (option_map (live_raise s)) ∙ n ∙ sym count)
    (scopes_born w)
    (λ u less.
    let born : u < length w.tasks = omega (arith, count, less) in
    rw (get_or-map (raise s) w.tasks u no_task no_task born, get_or-map (option_map (live_raise s)) (live w).tasks u None None (omega (arith, n, born)), task_here w u born) (seen-raise w s u (task_at w u)))
    (λ r less. sym (scope_here w r less))
    (root w.tasks)
  where
    root : (xs : List Task) → (get_or (raised s xs) 0 no_task).outcome ≡ (get_or xs 0 no_task).outcome
    root [] = refl
    root (x ∷ xs) = ap (λ (task : Task). task.outcome) (raise_flag x (is_subtask s x && lives x))

pub seen-cancel : (w : World) (s : ℕ) → is_closed (scope_at w s).phase ≡ false → live (cancel w s) ≡ live_cancel (live w) s
seen-cancel w s still =
    rw (scope_is w s still) (by (scope_at w s).cancelled)
  where
    v : World
    v = record w { tasks = raised s w.tasks }

    mark : live (marked w s) ≡ live_marked (live w) s
    mark =
        seen-scope v s (record (scope_at w s) { cancelled = true }) (λ scope. record scope { cancelled = true }) still (record { stands = refl; completions = refl; environment = refl }) refl
        ∙ ap (λ (view : Live). with_live_scope view s (λ scope. record scope { cancelled = true })) (seen-raised w s)

    by : (b : Bool) → live (cond b w (marked w s)) ≡ cond b (live w) (live_marked (live w) s)
    by true = refl
    by false = mark

-- ---- close

-- what is seen of the tasks of s is gone
seen-without : (w : World) (s u : ℕ) (task : Task) → s < length w.scopes → seen (with_phase w s Closed) u task ≡ without s (seen w u task)
seen-without w s u task born = by task.scope
  where
    y : Scope
    y = record (scope_at w s) { phase = Closed }

    gone : (b : Bool) (x : LiveTask) → is_in s x.scope ≡ true → None ≡ without s (cond b (Some x) None)
    gone true x e = rw e refl
    gone false x e = refl

    stays : (b : Bool) (x : LiveTask) → is_in s x.scope ≡ false → cond b (Some x) None ≡ without s (cond b (Some x) None)
    stays true x e = rw e refl
    stays false x e = refl

    in_scope : (r : ℕ) (b : Bool) → (r == s) ≡ b → seen_of (with_phase w s Closed) (Some r) u task ≡ without s (seen_of w (Some r) u task)
    in_scope r true e =
        let same : r ≡ s = grind (arith, nat_tests) in
        rw (same, get_or-set_same w.scopes s y no_scope born) (gone (stands_in w (Some s)) (shown w (Some s) u task) (grind (arith, nat_tests)))
    in_scope r false e =
        let other : r ≡ s → ⊥ = λ same. grind (arith, nat_tests) in
        rw (get_or-set_other w.scopes s r y no_scope other) (stays (stands_in w (Some r)) (shown w (Some r) u task) e)

    by : (o : Option ℕ) → seen_of (with_phase w s Closed) o u task ≡ without s (seen_of w o u task)
    by None = refl
    by (Some r) = in_scope r (r == s) refl

pub seen-gone : (w : World) (s : ℕ) → s < length w.scopes → live (with_phase w s Closed) ≡ live_gone (live w) s
seen-gone w s born =
    let y : Scope = record (scope_at w s) { phase = Closed } in
    let n = tasks_born w in
    let m = scopes_born w in
    let count = length-set w.scopes s y in
    same_view (with_phase w s Closed) (live_gone (live w) s)
    (length-map (live w).tasks (without s) ∙ n)
    (length-set (live w).scopes s None ∙ m ∙ sym count)
    (λ u less. rw (get_or-map (without s) (live w).tasks u None None (omega (arith, n, less)), task_here w u less) (seen-without w s u (task_at w u) born))
    (λ r less.
    at_put (λ (z : Option LiveScope). seen_scope (get_or (set w.scopes s y) r no_scope) ≡ z) (live w).scopes s r None None (omega (arith, m, born))
    (λ e. rw (e, get_or-set_same w.scopes s y no_scope born) refl)
    (λ other. rw (get_or-set_other w.scopes s r y no_scope other) (sym (scope_here w r (omega (arith, count, less))))))
    refl

-- ---- births

pub seen-more_tasks : (w : World) (x : Task) → 0 < length w.tasks → live (more_tasks w x) ≡ record (live w) { tasks = (live w).tasks ++ seen w (length w.tasks) x ∷ [] }
seen-more_tasks w x some =
    let n = tasks_born w in
    let more = length-append w.tasks (x ∷ []) in
    let new : Option LiveTask = seen w (length w.tasks) x in
    let longer = length-append (live w).tasks (new ∷ []) in
    same_view (more_tasks w x) (record (live w) { tasks = (live w).tasks ++ new ∷ [] })
    (omega (arith, n, more, longer))
    (scopes_born w)
    (λ u less. by u (omega (arith, more, less)) (nat_lt u (length w.tasks)) refl)
    (λ r less. sym (scope_here w r less))
    (ap (λ (task : Task). task.outcome) (get_or_append_left w.tasks (x ∷ []) no_task 0 some))
  where
    by : (u : ℕ) → u < length w.tasks + 1 → (b : Bool) → nat_lt u (length w.tasks) ≡ b → seen w u (get_or (w.tasks ++ x ∷ []) u no_task) ≡ get_or ((live w).tasks ++ seen w (length w.tasks) x ∷ []) u None
    by u less true e =
        let n = tasks_born w in
        let born : u < length w.tasks = grind (arith, nat_tests) in
        rw (get_or_append_left w.tasks (x ∷ []) no_task u born, get_or_append_left (live w).tasks (seen w (length w.tasks) x ∷ []) None u (omega (arith, n, born)))
        (sym (task_here w u born))
    by u less false e =
        let n = tasks_born w in
        let late : length w.tasks ≤ u = grind (arith, nat_tests) in
        let same : length w.tasks ≡ u = omega (arith, less, late) in
        rw (get_or_push w.tasks x no_task u same, get_or_push (live w).tasks (seen w (length w.tasks) x) None u (n ∙ same), same) refl

pub seen-more_scopes : (w : World) (x : Scope) → Sound w → live (more_scopes w x) ≡ record (live w) { scopes = (live w).scopes ++ seen_scope x ∷ [] }
seen-more_scopes w x o =
    let n = scopes_born w in
    let more = length-append w.scopes (x ∷ []) in
    let longer = length-append (live w).scopes (seen_scope x ∷ []) in
    same_view (more_scopes w x) (record (live w) { scopes = (live w).scopes ++ seen_scope x ∷ [] })
    (tasks_born w)
    (omega (arith, n, more, longer))
    (λ u less. same_seen w (more_scopes w x) u (task_at w u) (λ r inside. rw (get_or_append_left w.scopes (x ∷ []) no_scope r (o.born u r inside).0) (alike-refl (scope_at w r))) ∙ sym (task_here w u less))
    (λ r less. by r (omega (arith, more, less)) (nat_lt r (length w.scopes)) refl)
    refl
  where
    by : (r : ℕ) → r < length w.scopes + 1 → (b : Bool) → nat_lt r (length w.scopes) ≡ b → seen_scope (get_or (w.scopes ++ x ∷ []) r no_scope) ≡ get_or ((live w).scopes ++ seen_scope x ∷ []) r None
    by r less true e =
        let n = scopes_born w in
        let born : r < length w.scopes = grind (arith, nat_tests) in
        rw (get_or_append_left w.scopes (x ∷ []) no_scope r born, get_or_append_left (live w).scopes (seen_scope x ∷ []) None r (omega (arith, n, born)))
        (sym (scope_here w r born))
    by r less false e =
        let n = scopes_born w in
        let late : length w.scopes ≤ r = grind (arith, nat_tests) in
        let same : length w.scopes ≡ r = omega (arith, less, late) in
        rw (get_or_push w.scopes x no_scope r same, get_or_push (live w).scopes (seen_scope x) None r (n ∙ same)) refl
