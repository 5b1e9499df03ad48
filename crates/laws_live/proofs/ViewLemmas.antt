-- The view of one task and of one scope, and readings of the view.
use Rattle.std.proofs.Common.{get_or, ◌⊎◌, inl, inr, ◌≡◌, ℕ, ◌<◌, ◌≤◌, ◌+◌, List, [], ◌∷◌, ◌++◌, Bool, true, false, Option, Some, None, refl, sym, ◌∙◌, ap}
use Rattle.std.proofs.Common.{length, arith, cond, ◌&&◌, not, nat_lt}
use Rattle.std.proofs.lemmas.Bool.{cases_lt}
use Rattle.std.proofs.lemmas.Bool.Decides.{nat_tests}
use Rattle.std.proofs.lemmas.List.FromFn.{get_or-map-range_with_len, length-map-range_with_len}
use Rattle.std.specs.Prelude.{is_some, unwrap_or, count_by, filter_map}
use Rattle.std.specs.List.{enumerate_from, cons_option}
use Rattle.std.proofs.lemmas.List.Sums.{sum_by-cons}
use Rattle.std.proofs.Math.Bool.{and-false}
use Rattle.sts_model.specs.declared.event.End.{End}
use Rattle.sts_model.specs.declared.record.Task.{Task}
use Rattle.sts_model.specs.declared.record.Scope.{Scope}
use Rattle.sts_model.specs.World.{World, task_at, scope_at, no_task, no_scope}
use Rattle.sts_model.specs.Living.{lives, is_in, is_subtask, is_living_subtask, any_lives, subtask_count, is_closed, completion_of, parent}
use Rattle.sts_model.specs.Standing.{is_standing_scope, is_standing_task, stands_in, standing_tasks, standing_scopes}
use Rattle.sts_model.specs.Environment.{own_bindings}
use Rattle.sts_model.specs.Live.{Live, LiveTask, LiveScope, Alive, live, live_task, live_scope, shown_scope, subtask_in}
use Rattle.laws_runs.proofs.ListLemmas.{past}
use Rattle.laws_runs.proofs.SoundLemmas.{Sound, born_open, dead_around, stands_alive}
use Rattle.laws_live.specs.Reading.{task_in, scope_in, no_live_task, no_live_scope, no_alive, live_task_at, live_scope_at, alive_at, lives_in, live_count}
use Rattle.laws_live.specs.Reading.{is_live_living, live_any_lives}
use Rattle.laws_live.proofs.ListLemmas.{alike, any_alike, count_alike}

-- ---- one task, one scope

-- a task's own state, in the scope of this birth number
abbrev pub had : World → Option ℕ → Task → Alive
had w o task = record { frame = task.frame; flag = task.flag; environment = own_bindings task ++ (parent w o).environment }

-- the view of the task u, in the scope of this birth number
abbrev pub shown : World → Option ℕ → ℕ → Task → LiveTask
shown w o u task = record { scope = o; state = completion_of (parent w o).completions u; alive = cond (lives task) (Some (had w o task)) None }

-- what is seen of it
abbrev pub seen_of : World → Option ℕ → ℕ → Task → Option LiveTask
seen_of w o u task = cond (stands_in w o) (Some (shown w o u task)) None

abbrev pub seen : World → ℕ → Task → Option LiveTask
seen w u task = seen_of w task.scope u task

-- what is seen of a scope
abbrev pub seen_scope : Scope → Option LiveScope
seen_scope scope = cond (is_standing_scope scope) (Some (shown_scope scope)) None

-- ---- the lists

pub tasks_born : (w : World) → length (live w).tasks ≡ length w.tasks
tasks_born w = length-map-range_with_len (live_task w) 0 (length w.tasks)

pub scopes_born : (w : World) → length (live w).scopes ≡ length w.scopes
scopes_born w = length-map-range_with_len (live_scope w) 0 (length w.scopes)

pub task_here : (w : World) (u : ℕ) → u < length w.tasks → task_in (live w) u ≡ seen w u (task_at w u)
task_here w u less = get_or-map-range_with_len (live_task w) 0 (length w.tasks) u u None less (omega arith)

pub scope_here : (w : World) (s : ℕ) → s < length w.scopes → scope_in (live w) s ≡ seen_scope (scope_at w s)
scope_here w s less = get_or-map-range_with_len (live_scope w) 0 (length w.scopes) s s None less (omega arith)

-- two views with the same tasks, scopes and end
pub same_view : (w : World) (v : Live) → length v.tasks ≡ length w.tasks → length v.scopes ≡ length w.scopes → ((u : ℕ) → u < length w.tasks → seen w u (task_at w u) ≡ task_in v u) → ((s : ℕ) → s < length w.scopes → seen_scope (scope_at w s) ≡ scope_in v s) → (task_at w 0).outcome ≡ v.root_end → live w ≡ v
same_view w v tasks scopes task scope root =
    let ts : (live w).tasks ≡ v.tasks =
    alike (live w).tasks v.tasks None (tasks_born w ∙ sym tasks)
    (λ u less. let n = tasks_born w in let born : u < length w.tasks = omega (arith, n, less) in task_here w u born ∙ task u born)
    in
    let ss : (live w).scopes ≡ v.scopes =
    alike (live w).scopes v.scopes None (scopes_born w ∙ sym scopes)
    (λ s less. let n = scopes_born w in let born : s < length w.scopes = omega (arith, n, less) in scope_here w s born ∙ scope s born)
    in
    by (live w).tasks (live w).scopes (live w).root_end ts ss root
  where
    by : (a : List (Option LiveTask)) (b : List (Option LiveScope)) (c : Option End) → a ≡ v.tasks → b ≡ v.scopes → c ≡ v.root_end → record { tasks = a; scopes = b; root_end = c } ≡ v
    by a b c e f g = rw (e, f, g) refl

-- ---- reading

-- a scope that isn't closed is in the view
pub scope_is : (w : World) (s : ℕ) → is_closed (scope_at w s).phase ≡ false → live_scope_at (live w) s ≡ shown_scope (scope_at w s)
scope_is w s e = ap (λ o. unwrap_or o no_live_scope) (scope_here w s (born_open w s e) ∙ by (is_closed (scope_at w s).phase) e)
  where
    by : (b : Bool) → b ≡ false → cond (not b) (Some (shown_scope (scope_at w s))) None ≡ Some (shown_scope (scope_at w s))
    by true e = cc
    by false e = refl

-- a task that counts is in the view; a task that was not born reads alike in the view
pub task_is : (w : World) (u : ℕ) → stands_in w (task_at w u).scope ≡ true → live_task_at (live w) u ≡ shown w (task_at w u).scope u (task_at w u)
task_is w u stands = by (nat_lt u (length w.tasks)) refl
  where
    kept : (b : Bool) (x : LiveTask) → b ≡ true → cond b (Some x) None ≡ Some x
    kept true x e = refl
    kept false x e = cc

    by : (b : Bool) → nat_lt u (length w.tasks) ≡ b → live_task_at (live w) u ≡ shown w (task_at w u).scope u (task_at w u)
    by true e =
        let less : u < length w.tasks = grind (arith, nat_tests) in
        ap (λ o. unwrap_or o no_live_task) (task_here w u less ∙ kept (stands_in w (task_at w u).scope) (shown w (task_at w u).scope u (task_at w u)) stands)
    by false e =
        let more : length w.tasks ≤ u = grind (arith, nat_tests) in
        let n = tasks_born w in
        let none : task_in (live w) u ≡ None = past (live w).tasks u None (omega (arith, n, more)) in
        let no : task_at w u ≡ no_task = past w.tasks u no_task more in
        rw (none, no) refl

-- what left its place, or never had one, isn't in a list
missing : {X : Type 0} (xs : List (Option X)) (n i : ℕ) → length xs ≡ n → (i < n → get_or xs i None ≡ None) → get_or xs i None ≡ None
missing xs n i long gone = by (cases_lt i n)
  where
    by : (i < n) ⊎ (n ≤ i) → get_or xs i None ≡ None
    by (inl less) = gone less
    by (inr more) = past xs i None (omega (arith, long, more))

-- a task in a closed scope isn't in the view
pub task_gone : (w : World) (u : ℕ) → stands_in w (task_at w u).scope ≡ false → task_in (live w) u ≡ None
task_gone w u out = missing (live w).tasks (length w.tasks) u (tasks_born w) (λ less. task_here w u less ∙ rw out refl)

-- a closed scope isn't in the view
pub scope_gone : (w : World) (s : ℕ) → is_closed (scope_at w s).phase ≡ true → scope_in (live w) s ≡ None
scope_gone w s closed = missing (live w).scopes (length w.scopes) s (scopes_born w) (λ less. scope_here w s less ∙ rw closed refl)

-- what a living task has
pub alive_is : (w : World) (u : ℕ) → Sound w → lives (task_at w u) ≡ true → alive_at (live w) u ≡ had w (task_at w u).scope (task_at w u)
alive_is w u o alive =
    ap (λ (task : LiveTask). unwrap_or task.alive no_alive) (task_is w u (stands_alive w u o alive)) ∙ by (lives (task_at w u)) alive
  where
    by : (b : Bool) → b ≡ true → unwrap_or (cond b (Some (had w (task_at w u).scope (task_at w u))) None) no_alive ≡ had w (task_at w u).scope (task_at w u)
    by true e = refl
    by false e = cc

some_if : {X : Type 0} (b : Bool) (x : X) → is_some (cond b (Some x) None) ≡ b
some_if true x = refl
some_if false x = refl

-- who lives
pub lives_is : (w : World) (u : ℕ) → Sound w → lives_in (live w) u ≡ lives (task_at w u)
lives_is w u o = by (stands_in w (task_at w u).scope) refl
  where
    by : (b : Bool) → stands_in w (task_at w u).scope ≡ b → lives_in (live w) u ≡ lives (task_at w u)
    by true e = ap (λ (task : LiveTask). is_some task.alive) (task_is w u e) ∙ some_if (lives (task_at w u)) (had w (task_at w u).scope (task_at w u))
    by false e = ap (λ o. is_some (unwrap_or o no_live_task).alive) (task_gone w u e) ∙ sym (dead_around w u o e)

-- ---- subtasks

abbrev is_live_subtask : ℕ → Option LiveTask → Bool
is_live_subtask s None = false
is_live_subtask s (Some task) = is_in s task.scope

abbrev one_if : Bool → ℕ
one_if b = cond b 1 0

-- the subtasks in a list, counted
subtasks_counted : (s n : ℕ) (xs : List (Option LiveTask)) → length (filter_map (subtask_in s) (enumerate_from n xs)) ≡ count_by (is_live_subtask s) xs
subtasks_counted s n [] = refl
subtasks_counted s n (None ∷ xs) =
    let next = subtasks_counted s (n + 1) xs in
    let here : count_by (is_live_subtask s) (None ∷ xs) ≡ 0 + count_by (is_live_subtask s) xs = sum_by-cons (λ x. one_if (is_live_subtask s x)) None xs in
    omega (arith, next, here)
subtasks_counted s n (Some task ∷ xs) =
    let next = subtasks_counted s (n + 1) xs in
    let here : count_by (is_live_subtask s) (Some task ∷ xs) ≡ one_if (is_in s task.scope) + count_by (is_live_subtask s) xs = sum_by-cons (λ x. one_if (is_live_subtask s x)) (Some task) xs in
    by (is_in s task.scope) next here
  where
    by : (b : Bool) → length (filter_map (subtask_in s) (enumerate_from (n + 1) xs)) ≡ count_by (is_live_subtask s) xs → count_by (is_live_subtask s) (Some task ∷ xs) ≡ one_if b + count_by (is_live_subtask s) xs → length (cons_option (cond b (Some (n, task)) None) (filter_map (subtask_in s) (enumerate_from (n + 1) xs))) ≡ count_by (is_live_subtask s) (Some task ∷ xs)
    by true next here = omega (arith, next, here)
    by false next here = omega (arith, next, here)

-- a task in a scope that isn't closed counts
pub stands_some : (w : World) (s : ℕ) (q : Option ℕ) → is_closed (scope_at w s).phase ≡ false → is_in s q ≡ true → stands_in w q ≡ true
stands_some w s None still e = cc
stands_some w s (Some r) still e = let same : r ≡ s = grind (arith, nat_tests) in rw (same, still) refl

-- a test that only subtasks of s pass
pub subtask_is : (w : World) (s u : ℕ) → is_closed (scope_at w s).phase ≡ false → is_live_subtask s (seen w u (task_at w u)) ≡ is_subtask s (task_at w u)
subtask_is w s u still = by (is_in s (task_at w u).scope) refl (stands_in w (task_at w u).scope) refl
  where
    by : (a : Bool) → is_in s (task_at w u).scope ≡ a → (b : Bool) → stands_in w (task_at w u).scope ≡ b → is_live_subtask s (cond b (Some (shown w (task_at w u).scope u (task_at w u))) None) ≡ is_in s (task_at w u).scope
    by a e true f = refl
    by true e false f = let h = stands_some w s (task_at w u).scope still e in cc
    by false e false f = sym e

pub count_is : (w : World) (s : ℕ) → is_closed (scope_at w s).phase ≡ false → live_count (live w) s ≡ subtask_count w s
count_is w s still =
    subtasks_counted s 0 (live w).tasks
    ∙ count_alike (is_live_subtask s) (is_subtask s) (live w).tasks w.tasks None no_task (tasks_born w)
    (λ u less. let n = tasks_born w in ap (is_live_subtask s) (task_here w u (omega (arith, n, less))) ∙ subtask_is w s u still)

living_is : (w : World) (s u : ℕ) → Sound w → is_live_living s (seen w u (task_at w u)) ≡ is_living_subtask s (task_at w u)
living_is w s u o = by (stands_in w (task_at w u).scope) refl
  where
    by : (b : Bool) → stands_in w (task_at w u).scope ≡ b → is_live_living s (cond b (Some (shown w (task_at w u).scope u (task_at w u))) None) ≡ (is_in s (task_at w u).scope && lives (task_at w u))
    by true f = ap (λ b. is_in s (task_at w u).scope && b) (some_if (lives (task_at w u)) (had w (task_at w u).scope (task_at w u)))
    by false f = let dead = dead_around w u o f in rw (dead, and-false (is_in s (task_at w u).scope)) refl

pub any_is : (w : World) (s : ℕ) → Sound w → live_any_lives (live w) s ≡ any_lives w s
any_is w s o =
    any_alike (is_live_living s) (is_living_subtask s) (live w).tasks w.tasks None no_task (tasks_born w)
    (λ u less. let n = tasks_born w in ap (is_live_living s) (task_here w u (omega (arith, n, less))) ∙ living_is w s u o)

-- ---- what stands

pub tasks_stand : (w : World) → count_by is_some (live w).tasks ≡ standing_tasks w
tasks_stand w =
    count_alike (λ (o : Option LiveTask). is_some o) (is_standing_task w) (live w).tasks w.tasks None no_task (tasks_born w)
    (λ u less. let n = tasks_born w in ap (λ (o : Option LiveTask). is_some o) (task_here w u (omega (arith, n, less))) ∙ some_if (stands_in w (task_at w u).scope) (shown w (task_at w u).scope u (task_at w u)))

pub scopes_stand : (w : World) → count_by is_some (live w).scopes ≡ standing_scopes w
scopes_stand w =
    count_alike (λ (o : Option LiveScope). is_some o) is_standing_scope (live w).scopes w.scopes None no_scope (scopes_born w)
    (λ s less. let n = scopes_born w in ap (λ (o : Option LiveScope). is_some o) (scope_here w s (omega (arith, n, less))) ∙ some_if (is_standing_scope (scope_at w s)) (shown_scope (scope_at w s)))
