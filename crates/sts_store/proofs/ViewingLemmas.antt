-- The view of a forest after each change.
use Rattle.std.proofs.Common.{◌≡◌, ℕ, zero, suc, ◌+◌, List, [], ◌∷◌, ◌++◌, length, map, Bool, true, false, Option, Some, None, refl, sym, ◌∙◌, ap, arith}
use Rattle.std.proofs.Common.{get_or, set, cond, is_some, add-one, get_or-set_same, not, subst, ◌&&◌, ◌<◌, ◌||◌}
use Rattle.std.proofs.lemmas.List.{map-set, map-append}
use Rattle.std.specs.Prelude.{option_map, unwrap_or, filter_map}
use Rattle.std.specs.List.{list_any, enumerate_from}
use Rattle.sts_model.specs.declared.event.Stand.TheVariants.{Free, AtJoin, AtClose}
use Rattle.sts_model.specs.declared.event.Stand.{Stand}
use Rattle.laws_live.specs.Waiting.{live_can_go}
use Rattle.sts_links.specs.Lists.{first_or}
use Rattle.sts_model.specs.Living.{is_in}
use Rattle.sts_model.specs.Live.{Live, LiveTask, LiveScope, Alive, subtask_in}
use Rattle.sts_model.specs.declared.event.End.{End}
use Rattle.sts_model.specs.Told.{tell, cancels_told}
use Rattle.sts_joiners.specs.Tallied.{with_end}
use Rattle.sts_tree.specs.Births.{drop_if, births}
use Rattle.sts_tree.specs.Forest.{Forest, closed, is_of, opened, subtask, asks, lives_in, any_lives}
use Rattle.sts_tree.specs.declared.record.TaskNode.{TaskNode}
use Rattle.sts_tree.specs.declared.record.ScopeNode.{ScopeNode}
use Rattle.laws_words.proofs.ListLemmas.{set_again}
use Rattle.sts_tree.proofs.BirthLemmas.{suc_more}
use Rattle.sts_tree.proofs.HoldingLemmas.{map_at, inside_of}
use Rattle.sts_tree.specs.Ending as ending
use Rattle.sts_tree.specs.Ending.{gone, ended, asks_in, asks_told}
use Rattle.sts_tree.specs.Reading.{lives_at}
use Rattle.sts_tree.specs.Steps.{unmarked, seen, with_task, with_scope, can_step, can_go, is_over}
use Rattle.sts_cancel.specs.Cancelling.{raise, raise_all, cancel, expire}
use Rattle.laws_live.specs.Reading.{with_live_task, with_live_scope, task_in, scope_in, live_scope_at, no_live_task, no_live_scope, is_live_living, alive_at}
use Rattle.laws_live.specs.Reading.{no_alive, live_any_lives}
use Rattle.laws_live.specs.Reading as reading
use Rattle.laws_live.specs.Cancelling.{live_raise, live_raised, live_marked, live_cancel}
use Rattle.laws_live.specs.Effect.{without, live_gone, live_told, live_ended, live_tell, live_decide}
use Rattle.sts_store.specs.View.{Beside, alive_of, task_seen, scope_seen, tasks_from, view_of}
use Rattle.sts_store.specs.Agreeing.{at_end, TaskAt, ScopeAt, WordsAgree, decided}

zero_more : (n : ℕ) → n + 0 ≡ n
zero_more n = omega arith

either : (a b c d : Bool) → (a || b || c || d) ≡ ((a || b) || c || d)
either true b c d = refl
either false true c d = refl
either false false c d = refl

module _ {E : Type 0} (b : Beside E) where
  -- ---- the tasks by birth

  task_from : (n : ℕ) (xs : List (Option TaskNode)) (k : ℕ) → get_or (tasks_from b n xs) k None ≡ option_map (task_seen b (n + k)) (get_or xs k None)
  task_from n [] k = refl
  task_from n (o ∷ xs) zero = rw (zero_more n) refl
  task_from n (o ∷ xs) (suc k) = rw (suc_more n k) (task_from (suc n) xs k)

  pub task_is : (f : Forest E) (t : ℕ) → task_in (view_of b f) t ≡ option_map (task_seen b t) (get_or f.tasks t None)
  task_is f t = let z : 0 + t ≡ t = omega arith in rw z at (task_from 0 f.tasks t)

  set_from : (n : ℕ) (xs : List (Option TaskNode)) (k : ℕ) (y : TaskNode) → tasks_from b n (set xs k (Some y)) ≡ set (tasks_from b n xs) k (Some (task_seen b (n + k) y))
  set_from n [] k y = refl
  set_from n (o ∷ xs) zero y = rw (zero_more n) refl
  set_from n (o ∷ xs) (suc k) y = rw (suc_more n k) (ap (λ l. option_map (task_seen b n) o ∷ l) (set_from (suc n) xs k y))

  set_is : (xs : List (Option TaskNode)) (k : ℕ) (y : TaskNode) → tasks_from b 0 (set xs k (Some y)) ≡ set (tasks_from b 0 xs) k (Some (task_seen b k y))
  set_is xs k y = let z : 0 + k ≡ k = omega arith in rw z at (set_from 0 xs k y)

  map_from : (n : ℕ) (g : Option TaskNode → Option TaskNode) (h : Option LiveTask → Option LiveTask) → ((m : ℕ) (o : Option TaskNode) → option_map (task_seen b m) (g o) ≡ h (option_map (task_seen b m) o)) → (xs : List (Option TaskNode)) → tasks_from b n (map g xs) ≡ map h (tasks_from b n xs)
  map_from n g h same [] = refl
  map_from n g h same (o ∷ xs) = rw (same n o, map_from (suc n) g h same xs) refl

  more_from : (n : ℕ) (xs : List (Option TaskNode)) (o : Option TaskNode) → tasks_from b n (xs ++ o ∷ []) ≡ tasks_from b n xs ++ option_map (task_seen b (n + length xs)) o ∷ []
  more_from n [] o = rw (zero_more n) refl
  more_from n (x ∷ xs) o = rw (suc_more n (length xs)) (ap (λ l. option_map (task_seen b n) x ∷ l) (more_from (suc n) xs o))

  pub more_is : (xs : List (Option TaskNode)) (y : TaskNode) → tasks_from b 0 (xs ++ Some y ∷ []) ≡ tasks_from b 0 xs ++ Some (task_seen b (length xs) y) ∷ []
  more_is xs y = let z : 0 + (length xs) ≡ (length xs) = omega arith in rw z at (more_from 0 xs (Some y))

  -- ---- one task, one scope

  pub view_task : (f : Forest E) (t : ℕ) (x y : TaskNode) (change : LiveTask → LiveTask) → TaskAt f t x → task_seen b t y ≡ change (task_seen b t x) → view_of b (with_task f t y) ≡ with_live_task (view_of b f) t change
  view_task f t x y change is same =
      ap (λ l. record { tasks = l; scopes = map (option_map (scope_seen b)) f.scopes; root_end = b.root_end })
      (set_is f.tasks t y ∙ ap (λ o. set (tasks_from b 0 f.tasks) t o) (ap (λ z. Some z) same ∙ sym (ap (option_map change) (task_is f t ∙ ap (option_map (task_seen b t)) is))))

  pub scope_is : (f : Forest E) (s : ℕ) → scope_in (view_of b f) s ≡ option_map (scope_seen b) (get_or f.scopes s None)
  scope_is f s = map_at (scope_seen b) f.scopes s

  pub view_scope : (f : Forest E) (s : ℕ) (c d : ScopeNode E) (change : LiveScope → LiveScope) → ScopeAt f s c → scope_seen b d ≡ change (scope_seen b c) → view_of b (with_scope f s d) ≡ with_live_scope (view_of b f) s change
  view_scope f s c d change is same =
      ap (λ l. record { tasks = tasks_from b 0 f.tasks; scopes = l; root_end = b.root_end })
      (map-set (option_map (scope_seen b)) f.scopes s (Some d) ∙ ap (λ o. set (map (option_map (scope_seen b)) f.scopes) s o) (ap (λ z. Some z) same ∙ sym (ap (option_map change) (scope_is f s ∙ ap (option_map (scope_seen b)) is))))

  flag_seen : (n : ℕ) (x : TaskNode) (flag : Bool) → alive_of b n (record x { flag = flag }) ≡ option_map (λ (alive : Alive). record alive { flag = flag }) (alive_of b n x)
  flag_seen n x flag = by x.lives refl
    where
      by : (a : Bool) → x.lives ≡ a → alive_of b n (record x { flag = flag }) ≡ option_map (λ (alive : Alive). record alive { flag = flag }) (alive_of b n x)
      by true e = rw e refl
      by false e = rw e refl

  -- ---- a cancel

  raise_seen : (s n : ℕ) (x : TaskNode) → task_seen b n (raise s x) ≡ live_raise s (task_seen b n x)
  raise_seen s n x = by (is_in s x.scope) x.lives refl refl
    where
      by : (a l : Bool) → is_in s x.scope ≡ a → x.lives ≡ l → task_seen b n (raise s x) ≡ live_raise s (task_seen b n x)
      by true true e f = rw (e, f) refl
      by true false e f = rw (e, f) refl
      by false l e f = rw e refl

  raise_option : (s n : ℕ) (o : Option TaskNode) → option_map (task_seen b n) (option_map (raise s) o) ≡ option_map (live_raise s) (option_map (task_seen b n) o)
  raise_option s n None = refl
  raise_option s n (Some x) = ap (λ z. Some z) (raise_seen s n x)

  raised_is : (f : Forest E) (s : ℕ) → view_of b (raise_all f s) ≡ live_raised s (view_of b f)
  raised_is f s =
      ap (λ l. record { tasks = l; scopes = map (option_map (scope_seen b)) f.scopes; root_end = b.root_end })
      (map_from 0 (option_map (raise s)) (option_map (live_raise s)) (raise_option s) f.tasks)

  pub scope_there : (f : Forest E) (s : ℕ) (c : ScopeNode E) → ScopeAt f s c → live_scope_at (view_of b f) s ≡ scope_seen b c
  scope_there f s c is = ap (λ o. unwrap_or o no_live_scope) (scope_is f s ∙ ap (option_map (scope_seen b)) is)

  pub cancelled_is : (f : Forest E) (s : ℕ) (c : ScopeNode E) → ScopeAt f s c → view_of b (cancel f s c) ≡ live_cancel (view_of b f) s
  cancelled_is f s c is =
      by c.cancelled refl ∙ sym (ap (λ a. cond a (view_of b f) (live_marked (view_of b f) s)) (ap (λ (d : LiveScope). d.cancelled) (scope_there f s c is)))
    where
      marked : view_of b (raise_all (with_scope f s (record c { cancelled = true })) s) ≡ live_marked (view_of b f) s
      marked =
          raised_is (with_scope f s (record c { cancelled = true })) s
          ∙ ap (live_raised s) (view_scope f s c (record c { cancelled = true }) (λ scope. record scope { cancelled = true }) is refl)

      by : (a : Bool) → c.cancelled ≡ a → view_of b (cond a f (raise_all (with_scope f s (record c { cancelled = true })) s)) ≡ cond a (view_of b f) (live_marked (view_of b f) s)
      by true e = refl
      by false e = marked

  -- ---- a close

  drop_seen : (s n : ℕ) (o : Option TaskNode) → option_map (task_seen b n) (drop_if (is_of s) o) ≡ without s (option_map (task_seen b n) o)
  drop_seen s n None = refl
  drop_seen s n (Some x) = by (is_in s x.scope) refl
    where
      by : (a : Bool) → is_in s x.scope ≡ a → option_map (task_seen b n) (drop_if (is_of s) (Some x)) ≡ without s (Some (task_seen b n x))
      by true e = rw e refl
      by false e = rw e refl

  pub closed_is : (f : Forest E) (s : ℕ) → view_of b (closed f s) ≡ live_gone (view_of b f) s
  closed_is f s =
      rw (map_from 0 (drop_if (is_of s)) (without s) (drop_seen s) f.tasks, map-set (option_map (scope_seen b)) f.scopes s None) refl

  -- ---- what isn't seen

  unmarked_from : (n : ℕ) (xs : List (Option TaskNode)) → tasks_from b n (map (option_map unmarked) xs) ≡ tasks_from b n xs
  unmarked_from n [] = refl
  unmarked_from n (None ∷ xs) = ap (λ l. None ∷ l) (unmarked_from (suc n) xs)
  unmarked_from n (Some x ∷ xs) = ap (λ l. Some (task_seen b n x) ∷ l) (unmarked_from (suc n) xs)

  view_seen : (f : Forest E) → view_of b (seen f) ≡ view_of b f
  view_seen f = ap (λ l. record { tasks = l; scopes = map (option_map (scope_seen b)) f.scopes; root_end = b.root_end }) (unmarked_from 0 f.tasks)

  pub same_view : (f g : Forest E) → seen f ≡ seen g → view_of b f ≡ view_of b g
  same_view f g e = sym (view_seen f) ∙ ap (view_of b) e ∙ view_seen g

  kept_from : (n : ℕ) (xs : List (Option TaskNode)) (k : ℕ) (x y : TaskNode) → get_or xs k None ≡ Some x → ((m : ℕ) → task_seen b m y ≡ task_seen b m x) → tasks_from b n (set xs k (Some y)) ≡ tasks_from b n xs
  kept_from n [] k x y is same = refl
  kept_from n (o ∷ xs) zero x y is same = rw (is, same n) refl
  kept_from n (o ∷ xs) (suc k) x y is same = ap (λ l. option_map (task_seen b n) o ∷ l) (kept_from (suc n) xs k x y is same)

  pub unseen_task : (f : Forest E) (t : ℕ) (x y : TaskNode) → TaskAt f t x → ((m : ℕ) → task_seen b m y ≡ task_seen b m x) → view_of b (with_task f t y) ≡ view_of b f
  unseen_task f t x y is same =
      ap (λ l. record { tasks = l; scopes = map (option_map (scope_seen b)) f.scopes; root_end = b.root_end }) (kept_from 0 f.tasks t x y is same)

  pub lives_same : (f : Forest E) (t : ℕ) → reading.lives_in (view_of b f) t ≡ lives_at f t
  lives_same f t = ap (λ o. is_some (unwrap_or o no_live_task).alive) (task_is f t) ∙ by (get_or f.tasks t None)
    where
      by2 : (x : TaskNode) (a : Bool) → x.lives ≡ a → is_some (alive_of b t x) ≡ x.lives
      by2 x true e = rw e refl
      by2 x false e = rw e refl

      by : (o : Option TaskNode) → is_some (unwrap_or (option_map (task_seen b t) o) no_live_task).alive ≡ (elim o [ None ↦ false | Some x ↦ x.lives ])
      by None = refl
      by (Some x) = by2 x x.lives refl

  -- ---- subtasks

  any_from : (s n : ℕ) (xs : List (Option TaskNode)) → list_any (is_live_living s) (tasks_from b n xs) ≡ is_some (first_or (births (lives_in s) n xs) None)
  any_from s n [] = refl
  any_from s n (None ∷ xs) = any_from s (suc n) xs
  any_from s n (Some x ∷ xs) = by (is_in s x.scope) x.lives refl refl (any_from s (suc n) xs)
    where
      by : (a l : Bool) → is_in s x.scope ≡ a → x.lives ≡ l → list_any (is_live_living s) (tasks_from b (suc n) xs) ≡ is_some (first_or (births (lives_in s) (suc n) xs) None) → (is_live_living s (Some (task_seen b n x)) || list_any (is_live_living s) (tasks_from b (suc n) xs)) ≡ is_some (first_or (births (lives_in s) n (Some x ∷ xs)) None)
      by true true e f r = rw (e, f) refl
      by true false e f r = rw (e, f) r
      by false l e f r = rw e r

  count_from : (s n : ℕ) (xs : List (Option TaskNode)) → length (filter_map (subtask_in s) (enumerate_from n (tasks_from b n xs))) ≡ length (births (is_of s) n xs)
  count_from s n [] = refl
  count_from s n (None ∷ xs) = rw add-one (count_from s (suc n) xs)
  count_from s n (Some x ∷ xs) = by (is_in s x.scope) refl (count_from s (suc n) xs)
    where
      by : (a : Bool) → is_in s x.scope ≡ a → length (filter_map (subtask_in s) (enumerate_from (suc n) (tasks_from b (suc n) xs))) ≡ length (births (is_of s) (suc n) xs) → length (filter_map (subtask_in s) (enumerate_from n (tasks_from b n (Some x ∷ xs)))) ≡ length (births (is_of s) n (Some x ∷ xs))
      by true e r = rw (add-one, e) (ap suc r)
      by false e r = rw (add-one, e) r

  -- ---- who can step

  over_seen : (f : Forest E) (s : ℕ) → ((live_scope_at (view_of b f) s).expired || (live_scope_at (view_of b f) s).cancelled) ≡ is_over f s
  over_seen f s = ap (λ o. (unwrap_or o no_live_scope).expired || (unwrap_or o no_live_scope).cancelled) (scope_is f s) ∙ by (get_or f.scopes s None)
    where
      by : (o : Option (ScopeNode E)) → ((unwrap_or (option_map (scope_seen b) o) no_live_scope).expired || (unwrap_or (option_map (scope_seen b) o) no_live_scope).cancelled) ≡ (elim o [ None ↦ false | Some c ↦ c.expired || c.cancelled ])
      by None = refl
      by (Some c) = refl

  own_flag : (f : Forest E) (t : ℕ) (x : TaskNode) → TaskAt f t x → x.lives ≡ true → (alive_at (view_of b f) t).flag ≡ x.flag
  own_flag f t x is lives =
      ap (λ o. (unwrap_or (unwrap_or o no_live_task).alive no_alive).flag) (task_is f t ∙ ap (option_map (task_seen b t)) is) ∙ (rw lives refl)

  go_seen : (f : Forest E) (t : ℕ) (x : TaskNode) (stand : Stand) → TaskAt f t x → x.lives ≡ true → live_can_go (view_of b f) t stand ≡ can_go f x.flag stand
  go_seen f t x Free is lives = refl
  go_seen f t x (AtClose s) is lives = ap not (any_from s 0 f.tasks)
  go_seen f t x (AtJoin s) is lives =
      either (live_scope_at (view_of b f) s).expired (live_scope_at (view_of b f) s).cancelled (not (live_any_lives (view_of b f) s)) (alive_at (view_of b f) t).flag
      ∙ ap (λ a. a || not (live_any_lives (view_of b f) s) || (alive_at (view_of b f) t).flag) (over_seen f s)
      ∙ ap (λ a. is_over f s || not a || (alive_at (view_of b f) t).flag) (any_from s 0 f.tasks)
      ∙ ap (λ a. is_over f s || not (any_lives f.tasks s) || a) (own_flag f t x is lives)

  pub steps_same : (f : Forest E) (t : ℕ) (x : TaskNode) → TaskAt f t x → (reading.lives_in (view_of b f) t && live_can_go (view_of b f) t x.stand) ≡ can_step f t
  steps_same f t x is =
      ap (λ l. l && live_can_go (view_of b f) t x.stand) (lives_same f t ∙ ap (λ (o : Option TaskNode). elim o [ None ↦ false | Some z ↦ z.lives ]) is)
      ∙ by x.lives refl
      ∙ sym (ap (λ (o : Option TaskNode). elim o [ None ↦ false | Some z ↦ z.lives && can_go f z.flag z.stand ]) is)
    where
      by : (a : Bool) → x.lives ≡ a → (x.lives && live_can_go (view_of b f) t x.stand) ≡ (x.lives && can_go f x.flag x.stand)
      by true e = ap (λ c. x.lives && c) (go_seen f t x x.stand is e)
      by false e = rw e refl

-- ---- the end of a task

module _ {E : Type 0} where
  bare_from : (b : Beside E) (o : Option End) (n : ℕ) (xs : List (Option TaskNode)) → tasks_from (record b { root_end = o }) n xs ≡ tasks_from b n xs
  bare_from b o n [] = refl
  bare_from b o n (x ∷ xs) = ap (λ l. option_map (task_seen b n) x ∷ l) (bare_from b o (suc n) xs)

  pub rooted : (b : Beside E) (o : Option End) (f : Forest E) → view_of (record b { root_end = o }) f ≡ record (view_of b f) { root_end = o }
  rooted b o f = ap (λ l. record { tasks = l; scopes = map (option_map (scope_seen b)) f.scopes; root_end = o }) (bare_from b o 0 f.tasks)

  pub gone_seen : (b : Beside E) (f : Forest E) (t : ℕ) (x : TaskNode) (end : End) → TaskAt f t x → view_of (at_end b t end) (gone f t x) ≡ live_ended (view_of b f) t end
  gone_seen b f t x end is =
      rooted b (at_end b t end).root_end (gone f t x)
      ∙ ap (λ (v : Live). record v { root_end = (at_end b t end).root_end }) (view_task b f t x (record x { lives = false }) (λ task. record task { alive = None }) is refl)

  pub told_seen : (b : Beside E) (f : Forest E) (t s : ℕ) (x : TaskNode) (c : ScopeNode E) (end : End) → TaskAt f t x → ScopeAt f s c → view_of (at_end b t end) (ending.told f t x end s c) ≡ live_told (live_ended (view_of b f) t end) t s end
  told_seen b f t s x c end is there =
      let y : TaskNode = record x { lives = false; state = Some end } in
      let inside = inside_of f.tasks t (λ n. let q : Some x ≡ None = sym is ∙ n in cc) in
      let here : TaskAt (gone f t x) t (record x { lives = false }) = get_or-set_same f.tasks t (Some (record x { lives = false })) None inside in
      let twice : with_task (gone f t x) t y ≡ with_task f t y = ap (λ l. record f { tasks = l }) (set_again f.tasks t (Some (record x { lives = false })) (Some y)) in
      view_scope (at_end b t end) (with_task f t y) s c _ (λ scope. record scope { told = tell scope.joiner scope.told end }) there refl
      ∙ ap (λ v. with_live_scope v s (λ scope. record scope { told = tell scope.joiner scope.told end }))
      (sym (ap (view_of (at_end b t end)) twice)
      ∙ view_task (at_end b t end) (gone f t x) t (record x { lives = false }) y (λ task. record task { state = Some end }) here refl
      ∙ ap (λ v. with_live_task v t (λ task. record task { state = Some end })) (gone_seen b f t x end is))

  -- ---- and what comes of it

  pub root_seen : (b : Beside E) (f : Forest E) (t : ℕ) (x : TaskNode) (end : End) → TaskAt f t x → x.scope ≡ None → view_of (at_end b t end) (ended f t x end) ≡ live_tell (live_ended (view_of b f) t end) t None end
  root_seen b f t x end is scope = ap (λ o. view_of (at_end b t end) (ending.ended_in f t x end o)) scope ∙ gone_seen b f t x end is

  pub end_seen : (b : Beside E) (f : Forest E) (t s : ℕ) (x : TaskNode) (c : ScopeNode E) (end : End) → TaskAt f t x → x.scope ≡ Some s → ScopeAt f s c → view_of (at_end b t end) (decided f t x end s c) ≡ live_tell (live_ended (view_of b f) t end) t (Some s) end
  end_seen b f t s x c end is scope there =
      ap (λ o. view_of (at_end b t end) (word (asks_in f end o) (ending.ended_in f t x end o))) scope
      ∙ ap (λ o. view_of (at_end b t end) (word (asks_told end o) (ending.told_in f t x end s o))) there
      ∙ by c.cancelled refl
      ∙ sym (ap (λ a. cond a (live_ended (view_of b f) t end) (live_decide (live_told (live_ended (view_of b f) t end) t s end) s)) old)
    where
      d : ScopeNode E
      d = record c { tally = with_end c.tally end }

      word : Bool → Forest E → Forest E
      word a f2 = cond a (cancel f2 s d) f2

      old : (live_scope_at (live_ended (view_of b f) t end) s).cancelled ≡ c.cancelled
      old = ap (λ (w : LiveScope). w.cancelled) (ap (λ v. live_scope_at v s) (sym (gone_seen b f t x end is)) ∙ scope_there (at_end b t end) (gone f t x) s c there)

      inside : s < length f.scopes
      inside = inside_of f.scopes s (λ n. let q : Some c ≡ None = sym there ∙ n in cc)

      here : ScopeAt (ending.told f t x end s c) s d
      here = get_or-set_same f.scopes s (Some d) None inside

      now : live_scope_at (live_told (live_ended (view_of b f) t end) t s end) s ≡ scope_seen b d
      now = ap (λ v. live_scope_at v s) (sym (told_seen b f t s x c end is there)) ∙ scope_there (at_end b t end) (ending.told f t x end s c) s d here

      decides : (a : Bool) → view_of (at_end b t end) (word a (ending.told f t x end s c)) ≡ cond a (live_cancel (live_told (live_ended (view_of b f) t end) t s end) s) (live_told (live_ended (view_of b f) t end) t s end)
      decides true = cancelled_is (at_end b t end) (ending.told f t x end s c) s d here ∙ ap (λ v. live_cancel v s) (told_seen b f t s x c end is there)
      decides false = told_seen b f t s x c end is there

      told_now : view_of (at_end b t end) (word (asks c end) (ending.told f t x end s c)) ≡ live_decide (live_told (live_ended (view_of b f) t end) t s end) s
      told_now =
          decides (asks c end)
          ∙ sym (ap (λ (w : LiveScope). cond (cancels_told w.joiner w.told) (live_cancel (live_told (live_ended (view_of b f) t end) t s end) s) (live_told (live_ended (view_of b f) t end) t s end)) now)

      by : (a : Bool) → c.cancelled ≡ a → view_of (at_end b t end) (word (not c.cancelled && asks c end) (cond c.cancelled (gone f t x) (ending.told f t x end s c))) ≡ cond c.cancelled (live_ended (view_of b f) t end) (live_decide (live_told (live_ended (view_of b f) t end) t s end) s)
      by true e = subst (λ a. view_of (at_end b t end) (word (not a && asks c end) (cond a (gone f t x) (ending.told f t x end s c))) ≡ cond a (live_ended (view_of b f) t end) (live_decide (live_told (live_ended (view_of b f) t end) t s end) s)) (sym e) (gone_seen b f t x end is)
      by false e = subst (λ a. view_of (at_end b t end) (word (not a && asks c end) (cond a (gone f t x) (ending.told f t x end s c))) ≡ cond a (live_ended (view_of b f) t end) (live_decide (live_told (live_ended (view_of b f) t end) t s end) s)) (sym e) told_now

  -- ---- an expiry

  pub expired_seen : (b : Beside E) (f : Forest E) (s : ℕ) (c : ScopeNode E) → ScopeAt f s c → view_of b (expire f s c) ≡ live_cancel (with_live_scope (view_of b f) s (λ scope. record scope { expired = true })) s
  expired_seen b f s c is =
      let inside = inside_of f.scopes s (λ n. let q : Some c ≡ None = sym is ∙ n in cc) in
      let here : ScopeAt (with_scope f s (record c { expired = true })) s (record c { expired = true }) = get_or-set_same f.scopes s (Some (record c { expired = true })) None inside in
      cancelled_is b (with_scope f s (record c { expired = true })) s (record c { expired = true }) here
      ∙ ap (λ v. live_cancel v s) (view_scope b f s c (record c { expired = true }) (λ scope. record scope { expired = true }) is refl)

  pub words : WordsAgree E
  words =
      record {
        same = λ b f g e. same_view b f g e;
        flag = λ b f t x flag is. view_task b f t x (record x { flag = flag }) (λ task. record task { alive = option_map (λ (alive : Alive). record alive { flag = flag }) task.alive }) is (ap (λ a. record { scope = x.scope; state = x.state; alive = a }) (flag_seen b t x flag));
        stand = λ b f t x stand is. unseen_task b f t x (record x { stand = stand }) is (λ m. refl);
        phase = λ b f s c phase is. view_scope b f s c (record c { phase = phase }) (λ scope. record scope { phase = phase }) is refl;
        cancel_is = λ b f s c is. cancelled_is b f s c is;
        expire_is = expired_seen;
        close_is = λ b f s. closed_is b f s;
        gone_is = gone_seen;
        told_is = told_seen;
        fork_is = λ b f s lives keys room. rw (more_is b f.tasks (subtask s lives)) refl;
        open_is = λ b f owner joiner timed environment keys room. rw (map-append (option_map (scope_seen b)) f.scopes (Some (opened owner joiner timed environment) ∷ [])) refl;
        lives_is = λ b f t. lives_same b f t;
        any_is = λ b f s. any_from b s 0 f.tasks;
        count_is = λ b f s. count_from b s 0 f.tasks;
        step_is = λ b f t x is. steps_same b f t x is;
        root_is = root_seen;
        end_is = end_seen;
      }
