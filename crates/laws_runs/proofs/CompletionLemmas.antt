-- Completions: each is of a subtask that ended like that, once. While the scope isn't cancelled,
-- all ended subtasks have one.
use Rattle.std.proofs.Common.{◌⊎◌, inl, inr, ◌≡◌, ℕ, ◌+◌, ◌<◌, ◌≤◌, List, [], ◌∷◌, ◌++◌, Bool, true, false, Option, Some, None, refl, sym, ◌∙◌, length, arith}
use Rattle.std.proofs.Common.{get_or, set, cond, get_or-set_same, nat_lt}
use Rattle.std.specs.Prelude.{◌==◌, find, option_map, count_by, is_some}
use Rattle.std.proofs.lemmas.Bool.Decides.{nat_tests}
use Rattle.std.proofs.lemmas.List.Sums.{sum_by-cons, sum_by-append}
use Rattle.sts_model.specs.declared.event.End.{End}
use Rattle.sts_model.specs.declared.record.Frame.{Frame}
use Rattle.sts_model.specs.declared.record.Task.{Task}
use Rattle.sts_model.specs.declared.record.Scope.{Scope}
use Rattle.sts_model.specs.declared.record.Completion.{Completion}
use Rattle.sts_model.specs.World.{World, task_at, scope_at, no_task, no_scope, with_scope}
use Rattle.sts_model.specs.Local.{steps}
use Rattle.sts_model.specs.Living.{lives, parent, completion_of, sub_state}
use Rattle.sts_code.specs.Program.{Program}
use Rattle.sts_code.specs.declared.instr.Joiner.{Joiner}
use Rattle.sts_model.specs.Effect.{open_scope, fork_task, subtask_of, told, decide, tell, ended, end_task}
use Rattle.laws_runs.specs.Later.{Completes, Later}
use Rattle.laws_runs.proofs.ListLemmas.{at_set, at_put, at_more, within, past}
use Rattle.laws_runs.proofs.StillLemmas.{Still}
use Rattle.laws_runs.proofs.EffectLemmas.{endless, still-decide}
use Rattle.laws_runs.proofs.SoundLemmas.{Sound}
use Rattle.laws_runs.proofs.BirthLemmas.{born_alive, more_tasks, new_scope, opener, still-forker}

-- ---- the completion of a task

abbrev pub Test : ℕ → Completion → Bool
Test u c = c.task == u

abbrev pub EndOf : Option Completion → Option End
EndOf o = option_map (λ (c : Completion). c.end) o

-- the same in a list with more
pub completion-front : (cs more : List Completion) (u : ℕ) (end : End) → completion_of cs u ≡ Some end → completion_of (cs ++ more) u ≡ Some end
completion-front [] more u end e = cc
completion-front (c ∷ cs) more u end e = by (c.task == u) e (completion-front cs more u end)
  where
    by : (b : Bool) → EndOf (cond b (Some c) (find (Test u) cs)) ≡ Some end → (completion_of cs u ≡ Some end → completion_of (cs ++ more) u ≡ Some end) → EndOf (cond b (Some c) (find (Test u) (cs ++ more))) ≡ Some end
    by true e next = e
    by false e next = next e

-- one more completion, of a task without one
pub completion-new : (cs : List Completion) (c : Completion) → completion_of cs c.task ≡ None → completion_of (cs ++ c ∷ []) c.task ≡ Some c.end
completion-new [] c e = by (c.task == c.task) (grind (arith, nat_tests))
  where
    by : (b : Bool) → b ≡ true → EndOf (cond b (Some c) None) ≡ Some c.end
    by true h = refl
    by false h = cc
completion-new (x ∷ cs) c e = by (x.task == c.task) e (completion-new cs c)
  where
    by : (b : Bool) → EndOf (cond b (Some x) (find (Test c.task) cs)) ≡ None → (completion_of cs c.task ≡ None → completion_of (cs ++ c ∷ []) c.task ≡ Some c.end) → EndOf (cond b (Some x) (find (Test c.task) (cs ++ c ∷ []))) ≡ Some c.end
    by true e next = cc
    by false e next = next e

-- a completion of the longer list is an old one, or the new one
pub completion-either : (cs : List Completion) (c : Completion) (u : ℕ) (end : End) → completion_of (cs ++ c ∷ []) u ≡ Some end → (completion_of cs u ≡ Some end) ⊎ ((u ≡ c.task) × (end ≡ c.end))
completion-either [] c u end e = by (c.task == u) refl e
  where
    by : (b : Bool) → (c.task == u) ≡ b → EndOf (cond b (Some c) None) ≡ Some end → (completion_of [] u ≡ Some end) ⊎ ((u ≡ c.task) × (end ≡ c.end))
    by true h e = inr (grind (arith, nat_tests), cc)
    by false h e = cc
completion-either (x ∷ cs) c u end e = by (x.task == u) e (completion-either cs c u end)
  where
    by : (b : Bool) → EndOf (cond b (Some x) (find (Test u) (cs ++ c ∷ []))) ≡ Some end → (completion_of (cs ++ c ∷ []) u ≡ Some end → (completion_of cs u ≡ Some end) ⊎ ((u ≡ c.task) × (end ≡ c.end))) → (EndOf (cond b (Some x) (find (Test u) cs)) ≡ Some end) ⊎ ((u ≡ c.task) × (end ≡ c.end))
    by true e next = inl e
    by false e next = next e

-- a task without completion is counted nowhere
pub count-none : (cs : List Completion) (u : ℕ) → completion_of cs u ≡ None → count_by (Test u) cs ≡ 0
count-none [] u e = refl
count-none (c ∷ cs) u e = sum_by-cons (λ (x : Completion). cond (Test u x) 1 0) c cs ∙ by (c.task == u) e (count-none cs u)
  where
    by : (b : Bool) → EndOf (cond b (Some c) (find (Test u) cs)) ≡ None → (completion_of cs u ≡ None → count_by (Test u) cs ≡ 0) → cond b 1 0 + count_by (Test u) cs ≡ 0
    by true e next = cc
    by false e next = let h = next e in omega (arith, h)

count-more : (cs : List Completion) (c : Completion) (u : ℕ) → count_by (Test u) (cs ++ c ∷ []) ≡ count_by (Test u) cs + cond (c.task == u) 1 0
count-more cs c u =
    let one : count_by (Test u) (c ∷ []) ≡ cond (c.task == u) 1 0 = let h = sum_by-cons (λ (x : Completion). cond (Test u x) 1 0) c [] in omega (arith, h) in
    let h = sum_by-append (λ (x : Completion). cond (Test u x) 1 0) cs (c ∷ []) in
    omega (arith, h, one)

-- ---- a scope, among tasks

pub record ToldIn (tasks : List Task) (s : ℕ) (scope : Scope) : Type 0 where
  pub ended : (u : ℕ) (end : End) → completion_of scope.completions u ≡ Some end → (get_or tasks u no_task).outcome ≡ Some end
  pub subtask : (u : ℕ) (end : End) → completion_of scope.completions u ≡ Some end → (get_or tasks u no_task).scope ≡ Some s
  pub once : (u : ℕ) → count_by (Test u) scope.completions ≤ 1
  pub complete : scope.cancelled ≡ false → (u : ℕ) (end : End) → (get_or tasks u no_task).scope ≡ Some s → (get_or tasks u no_task).outcome ≡ Some end → completion_of scope.completions u ≡ Some end

abbrev pub AllTold : World → Type 0
AllTold w = (s : ℕ) → ToldIn w.tasks s (scope_at w s)

-- the joiner of a new scope was told of no end
pub told-new : (tasks : List Task) (s : ℕ) (scope : Scope) → scope.completions ≡ [] → ((u : ℕ) (end : End) → (get_or tasks u no_task).scope ≡ Some s → (get_or tasks u no_task).outcome ≡ Some end → ⊥) → ToldIn tasks s scope
told-new tasks s scope none never =
    record {
      ended = λ u end e. let h : completion_of scope.completions u ≡ None = rw none refl in cc;
      subtask = λ u end e. let h : completion_of scope.completions u ≡ None = rw none refl in cc;
      once = λ u. let h : count_by (Test u) scope.completions ≡ 0 = rw none refl in omega (arith, h);
      complete = λ still u end inside e. absurd (never u end inside e);
    }

pub told-still : (w v : World) → AllTold w → Still w v → AllTold v
told-still w v o k s =
    record {
      ended = λ u end e. k.outcome u ∙ (o s).ended u end (rw (k.completions s) at e);
      subtask = λ u end e. (k.kept.task u).same.scope ∙ (o s).subtask u end (rw (k.completions s) at e);
      once = λ u. rw (k.completions s) ((o s).once u);
      complete = λ still u end inside e. rw (k.completions s) ((o s).complete (uncancelled still (scope_at w s).cancelled refl) u end (sym (k.kept.task u).same.scope ∙ inside) (sym (k.outcome u) ∙ e));
    }
  where
    uncancelled : (scope_at v s).cancelled ≡ false → (b : Bool) → (scope_at w s).cancelled ≡ b → (scope_at w s).cancelled ≡ false
    uncancelled still true e = let h = (k.kept.scope s).marks.cancelled e in cc
    uncancelled still false e = e

-- ---- births

-- a task more, that has no end
pub told-more_tasks : (tasks : List Task) (x : Task) (s : ℕ) (scope : Scope) → x.outcome ≡ None → ToldIn tasks s scope → ToldIn (tasks ++ x ∷ []) s scope
told-more_tasks tasks x s scope none h =
    record {
      ended = λ u end e. at_more (λ (task : Task). task.outcome ≡ Some end) tasks x u no_task (λ d. absurd (unborn u end d (h.ended u end e))) (h.ended u end e);
      subtask = λ u end e. at_more (λ (task : Task). task.scope ≡ Some s) tasks x u no_task (λ d. absurd (unborn u end d (h.ended u end e))) (h.subtask u end e);
      once = h.once;
      complete = λ still u end.
          at_more (λ (task : Task). task.scope ≡ Some s → task.outcome ≡ Some end → completion_of scope.completions u ≡ Some end) tasks x u no_task
          (λ d inside e. cc)
          (h.complete still u end);
    }
  where
    unborn : (u : ℕ) (end : End) → u ≡ length tasks → (get_or tasks u no_task).outcome ≡ Some end → ⊥
    unborn u end d e =
        let h : is_some (get_or tasks u no_task).outcome ≡ true = rw e refl in
        let less = within (λ (task : Task). is_some task.outcome) tasks u no_task refl h in
        omega (arith, d, less)

-- ---- an end

-- a scope without a new completion: the ended task isn't in it, or the scope is cancelled
told-ended : (w : World) (t s : ℕ) (f : Frame) (end : End) (scope : Scope) → lives (task_at w t) ≡ true → (scope.cancelled ≡ false → (task_at w t).scope ≡ Some s → ⊥) → ToldIn w.tasks s scope → ToldIn (ended w t f end).tasks s scope
told-ended w t s f end scope alive never h =
    record {
      ended = λ u e c. at_set (λ (task : Task). task.outcome ≡ Some e) w.tasks t u x no_task (λ d. absurd (endless (task_at w t) e alive (rw d at (h.ended u e c)))) (h.ended u e c);
      subtask = λ u e c. at_set (λ (task : Task). task.scope ≡ Some s) w.tasks t u x no_task (λ d. rw d at (h.subtask u e c)) (h.subtask u e c);
      once = h.once;
      complete = λ still u e.
          at_set (λ (task : Task). task.scope ≡ Some s → task.outcome ≡ Some e → completion_of scope.completions u ≡ Some e) w.tasks t u x no_task
          (λ d inside c. absurd (never still inside))
          (h.complete still u e);
    }
  where
    x : Task
    x = record (task_at w t) { frame = steps f 1 []; outcome = Some end }

-- the scope of the ended task, if it isn't cancelled
told-told : (w : World) (t s : ℕ) (f : Frame) (end : End) (scope : Scope) → lives (task_at w t) ≡ true → scope.cancelled ≡ false → (task_at w t).scope ≡ Some s → ToldIn w.tasks s scope → ToldIn (ended w t f end).tasks s (told scope t end)
told-told w t s f end scope alive still mine h =
    record {
      ended = λ u e c. ended_by u e (completion-either scope.completions new u e c);
      subtask = λ u e c. subtask_by u e (completion-either scope.completions new u e c);
      once = λ u. once_by u (t == u) refl (count-more scope.completions new u);
      complete = λ uncancelled u e.
          at_put (λ (task : Task). task.scope ≡ Some s → task.outcome ≡ Some e → completion_of (scope.completions ++ new ∷ []) u ≡ Some e) w.tasks t u x no_task (born_alive w t alive)
          (λ d inside c. let same : end ≡ e = cc in rw (← same, d) (completion-new scope.completions new (untold (completion_of scope.completions t) refl)))
          (λ other inside c. completion-front scope.completions (new ∷ []) u e (h.complete still u e inside c));
    }
  where
    x : Task
    x = record (task_at w t) { frame = steps f 1 []; outcome = Some end }

    new : Completion
    new = record { task = t; end = end }

    untold : (o : Option End) → completion_of scope.completions t ≡ o → completion_of scope.completions t ≡ None
    untold None e = e
    untold (Some end) e = absurd (endless (task_at w t) end alive (h.ended t end e))

    ended_by : (u : ℕ) (e : End) → (completion_of scope.completions u ≡ Some e) ⊎ ((u ≡ t) × (e ≡ end)) → (get_or (set w.tasks t x) u no_task).outcome ≡ Some e
    ended_by u e (inl c) = at_set (λ (task : Task). task.outcome ≡ Some e) w.tasks t u x no_task (λ d. absurd (endless (task_at w t) e alive (rw d at (h.ended u e c)))) (h.ended u e c)
    ended_by u e (inr c) = rw (c.0, c.1, get_or-set_same w.tasks t x no_task (born_alive w t alive)) refl

    subtask_by : (u : ℕ) (e : End) → (completion_of scope.completions u ≡ Some e) ⊎ ((u ≡ t) × (e ≡ end)) → (get_or (set w.tasks t x) u no_task).scope ≡ Some s
    subtask_by u e (inl c) = at_set (λ (task : Task). task.scope ≡ Some s) w.tasks t u x no_task (λ d. mine) (h.subtask u e c)
    subtask_by u e (inr c) = rw (c.0, get_or-set_same w.tasks t x no_task (born_alive w t alive)) mine

    once_by : (u : ℕ) (b : Bool) → (t == u) ≡ b → count_by (Test u) (scope.completions ++ new ∷ []) ≡ count_by (Test u) scope.completions + cond (t == u) 1 0 → count_by (Test u) (scope.completions ++ new ∷ []) ≤ 1
    once_by u true e k =
        let same : t ≡ u = grind (arith, nat_tests) in
        let c : count_by (Test u) scope.completions ≡ 0 = count-none scope.completions u (rw (← same) (untold (completion_of scope.completions t) refl)) in
        let q = rw e at k in
        omega (arith, q, c)
    once_by u false e k = let q = rw e at k in let c = h.once u in omega (arith, q, c)

-- ---- every scope, by effect

told-tasks : (xs ys : List Task) (s : ℕ) (scope : Scope) → ((u : ℕ) → (get_or ys u no_task).outcome ≡ (get_or xs u no_task).outcome) → ((u : ℕ) → (get_or ys u no_task).scope ≡ (get_or xs u no_task).scope) → ToldIn xs s scope → ToldIn ys s scope
told-tasks xs ys s scope outcomes scopes h =
    record {
      ended = λ u e c. outcomes u ∙ h.ended u e c;
      subtask = λ u e c. scopes u ∙ h.subtask u e c;
      once = h.once;
      complete = λ still u e inside c. h.complete still u e (sym (scopes u) ∙ inside) (sym (outcomes u) ∙ c);
    }

pub told-open : (w : World) (t x : ℕ) (joiner : Joiner) (timed : Bool) → Sound w → AllTold w → AllTold (open_scope w t (task_at w t).frame x joiner timed)
unfolding open_scope
told-open w t x joiner timed o h s =
    told-tasks w.tasks (set w.tasks t task) s (get_or (w.scopes ++ new_scope w t joiner timed ∷ []) s no_scope)
    (λ u. at_set (λ (y : Task). y.outcome ≡ (task_at w u).outcome) w.tasks t u task no_task (λ e. rw e refl) refl)
    (λ u. at_set (λ (y : Task). y.scope ≡ (task_at w u).scope) w.tasks t u task no_task (λ e. rw e refl) refl)
    (at_more (λ (scope : Scope). ToldIn w.tasks s scope) w.scopes (new_scope w t joiner timed) s no_scope
    (λ e. told-new w.tasks s (new_scope w t joiner timed) refl (λ u end inside d. let less = (o.born u s inside).0 in omega (arith, less, e)))
    (h s))
  where
    task : Task
    task = record (task_at w t) { frame = opener w (task_at w t).frame x }

pub told-fork : (p : Program) (w : World) (t s g : ℕ) (h : Option ℕ) → lives (task_at w t) ≡ true → AllTold w → AllTold (fork_task p w t (task_at w t).frame s g h)
told-fork p w t s g h alive o =
    let x : Task = subtask_of p w (task_at w t).frame s g in
    told-still (more_tasks w x) (fork_task p w t (task_at w t).frame s g h) (λ r. told-more_tasks w.tasks x r (scope_at w r) refl (o r)) (still-forker p w t s g h alive)

-- the task has ended, its scope is cancelled or there is none
told-untold : (w : World) (t : ℕ) (f : Frame) (end : End) → lives (task_at w t) ≡ true → ((s : ℕ) → (scope_at w s).cancelled ≡ false → (task_at w t).scope ≡ Some s → ⊥) → AllTold w → AllTold (ended w t f end)
told-untold w t f end alive never h s = told-ended w t s f end (scope_at w s) alive (never s) (h s)

-- the task has ended, and the joiner of its scope was told
told-scope : (w : World) (t s : ℕ) (f : Frame) (end : End) → lives (task_at w t) ≡ true → s < length w.scopes → (task_at w t).scope ≡ Some s → (scope_at w s).cancelled ≡ false → AllTold w → AllTold (with_scope (ended w t f end) s (told (scope_at w s) t end))
told-scope w t s f end alive born mine still h r =
    at_put (λ (scope : Scope). ToldIn (ended w t f end).tasks r scope) w.scopes s r (told (scope_at w s) t end) no_scope born
    (λ e. rw e (told-told w t s f end (scope_at w s) alive still mine (h s)))
    (λ other. told-ended w t r f end (scope_at w r) alive (λ uncancelled inside. let same : r ≡ s = cc in other same) (h r))

-- there is no scope with a joiner to tell
told-tell : (w : World) (t : ℕ) (f : Frame) (end : End) (o : Option ℕ) → (task_at w t).scope ≡ o → lives (task_at w t) ≡ true → Sound w → AllTold w → AllTold (tell (ended w t f end) t o end)
told-tell w t f end None mine alive sound h = told-untold w t f end alive (λ s still inside. cc) h
told-tell w t f end (Some s) mine alive sound h = by (scope_at w s).cancelled refl
  where
    v : World
    v = with_scope (ended w t f end) s (told (scope_at w s) t end)

    by : (b : Bool) → (scope_at w s).cancelled ≡ b → AllTold (cond b (ended w t f end) (decide v s))
    by true e = told-untold w t f end alive (λ r still inside. let same : r ≡ s = cc in let c : (scope_at w r).cancelled ≡ true = rw same e in cc) h
    by false e = told-still v (decide v s) (told-scope w t s f end alive (sound.born t s mine).0 mine e h) (still-decide v s)

pub told-end : (w : World) (t : ℕ) (end : End) → lives (task_at w t) ≡ true → Sound w → AllTold w → AllTold (end_task w t (task_at w t).frame end)
unfolding end_task
told-end w t end alive sound h = told-tell w t (task_at w t).frame end (task_at w t).scope refl alive sound h

-- ---- a later state

-- a scope that was not born has no completions
unborn_completes : (x y : Scope) → x ≡ no_scope → Completes x y
unborn_completes x y e =
    record {
      grow = (y.completions, rw e refl);
      stop = λ h. let never : x.cancelled ≡ false = rw e refl in cc;
    }

pub completes : (w v : World) → Later w v → (s : ℕ) → Completes (scope_at w s) (scope_at v s)
completes w v l s = by (nat_lt s (length w.scopes)) refl
  where
    by : (b : Bool) → nat_lt s (length w.scopes) ≡ b → Completes (scope_at w s) (scope_at v s)
    by true e = let less : s < length w.scopes = grind (arith, nat_tests) in (l.scope s less).completions
    by false e = let more : length w.scopes ≤ s = grind (arith, nat_tests) in unborn_completes (scope_at w s) (scope_at v s) (past w.scopes s no_scope more)

-- the state of a subtask stays
pub keeps_state : (w v : World) → Later w v → (t : ℕ) (end : End) → sub_state w t ≡ Some end → sub_state v t ≡ Some end
keeps_state w v l t end e = by (task_at w t).scope refl e
  where
    by : (o : Option ℕ) → (task_at w t).scope ≡ o → completion_of (parent w o).completions t ≡ Some end → sub_state v t ≡ Some end
    by None is e = cc
    by (Some s) is e =
        let there : is_some (task_at w t).scope ≡ true = rw is refl in
        let less = within (λ (task : Task). is_some task.scope) w.tasks t no_task refl there in
        let same : (task_at v t).scope ≡ Some s = (l.task t less).same.scope ∙ is in
        let c = completes w v l s in
        rw (same, c.grow.1) (completion-front (scope_at w s).completions c.grow.0 t end e)
