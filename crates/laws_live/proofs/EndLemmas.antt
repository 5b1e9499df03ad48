-- The end of a task, and what the joiner of its scope learns of it.
use Rattle.std.proofs.Common.{◌≡◌, ℕ, ◌<◌, List, [], ◌∷◌, ◌++◌, Bool, true, false, Option, Some, None, refl, sym, ◌∙◌, ap, subst, length, arith, get_or, set}
use Rattle.std.proofs.Common.{cond, pos, length-set, get_or-set_same, get_or-set_other}
use Rattle.std.proofs.lemmas.Bool.Decides.{nat_tests}
use Rattle.std.proofs.lemmas.List.{map-append}
use Rattle.std.proofs.lemmas.List.Folds.{find-append}
use Rattle.std.specs.Option.{option_or}
use Rattle.std.specs.Prelude.{option_map, find, ◌==◌}
use Rattle.std.proofs.Math.Bool.{and-false}
use Rattle.std.proofs.lemmas.Bool.{not-true}
use Rattle.sts_code.proofs.OptionLemmas.{or_none}
use Rattle.sts_model.specs.declared.event.End.{End}
use Rattle.sts_model.specs.declared.event.End.TheVariants.{Success}
use Rattle.sts_model.specs.declared.record.Frame.{Frame}
use Rattle.sts_model.specs.declared.record.Task.{Task}
use Rattle.sts_model.specs.declared.record.Scope.{Scope}
use Rattle.sts_model.specs.declared.record.Completion.{Completion}
use Rattle.sts_model.specs.World.{World, task_at, scope_at, no_task, no_scope, with_scope}
use Rattle.sts_model.specs.Local.{steps}
use Rattle.sts_model.specs.Living.{lives, is_closed, completion_of, ends}
use Rattle.sts_model.specs.Standing.{is_standing_scope, stands_in}
use Rattle.sts_model.specs.Joining.{cancels}
use Rattle.sts_model.specs.Cancelling.{cancel}
use Rattle.sts_model.specs.Told as kept
use Rattle.sts_model.specs.Told.{cancels_told}
use Rattle.sts_model.specs.Effect.{told, decide, complete, tell, ended, end_task}
use Rattle.sts_model.specs.Live.{Live, LiveTask, LiveScope, Alive, live, shown_scope}
use Rattle.laws_runs.proofs.ListLemmas.{at_put}
use Rattle.laws_runs.proofs.SoundLemmas.{Sound, born_open, stands_alive}
use Rattle.laws_runs.proofs.BirthLemmas.{born_alive}
use Rattle.laws_runs.proofs.EffectLemmas.{endless}
use Rattle.laws_runs.proofs.CompletionLemmas.{AllTold}
use Rattle.sts_joiners.proofs.TellLemmas.{is_enough}
use Rattle.laws_live.specs.Reading.{task_in, scope_in, live_scope_at}
use Rattle.laws_live.specs.Effect.{live_told, live_decide, live_complete, live_tell, live_ended, live_end}
use Rattle.laws_live.specs.Cancelling.{live_cancel}
use Rattle.laws_live.proofs.ListLemmas.{map_kept}
use Rattle.laws_live.proofs.ViewLemmas.{shown, seen_of, seen, seen_scope, tasks_born, scopes_born, task_here, scope_here, same_view, scope_is, task_is}
use Rattle.laws_live.proofs.Changes.{seen-written, seen-cancel}

-- ---- the task has ended

no_longer_lives : (b : Bool) (o : Option ℕ) (q : Option End) (a : Option Alive) → cond b (Some (record { scope = o; state = q; alive = None })) None ≡ option_map (λ (task : LiveTask). record task { alive = None }) (cond b (Some (record { scope = o; state = q; alive = a })) None)
no_longer_lives true o q a = refl
no_longer_lives false o q a = refl

pub seen-ended : (w : World) (t : ℕ) (f : Frame) (end : End) → t < length w.tasks → live (ended w t f end) ≡ live_ended (live w) t end
seen-ended w t f end born =
    seen-written w t x (option_map (λ (task : LiveTask). record task { alive = None }) (task_in (live w) t)) (cond (t == 0) (Some end) (task_at w 0).outcome) born
    (rw (task_here w t born, and-false (task_at w t).started) (no_longer_lives (stands_in w (task_at w t).scope) (task_at w t).scope _ _))
    (root (t == 0) refl)
  where
    x : Task
    x = record (task_at w t) { frame = steps f 1 []; outcome = Some end }

    root : (b : Bool) → (t == 0) ≡ b → (get_or (set w.tasks t x) 0 no_task).outcome ≡ cond b (Some end) (task_at w 0).outcome
    root true e = let same : t ≡ 0 = grind (arith, nat_tests) in ap (λ i. (get_or (set w.tasks t x) i no_task).outcome) (sym same) ∙ ap (λ (task : Task). task.outcome) (get_or-set_same w.tasks t x no_task born)
    root false e = let other : 0 ≡ t → ⊥ = λ same. grind (arith, nat_tests) in ap (λ (task : Task). task.outcome) (get_or-set_other w.tasks t 0 x no_task other)

-- ---- its scope is told

abbrev End_of : Option Completion → Option End
End_of o = option_map (λ (c : Completion). c.end) o

completion-other : (cs : List Completion) (c : Completion) (u : ℕ) → (c.task == u) ≡ false → completion_of (cs ++ c ∷ []) u ≡ completion_of cs u
completion-other cs c u e =
    ap End_of (find-append (λ (x : Completion). x.task == u) cs (c ∷ []))
    ∙ by (c.task == u) e
  where
    by : (b : Bool) → b ≡ false → End_of (option_or (find (λ (x : Completion). x.task == u) cs) (cond b (Some c) None)) ≡ completion_of cs u
    by true e = cc
    by false e = ap End_of (or_none (find (λ (x : Completion). x.task == u) cs))

completion-first : (cs : List Completion) (c : Completion) (u : ℕ) → (c.task == u) ≡ true → completion_of cs u ≡ None → completion_of (cs ++ c ∷ []) u ≡ Some c.end
completion-first cs c u e none =
    ap End_of (find-append (λ (x : Completion). x.task == u) cs (c ∷ []))
    ∙ by (find (λ (x : Completion). x.task == u) cs) none (c.task == u) e
  where
    by : (o : Option Completion) → End_of o ≡ None → (b : Bool) → b ≡ true → End_of (option_or o (cond b (Some c) None)) ≡ Some c.end
    by None none true e = refl
    by o none false e = cc
    by (Some x) none true e = cc

told_shown : (scope : Scope) (t : ℕ) (end : End) → shown_scope (told scope t end) ≡ (λ (s : LiveScope). record s { told = kept.tell s.joiner s.told end }) (shown_scope scope)
told_shown scope t end =
    rw (map-append (λ (c : Completion). c.end) scope.completions (record { task = t; end = end } ∷ []), (is_enough scope.joiner (ends scope) end 0).more) refl

-- what is seen of the task that ended
seen-completed : (w : World) (t s : ℕ) (end : End) → s < length w.scopes → (task_at w t).scope ≡ Some s → completion_of (scope_at w s).completions t ≡ None → seen (with_scope w s (told (scope_at w s) t end)) t (task_at w t) ≡ option_map (λ (task : LiveTask). record task { state = Some end }) (seen w t (task_at w t))
seen-completed w t s end born inside none =
    let y : Scope = told (scope_at w s) t end in
    let c : Completion = record { task = t; end = end } in
    let first : completion_of ((scope_at w s).completions ++ c ∷ []) t ≡ Some end = completion-first (scope_at w s).completions c t (grind (arith, nat_tests)) none in
    rw (inside, get_or-set_same w.scopes s y no_scope born, first) (sym (map_kept (λ (task : LiveTask). record task { state = Some end }) (stands_in w (Some s)) (shown w (Some s) t (task_at w t))))

-- and of every other
seen-uncompleted : (w : World) (t s u : ℕ) (end : End) (task : Task) → s < length w.scopes → (u ≡ t → ⊥) → seen (with_scope w s (told (scope_at w s) t end)) u task ≡ seen w u task
seen-uncompleted w t s u end task born other = by task.scope
  where
    y : Scope
    y = told (scope_at w s) t end

    c : Completion
    c = record { task = t; end = end }

    apart : (b : Bool) → (t == u) ≡ b → b ≡ false
    apart false e = refl
    apart true e = absurd (other (grind (arith, nat_tests)))

    in_scope : (r : ℕ) (b : Bool) → (r == s) ≡ b → seen_of (with_scope w s y) (Some r) u task ≡ seen_of w (Some r) u task
    in_scope r true e =
        let same : r ≡ s = grind (arith, nat_tests) in
        let others : completion_of ((scope_at w s).completions ++ c ∷ []) u ≡ completion_of (scope_at w s).completions u = completion-other (scope_at w s).completions c u (apart (t == u) refl) in
        rw (same, get_or-set_same w.scopes s y no_scope born, others) refl
    in_scope r false e =
        let differs : r ≡ s → ⊥ = λ same. grind (arith, nat_tests) in
        rw (get_or-set_other w.scopes s r y no_scope differs) refl

    by : (o : Option ℕ) → seen_of (with_scope w s y) o u task ≡ seen_of w o u task
    by None = refl
    by (Some r) = in_scope r (r == s) refl

pub seen-told : (w : World) (t s : ℕ) (end : End) → t < length w.tasks → is_closed (scope_at w s).phase ≡ false → (task_at w t).scope ≡ Some s → completion_of (scope_at w s).completions t ≡ None → live (with_scope w s (told (scope_at w s) t end)) ≡ live_told (live w) t s end
seen-told w t s end alive still inside none =
    let y : Scope = told (scope_at w s) t end in
    let v : World = with_scope w s y in
    let n = tasks_born w in
    let m = scopes_born w in
    let born = born_open w s still in
    let to : Option LiveTask = option_map (λ (task : LiveTask). record task { state = Some end }) (task_in (live w) t) in
    let change : LiveScope → LiveScope = λ scope. record scope { told = kept.tell scope.joiner scope.told end } in
    let scope_to : Option LiveScope = option_map change (scope_in (live w) s) in
    same_view v (live_told (live w) t s end)
    (length-set (live w).tasks t to ∙ n)
    (length-set (live w).scopes s scope_to ∙ m ∙ sym (length-set w.scopes s y))
    (λ u less.
    at_put (λ (z : Option LiveTask). seen v u (task_at w u) ≡ z) (live w).tasks t u to None (omega (arith, n, alive))
    (λ e. rw (e, task_here w t alive) (seen-completed w t s end born inside none))
    (λ other. seen-uncompleted w t s u end (task_at w u) born other ∙ sym (task_here w u less)))
    (λ r less.
    let count = length-set w.scopes s y in
    at_put (λ (z : Option LiveScope). seen_scope (get_or (set w.scopes s y) r no_scope) ≡ z) (live w).scopes s r scope_to None (omega (arith, m, born))
    (λ e. rw (e, get_or-set_same w.scopes s y no_scope born, scope_here w s born) (ap (λ (z : LiveScope). cond (is_standing_scope (scope_at w s)) (Some z) None) (told_shown (scope_at w s) t end) ∙ sym (map_kept change (is_standing_scope (scope_at w s)) (shown_scope (scope_at w s)))))
    (λ other. rw (get_or-set_other w.scopes s r y no_scope other) (sym (scope_here w r (omega (arith, count, less))))))
    refl

-- ---- the joiner may ask for a cancel

pub seen-decide : (w : World) (s : ℕ) → is_closed (scope_at w s).phase ≡ false → live (decide w s) ≡ live_decide (live w) s
seen-decide w s still =
    by (cancels (scope_at w s).joiner (ends (scope_at w s)))
    ∙ ap (λ b. cond b (live_cancel (live w) s) (live w)) (sym asks)
  where
    by : (b : Bool) → live (cond b (cancel w s) w) ≡ cond b (live_cancel (live w) s) (live w)
    by true = seen-cancel w s still
    by false = refl

    asks : cancels_told (live_scope_at (live w) s).joiner (live_scope_at (live w) s).told ≡ cancels (scope_at w s).joiner (ends (scope_at w s))
    asks = ap (λ (scope : LiveScope). cancels_told scope.joiner scope.told) (scope_is w s still) ∙ sym (is_enough (scope_at w s).joiner (ends (scope_at w s)) (Success (pos 0)) 0).cancels

-- ---- the end of a task

-- a living task has no completion
pub untold : (w : World) (t s : ℕ) → AllTold w → lives (task_at w t) ≡ true → completion_of (scope_at w s).completions t ≡ None
untold w t s all alive = by (completion_of (scope_at w s).completions t) refl
  where
    by : (o : Option End) → completion_of (scope_at w s).completions t ≡ o → o ≡ None
    by None e = refl
    by (Some end) e = absurd (endless (task_at w t) end alive ((all s).ended t end e))

-- the scope of the task that ended
seen-complete : (w : World) (t s : ℕ) (end : End) → t < length w.tasks → is_closed (scope_at w s).phase ≡ false → (task_at w t).scope ≡ Some s → completion_of (scope_at w s).completions t ≡ None → live (complete w t s end) ≡ live_complete (live w) t s end
seen-complete w t s end born still inside none = rw (scope_is w s still) (by (scope_at w s).cancelled)
  where
    y : Scope
    y = told (scope_at w s) t end

    v : World
    v = with_scope w s y

    still_v : is_closed (scope_at v s).phase ≡ false
    still_v = rw (get_or-set_same w.scopes s y no_scope (born_open w s still)) still

    by : (b : Bool) → live (cond b w (decide v s)) ≡ cond b (live w) (live_decide (live_told (live w) t s end) s)
    by true = refl
    by false = seen-decide v s still_v ∙ ap (λ (view : Live). live_decide view s) (seen-told w t s end born still inside none)

pub open_some : (w : World) (s : ℕ) → stands_in w (Some s) ≡ true → is_closed (scope_at w s).phase ≡ false
open_some w s e = not-true (is_closed (scope_at w s).phase) e

pub seen-end : (w : World) (t : ℕ) (f : Frame) (end : End) → Sound w → AllTold w → lives (task_at w t) ≡ true → live (end_task w t f end) ≡ live_end (live w) t end
unfolding end_task live_end
seen-end w t f end o all alive =
    rw (task_is w t (stands_alive w t o alive)) (by (task_at w t).scope refl)
  where
    born : t < length w.tasks
    born = born_alive w t alive

    v : World
    v = ended w t f end

    x : Task
    x = record (task_at w t) { frame = steps f 1 []; outcome = Some end }

    by : (q : Option ℕ) → (task_at w t).scope ≡ q → live (tell v t q end) ≡ live_tell (live_ended (live w) t end) t q end
    by None e = seen-ended w t f end born
    by (Some s) e =
        let stands : stands_in w (Some s) ≡ true = subst (λ (q : Option ℕ). stands_in w q ≡ true) e (stands_alive w t o alive) in
        let count = length-set w.tasks t x in
        let inside : (task_at v t).scope ≡ Some s = rw (get_or-set_same w.tasks t x no_task born) e in
        seen-complete v t s end (omega (arith, count, born)) (open_some w s stands) inside (untold w t s all alive)
        ∙ ap (λ (view : Live). live_complete view t s end) (seen-ended w t f end born)
