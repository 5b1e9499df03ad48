-- The changes that a step of a close makes to the parts that the view doesn't show.
use Rattle.std.proofs.Common.{◌≡◌, ℕ, zero, suc, ◌+◌, List, [], ◌∷◌, length, map, drop, Bool, true, false, ◌&&◌, Option, Some, None, refl, sym, ◌∙◌, ap, subst, get_or, cond, is_some, arith}
use Rattle.std.proofs.lemmas.Bool.{or_parts}
use Rattle.std.proofs.lemmas.List.Sums.{sum_by-cons, sum_by-set}
use Rattle.std.specs.List.{list_any, enumerate_from, cons_option}
use Rattle.std.specs.Prelude.{unwrap_or, count_by, sum_by, filter_map}
use Rattle.sts_model.specs.declared.event.Phase.TheVariants.{Closing}
use Rattle.sts_model.specs.declared.event.Stand.{Stand}
use Rattle.sts_model.specs.declared.event.Stand.TheVariants.{Free, AtClose}
use Rattle.sts_model.specs.declared.record.Entry.{Entry}
use Rattle.sts_model.specs.declared.record.Entry.TheVariants as entry
use Rattle.sts_model.specs.declared.record.Frame.{Frame}
use Rattle.sts_model.specs.declared.record.Slot.{Slot}
use Rattle.sts_model.specs.Living.{is_in}
use Rattle.sts_model.specs.Local.{steps}
use Rattle.sts_model.specs.Misuse.{is_binding, is_entry_of, innermost}
use Rattle.sts_model.specs.Live.{Live, LiveTask, LiveScope, Alive, subtask_in}
use Rattle.laws_runs.proofs.ListLemmas.{within}
use Rattle.laws_live.specs.Reading.{scope_in, task_in, no_live_task, no_alive, alive_at, lives_in, is_live_living, live_any_lives, with_live_frame, with_live_phase}
use Rattle.laws_live.specs.Cancelling.{live_cancel}
use Rattle.laws_live.specs.Effect.{without, live_cleared, live_gone, live_closed, live_close}
use Rattle.laws_accepted.specs.Views.{open_bindings, bindings_in, live_scopes}
use Rattle.sts_store.specs.Closing.{stand_left, stands_left, gone_unseen, close_unseen}
use Rattle.sts_store.specs.Parts.{Unseen, stand_in, stood_unseen}
use Rattle.sts_store.proofs.CloseLemmas.{close_begins, close_ends}
use Rattle.sts_machine.specs.Changing.{Changes}
use Rattle.sts_machine.specs.Room.{is_living}
use Rattle.laws_live.proofs.RestingLemmas.{mapped}
use Rattle.sts_machine.proofs.Quiet.{quiet-trans, quiet-scope, quiet-cancel, quiet-alive}
use Rattle.sts_machine.proofs.Changing.{life_is, lives_quiet, changes-quiet, then-quiet, stood_before, stood_after}
use Rattle.sts_machine.proofs.LivesLemmas.{lives_written}

-- ---- the subtasks of s are taken out

-- the tasks that are left keep their recorded scopes
left_at : (s : ℕ) (xs : List (Option LiveTask)) (ys : List (Option Stand)) (i : ℕ) → is_living (without s (get_or xs i None)) ≡ true → get_or (stands_left s xs ys) i None ≡ get_or ys i None
left_at s [] ys i e = cc
left_at s (x ∷ xs) [] i e = refl
left_at s (x ∷ xs) (y ∷ ys) zero e = by x e
  where
    by2 : (task : LiveTask) (b : Bool) → is_in s task.scope ≡ b → is_living (cond b None (Some task)) ≡ true → cond b None y ≡ y
    by2 task true h e = cc
    by2 task false h e = refl

    by : (o : Option LiveTask) → is_living (without s o) ≡ true → stand_left s o y ≡ y
    by None e = refl
    by (Some task) e = by2 task (is_in s task.scope) refl e
left_at s (x ∷ xs) (y ∷ ys) (suc i) e = left_at s xs ys i e

-- a task that lives afterwards lived before
left_lives : (s : ℕ) (o : Option LiveTask) → is_living (without s o) ≡ true → is_living o ≡ true
left_lives s None e = e
left_lives s (Some task) e = by (is_in s task.scope) e
  where
    by : (b : Bool) → is_living (cond b None (Some task)) ≡ true → is_living (Some task) ≡ true
    by true e = cc
    by false e = e

counted : (o : Option LiveTask) (ys : List (Option LiveTask)) → count_by is_some (o ∷ ys) ≡ cond (is_some o) 1 0 + count_by is_some ys
counted o ys = sum_by-cons (λ (q : Option LiveTask). cond (is_some q) 1 0) o ys

fewer_by : (s n : ℕ) (task : LiveTask) (xs : List (Option LiveTask)) (b : Bool) → count_by is_some (map (without s) xs) + length (filter_map (subtask_in s) (enumerate_from (n + 1) xs)) ≡ count_by is_some xs → count_by is_some (cond b None (Some task) ∷ map (without s) xs) + length (cons_option (cond b (Some (n, task)) None) (filter_map (subtask_in s) (enumerate_from (n + 1) xs))) ≡ count_by is_some (Some task ∷ xs)
fewer_by s n task xs true rest =
    let a = counted (Some task) xs in
    let b = counted None (map (without s) xs) in
    omega (arith, rest, a, b)
fewer_by s n task xs false rest =
    let a = counted (Some task) xs in
    let b = counted (Some task) (map (without s) xs) in
    omega (arith, rest, a, b)

-- the number of tasks falls by the number of subtasks
fewer : (s n : ℕ) (xs : List (Option LiveTask)) → count_by is_some (map (without s) xs) + length (filter_map (subtask_in s) (enumerate_from n xs)) ≡ count_by is_some xs
fewer s n [] = refl
fewer s n (None ∷ xs) =
    let rest = fewer s (n + 1) xs in
    let a = counted None xs in
    let b = counted None (map (without s) xs) in
    omega (arith, rest, a, b)
fewer s n (Some task ∷ xs) = fewer_by s n task xs (is_in s task.scope) (fewer s (n + 1) xs)

-- no subtask lives
none_ends : (s : ℕ) (xs : List (Option LiveTask)) (f : Option LiveTask → ℕ) → ((task : LiveTask) → task.alive ≡ None → f (Some task) ≡ 0) → f None ≡ 0 → list_any (is_live_living s) xs ≡ false → sum_by f (map (without s) xs) ≡ sum_by f xs
none_ends s [] f dead none e = refl
none_ends s (x ∷ xs) f dead none e =
    let p = or_parts (is_live_living s x) _ e in
    let rest = none_ends s xs f dead none p.1 in
    let first = by x p.0 in
    let a = sum_by-cons f x xs in
    let b = sum_by-cons f (without s x) (map (without s) xs) in
    omega (arith, rest, first, a, b)
  where
    by3 : (task : LiveTask) (a : Option Alive) → task.alive ≡ a → is_some a ≡ false → f (Some task) ≡ 0
    by3 task None h e = dead task h
    by3 task (Some alive) h e = cc

    by2 : (task : LiveTask) (b : Bool) → (b && is_some task.alive) ≡ false → f (cond b None (Some task)) ≡ f (Some task)
    by2 task true e = none ∙ sym (by3 task task.alive refl e)
    by2 task false e = refl

    by : (o : Option LiveTask) → is_live_living s o ≡ false → f (without s o) ≡ f o
    by None e = refl
    by (Some task) e = by2 task (is_in s task.scope) e

-- ---- the end of a close

-- a scope of a view without living subtasks
pub record IsIdle (v : Live) (s : ℕ) : Type 0 where
  pub stands : is_some (scope_in v s) ≡ true
  pub none : live_any_lives v s ≡ false

module _ (v : Live) (u : Unseen) (t s : ℕ) (k : IsIdle v s) where
  left : (i : ℕ) → lives_in (live_gone v s) i ≡ true → is_living (without s (task_in v i)) ≡ true
  left i lives = ap is_living (sym (mapped (without s) v.tasks i refl)) ∙ sym (life_is (task_in (live_gone v s) i)) ∙ lives

  pub gone : Changes v u (live_gone v s) (gone_unseen v u s) t
  gone =
      let a = fewer s 0 v.tasks in
      let b = none_ends s v.tasks (λ o. cond (is_living o) 1 0) (λ task e. ap (λ q. cond (is_some q) 1 0) e) refl k.none in
      let d = none_ends s v.tasks bindings_in (λ task e. ap open_bindings e) refl k.none in
      let e = closes in
      record {
        others = λ i other lives.
            ap (λ o. unwrap_or o Free) (left_at s v.tasks u.stands i (left i lives))
            ∙ ap (λ q. cond q (stand_in u i) Free) (sym (life_is (task_in v i) ∙ left_lives s (task_in v i) (left i lives)));
        tasks = omega (arith, a);
        frames = omega (arith, b);
        scopes = omega (arith, e);
        binds = omega (arith, d);
      }
    where
      f : Option LiveScope → ℕ
      f o = cond (is_some o) 1 0

      closes : live_scopes (live_gone v s) + 1 ≡ live_scopes v
      closes =
          let all = sum_by-set f v.scopes s None None (within (λ (o : Option LiveScope). is_some o) v.scopes s None refl k.stands) in
          let one : f (scope_in v s) ≡ 1 = ap (λ b. cond b 1 0) k.stands in
          omega (arith, all, one)

  -- no binding goes with the entry of a scope
  unbound : (es : List Entry) → innermost (is_entry_of s) es ≡ true → count_by is_binding (drop 1 es) ≡ count_by is_binding es
  unbound [] e = cc
  unbound (entry.Binding key n ∷ es) e = cc
  unbound (entry.Scope r ∷ es) e = let one = sum_by-cons (λ (x : Entry). cond (is_binding x) 1 0) (entry.Scope r) es in omega (arith, one)

  -- the owner keeps its own state, if it is left
  owner : (o : Option LiveTask) → task_in v t ≡ o → (a : Alive) → (unwrap_or (without s o) no_live_task).alive ≡ Some a → alive_at v t ≡ a
  owner None e a h = cc
  owner (Some task) e a h = by (is_in s task.scope) h
    where
      by : (b : Bool) → (unwrap_or (cond b None (Some task)) no_live_task).alive ≡ Some a → alive_at v t ≡ a
      by true h = cc
      by false h = ap (λ o. unwrap_or (unwrap_or o no_live_task).alive no_alive) e ∙ ap (λ q. unwrap_or q no_alive) h

  pub closed : (slots : List Slot) → innermost (is_entry_of s) (alive_at v t).frame.entries ≡ true → Changes v u (with_live_frame (live_gone v s) t (record (steps (alive_at v t).frame 0 []) { entries = drop 1 (alive_at v t).frame.entries; slots = slots })) (gone_unseen v u s) t
  closed slots first =
      then-quiet v (live_gone v s) _ u (gone_unseen v u s) t gone
      (quiet-alive (live_gone v s) t (λ alive. record alive { frame = gone_on slots })
      (λ a h. unbound (alive_at v t).frame.entries first ∙ ap (λ (b : Alive). count_by is_binding b.frame.entries) (owner (task_in v t) refl a (ap (λ o. (unwrap_or o no_live_task).alive) (sym (mapped (without s) v.tasks t refl)) ∙ h))))
    where
      gone_on : List Slot → Frame
      gone_on slots = record (steps (alive_at v t).frame 0 []) { entries = drop 1 (alive_at v t).frame.entries; slots = slots }

-- ---- a step of a close

pub closes : (v : Live) (u : Unseen) (t s : ℕ) → is_some (scope_in v s) ≡ true → innermost (is_entry_of s) (alive_at v t).frame.entries ≡ true → Changes v u (live_close v t (alive_at v t).frame s) (close_unseen v u t s) t
closes v u t s stands first = by (live_any_lives v s) refl
  where
    f : Frame
    f = (alive_at v t).frame

    waits : Unseen
    waits = stood_unseen u t (AtClose s)

    goes_on : Unseen
    goes_on = gone_unseen v (stood_unseen u t Free) s

    by : (b : Bool) → live_any_lives v s ≡ b → Changes v u (live_close v t f s) (close_unseen v u t s) t
    by true e =
        subst (λ x. Changes v u x (close_unseen v u t s) t) (sym (close_begins v t f s e))
        (subst (λ w. Changes v u (with_live_phase (live_cancel v s) s Closing) w t) (sym (ap (λ b. cond b waits goes_on) e))
        (stood_after v (with_live_phase (live_cancel v s) s Closing) u u t (AtClose s)
        (changes-quiet v (with_live_phase (live_cancel v s) s Closing) u t
        (quiet-trans v (live_cancel v s) _ (quiet-cancel v s) (quiet-scope (live_cancel v s) s (λ scope. record scope { phase = Closing }))))))
    by false e =
        subst (λ x. Changes v u x (close_unseen v u t s) t) (sym (close_ends v t f s e))
        (subst (λ w. Changes v u (live_closed v t f s) w t) (sym (ap (λ b. cond b waits goes_on) e))
        (stood_before v (live_closed v t f s) u goes_on t Free
        (closed v (stood_unseen u t Free) t s (record { stands = stands; none = e }) (live_cleared v s f.slots) first)))

-- ---- its owner lives

none_there : (s : ℕ) (xs : List (Option LiveTask)) (i : ℕ) → list_any (is_live_living s) xs ≡ false → is_live_living s (get_or xs i None) ≡ false
none_there s [] i e = refl
none_there s (x ∷ xs) zero e = (or_parts (is_live_living s x) _ e).0
none_there s (x ∷ xs) (suc i) e = none_there s xs i (or_parts (is_live_living s x) _ e).1

-- a task that lives and is no subtask that lives is left
left_living : (s : ℕ) (o : Option LiveTask) → is_live_living s o ≡ false → is_living o ≡ true → is_living (without s o) ≡ true
left_living s None e lives = lives
left_living s (Some task) e lives = by (is_in s task.scope) e
  where
    by : (b : Bool) → (b && is_some task.alive) ≡ false → is_living (cond b None (Some task)) ≡ true
    by true e = cc
    by false e = lives

pub closer_lives : (v : Live) (t s : ℕ) (f : Frame) → lives_in v t ≡ true → lives_in (live_close v t f s) t ≡ true
closer_lives v t s f lives = by (live_any_lives v s) refl
  where
    by : (b : Bool) → live_any_lives v s ≡ b → lives_in (live_close v t f s) t ≡ true
    by true e =
        ap (λ (x : Live). lives_in x t) (close_begins v t f s e)
        ∙ lives_quiet v _ t (quiet-trans v (live_cancel v s) _ (quiet-cancel v s) (quiet-scope (live_cancel v s) s (λ scope. record scope { phase = Closing })))
        ∙ lives
    by false e =
        ap (λ (x : Live). lives_in x t) (close_ends v t f s e)
        ∙ lives_written (live_gone v s) t _ t
        ∙ life_is (task_in (live_gone v s) t)
        ∙ ap is_living (mapped (without s) v.tasks t refl)
        ∙ left_living s (task_in v t) (none_there s v.tasks t e) (sym (life_is (task_in v t)) ∙ lives)
