-- A step of a close, in a view. A cancel changes nothing of what is left after the scope and its
-- subtasks are taken out.
use Rattle.std.proofs.Common.{◌≡◌, ℕ, List, [], ◌∷◌, drop, map, Bool, true, false, ◌&&◌, ◌||◌, Option, Some, None, refl, ◌∙◌, ap, get_or, set, cond}
use Rattle.std.specs.Prelude.{option_map, is_some, unwrap_or}
use Rattle.std.specs.List.{list_any}
use Rattle.sts_tree.proofs.HoldingLemmas.{map_at}
use Rattle.sts_model.specs.Living.{is_in}
use Rattle.sts_model.specs.Local.{steps}
use Rattle.sts_model.specs.Misuse.{innermost, is_entry_of}
use Rattle.sts_model.specs.Live.{Live, LiveTask, LiveScope, Alive}
use Rattle.sts_model.specs.declared.event.Phase.TheVariants.{Closing}
use Rattle.sts_model.specs.declared.record.Entry.{Entry}
use Rattle.sts_model.specs.declared.record.Frame.{Frame}
use Rattle.sts_model.specs.declared.record.Slot.{Slot}
use Rattle.sts_model.specs.declared.record.Slot.TheVariants.{Empty, Sub}
use Rattle.laws_live.specs.Cancelling.{live_raise, live_marked, live_cancel}
use Rattle.laws_live.specs.Effect.{is_live_of, live_cleared, live_gone, live_closed, live_close, without}
use Rattle.laws_live.specs.Reading.{live_scope_at, live_task_at, live_any_lives, is_live_living, lives_in, alive_at, no_live_task, scope_in, with_live_frame, with_live_phase}
use Rattle.laws_live.specs.Order.{InOrder, IsOwned}
use Rattle.laws_words.proofs.ListLemmas.{set_again}

-- ---- tasks with their flags set

-- the task with its flag set
raised : LiveTask → LiveTask
raised task = record task { alive = option_map (λ (alive : Alive). record alive { flag = true }) task.alive }

raised_living : (s : ℕ) (o : Option LiveTask) → is_live_living s (option_map (live_raise s) o) ≡ is_live_living s o
unfolding raised
raised_living s None = refl
raised_living s (Some task) = by (is_in s task.scope)
  where
    same : (a : Option Alive) → is_some (option_map (λ (alive : Alive). record alive { flag = true }) a) ≡ is_some a
    same None = refl
    same (Some alive) = refl

    by : (b : Bool) → is_live_living s (Some (cond b (raised task) task)) ≡ is_live_living s (Some task)
    by true = ap (λ a. is_in s task.scope && a) (same task.alive)
    by false = refl

any_raised : (s : ℕ) (xs : List (Option LiveTask)) → list_any (is_live_living s) (map (option_map (live_raise s)) xs) ≡ list_any (is_live_living s) xs
any_raised s [] = refl
any_raised s (x ∷ xs) =
    ap (λ a. a || list_any (is_live_living s) (map (option_map (live_raise s)) xs)) (raised_living s x)
    ∙ ap (λ a. is_live_living s x || a) (any_raised s xs)

raised_gone : (s : ℕ) (o : Option LiveTask) → without s (option_map (live_raise s) o) ≡ without s o
unfolding raised
raised_gone s None = refl
raised_gone s (Some task) = by (is_in s task.scope) refl
  where
    by : (b : Bool) → is_in s task.scope ≡ b → without s (Some (cond b (raised task) task)) ≡ without s (Some task)
    by true e = rw e refl
    by false e = refl

gone_raised : (s : ℕ) (xs : List (Option LiveTask)) → map (without s) (map (option_map (live_raise s)) xs) ≡ map (without s) xs
gone_raised s [] = refl
gone_raised s (x ∷ xs) =
    ap (λ o. o ∷ map (without s) (map (option_map (live_raise s)) xs)) (raised_gone s x)
    ∙ ap (λ l. without s x ∷ l) (gone_raised s xs)

raised_home : (s : ℕ) (o : Option LiveTask) → (unwrap_or (option_map (live_raise s) o) no_live_task).scope ≡ (unwrap_or o no_live_task).scope
unfolding raised
raised_home s None = refl
raised_home s (Some task) = by (is_in s task.scope)
  where
    by : (b : Bool) → (cond b (raised task) task).scope ≡ task.scope
    by true = refl
    by false = refl

-- ---- after a cancel

any_cancelled : (v : Live) (s : ℕ) → live_any_lives (live_cancel v s) s ≡ live_any_lives v s
any_cancelled v s = by (live_scope_at v s).cancelled
  where
    by : (b : Bool) → live_any_lives (cond b v (live_marked v s)) s ≡ live_any_lives v s
    by true = refl
    by false = any_raised s v.tasks

gone_cancelled : (v : Live) (s : ℕ) → live_gone (live_cancel v s) s ≡ live_gone v s
gone_cancelled v s = by (live_scope_at v s).cancelled
  where
    marked : Option LiveScope
    marked = option_map (λ (scope : LiveScope). record scope { cancelled = true }) (scope_in v s)

    by : (b : Bool) → live_gone (cond b v (live_marked v s)) s ≡ live_gone v s
    by true = refl
    by false =
        ap (λ l. record { tasks = l; scopes = set (set v.scopes s marked) s None; root_end = v.root_end }) (gone_raised s v.tasks)
        ∙ ap (λ l. record { tasks = map (without s) v.tasks; scopes = l; root_end = v.root_end }) (set_again v.scopes s marked None)

home_cancelled : (v : Live) (s t : ℕ) → (live_task_at (live_cancel v s) t).scope ≡ (live_task_at v t).scope
home_cancelled v s t = by (live_scope_at v s).cancelled
  where
    by : (b : Bool) → (live_task_at (cond b v (live_marked v s)) t).scope ≡ (live_task_at v t).scope
    by true = refl
    by false = ap (λ o. (unwrap_or o no_live_task).scope) (map_at (live_raise s) v.tasks t) ∙ raised_home s (get_or v.tasks t None)

of_cancelled : (v : Live) (s : ℕ) (x : Slot) → is_live_of (live_cancel v s) s x ≡ is_live_of v s x
of_cancelled v s (Sub t) = ap (is_in s) (home_cancelled v s t)
of_cancelled v s _ = refl

cleared_cancelled : (v : Live) (s : ℕ) (xs : List Slot) → live_cleared (live_cancel v s) s xs ≡ live_cleared v s xs
cleared_cancelled v s [] = refl
cleared_cancelled v s (x ∷ xs) =
    ap (λ b. cond b Empty x ∷ live_cleared (live_cancel v s) s xs) (of_cancelled v s x)
    ∙ ap (λ l. cond (is_live_of v s x) Empty x ∷ l) (cleared_cancelled v s xs)

-- ---- a step of a close

-- the frame of who goes on, with these slots
abbrev pub gone_on : Frame → List Slot → Frame
gone_on f slots = record (steps f 0 []) { entries = drop 1 f.entries; slots = slots }

module _ (v : Live) (t : ℕ) (f : Frame) (s : ℕ) where
  pub close_begins : live_any_lives v s ≡ true → live_close v t f s ≡ with_live_phase (live_cancel v s) s Closing
  unfolding live_close
  close_begins e = ap (λ b. cond b (with_live_phase (live_cancel v s) s Closing) (live_closed (live_cancel v s) t f s)) (any_cancelled v s ∙ e)

  pub close_ends : live_any_lives v s ≡ false → live_close v t f s ≡ live_closed v t f s
  unfolding live_close
  close_ends e =
      ap (λ b. cond b (with_live_phase (live_cancel v s) s Closing) (live_closed (live_cancel v s) t f s)) (any_cancelled v s ∙ e)
      ∙ ap (λ w. with_live_frame w t (gone_on f (live_cleared (live_cancel v s) s f.slots))) (gone_cancelled v s)
      ∙ ap (λ slots. with_live_frame (live_gone v s) t (gone_on f slots)) (cleared_cancelled v s f.slots)

-- the scope of a living task's innermost entry is its own
pub innermost_own : (v : Live) (t s : ℕ) → InOrder v → lives_in v t ≡ true → innermost (is_entry_of s) (alive_at v t).frame.entries ≡ true → IsOwned v t s
innermost_own v t s order lives first = (order.alive t lives).entered s (by (alive_at v t).frame.entries first)
  where
    by : (es : List Entry) → innermost (is_entry_of s) es ≡ true → list_any (is_entry_of s) es ≡ true
    by [] e = cc
    by (x ∷ es) e = ap (λ a. a || list_any (is_entry_of s) es) e
