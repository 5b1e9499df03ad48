-- The flag of a living task is set or cleared, and its frame may be written after that.
use Rattle.std.proofs.Common.{◌≡◌, ℕ, Bool, Some, None, refl, sym, ◌∙◌, ap, get_or, set}
use Rattle.std.specs.Prelude.{option_map}
use Rattle.laws_words.proofs.ListLemmas.{put_there, set_again}
use Rattle.sts_env.specs.declared.env.Env.{Env}
use Rattle.sts_tree.specs.Forest.{Forest}
use Rattle.sts_model.specs.Live.{Live, LiveTask, Alive}
use Rattle.sts_model.specs.declared.record.Frame.{Frame}
use Rattle.laws_live.specs.Reading.{task_in, with_alive}
use Rattle.sts_tree.specs.Steps.{seen, with_task}
use Rattle.sts_store.proofs.ViewingLemmas.{words}
use Rattle.sts_store.specs.declared.running.Running.{Running}
use Rattle.sts_store.specs.Parts.{Parts, live_of, beside, unseen_of}
use Rattle.sts_store.proofs.Views.{Lived, changed, alive_of, with_running, frame_seen}
use Rattle.sts_store.proofs.Keeping.{live_seen, rest_seen, same_stand}

-- two changes of one living task are one
pub twice : (v : Live) (t : ℕ) (task : LiveTask) (first then both : Alive → Alive) → task_in v t ≡ Some task → changed then (changed first task) ≡ changed both task → with_alive (with_alive v t first) t then ≡ with_alive v t both
twice v t task first then both at same =
    let once : set v.tasks t (option_map (changed first) (get_or v.tasks t None)) ≡ set v.tasks t (Some (changed first task)) = ap (λ o. set v.tasks t (option_map (changed first) o)) at in
    ap (λ l. record v { tasks = set l t (option_map (changed then) (get_or l t None)) }) once
    ∙ ap (λ o. record v { tasks = set (set v.tasks t (Some (changed first task))) t (option_map (changed then) o) }) (put_there v.tasks t task (changed first task) at)
    ∙ ap (λ l. record v { tasks = l }) (set_again v.tasks t (Some (changed first task)) (Some (changed then (changed first task))))
    ∙ ap (λ x. record v { tasks = set v.tasks t (Some x) }) same
    ∙ sym (ap (λ o. record v { tasks = set v.tasks t (option_map (changed both) o) }) at)

-- with this flag
abbrev pub flagged : Bool → Alive → Alive
flagged flag alive = record alive { flag = flag }

module _ (m : Parts) (t : ℕ) (l : Lived m t) (flag : Bool) (f : Forest Env) (same : seen f ≡ seen (with_task m.tree t (record l.task { flag = flag }))) where
  pub flag_seen : live_of (record m { tree = f }) ≡ with_alive (live_of m) t (flagged flag)
  flag_seen = live_seen m f (with_task m.tree t (record l.task { flag = flag })) same ∙ words.flag (beside m) m.tree t l.task flag l.stands

  pub flag_rest : unseen_of (record m { tree = f }) ≡ unseen_of m
  flag_rest = rest_seen m f (with_task m.tree t (record l.task { flag = flag })) same ∙ same_stand m t l.task (record l.task { flag = flag }) l.stands refl

  -- the frame is written too
  pub flag_frame_seen : (r : Running) (g : Frame) (both : Alive → Alive) → get_or m.frames.slots t None ≡ Some r → record { frame = g; flag = flag; environment = (alive_of m.chains l.task.flag l.run).environment } ≡ both (alive_of m.chains l.task.flag l.run) → live_of (with_running (record m { tree = f }) t (record r { frame = g }) m.chains) ≡ with_alive (live_of m) t both
  flag_frame_seen r g both at is_both =
      frame_seen (record m { tree = f }) t r (record r { frame = g }) (λ alive. record alive { frame = g }) at (λ b. refl)
      ∙ ap (λ v. with_alive v t (λ alive. record alive { frame = g })) flag_seen
      ∙ twice (live_of m) t _ (flagged flag) (λ alive. record alive { frame = g }) both l.seen (ap (λ a. record { scope = l.task.scope; state = l.task.state; alive = Some a }) is_both)
