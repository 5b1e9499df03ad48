-- A new subtask, over the records.
use Rattle.std.proofs.Common.{◌≡◌, ℕ, ◌+◌, ◌-◌, ◌<◌, ◌≤◌, List, [], ◌∷◌, ◌++◌, length, Option, Some, None, sym, ◌∙◌, ap, arith, get_or, set, false, cond}
use Rattle.std.proofs.lemmas.List.{map-append, length-map}
use Rattle.std.specs.Prelude.{option_map}
use Rattle.laws_words.specs.Keys.{NotIn}
use Rattle.sts_links.specs.Lists.{IsList, BecomesList}
use Rattle.sts_links.specs.declared.links.Ends.{Ends}
use Rattle.sts_tree.specs.Births.{births}
use Rattle.sts_tree.specs.Stored.{task_of, tasks_of, link_at}
use Rattle.sts_tree.specs.Forest.{ready_of, Family, IsForest, is_of, lives_in}
use Rattle.sts_tree.specs.declared.record.TaskNode.{TaskNode}
use Rattle.sts_tree.specs.declared.record.TaskRecord.{TaskRecord}
use Rattle.sts_tree.proofs.BirthLemmas.{births_few}
use Rattle.sts_tree.proofs.ForkLemmas.{added}
use Rattle.sts_tree.proofs.Stores.{Stored, fresh, fresh_key, rekeyed, ready_is}

-- the lists of a scope have no task of the next birth
pub record WithoutNext (slots new : List (Option TaskRecord)) (s n : ℕ) (f : Family) : Type 0 where
  pub forks : IsList (link_at new 0) f.forks (births (is_of s) 0 (tasks_of slots)) × NotIn n (births (is_of s) 0 (tasks_of slots))
  pub living : IsList (link_at new 1) f.living (births (lives_in s) 0 (tasks_of slots)) × NotIn n (births (lives_in s) 0 (tasks_of slots))

pub without_next : (slots new : List (Option TaskRecord)) (families : List (Option Family)) (ready : Ends) (room s n : ℕ) (f : Family) (r : TaskRecord) → Stored slots families ready room → get_or families s None ≡ Some f → n ≡ length slots → new ≡ slots ++ Some r ∷ [] → WithoutNext slots new s n f
without_next slots new families ready room s n f r i is birth pushed =
    record {
      forks = fresh_key slots new n r 0 f.forks (births (is_of s) 0 (tasks_of slots)) birth pushed (i.forks s f is);
      living = fresh_key slots new n r 1 f.living (births (lives_in s) 0 (tasks_of slots)) birth pushed (i.living s f is);
    }

-- a subtask was appended
pub record Added (slots new : List (Option TaskRecord)) (families : List (Option Family)) (ready : Ends) (room s : ℕ) (g : Family) (y : TaskNode) : Type 0 where
  pub is : Stored new (set families s (Some g)) ready (room - 1)
  pub tasks : tasks_of new ≡ tasks_of slots ++ Some y ∷ []
  pub keys_are : ready_of new ready ≡ ready_of slots ready

pub adds : (slots one two new : List (Option TaskRecord)) (families : List (Option Family)) (ready : Ends) (room s n : ℕ) (f g : Family) (r : TaskRecord) (forks living : Ends) → Stored slots families ready room → get_or families s None ≡ Some f → 0 < room → length (tasks_of slots) < 1000000 → r.task.scope ≡ Some s → r.task.ready ≡ false → g ≡ record f { forks = forks; fork_count = f.fork_count + 1; living = living } → n ≡ length slots → one ≡ slots ++ Some r ∷ [] → BecomesList (link_at one) (link_at two) 0 forks (births (is_of s) 0 (tasks_of slots) ++ n ∷ []) → BecomesList (link_at two) (link_at new) 1 living (births (lives_in s) 0 (tasks_of slots) ++ cond r.task.lives (n ∷ []) []) → tasks_of two ≡ tasks_of one → tasks_of new ≡ tasks_of two → Added slots new families ready room s g r.task
adds slots one two new families ready room s n f g r forks living i is fits few scope flag same birth pushed forked lived tasks1 tasks2 =
    let h = fresh slots one n r birth pushed in
    let size : n ≡ length (tasks_of slots) = birth ∙ sym (length-map slots (option_map task_of)) in
    let tasks : tasks_of new ≡ tasks_of slots ++ Some r.task ∷ [] = tasks2 ∙ tasks1 ∙ ap tasks_of pushed ∙ map-append (option_map task_of) slots (Some r ∷ []) in
    let all : IsForest (link_at new) (tasks_of slots ++ Some r.task ∷ []) (set families s (Some g)) ready (ready_of slots ready) (room - 1) =
    added (link_at slots) (link_at one) (link_at two) (link_at new) (tasks_of slots) families ready (ready_of slots ready) room s f g r.task forks living i is fits few scope flag same
    (record { vacant = rw size at h.vacant; others = rw size at h.others; forked = rw size at forked; lived = rw size at lived })
    in
    record { is = rekeyed new (set families s (Some g)) ready (ready_of slots ready) (room - 1) (rw tasks all); tasks = tasks; keys_are = ready_is new ready (ready_of slots ready) all.is_ready }

-- a scope has fewer subtasks than 2^32
pub few_forks : (slots : List (Option TaskRecord)) (families : List (Option Family)) (ready : Ends) (room s : ℕ) (f : Family) → Stored slots families ready room → get_or families s None ≡ Some f → f.fork_count ≤ 65536
few_forks slots families ready room s f i is = let c = i.counts s f is in let b = births_few (is_of s) 0 (tasks_of slots) in let few = i.few in omega (arith, c, b, few)
