-- A task that ends, over the records.
use Rattle.std.proofs.Common.{◌≡◌, ◌≢◌, ℕ, ◌+◌, ◌<◌, List, ◌∷◌, ◌++◌, length, Option, Some, None, refl, sym, ◌∙◌, ap, arith, get_or, set, Bool, true, false, ◌&&◌}
use Rattle.std.specs.Prelude.{option_map}
use Rattle.sts_links.specs.Lists.{IsList, BecomesList}
use Rattle.sts_links.specs.declared.links.Ends.{Ends}
use Rattle.sts_links.proofs.ChainLemmas.{list_stays}
use Rattle.sts_model.specs.Living.{is_in}
use Rattle.sts_tree.specs.Births.{births}
use Rattle.sts_tree.specs.Stored.{tasks_of, link_at}
use Rattle.sts_tree.specs.Forest.{ready_of, Family, IsForest, is_of, lives_in, families_of, family_of}
use Rattle.sts_tree.specs.declared.record.TaskNode.{TaskNode}
use Rattle.sts_tree.specs.declared.record.TaskRecord.{TaskRecord}
use Rattle.sts_tree.specs.declared.record.ScopeRecord.{ScopeRecord}
use Rattle.sts_tree.proofs.BirthLemmas.{OneLess, births_few}
use Rattle.laws_words.proofs.ListLemmas.{count_kept}
use Rattle.sts_tree.proofs.Ends.{ended, leaves, spare}
use Rattle.sts_tree.proofs.HoldingLemmas.{map_at}
use Rattle.sts_tree.proofs.StepLemmas.{moved, changed}
use Rattle.sts_tree.proofs.Stores.{Stored, Writes, rekeyed, ready_is, relinked, task_at, seen_set}

pub none_of : (o : Option ℕ) → ((s : ℕ) → o ≡ Some s → ⊥) → o ≡ None
none_of None h = refl
none_of (Some s) h = absurd (h s refl)

no_scope : (s : ℕ) (o : Option ℕ) (b : Bool) → o ≡ None → (is_in s o && b) ≡ false
no_scope s o b e = rw e refl

-- a task of no scope
pub ends_alone : (slots : List (Option TaskRecord)) (families : List (Option Family)) (ready : Ends) (room t : ℕ) (r q : TaskRecord) → Stored slots families ready room → get_or slots t None ≡ Some r → q.links ≡ r.links → q.task.scope ≡ r.task.scope → r.task.scope ≡ None → q.task.ready ≡ r.task.ready → Writes slots (set slots t (Some q)) families ready ready room t q.task (ready_of slots ready)
ends_alone slots families ready room t r q i is links scope none flag =
    let at = task_at slots t r is in
    let new =
    changed (link_at slots) (link_at (set slots t (Some q))) (tasks_of slots) families ready ready (ready_of slots ready) (ready_of slots ready) room t r.task q.task i
    (λ m list ks less l. list_stays (link_at slots m) (link_at (set slots t (Some q)) m) list ks (λ k _. relinked slots t r q is links m k) l)
    at scope (λ s. no_scope s q.task.scope q.task.lives (scope ∙ none) ∙ sym (no_scope s r.task.scope r.task.lives none))
    (list_stays (link_at slots 2) (link_at (set slots t (Some q)) 2) ready (ready_of slots ready) (λ k _. relinked slots t r q is links 2 k) i.is_ready)
    (flag ∙ i.flags t r.task at) (λ k ne. refl)
    in
    let e = seen_set slots t q in
    let stored : IsForest (link_at (set slots t (Some q))) (tasks_of (set slots t (Some q))) families ready (ready_of slots ready) room = rw e new in
    record { is = rekeyed (set slots t (Some q)) families ready (ready_of slots ready) room stored; tasks = e; keys_are = ready_is (set slots t (Some q)) ready (ready_of slots ready) new.is_ready }

-- the scope of a task has a record
pub row_stands : {E : Type 0} → (slots : List (Option TaskRecord)) (rows : List (Option (ScopeRecord E))) (ready : Ends) (room t s : ℕ) (r : TaskRecord) → Stored slots (families_of rows) ready room → get_or slots t None ≡ Some r → r.task.scope ≡ Some s → get_or rows s None ≢ None
row_stands slots rows ready room t s r i is scope none = i.homes t s r.task (task_at slots t r is) scope (map_at family_of rows s ∙ ap (option_map family_of) none)

-- a living task of a scope, and the record that is written for its end
pub record Ending (slots : List (Option TaskRecord)) (families : List (Option Family)) (ready : Ends) (room t s : ℕ) (r q : TaskRecord) (f : Family) : Type 0 where
  pub stored : Stored slots families ready room
  pub is : get_or slots t None ≡ Some r
  pub scope : r.task.scope ≡ Some s
  pub lives : r.task.lives ≡ true
  pub there : get_or families s None ≡ Some f
  pub links : q.links ≡ r.links
  pub same_scope : q.task.scope ≡ r.task.scope
  pub ends : q.task.lives ≡ false
  pub flag : q.task.ready ≡ r.task.ready

-- what its end leaves
pub record EndsIn (slots new : List (Option TaskRecord)) (families : List (Option Family)) (ready : Ends) (room t s : ℕ) (g : Family) (y : TaskNode) : Type 0 where
  pub is : Stored new (set families s (Some g)) ready room
  pub tasks : tasks_of new ≡ set (tasks_of slots) t (Some y)
  pub keys_are : ready_of new ready ≡ ready_of slots ready

module _ {slots : List (Option TaskRecord)} {families : List (Option Family)} {ready : Ends} {room t s : ℕ} {r q : TaskRecord} {f : Family} (e : Ending slots families ready room t s r q f) where
  -- the living subtasks of its scope, without it
  pub fewer : OneLess (births (lives_in s) 0 (tasks_of slots)) (births (lives_in s) 0 (set (tasks_of slots) t (Some q.task))) t
  fewer = leaves (tasks_of slots) t s r.task q.task (task_at slots t r e.is) e.scope e.lives e.ends

  -- the joiner was told of fewer ends than there are subtasks
  pub spared : f.ends + length (births (lives_in s) 0 (set (tasks_of slots) t (Some q.task))) < length (births (is_of s) 0 (set (tasks_of slots) t (Some q.task)))
  spared = spare (link_at slots) (tasks_of slots) families ready (ready_of slots ready) room t s r.task q.task f e.stored (task_at slots t r e.is) e.same_scope e.there fewer

  pub few_ends : f.ends < 65536
  few_ends =
      let fits = spared in
      let b = births_few (is_of s) 0 (set (tasks_of slots) t (Some q.task)) in
      let n = count_kept (tasks_of slots) t r.task q.task (task_at slots t r e.is) in
      let few = e.stored.few in
      omega (arith, fits, b, n, few)

  -- the living subtasks, before it leaves them
  pub living_with : IsList (link_at (set slots t (Some q)) 1) f.living (fewer.front ++ t ∷ fewer.back)
  living_with =
      rw (← fewer.all_are) (list_stays (link_at slots 1) (link_at (set slots t (Some q)) 1) f.living (births (lives_in s) 0 (tasks_of slots)) (λ k _. relinked slots t r q e.is e.links 1 k) (e.stored.living s f e.there))

  -- and after
  pub ends_in : (new : List (Option TaskRecord)) (living : Ends) → BecomesList (link_at (set slots t (Some q))) (link_at new) 1 living (fewer.front ++ fewer.back) → tasks_of new ≡ tasks_of (set slots t (Some q)) → EndsIn slots new families ready room t s (record f { living = living }) q.task
  ends_in new living list tasks =
      let g : Family = record f { living = living } in
      let one = moved (link_at slots) (link_at (set slots t (Some q))) (tasks_of slots) families ready (ready_of slots ready) room (relinked slots t r q e.is e.links) e.stored in
      let two : IsForest (link_at new) (set (tasks_of slots) t (Some q.task)) (set families s (Some g)) ready (ready_of slots ready) room =
      ended (link_at (set slots t (Some q))) (link_at new) (tasks_of slots) families ready (ready_of slots ready) room t s r.task q.task f g living one (task_at slots t r e.is) e.scope e.same_scope e.flag e.there refl fewer list
      in
      let seen = tasks ∙ seen_set slots t q in
      record { is = rekeyed new (set families s (Some g)) ready (ready_of slots ready) room (rw seen two); tasks = seen; keys_are = ready_is new ready (ready_of slots ready) two.is_ready }
