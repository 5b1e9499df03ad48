-- The stored forest over the records: their links, and the ready list.
use Rattle.std.proofs.Common.{◌≡◌, ◌≢◌, ℕ, ◌<◌, List, [], ◌∷◌, ◌++◌, length, Option, Some, None, refl, sym, ◌∙◌, ap, arith, get_or, set, Bool, true, false, nat_eq, nat_lt, get_or-set_same, get_or-set_other}
use Rattle.std.proofs.lemmas.Bool.Decides.{nat_tests}
use Rattle.std.proofs.lemmas.List.{map-set, get_or_past, get_or_append_left}
use Rattle.std.specs.Prelude.{option_map}
use Rattle.std.proofs.lemmas.Option.{same_Some}
use Rattle.sts_links.specs.Lists.{IsList, BecomesList}
use Rattle.laws_words.specs.Keys.{NotIn}
use Rattle.sts_links.specs.declared.links.Ends.{Ends}
use Rattle.sts_links.proofs.ChainLemmas.{without_link, list_stays}
use Rattle.sts_tree.specs.Stored.{task_of, tasks_of, link_of, link_at}
use Rattle.sts_tree.specs.Births.{has, without}
use Rattle.sts_tree.specs.Forest.{Forest, ready_of, Family, IsForest}
use Rattle.sts_tree.specs.declared.record.TaskNode.{TaskNode}
use Rattle.sts_tree.specs.declared.record.TaskRecord.{TaskRecord}
use Rattle.sts_tree.proofs.HoldingLemmas.{map_at, inside_of, no_link}
use Rattle.sts_tree.proofs.KeyLemmas.{has_not, Split}
use Rattle.sts_tree.proofs.StepLemmas.{moved, retasked, readied, unreadied, fresh_list, past_none}
use Rattle.sts_tree.proofs.Walks.{walk_is, few}

-- the keys of a list in some layer are births of records
pub ready_is : (slots : List (Option TaskRecord)) (ready : Ends) (keys : List ℕ) → IsList (link_at slots 2) ready keys → ready_of slots ready ≡ keys
ready_is slots ready keys is = walk_is (link_at slots 2) (length slots) ready keys is (few (length slots) keys is.distinct (λ j inside. by j (nat_lt j (length slots)) refl inside))
  where
    by : (j : ℕ) (b : Bool) → nat_lt j (length slots) ≡ b → (NotIn j keys → ⊥) → j < length slots
    by j true q inside = grind (arith, nat_tests)
    by j false q inside =
        let past : get_or slots j None ≡ None = get_or_past slots j None (grind (arith, nat_tests)) in
        absurd (inside (without_link (link_at slots 2) j None keys None (no_link slots 2 j past) is.linked))

-- a record is written that keeps its links
pub relinked : (slots : List (Option TaskRecord)) (t : ℕ) (r q : TaskRecord) → get_or slots t None ≡ Some r → q.links ≡ r.links → (m k : ℕ) → link_at (set slots t (Some q)) m k ≡ link_at slots m k
relinked slots t r q is same m k = by (nat_eq k t) refl
  where
    inside : t < length slots
    inside = inside_of slots t (λ n. let e : Some r ≡ None = sym is ∙ n in cc)

    by : (b : Bool) → nat_eq k t ≡ b → link_at (set slots t (Some q)) m k ≡ link_at slots m k
    by true e = let s : k ≡ t = grind (arith, nat_tests) in rw (s, get_or-set_same slots t (Some q) None inside, is, same) refl
    by false e = let s : k ≢ t = grind (arith, nat_tests) in rw (get_or-set_other slots t k (Some q) None s) refl

pub task_at : (slots : List (Option TaskRecord)) (t : ℕ) (r : TaskRecord) → get_or slots t None ≡ Some r → get_or (tasks_of slots) t None ≡ Some r.task
task_at slots t r is = map_at task_of slots t ∙ ap (option_map task_of) is

-- a task that is seen has a record
pub record_at : (slots : List (Option TaskRecord)) (t : ℕ) (x : TaskNode) → get_or (tasks_of slots) t None ≡ Some x → (r : TaskRecord) × (get_or slots t None ≡ Some r) × (r.task ≡ x)
record_at slots t x is = by (get_or slots t None) refl (sym (map_at task_of slots t) ∙ is)
  where
    by : (o : Option TaskRecord) → get_or slots t None ≡ o → option_map task_of o ≡ Some x → (r : TaskRecord) × (get_or slots t None ≡ Some r) × (r.task ≡ x)
    by None e f = cc
    by (Some r) e f = (r, e, same_Some r.task x f)

pub seen_set : (slots : List (Option TaskRecord)) (t : ℕ) (q : TaskRecord) → tasks_of (set slots t (Some q)) ≡ set (tasks_of slots) t (Some q.task)
seen_set slots t q = map-set (option_map task_of) slots t (Some q)

-- these records have the lists of these families
abbrev pub Stored : List (Option TaskRecord) → List (Option Family) → Ends → ℕ → Type 0
Stored slots families ready room = IsForest (link_at slots) (tasks_of slots) families ready (ready_of slots ready) room

-- and the ready list has these keys
pub rekeyed : (slots : List (Option TaskRecord)) (families : List (Option Family)) (ready : Ends) (keys : List ℕ) (room : ℕ) → IsForest (link_at slots) (tasks_of slots) families ready keys room → Stored slots families ready room
rekeyed slots families ready keys room i = rw (ready_is slots ready keys i.is_ready) i

-- what a write of one record leaves
pub record Writes (slots new : List (Option TaskRecord)) (families : List (Option Family)) (ready ready2 : Ends) (room t : ℕ) (task : TaskNode) (keys : List ℕ) : Type 0 where
  pub is : Stored new families ready2 room
  pub tasks : tasks_of new ≡ set (tasks_of slots) t (Some task)
  pub keys_are : ready_of new ready2 ≡ keys

-- a field of a task
pub rewrites : (slots : List (Option TaskRecord)) (families : List (Option Family)) (ready : Ends) (room t : ℕ) (r q : TaskRecord) → Stored slots families ready room → get_or slots t None ≡ Some r → q.links ≡ r.links → q.task.scope ≡ r.task.scope → q.task.lives ≡ r.task.lives → q.task.ready ≡ r.task.ready → Writes slots (set slots t (Some q)) families ready ready room t q.task (ready_of slots ready)
rewrites slots families ready room t r q i is links scope lives flag =
    let new = retasked (link_at slots) (link_at (set slots t (Some q))) (tasks_of slots) families ready (ready_of slots ready) room t r.task q.task i (relinked slots t r q is links) (task_at slots t r is) scope lives flag in
    let e = seen_set slots t q in
    let stored : IsForest (link_at (set slots t (Some q))) (tasks_of (set slots t (Some q))) families ready (ready_of slots ready) room = rw e new in
    record { is = rekeyed (set slots t (Some q)) families ready (ready_of slots ready) room stored; tasks = e; keys_are = ready_is (set slots t (Some q)) ready (ready_of slots ready) new.is_ready }

-- the ready list, before a task is appended
pub can_push : (slots : List (Option TaskRecord)) (families : List (Option Family)) (ready : Ends) (room t : ℕ) (r q : TaskRecord) → Stored slots families ready room → get_or slots t None ≡ Some r → q.links ≡ r.links → has t (ready_of slots ready) ≡ false → IsList (link_at (set slots t (Some q)) 2) ready (ready_of slots ready) × NotIn t (ready_of slots ready)
can_push slots families ready room t r q i is links waits =
    (list_stays (link_at slots 2) (link_at (set slots t (Some q)) 2) ready (ready_of slots ready) (λ k _. relinked slots t r q is links 2 k) i.is_ready, has_not t (ready_of slots ready) waits)

-- and after
pub pushes : (slots new : List (Option TaskRecord)) (families : List (Option Family)) (ready ready2 : Ends) (room t : ℕ) (r q : TaskRecord) → Stored slots families ready room → get_or slots t None ≡ Some r → q ≡ record r { task = record r.task { ready = true } } → tasks_of new ≡ tasks_of (set slots t (Some q)) → BecomesList (link_at (set slots t (Some q))) (link_at new) 2 ready2 (ready_of slots ready ++ t ∷ []) → Writes slots new families ready ready2 room t (record r.task { ready = true }) (ready_of slots ready ++ t ∷ [])
pushes slots new families ready ready2 room t r q i is same tasks list =
    let links : q.links ≡ r.links = rw same refl in
    let one = moved (link_at slots) (link_at (set slots t (Some q))) (tasks_of slots) families ready (ready_of slots ready) room (relinked slots t r q is links) i in
    let two = readied (link_at (set slots t (Some q))) (link_at new) (tasks_of slots) families ready ready2 (ready_of slots ready) room t r.task one (task_at slots t r is) list in
    let e : tasks_of new ≡ set (tasks_of slots) t (Some (record r.task { ready = true })) = tasks ∙ seen_set slots t q ∙ (rw same refl) in
    let stored : IsForest (link_at new) (tasks_of new) families ready2 (ready_of slots ready ++ t ∷ []) room = rw e two in
    record { is = rekeyed new families ready2 (ready_of slots ready ++ t ∷ []) room stored; tasks = e; keys_are = ready_is new ready2 (ready_of slots ready ++ t ∷ []) two.is_ready }

-- before one is taken out
pub can_drop : (slots : List (Option TaskRecord)) (families : List (Option Family)) (ready : Ends) (room t : ℕ) (r q : TaskRecord) → Stored slots families ready room → get_or slots t None ≡ Some r → q.links ≡ r.links → (s : Split t (ready_of slots ready)) → IsList (link_at (set slots t (Some q)) 2) ready (s.front ++ t ∷ s.back)
can_drop slots families ready room t r q i is links s =
    rw (← s.all_are) (list_stays (link_at slots 2) (link_at (set slots t (Some q)) 2) ready (ready_of slots ready) (λ k _. relinked slots t r q is links 2 k) i.is_ready)

pub drops : (slots new : List (Option TaskRecord)) (families : List (Option Family)) (ready ready2 : Ends) (room t : ℕ) (r q : TaskRecord) → Stored slots families ready room → get_or slots t None ≡ Some r → q ≡ record r { task = record r.task { ready = false } } → tasks_of new ≡ tasks_of (set slots t (Some q)) → BecomesList (link_at (set slots t (Some q))) (link_at new) 2 ready2 (without t (ready_of slots ready)) → Writes slots new families ready ready2 room t (record r.task { ready = false }) (without t (ready_of slots ready))
drops slots new families ready ready2 room t r q i is same tasks list =
    let links : q.links ≡ r.links = rw same refl in
    let one = moved (link_at slots) (link_at (set slots t (Some q))) (tasks_of slots) families ready (ready_of slots ready) room (relinked slots t r q is links) i in
    let two = unreadied (link_at (set slots t (Some q))) (link_at new) (tasks_of slots) families ready ready2 (ready_of slots ready) room t r.task one (task_at slots t r is) list in
    let e : tasks_of new ≡ set (tasks_of slots) t (Some (record r.task { ready = false })) = tasks ∙ seen_set slots t q ∙ (rw same refl) in
    let stored : IsForest (link_at new) (tasks_of new) families ready2 (without t (ready_of slots ready)) room = rw e two in
    record { is = rekeyed new families ready2 (without t (ready_of slots ready)) room stored; tasks = e; keys_are = ready_is new ready2 (without t (ready_of slots ready)) two.is_ready }

-- the task that was read is the record's
pub own_task : (slots : List (Option TaskRecord)) (t : ℕ) (r : TaskRecord) (x : TaskNode) → get_or slots t None ≡ Some r → get_or (tasks_of slots) t None ≡ Some x → r.task ≡ x
own_task slots t r x is e = same_Some r.task x (sym (task_at slots t r is) ∙ e)

-- the whole value, if tasks and ready list are known
pub seen_is : {E : Type 0} → (f : Forest E) (tasks : List (Option TaskNode)) (ready : List ℕ) → f.tasks ≡ tasks → f.ready ≡ ready → f ≡ record f { tasks = tasks; ready = ready }
seen_is f tasks ready e h = rw (← e, ← h) refl

-- a field of a task is written
pub field_seen : {E : Type 0} → (f : Forest E) (slots : List (Option TaskRecord)) (families : List (Option Family)) (ready : Ends) (room t : ℕ) (r q : TaskRecord) (x y : TaskNode) → Stored slots families ready room → get_or slots t None ≡ Some r → q.links ≡ r.links → q.task.scope ≡ r.task.scope → q.task.lives ≡ r.task.lives → q.task.ready ≡ r.task.ready → get_or (tasks_of slots) t None ≡ Some x → (r.task ≡ x → q.task ≡ y) → f.tasks ≡ tasks_of (set slots t (Some q)) → f.ready ≡ ready_of (set slots t (Some q)) ready → f ≡ record f { tasks = set (tasks_of slots) t (Some y); ready = ready_of slots ready }
field_seen f slots families ready room t r q x y i is links scope lives flag e change tasks keys =
    let w = rewrites slots families ready room t r q i is links scope lives flag in
    let task = change (own_task slots t r x is e) in
    seen_is f _ _ (tasks ∙ w.tasks ∙ ap (λ z. set (tasks_of slots) t (Some z)) task) (keys ∙ w.keys_are)

-- a record of the next birth: no record has its links
pub record Fresh (slots new : List (Option TaskRecord)) (n : ℕ) : Type 0 where
  pub vacant : (m : ℕ) → link_at slots m n ≡ None
  pub others : (m k : ℕ) → k ≢ n → link_at new m k ≡ link_at slots m k

pub fresh : (slots new : List (Option TaskRecord)) (n : ℕ) (r : TaskRecord) → n ≡ length slots → new ≡ slots ++ Some r ∷ [] → Fresh slots new n
fresh slots new n r e f =
    record {
      vacant = λ m. no_link slots m n (get_or_past slots n None (omega (arith, e)));
      others = λ m k ne. ap (link_of m) ((rw f refl) ∙ by k ne (nat_lt k (length slots)) refl);
    }
  where
    by : (k : ℕ) → k ≢ n → (b : Bool) → nat_lt k (length slots) ≡ b → get_or (slots ++ Some r ∷ []) k None ≡ get_or slots k None
    by k ne true q = get_or_append_left slots (Some r ∷ []) None k (grind (arith, nat_tests))
    by k ne false q =
        let past : length slots < k = grind (arith, nat_tests, e, ne) in
        past_none slots (Some r) k None past ∙ sym (get_or_past slots k None (omega arith))

pub fresh_key : (slots new : List (Option TaskRecord)) (n : ℕ) (r : TaskRecord) (m : ℕ) (list : Ends) (ks : List ℕ) → n ≡ length slots → new ≡ slots ++ Some r ∷ [] → IsList (link_at slots m) list ks → IsList (link_at new m) list ks × NotIn n ks
fresh_key slots new n r m list ks e f is =
    let h = fresh slots new n r e f in
    (fresh_list (link_at slots m) (link_at new m) n list ks (h.vacant m) (λ k ne. h.others m k ne) is, without_link (link_at slots m) n None ks None (h.vacant m) is.linked)
