-- A scope is closed: the records of its subtasks are taken out, and all other lists stay.
use Rattle.std.proofs.Common.{◌≡◌, ◌≢◌, ℕ, zero, suc, ◌+◌, List, [], ◌∷◌, ◌++◌, length, map, Option, Some, None, refl, sym, ◌∙◌, ap, arith, get_or, set, Bool, true, false, cond, is_some, count_by, get_or-set_other, length-append}
use Rattle.std.proofs.lemmas.List.{set_at, append_assoc, length-map}
use Rattle.std.proofs.lemmas.List.Sums.{sum_by-cons}
use Rattle.std.proofs.lemmas.Option.{same_Some}
use Rattle.sts_records.specs.Holes.{Holes}
use Rattle.sts_links.specs.Lists.{AreDistinct, AreLinked, IsList, first_or}
use Rattle.laws_words.specs.Keys.{NotIn}
use Rattle.sts_links.specs.declared.links.Ends.{Ends}
use Rattle.sts_links.specs.declared.links.Link.{Link}
use Rattle.sts_links.proofs.ChainLemmas.{list_stays, stays}
use Rattle.sts_model.specs.Living.{is_in}
use Rattle.sts_tree.specs.Births.{births, drop_if, has, remove_each}
use Rattle.sts_tree.specs.Stored.{tasks_of, link_of, link_at}
use Rattle.sts_tree.specs.Forest.{ready_of, Family, IsForest, is_of, lives_in}
use Rattle.sts_tree.specs.declared.record.TaskNode.{TaskNode}
use Rattle.sts_tree.specs.declared.record.TaskRecord.{TaskRecord}
use Rattle.sts_tree.proofs.BirthLemmas.{not_in}
use Rattle.sts_tree.proofs.ForkLemmas.{one_scope, lives_of}
use Rattle.sts_tree.proofs.KeyLemmas.{has_not}
use Rattle.sts_tree.proofs.Stores.{Stored, rekeyed, ready_is}

-- ---- the records that meet a test are taken out

module _ {T : Type 0} where
  pub drop_at : (q : T → Bool) (xs : List (Option T)) (k : ℕ) → get_or (map (drop_if q) xs) k None ≡ drop_if q (get_or xs k None)
  drop_at q [] k = refl
  drop_at q (x ∷ xs) zero = refl
  drop_at q (x ∷ xs) (suc k) = drop_at q xs k

  drop_some : (q : T → Bool) (o : Option T) (x : T) → drop_if q o ≡ Some x → (o ≡ Some x) × (q x ≡ false)
  drop_some q None x e = cc
  drop_some q (Some y) x e = by (q y) refl e
    where
      by : (b : Bool) → q y ≡ b → drop_if q (Some y) ≡ Some x → (Some y ≡ Some x) × (q x ≡ false)
      by true h f = cc
      by false h f = let g : Some y ≡ Some x = rw h at f in (g, rw (← same_Some y x g) h)

  -- what is read then
  pub kept_at : (q : T → Bool) (xs : List (Option T)) (k : ℕ) (x : T) → get_or (map (drop_if q) xs) k None ≡ Some x → (get_or xs k None ≡ Some x) × (q x ≡ false)
  kept_at q xs k x e = drop_some q (get_or xs k None) x (sym (drop_at q xs k) ∙ e)

  -- births by a test that no dropped record passes
  pub births_dropped : (p q : T → Bool) (n : ℕ) (xs : List (Option T)) → ((x : T) → p x ≡ true → q x ≡ false) → births p n (map (drop_if q) xs) ≡ births p n xs
  births_dropped p q n [] h = refl
  births_dropped p q n (None ∷ xs) h = births_dropped p q (suc n) xs h
  births_dropped p q n (Some x ∷ xs) h = by (p x) (q x) refl refl (births_dropped p q (suc n) xs h)
    where
      by : (a b : Bool) → p x ≡ a → q x ≡ b → births p (suc n) (map (drop_if q) xs) ≡ births p (suc n) xs → births p n (map (drop_if q) (Some x ∷ xs)) ≡ births p n (Some x ∷ xs)
      by true true e f r = let g = h x e in cc
      by false true e f r = rw (f, e) r
      by a false e f r = rw (f, r) refl

  -- how many records are left then
  pub count_dropped : (q : T → Bool) (n : ℕ) (xs : List (Option T)) → count_by is_some (map (drop_if q) xs) + length (births q n xs) ≡ count_by is_some xs
  count_dropped q n [] = refl
  count_dropped q n (None ∷ xs) =
      let s = sum_by-cons (λ o. cond (is_some o) 1 0) None xs in
      let t = sum_by-cons (λ o. cond (is_some o) 1 0) None (map (drop_if q) xs) in
      omega (arith, count_dropped q (suc n) xs, s, t)
  count_dropped q n (Some x ∷ xs) = by (q x) refl (count_dropped q (suc n) xs)
    where
      by : (b : Bool) → q x ≡ b → count_by is_some (map (drop_if q) xs) + length (births q (suc n) xs) ≡ count_by is_some xs → count_by is_some (map (drop_if q) (Some x ∷ xs)) + length (births q n (Some x ∷ xs)) ≡ count_by is_some (Some x ∷ xs)
      by true e r =
          let s = sum_by-cons (λ (o : Option T). cond (is_some o) 1 0) (Some x) xs in
          let t = sum_by-cons (λ (o : Option T). cond (is_some o) 1 0) None (map (drop_if q) xs) in
          rw e (omega (arith, r, s, t))
      by false e r =
          let s = sum_by-cons (λ (o : Option T). cond (is_some o) 1 0) (Some x) xs in
          let t = sum_by-cons (λ (o : Option T). cond (is_some o) 1 0) (Some x) (map (drop_if q) xs) in
          rw e (omega (arith, r, s, t))

  -- one by one is all at once
  pub one_more : (ys : List (Option T)) (o : Option T) → length (ys ++ o ∷ []) ≡ suc (length ys)
  one_more ys o = let l = length-append ys (o ∷ []) in omega (arith, l)

  shifted : (q : T → Bool) (ys xs zs : List (Option T)) (o : Option T) → remove_each (births q (length (ys ++ o ∷ [])) xs) ((ys ++ o ∷ []) ++ xs) ≡ (ys ++ o ∷ []) ++ zs → remove_each (births q (suc (length ys)) xs) (ys ++ o ∷ xs) ≡ ys ++ o ∷ zs
  shifted q ys xs zs o h = rw (one_more ys o, append_assoc ys (o ∷ []) xs, append_assoc ys (o ∷ []) zs) at h

  removed_from : (q : T → Bool) (ys xs : List (Option T)) → remove_each (births q (length ys) xs) (ys ++ xs) ≡ ys ++ map (drop_if q) xs
  removed_from q ys [] = refl
  removed_from q ys (None ∷ xs) = shifted q ys xs (map (drop_if q) xs) None (removed_from q (ys ++ None ∷ []) xs)
  removed_from q ys (Some x ∷ xs) =
      by (q x) refl (shifted q ys xs (map (drop_if q) xs) (Some x) (removed_from q (ys ++ Some x ∷ []) xs)) (shifted q ys xs (map (drop_if q) xs) None (removed_from q (ys ++ None ∷ []) xs))
    where
      by : (b : Bool) → q x ≡ b → remove_each (births q (suc (length ys)) xs) (ys ++ Some x ∷ xs) ≡ ys ++ Some x ∷ map (drop_if q) xs → remove_each (births q (suc (length ys)) xs) (ys ++ None ∷ xs) ≡ ys ++ None ∷ map (drop_if q) xs → remove_each (births q (length ys) (Some x ∷ xs)) (ys ++ Some x ∷ xs) ≡ ys ++ map (drop_if q) (Some x ∷ xs)
      by true e h k = rw e (ap (remove_each (births q (suc (length ys)) xs)) (set_at ys (Some x) xs None (length ys) refl) ∙ k)
      by false e h k = rw e h

  pub removed_is : (q : T → Bool) (xs : List (Option T)) → remove_each (births q 0 xs) xs ≡ map (drop_if q) xs
  removed_is q xs = removed_from q [] xs

  -- a hole is made
  none_same : (xs : List (Option T)) (s : ℕ) → get_or (set xs s None) s None ≡ None
  none_same [] s = refl
  none_same (x ∷ xs) zero = refl
  none_same (x ∷ xs) (suc s) = none_same xs s

  pub beside_hole : (xs : List (Option T)) (s r : ℕ) (x : T) → get_or (set xs s None) r None ≡ Some x → (r ≢ s) × (get_or xs r None ≡ Some x)
  beside_hole xs s r x e = (apart, sym (get_or-set_other xs s r None None apart) ∙ e)
    where
      apart : r ≢ s
      apart same = let n = none_same xs s in let f : get_or (set xs s None) s None ≡ Some x = rw same at e in cc

-- ---- the list of subtasks, one after the other

-- the first n records were taken out, and these are left to take out
pub record Removes (first now : Holes TaskRecord) (keys : List ℕ) (n : ℕ) (at : Option ℕ) : Type 0 where
  pub rest : List ℕ
  pub before : Option ℕ
  pub next : at ≡ first_or rest None
  pub linked : AreLinked (link_at now.slots 0) before rest None
  pub distinct : AreDistinct rest
  pub count : n + length rest ≡ length keys
  pub slots : remove_each rest now.slots ≡ remove_each keys first.slots
  pub keys_stay : now.keys ≡ first.keys
  pub room : now.room ≡ first.room + n

-- the next one
pub record Next (now : Holes TaskRecord) (t : ℕ) (rest : List ℕ) : Type 0 where
  pub later : List ℕ
  pub rest_is : rest ≡ t ∷ later

next_of : (now : Holes TaskRecord) (t : ℕ) (rest : List ℕ) → Some t ≡ first_or rest None → Next now t rest
next_of now t [] e = cc
next_of now t (k ∷ ks) e = let s : k ≡ t = cc in record { later = ks; rest_is = rw s refl }

pub removes_next : (first now new : Holes TaskRecord) (keys : List ℕ) (n t : ℕ) (r : TaskRecord) (at : Option ℕ) → Removes first now keys n (Some t) → get_or now.slots t None ≡ Some r → new.slots ≡ set now.slots t None → new.keys ≡ now.keys → new.room ≡ now.room + 1 → at ≡ (get_or r.links 0 (record { before = None; after = None })).after → Removes first new keys (suc n) at
removes_next first now new keys n t r at i is same same_keys more at_is =
    let x = next_of now t i.rest i.next in
    let linked : AreLinked (link_at now.slots 0) i.before (t ∷ x.later) None = rw x.rest_is at i.linked in
    let distinct : AreDistinct (t ∷ x.later) = rw x.rest_is at i.distinct in
    let count : n + length (t ∷ x.later) ≡ length keys = rw x.rest_is at i.count in
    let slots : remove_each (t ∷ x.later) now.slots ≡ remove_each keys first.slots = rw x.rest_is at i.slots in
    let room = i.room in
    let here : get_or r.links 0 (record { before = None; after = None }) ≡ record { before = i.before; after = first_or x.later None } = same_Some _ _ (ap (link_of 0) (sym is) ∙ linked.0) in
    record {
      rest = x.later;
      before = Some t;
      next = at_is ∙ ap (λ (l : Link). l.after) here;
      linked = rw same (stays (link_at now.slots 0) (link_at (set now.slots t None) 0) (Some t) x.later None (λ k inside. ap (link_of 0) (get_or-set_other now.slots t k None None (λ e. inside (rw e distinct.0)))) linked.1);
      distinct = distinct.1;
      count = omega (arith, count);
      slots = rw same slots;
      keys_stay = same_keys ∙ i.keys_stay;
      room = omega (arith, room, more);
    }

empty : (xs : List ℕ) → length xs ≡ 0 → xs ≡ []
empty [] e = refl
empty (x ∷ xs) e = absurd (omega (arith, e))

none_next : (xs : List ℕ) → None ≡ first_or xs None → xs ≡ []
none_next [] e = refl
none_next (x ∷ xs) e = cc

-- all are gone
pub record Removed (first now : Holes TaskRecord) (keys : List ℕ) : Type 0 where
  pub slots : now.slots ≡ remove_each keys first.slots
  pub keys_stay : now.keys ≡ first.keys
  pub room : now.room ≡ first.room + length keys

all_removed : (first now : Holes TaskRecord) (keys : List ℕ) (n : ℕ) (at : Option ℕ) → (r : Removes first now keys n at) → r.rest ≡ [] → Removed first now keys
all_removed first now keys n at r none =
    let slots : now.slots ≡ remove_each keys first.slots = rw none at r.slots in
    let count : n + 0 ≡ length keys = rw none at r.count in
    let room = r.room in
    record { slots = slots; keys_stay = r.keys_stay; room = omega (arith, count, room) }

pub removed_none : (first now : Holes TaskRecord) (keys : List ℕ) (n : ℕ) (at : Option ℕ) → Removes first now keys n at → at ≡ None → Removed first now keys
removed_none first now keys n at r e = all_removed first now keys n at r (none_next r.rest (sym e ∙ r.next))

-- ---- the lists afterwards

abbrev pub of_record : ℕ → TaskRecord → Bool
of_record s r = is_of s r.task

births_of : (s n : ℕ) (slots : List (Option TaskRecord)) → births (of_record s) n slots ≡ births (is_of s) n (tasks_of slots)
births_of s n [] = refl
births_of s n (None ∷ slots) = births_of s (suc n) slots
births_of s n (Some r ∷ slots) = rw (births_of s (suc n) slots) refl

pub tasks_dropped : (s : ℕ) (slots : List (Option TaskRecord)) → tasks_of (map (drop_if (of_record s)) slots) ≡ map (drop_if (is_of s)) (tasks_of slots)
tasks_dropped s [] = refl
tasks_dropped s (None ∷ slots) = ap (λ l. None ∷ l) (tasks_dropped s slots)
tasks_dropped s (Some r ∷ slots) = by (is_of s r.task) refl (tasks_dropped s slots)
  where
    by : (b : Bool) → is_of s r.task ≡ b → tasks_of (map (drop_if (of_record s)) slots) ≡ map (drop_if (is_of s)) (tasks_of slots) → tasks_of (map (drop_if (of_record s)) (Some r ∷ slots)) ≡ map (drop_if (is_of s)) (tasks_of (Some r ∷ slots))
    by true e h = rw (e, h) refl
    by false e h = rw (e, h) refl

pub slots_dropped : (s : ℕ) (slots : List (Option TaskRecord)) → remove_each (births (is_of s) 0 (tasks_of slots)) slots ≡ map (drop_if (of_record s)) slots
slots_dropped s slots = ap (λ ks. remove_each ks slots) (sym (births_of s 0 slots)) ∙ removed_is (of_record s) slots

link_kept : (s m k : ℕ) (slots : List (Option TaskRecord)) → ((r : TaskRecord) → get_or slots k None ≡ Some r → of_record s r ≡ false) → link_at (map (drop_if (of_record s)) slots) m k ≡ link_at slots m k
link_kept s m k slots h = ap (link_of m) (drop_at (of_record s) slots k ∙ by (get_or slots k None) refl)
  where
    by : (o : Option TaskRecord) → get_or slots k None ≡ o → drop_if (of_record s) o ≡ o
    by None e = refl
    by (Some r) e = rw (h r e) refl

-- a list without a subtask of s
list_kept : (s m : ℕ) (slots : List (Option TaskRecord)) (list : Ends) (keys : List ℕ) → ((k : ℕ) (x : TaskNode) → (NotIn k keys → ⊥) → get_or (tasks_of slots) k None ≡ Some x → is_of s x ≡ false) → IsList (link_at slots m) list keys → IsList (link_at (map (drop_if (of_record s)) slots) m) list keys
list_kept s m slots list keys h is =
    list_stays (link_at slots m) (link_at (map (drop_if (of_record s)) slots) m) list keys
    (λ k inside. link_kept s m k slots (λ r at. h k r.task inside (Rattle.sts_tree.proofs.Stores.task_at slots k r at))) is

by_test : (p : TaskNode → Bool) (s : ℕ) (tasks : List (Option TaskNode)) → ((x : TaskNode) → p x ≡ true → is_of s x ≡ false) → (k : ℕ) (x : TaskNode) → (NotIn k (births p 0 tasks) → ⊥) → get_or tasks k None ≡ Some x → is_of s x ≡ false
by_test p s tasks h k x inside at = by (p x) refl
  where
    by : (b : Bool) → p x ≡ b → is_of s x ≡ false
    by true e = h x e
    by false e = absurd (inside (not_in p tasks k (λ y at2. let q : y ≡ x = cc in rw q e)))

-- what closing leaves
pub record Closes (slots new : List (Option TaskRecord)) (families : List (Option Family)) (ready : Ends) (room s : ℕ) : Type 0 where
  pub is : Stored new (set families s None) ready (room + length (births (is_of s) 0 (tasks_of slots)))
  pub tasks : tasks_of new ≡ map (drop_if (is_of s)) (tasks_of slots)
  pub keys_are : ready_of new ready ≡ ready_of slots ready

pub closes : (slots new : List (Option TaskRecord)) (families : List (Option Family)) (ready : Ends) (room s : ℕ) → Stored slots families ready room → ((t : ℕ) (x : TaskNode) → get_or (tasks_of slots) t None ≡ Some x → is_of s x ≡ true → has t (ready_of slots ready) ≡ false) → new ≡ remove_each (births (is_of s) 0 (tasks_of slots)) slots → Closes slots new families ready room s
closes slots new families ready room s i waits same =
    let all : IsForest (link_at dropped) (map (drop_if (is_of s)) (tasks_of slots)) (set families s None) ready (ready_of slots ready) (room + length (births (is_of s) 0 (tasks_of slots))) =
    record {
      forks = λ r f q. let b = beside_hole families s r f q in rw (of_other r b.0) (list_kept s 0 slots f.forks _ (by_test (is_of r) s (tasks_of slots) (λ x e. one_scope s r x (λ h. b.0 (sym h)) e)) (i.forks r f b.1));
      living = λ r f q. let b = beside_hole families s r f q in rw (lives_other r b.0) (list_kept s 1 slots f.living _ (by_test (lives_in r) s (tasks_of slots) (λ x e. one_scope s r x (λ h. b.0 (sym h)) (lives_of r x e))) (i.living r f b.1));
      counts = λ r f q. let b = beside_hole families s r f q in rw (of_other r b.0) (i.counts r f b.1);
      told = λ r f q. let b = beside_hole families s r f q in rw (lives_other r b.0) (i.told r f b.1);
      is_ready = list_kept s 2 slots ready (ready_of slots ready) waiting i.is_ready;
      flags = λ t x q. i.flags t x (kept_at (is_of s) (tasks_of slots) t x q).0;
      homes = λ t r x q e. home t r x (kept_at (is_of s) (tasks_of slots) t x q) e;
      few = let n = count_dropped (is_of s) 0 (tasks_of slots) in let few = i.few in omega (arith, n, few);
      born = let n = length-map (tasks_of slots) (drop_if (is_of s)) in let born = i.born in omega (arith, n, born);
    }
    in
    let e = same ∙ slots_dropped s slots in
    let stored : Stored dropped (set families s None) ready (room + length (births (is_of s) 0 (tasks_of slots))) = rekeyed dropped (set families s None) ready (ready_of slots ready) (room + length (births (is_of s) 0 (tasks_of slots))) (rw (tasks_dropped s slots) all) in
    record { is = rw e stored; tasks = rw e (tasks_dropped s slots); keys_are = rw e (ready_is dropped ready (ready_of slots ready) all.is_ready) }
  where
    dropped : List (Option TaskRecord)
    dropped = map (drop_if (of_record s)) slots

    of_other : (r : ℕ) → r ≢ s → births (is_of r) 0 (map (drop_if (is_of s)) (tasks_of slots)) ≡ births (is_of r) 0 (tasks_of slots)
    of_other r ne = births_dropped (is_of r) (is_of s) 0 (tasks_of slots) (λ x e. one_scope s r x (λ h. ne (sym h)) e)

    lives_other : (r : ℕ) → r ≢ s → births (lives_in r) 0 (map (drop_if (is_of s)) (tasks_of slots)) ≡ births (lives_in r) 0 (tasks_of slots)
    lives_other r ne = births_dropped (lives_in r) (is_of s) 0 (tasks_of slots) (λ x e. one_scope s r x (λ h. ne (sym h)) (lives_of r x e))

    waiting : (k : ℕ) (x : TaskNode) → (NotIn k (ready_of slots ready) → ⊥) → get_or (tasks_of slots) k None ≡ Some x → is_of s x ≡ false
    waiting k x inside at = by (is_of s x) refl
      where
        by : (b : Bool) → is_of s x ≡ b → is_of s x ≡ false
        by false e = e
        by true e = absurd (inside (has_not k (ready_of slots ready) (waits k x at e)))

    own : (r : ℕ) (o : Option ℕ) → o ≡ Some r → is_in s o ≡ false → r ≢ s
    own r o e f same = let t : is_in s o ≡ true = rw (e, same) (Rattle.sts_tree.proofs.ForkLemmas.own_scope s) in cc

    home : (t r : ℕ) (x : TaskNode) → (get_or (tasks_of slots) t None ≡ Some x) × (is_of s x ≡ false) → x.scope ≡ Some r → get_or (set families s None) r None ≢ None
    home t r x at e none = i.homes t r x at.0 e (sym (get_or-set_other families s r None None (own r x.scope e at.1)) ∙ none)
