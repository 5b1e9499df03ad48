-- Changes of a task or a scope in both of two states that are alike.
use Rattle.std.proofs.Common.{◌≡◌, ℕ, ◌+◌, ◌<◌, ◌≤◌, List, [], ◌∷◌, ◌++◌, Bool, true, false, Option, refl, sym, ◌∙◌, ap, subst, length, arith, get_or, set}
use Rattle.std.proofs.Common.{cond, ◌&&◌, length-set, length-append, get_or-set_same, get_or-set_other}
use Rattle.std.proofs.lemmas.List.{set_past, get_or_append_left, get_or_past}
use Rattle.std.proofs.Math.Dec.{ltb}
use Rattle.std.proofs.Math.Seq.{get_or-append_seam}
use Rattle.std.specs.Prelude.{◌==◌, option_map}
use Rattle.std.specs.List.{sum_by}
use Rattle.std.proofs.lemmas.Bool.{ltb-true, eqb-false, eqb-true}
use Rattle.std.proofs.lemmas.Bool.Decides.{nat_tests}
use Rattle.std.proofs.lemmas.List.Sums.{sum_by-set, sum_by_push}
use Rattle.std.proofs.Math.ListN.{get_or-map}
use Rattle.sts_model.specs.declared.record.Frame.{Frame}
use Rattle.sts_model.specs.declared.record.Scope.{Scope}
use Rattle.sts_model.specs.declared.record.Task.{Task}
use Rattle.sts_model.specs.World.{World, task_at, scope_at, no_task, no_scope, with_task, with_scope, with_frame}
use Rattle.sts_model.specs.Living.{lives, is_in, is_subtask, is_living_subtask}
use Rattle.sts_model.specs.Cancelling.{raise, raised, marked, cancel}
use Rattle.laws_names.specs.Names.{Names, AreNamed, IsAlike, IsOneToOne, live_part, plain_part, named_frame, named_task, named_scope, IsSameTask, IsSameScope}
use Rattle.laws_names.proofs.NameLemmas.{in_named, name_below, map_length, sum_map, sum_same}

-- ---- the part of a task that can be read

pub part_is : {X : Type 0} (read : Task → X) → ((x : Task) → read (record x { frame = no_task.frame; flag = false }) ≡ read x) → (x : Task) → read (live_part x) ≡ read x
part_is {X} read here x = by (lives x)
  where
    by : (b : Bool) → read (cond b x (record x { frame = no_task.frame; flag = false })) ≡ read x
    by true = refl
    by false = here x

pub part_alive : (x : Task) → lives x ≡ true → live_part x ≡ x
part_alive x e = ap (λ (b : Bool). cond b x (record x { frame = no_task.frame; flag = false })) e

pub same_lives : (n : Names) (x y : Task) → IsSameTask n x y → lives y ≡ lives x
same_lives n x y h = sym (part_is lives (λ z. refl) y) ∙ ap lives h ∙ part_is lives (λ z. refl) x

pub same_scope : (n : Names) (x y : Task) → IsSameTask n x y → y.scope ≡ option_map n.scopes x.scope
same_scope n x y h = sym (part_is (λ (z : Task). z.scope) (λ z. refl) y) ∙ ap (λ (z : Task). z.scope) h ∙ ap (λ (o : Option ℕ). option_map n.scopes o) (part_is (λ (z : Task). z.scope) (λ z. refl) x)

pub same_outcome : (n : Names) (x y : Task) → IsSameTask n x y → y.outcome ≡ x.outcome
same_outcome n x y h = sym (part_is (λ (z : Task). z.outcome) (λ z. refl) y) ∙ ap (λ (z : Task). z.outcome) h ∙ part_is (λ (z : Task). z.outcome) (λ z. refl) x

pub same_alive : (n : Names) (x y : Task) → IsSameTask n x y → lives x ≡ true → y ≡ named_task n x
same_alive n x y h e = sym (part_alive y (same_lives n x y h ∙ e)) ∙ h ∙ ap (named_task n) (part_alive x e)

-- a task that is made alike from one that is
pub same_made : (n : Names) (x : Task) → IsSameTask n x (named_task n x)
same_made n x = by (lives x)
  where
    by : (b : Bool) → cond b (named_task n x) (record (named_task n x) { frame = no_task.frame; flag = false }) ≡ named_task n (cond b x (record x { frame = no_task.frame; flag = false }))
    by true = refl
    by false = refl

-- ---- an element of two lists is changed, of the second one at its name

module _ {A : Type 0} (xs ys : List A) (name : ℕ → ℕ) (one : IsOneToOne name) (born : length ys ≡ length xs) (later : (u : ℕ) → length xs ≤ u → name u ≡ u) (none : A) (s : ℕ) (x y : A) where
  inside : ltb s (length xs) ≡ true → name s < length ys
  inside e = let h = name_below name one (length xs) later s (ltb-true s (length xs) e) in rw born h

  past : ltb s (length xs) ≡ false → length xs ≤ s
  past e = grind (arith, nat_tests)

  past_too : ltb s (length xs) ≡ false → length ys ≤ name s
  past_too e = let same = later s (past e) in let p = past e in omega (arith, same, p, born)

  set_both : (Same : A → A → Type 0) → Same x y → ((u : ℕ) → Same (get_or xs u none) (get_or ys (name u) none)) → (u : ℕ) → Same (get_or (set xs s x) u none) (get_or (set ys (name s) y) (name u) none)
  set_both Same h all u = by (ltb s (length xs)) refl (u == s) refl
    where
      by : (b : Bool) → ltb s (length xs) ≡ b → (c : Bool) → (u == s) ≡ c → Same (get_or (set xs s x) u none) (get_or (set ys (name s) y) (name u) none)
      by true e true same =
          rw (eqb-true u s same, get_or-set_same xs s x none (ltb-true s (length xs) e), get_or-set_same ys (name s) y none (inside e)) h
      by true e false other =
          rw (get_or-set_other xs s u x none (λ z. eqb-false u s other z), get_or-set_other ys (name s) (name u) y none (λ z. eqb-false u s other (one u s z))) (all u)
      by false e c same = rw (set_past xs s x (past e), set_past ys (name s) y (past_too e)) (all u)

  set_sums : (f g : A → ℕ) → sum_by g ys ≡ sum_by f xs → g (get_or ys (name s) none) ≡ f (get_or xs s none) → g y ≡ f x → sum_by g (set ys (name s) y) ≡ sum_by f (set xs s x)
  set_sums f g old here new = by (ltb s (length xs)) refl
    where
      by : (b : Bool) → ltb s (length xs) ≡ b → sum_by g (set ys (name s) y) ≡ sum_by f (set xs s x)
      by true e =
          let a = sum_by-set f xs s x none (ltb-true s (length xs) e) in
          let b = sum_by-set g ys (name s) y none (inside e) in
          omega (arith, a, b, old, here, new)
      by false e = rw (set_past xs s x (past e), set_past ys (name s) y (past_too e)) old

-- the names stay those of two states in which no fewer are born
named_on : (n : Names) (w v more also : World) → AreNamed n w v → length also.tasks ≡ length more.tasks → length also.scopes ≡ length more.scopes → length w.tasks ≤ length more.tasks → length w.scopes ≤ length more.scopes → AreNamed n more also
named_on n w v more also a tasks scopes no_fewer_tasks no_fewer_scopes =
    record {
      tasks_born = tasks;
      scopes_born = scopes;
      task_names = a.task_names;
      scope_names = a.scope_names;
      later_tasks = λ t past. a.later_tasks t (omega (arith, no_fewer_tasks, past));
      later_scopes = λ s past. a.later_scopes s (omega (arith, no_fewer_scopes, past));
      root = a.root;
    }

-- ---- a task of both is changed

pub alike_task : (n : Names) (w v : World) → IsAlike n w v → (t : ℕ) (x y : Task) → IsSameTask n x y → IsAlike n (with_task w t x) (with_task v (n.tasks t) y)
alike_task n w v a t x y h =
    record {
      named = (let l = length-set w.tasks t x in named_on n w v (with_task w t x) (with_task v (n.tasks t) y) a.named (length-set v.tasks (n.tasks t) y ∙ a.named.tasks_born ∙ sym l) a.named.scopes_born (omega (arith, l)) (omega arith));
      task = set_both w.tasks v.tasks n.tasks a.named.task_names a.named.tasks_born a.named.later_tasks no_task t x y (IsSameTask n) h a.task;
      scope = a.scope;
      task_sums = λ q. set_sums w.tasks v.tasks n.tasks a.named.task_names a.named.tasks_born a.named.later_tasks no_task t x y (λ z. q (named_task n (live_part z))) (λ z. q (live_part z)) (a.task_sums q) (ap q (a.task t)) (ap q h);
      scope_sums = a.scope_sums;
    }

-- the frame of a living task
pub alike_frame : (n : Names) (w v : World) → IsAlike n w v → (t : ℕ) (f g : Frame) → lives (task_at w t) ≡ true → g ≡ named_frame n f → IsAlike n (with_frame w t f) (with_frame v (n.tasks t) g)
alike_frame n w v a t f g alive same =
    let x = task_at w t in
    alike_task n w v a t (record x { frame = f }) (record (task_at v (n.tasks t)) { frame = g })
    (ap live_part (ap (λ (z : Task). record z { frame = g }) (same_alive n x (task_at v (n.tasks t)) (a.task t) alive) ∙ ap (λ (z : Frame). record (named_task n x) { frame = z }) same)
    ∙ same_made n (record x { frame = f }))

-- ---- a scope of both is changed

pub alike_scope : (n : Names) (w v : World) → IsAlike n w v → (s : ℕ) (x y : Scope) → IsSameScope n x y → IsAlike n (with_scope w s x) (with_scope v (n.scopes s) y)
alike_scope n w v a s x y h =
    record {
      named = (let l = length-set w.scopes s x in named_on n w v (with_scope w s x) (with_scope v (n.scopes s) y) a.named a.named.tasks_born (length-set v.scopes (n.scopes s) y ∙ a.named.scopes_born ∙ sym l) (omega arith) (omega (arith, l)));
      task = a.task;
      scope = set_both w.scopes v.scopes n.scopes a.named.scope_names a.named.scopes_born a.named.later_scopes no_scope s x y (IsSameScope n) h a.scope;
      task_sums = a.task_sums;
      scope_sums = λ q. set_sums w.scopes v.scopes n.scopes a.named.scope_names a.named.scopes_born a.named.later_scopes no_scope s x y (λ z. q (named_scope n (plain_part z))) (λ z. q (plain_part z)) (a.scope_sums q) (ap q (a.scope s)) (ap q h);
    }

-- ---- a task or a scope more

-- what a longer list reads
more : {X : Type 0} (Rel : X → X → Type 0) (f : ℕ → ℕ) (xs ys : List X) (x y d : X) → length ys ≡ length xs → IsOneToOne f → ((k : ℕ) → length xs ≤ k → f k ≡ k) → Rel d d → Rel x y
    → ((k : ℕ) → Rel (get_or xs k d) (get_or ys (f k) d)) → (k : ℕ) → Rel (get_or (xs ++ x ∷ []) k d) (get_or (ys ++ y ∷ []) (f k) d)
more {X} Rel f xs ys x y d born one later default new old k = by (ltb k (length xs)) refl (k == length xs) refl
  where
    by : (b : Bool) → ltb k (length xs) ≡ b → (c : Bool) → (k == length xs) ≡ c → Rel (get_or (xs ++ x ∷ []) k d) (get_or (ys ++ y ∷ []) (f k) d)
    by true e c same =
        let here = ltb-true k (length xs) e in
        let named = name_below f one (length xs) later k here in
        let there : f k < length ys = omega (arith, named, born) in
        rw (get_or_append_left xs (x ∷ []) d k here, get_or_append_left ys (y ∷ []) d (f k) there) (old k)
    by false e true same =
        let here = eqb-true k (length xs) same in
        let there : f k ≡ length ys = later k (omega (arith, here)) ∙ here ∙ sym born in
        rw (there, here, get_or-append_seam xs x [] d, get_or-append_seam ys y [] d) new
    by false e false other =
        let past : length xs ≤ k = grind (arith, nat_tests) in
        let after : length (xs ++ x ∷ []) ≤ k = let l = length-append xs (x ∷ []) in let u = eqb-false k (length xs) other in grind (arith, nat_tests) in
        let there : length (ys ++ y ∷ []) ≤ f k = let l = length-append ys (y ∷ []) in let m = length-append xs (x ∷ []) in let s = later k past in omega (arith, l, m, s, born, after) in
        rw (get_or_past (xs ++ x ∷ []) k d after, get_or_past (ys ++ y ∷ []) (f k) d there) default

pub alike_more_tasks : (n : Names) (w v : World) → IsAlike n w v → (x y : Task) → IsSameTask n x y → IsAlike n (record w { tasks = w.tasks ++ x ∷ [] }) (record v { tasks = v.tasks ++ y ∷ [] })
alike_more_tasks n w v a x y h = record {
  named = (let l = length-append w.tasks (x ∷ []) in named_on n w v (record w { tasks = w.tasks ++ x ∷ [] }) (record v { tasks = v.tasks ++ y ∷ [] }) a.named (length-append v.tasks (y ∷ []) ∙ ap (λ m. m + 1) a.named.tasks_born ∙ sym l) a.named.scopes_born (omega (arith, l)) (omega arith));
  task = λ t. more (IsSameTask n) n.tasks w.tasks v.tasks x y no_task a.named.tasks_born a.named.task_names a.named.later_tasks refl h a.task t;
  scope = a.scope;
  task_sums = λ q. sum_by_push (λ z. q (live_part z)) v.tasks y ∙ ap (λ m. m + q (live_part y)) (a.task_sums q) ∙ ap (λ z. sum_by (λ u. q (named_task n (live_part u))) w.tasks + q z) h ∙ sym (sum_by_push (λ z. q (named_task n (live_part z))) w.tasks x);
  scope_sums = a.scope_sums;
}

pub alike_more_scopes : (n : Names) (w v : World) → IsAlike n w v → (x y : Scope) → IsSameScope n x y → IsAlike n (record w { scopes = w.scopes ++ x ∷ [] }) (record v { scopes = v.scopes ++ y ∷ [] })
alike_more_scopes n w v a x y h = record {
  named = (let l = length-append w.scopes (x ∷ []) in named_on n w v (record w { scopes = w.scopes ++ x ∷ [] }) (record v { scopes = v.scopes ++ y ∷ [] }) a.named a.named.tasks_born (length-append v.scopes (y ∷ []) ∙ ap (λ m. m + 1) a.named.scopes_born ∙ sym l) (omega arith) (omega (arith, l)));
  task = a.task;
  scope = λ s. more (IsSameScope n) n.scopes w.scopes v.scopes x y no_scope a.named.scopes_born a.named.scope_names a.named.later_scopes (ap (λ m. plain_part (record no_scope { owner = m })) (sym a.named.root)) h a.scope s;
  task_sums = a.task_sums;
  scope_sums = λ q. sum_by_push (λ z. q (plain_part z)) v.scopes y ∙ ap (λ m. m + q (plain_part y)) (a.scope_sums q) ∙ ap (λ z. sum_by (λ u. q (named_scope n (plain_part u))) w.scopes + q z) h ∙ sym (sum_by_push (λ z. q (named_scope n (plain_part z))) w.scopes x);
}

-- ---- the flags of the living subtasks of a scope

raise_part : (s : ℕ) (x : Task) → live_part (raise s x) ≡ raise s (live_part x)
raise_part s x = by (is_subtask s x) (lives x) refl ∙ ap (λ (b : Bool). cond b (record (live_part x) { flag = true }) (live_part x)) (sym (part_is (is_living_subtask s) (λ z. refl) x))
  where
    by : (i c : Bool) → lives x ≡ c → live_part (cond (i && c) (record x { flag = true }) x) ≡ cond (i && c) (record (live_part x) { flag = true }) (live_part x)
    by true true e = rw e refl
    by true false e = refl
    by false c e = refl

raise_named : (n : Names) → IsOneToOne n.scopes → (s : ℕ) (x : Task) → raise (n.scopes s) (named_task n x) ≡ named_task n (raise s x)
raise_named n one s x = ap (λ (b : Bool). cond (b && lives x) (record (named_task n x) { flag = true }) (named_task n x)) (in_named n.scopes one s x.scope) ∙ by (is_in s x.scope && lives x)
  where
    by : (b : Bool) → cond b (record (named_task n x) { flag = true }) (named_task n x) ≡ named_task n (cond b (record x { flag = true }) x)
    by true = refl
    by false = refl

raise_same : (n : Names) → IsOneToOne n.scopes → (s : ℕ) (x y : Task) → IsSameTask n x y → IsSameTask n (raise s x) (raise (n.scopes s) y)
raise_same n one s x y h = raise_part (n.scopes s) y ∙ ap (raise (n.scopes s)) h ∙ raise_named n one s (live_part x) ∙ ap (named_task n) (sym (raise_part s x))

pub alike_raised : (n : Names) (w v : World) → IsAlike n w v → (s : ℕ) → IsAlike n (record w { tasks = raised s w.tasks }) (record v { tasks = raised (n.scopes s) v.tasks })
alike_raised n w v a s =
    record {
      named = (let l = map_length (raise s) w.tasks in named_on n w v (record w { tasks = raised s w.tasks }) (record v { tasks = raised (n.scopes s) v.tasks }) a.named (map_length (raise (n.scopes s)) v.tasks ∙ a.named.tasks_born ∙ sym l) a.named.scopes_born (omega (arith, l)) (omega arith));
      task = λ t. rw (get_or-map (raise s) w.tasks t no_task, get_or-map (raise (n.scopes s)) v.tasks (n.tasks t) no_task) (raise_same n a.named.scope_names s (task_at w t) (task_at v (n.tasks t)) (a.task t));
      scope = a.scope;
      task_sums = sums;
      scope_sums = a.scope_sums;
    }
  where
    sums : (q : Task → ℕ) → sum_by (λ x. q (live_part x)) (raised (n.scopes s) v.tasks) ≡ sum_by (λ x. q (named_task n (live_part x))) (raised s w.tasks)
    sums q =
        sum_map (λ x. q (live_part x)) (raise (n.scopes s)) v.tasks
        ∙ sum_same (λ x. q (live_part (raise (n.scopes s) x))) (λ x. q (raise (n.scopes s) (live_part x))) (λ x. ap q (raise_part (n.scopes s) x)) v.tasks
        ∙ a.task_sums (λ x. q (raise (n.scopes s) x))
        ∙ sum_same (λ x. q (raise (n.scopes s) (named_task n (live_part x)))) (λ x. q (named_task n (live_part (raise s x)))) (λ x. ap q (raise_named n a.named.scope_names s (live_part x) ∙ ap (named_task n) (sym (raise_part s x)))) w.tasks
        ∙ sym (sum_map (λ x. q (named_task n (live_part x))) (raise s) w.tasks)

-- ---- the cancel of a scope

pub alike_cond : (n : Names) (b : Bool) (w v x y : World) → IsAlike n w v → IsAlike n x y → IsAlike n (cond b w x) (cond b v y)
alike_cond n true w v x y h k = h
alike_cond n false w v x y h k = k

pub cancelled_same : (n : Names) (w v : World) → IsAlike n w v → (s : ℕ) → (scope_at v (n.scopes s)).cancelled ≡ (scope_at w s).cancelled
cancelled_same n w v a s = ap (λ (x : Scope). x.cancelled) (a.scope s)

alike_marked : (n : Names) (w v : World) → IsAlike n w v → (s : ℕ) → IsAlike n (marked w s) (marked v (n.scopes s))
alike_marked n w v a s =
    alike_scope n (record w { tasks = raised s w.tasks }) (record v { tasks = raised (n.scopes s) v.tasks }) (alike_raised n w v a s) s
    (record (scope_at w s) { cancelled = true }) (record (scope_at v (n.scopes s)) { cancelled = true })
    (ap (λ (x : Scope). record x { cancelled = true }) (a.scope s))

pub alike_cancel : (n : Names) (w v : World) → IsAlike n w v → (s : ℕ) → IsAlike n (cancel w s) (cancel v (n.scopes s))
alike_cancel n w v a s =
    subst (λ (b : Bool). IsAlike n (cancel w s) (cond b v (marked v (n.scopes s)))) (sym (cancelled_same n w v a s))
    (alike_cond n (scope_at w s).cancelled w v (marked w s) (marked v (n.scopes s)) a (alike_marked n w v a s))
