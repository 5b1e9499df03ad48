-- In each state the numbers that count and the room that is left add up to what the root was given.
-- This follows from who owns what.
use Rattle.std.proofs.Common.{◌≡◌, ℕ, zero, suc, ◌+◌, ◌-◌, ◌<◌, ◌≤◌, List, [], ◌∷◌, Bool, true, false, Option, Some, None, refl, sym, ◌∙◌, length, arith}
use Rattle.std.proofs.Common.{get_or, cond, not, ◌||◌, is_none}
use Rattle.std.specs.Prelude.{sum_by, filter_map, ◌==◌}
use Rattle.std.specs.List.{list_any}
use Rattle.std.proofs.lemmas.Bool.Decides.{nat_tests}
use Rattle.std.proofs.lemmas.List.Sums.{sum_by-cons}
use Rattle.std.proofs.lemmas.Bool.{false_from_ne_true}
use Rattle.sts_code.specs.Program.{Program}
use Rattle.sts_rules.specs.declared.budget.Budgets.{Budgets}
use Rattle.sts_model.specs.declared.record.Entry.{Entry}
use Rattle.sts_model.specs.declared.record.Entry.TheVariants as entry
use Rattle.sts_model.specs.declared.record.Task.{Task}
use Rattle.sts_model.specs.declared.record.Scope.{Scope}
use Rattle.sts_model.specs.World.{World, task_at, scope_at, no_task, no_scope}
use Rattle.sts_model.specs.Living.{lives, is_closed, is_subtask}
use Rattle.sts_model.specs.Misuse.{is_entry_of}
use Rattle.sts_model.specs.Environment.{bound_of}
use Rattle.sts_model.specs.Standing.{is_standing_scope, is_standing_task, standing_tasks, standing_scopes, standing_bindings}
use Rattle.laws_runs.proofs.SoundLemmas.{Sound}
use Rattle.laws_runs.proofs.BirthLemmas.{born_alive}
use Rattle.laws_runs.proofs.EntryLemmas.{Has, times_in}
use Rattle.laws_accepted.proofs.Points.{has-rest}
use Rattle.laws_runs.proofs.EnteredLemmas.{Entered, some_times, times_none}
use Rattle.laws_accepted.specs.Costs.{Peak, tasks_peak, scopes_peak, binds_peak, share, subtask_shares, entry_use, use_of, slack, room}
use Rattle.laws_accepted.proofs.Sums.{upto, upto-same, upto-none, upto-only, sum-same, sum-none, sum-only, sum-add, sum-upto, sum-times, sum-once, sum-places}
use Rattle.laws_accepted.proofs.Sums.{sum-cond}

-- ---- what is known of a state

-- the root is the first task and the only one that is in no scope
pub record Rooted (p : Program) (tasks : List Task) : Type 0 where
  pub some : 0 < length tasks
  pub root : (get_or tasks 0 no_task).scope ≡ None
  pub main : (get_or tasks 0 no_task).frame.function ≡ length p.routines - 1
  pub others : (u : ℕ) → u < length tasks → (get_or tasks u no_task).scope ≡ None → u ≡ 0

-- a task that doesn't live has no entries
abbrev pub Idle : World → Type 0
Idle w = (u : ℕ) → lives (task_at w u) ≡ false → (task_at w u).frame.entries ≡ []

-- no task uses more than it was given
abbrev pub Thrifty : Peak → List Budgets → World → Type 0
Thrifty k budgets w = (u : ℕ) → u < length w.tasks → use_of k budgets w.tasks (task_at w u) ≤ share k budgets (task_at w u)

-- a value for each scope of a structure list
abbrev pub gate : (ℕ → ℕ) → Entry → ℕ
gate g (entry.Scope s) = g s
gate g (entry.Binding key value) = 0

-- the same for one scope alone
abbrev at_scope : (ℕ → ℕ) → ℕ → Entry → ℕ
at_scope g s e = cond (is_entry_of s e) (g s) 0

-- and in the structure list of a task
abbrev in_task : (ℕ → ℕ) → ℕ → Task → ℕ
in_task g s x = sum_by (at_scope g s) x.frame.entries

gate_upto : (g : ℕ → ℕ) (n : ℕ) (e : Entry) → ((r : ℕ) → is_entry_of r e ≡ true → r < n) → gate g e ≡ upto (λ s. at_scope g s e) n
gate_upto g n (entry.Binding key value) born = sym (upto-none (λ s. at_scope g s (entry.Binding key value)) n (λ s less. refl))
gate_upto g n (entry.Scope r) born =
    let here : (r == r) ≡ true = grind (arith, nat_tests) in
    let only = upto-only (λ s. at_scope g s (entry.Scope r)) n r (born r here) (λ s less other. absent s other (r == s) refl) in
    let one : at_scope g r (entry.Scope r) ≡ g r = rw here refl in
    sym (only ∙ one)
  where
    absent : (s : ℕ) → (s ≡ r → ⊥) → (b : Bool) → (r == s) ≡ b → cond (r == s) (g s) 0 ≡ 0
    absent s other true h = let same : s ≡ r = grind (arith, nat_tests) in absurd (other same)
    absent s other false h = rw h refl

has_here : (x : Entry) (es : List Entry) (r : ℕ) → is_entry_of r x ≡ true → Has r (x ∷ es)
has_here x es r e = by (is_entry_of r x) e
  where
    by : (b : Bool) → b ≡ true → (b || list_any (is_entry_of r) es) ≡ true
    by true e = refl
    by false e = cc

gates_upto : (g : ℕ → ℕ) (n : ℕ) (es : List Entry) → ((r : ℕ) → Has r es → r < n) → sum_by (gate g) es ≡ upto (λ s. sum_by (at_scope g s) es) n
gates_upto g n [] born = sym (upto-none (λ s. 0) n (λ s less. refl))
gates_upto g n (x ∷ es) born =
    let a = gate_upto g n x (λ r e. born r (has_here x es r e)) in
    let b = gates_upto g n es (λ r h. born r (has-rest r x es h)) in
    let c = sum_by-cons (gate g) x es in
    let both : upto (λ s. sum_by (at_scope g s) (x ∷ es)) n ≡ upto (λ s. at_scope g s x) n + upto (λ s. sum_by (at_scope g s) es) n =
    upto-same _ _ n (λ s less. sum_by-cons (at_scope g s) x es) ∙ added (λ s. at_scope g s x) (λ s. sum_by (at_scope g s) es) n
    in
    omega (arith, a, b, c, both)
  where
    added : (f h : ℕ → ℕ) (m : ℕ) → upto (λ s. f s + h s) m ≡ upto f m + upto h m
    added f h zero = omega arith
    added f h (suc m) = let q = added f h m in omega (arith, q)

module _ (w : World) (o : Sound w) (e : Entered w) (idle : Idle w) where
  -- a task with an entry lives
  entered_lives : (u s : ℕ) → Has s (task_at w u).frame.entries → lives (task_at w u) ≡ true
  entered_lives u s has = by (lives (task_at w u)) refl
    where
      by : (b : Bool) → lives (task_at w u) ≡ b → b ≡ true
      by true h = refl
      by false h = let none : Has s [] = rw (idle u h) at has in cc

  -- a task without an entry of the scope
  absent_task : (g : ℕ → ℕ) (s u : ℕ) → (Has s (task_at w u).frame.entries → ⊥) → in_task g s (task_at w u) ≡ 0
  absent_task g s u never = sum-times (is_entry_of s) (g s) (task_at w u).frame.entries (times_none (task_at w u).frame.entries s (false_from_ne_true (list_any (is_entry_of s) (task_at w u).frame.entries) never))

  of_closed : (g : ℕ → ℕ) (s : ℕ) → is_closed (scope_at w s).phase ≡ true → sum_by (in_task g s) w.tasks ≡ 0
  of_closed g s h = sum-none (in_task g s) w.tasks no_task (λ u less. absent_task g s u (λ has. let still = (e.opens u s (entered_lives u s has) has).still in cc))

  of_open : (g : ℕ → ℕ) (s : ℕ) → s < length w.scopes → is_closed (scope_at w s).phase ≡ false → sum_by (in_task g s) w.tasks ≡ g s
  of_open g s born h =
      let t : ℕ = (scope_at w s).owner in
      let held = o.held s born h in
      let once = e.once t s in
      let some = some_times (task_at w t).frame.entries s held.entry in
      let one : times_in s (task_at w t).frame.entries ≡ 1 = omega (arith, once, some) in
      let here : in_task g s (task_at w t) ≡ g s = sum-once (is_entry_of s) (g s) (task_at w t).frame.entries one in
      let alone : sum_by (in_task g s) w.tasks ≡ in_task g s (task_at w t) = sum-only (in_task g s) w.tasks t no_task (born_alive w t held.alive) (λ u less other. absent_task g s u (λ has. other (sym (e.opens u s (entered_lives u s has) has).owner.owner))) in
      alone ∙ here

  -- the entries of a scope, in all structure lists
  of_scope : (g : ℕ → ℕ) (s : ℕ) → s < length w.scopes → sum_by (in_task g s) w.tasks ≡ cond (is_standing_scope (scope_at w s)) (g s) 0
  of_scope g s born = by (is_closed (scope_at w s).phase) refl
    where
      by : (b : Bool) → is_closed (scope_at w s).phase ≡ b → sum_by (in_task g s) w.tasks ≡ cond (not (is_closed (scope_at w s).phase)) (g s) 0
      by true h = let z : cond (not (is_closed (scope_at w s).phase)) (g s) 0 ≡ 0 = rw h refl in of_closed g s h ∙ sym z
      by false h = let z : cond (not (is_closed (scope_at w s).phase)) (g s) 0 ≡ g s = rw h refl in of_open g s born h ∙ sym z

  -- each scope that isn't closed is an entry of one task
  pub over_entries : (g : ℕ → ℕ) → sum_by (λ (x : Task). sum_by (gate g) x.frame.entries) w.tasks ≡ upto (λ s. cond (is_standing_scope (scope_at w s)) (g s) 0) (length w.scopes)
  over_entries g =
      sum-same (λ (x : Task). sum_by (gate g) x.frame.entries) (λ (x : Task). upto (λ s. sum_by (at_scope g s) x.frame.entries) (length w.scopes)) w.tasks no_task
      (λ u less. gates_upto g (length w.scopes) (task_at w u).frame.entries (λ r has. (e.opens u r (entered_lives u r has) has).owner.born))
      ∙ sum-upto (λ (x : Task) s. in_task g s x) (length w.scopes) w.tasks
      ∙ upto-same _ _ (length w.scopes) (λ s less. of_scope g s less)

  -- ---- tasks

  -- a task's value, by the scope that it is in
  by_scope : (f : Task → ℕ) (u : ℕ) → (q : Option ℕ) → (task_at w u).scope ≡ q → cond (is_standing_task w (task_at w u)) (f (task_at w u)) 0 ≡ cond (is_none (task_at w u).scope) (f (task_at w u)) 0 + upto (λ s. cond (is_standing_scope (scope_at w s)) (cond (is_subtask s (task_at w u)) (f (task_at w u)) 0) 0) (length w.scopes)
  by_scope f u None q =
      let none = upto-none (λ s. cond (is_standing_scope (scope_at w s)) (cond (is_subtask s (task_at w u)) (f (task_at w u)) 0) 0) (length w.scopes) (λ s less. outside s (is_standing_scope (scope_at w s))) in
      let a : cond (is_standing_task w (task_at w u)) (f (task_at w u)) 0 ≡ f (task_at w u) = rw q refl in
      let b : cond (is_none (task_at w u).scope) (f (task_at w u)) 0 ≡ f (task_at w u) = rw q refl in
      omega (arith, none, a, b)
    where
      outside : (s : ℕ) (b : Bool) → cond b (cond (is_subtask s (task_at w u)) (f (task_at w u)) 0) 0 ≡ 0
      outside s true = rw q refl
      outside s false = refl
  by_scope f u (Some r) q =
      let only = upto-only (λ s. cond (is_standing_scope (scope_at w s)) (cond (is_subtask s (task_at w u)) (f (task_at w u)) 0) 0) (length w.scopes) r (o.born u r q).0 (λ s less other. outside s other (r == s) refl (is_standing_scope (scope_at w s))) in
      let here : (r == r) ≡ true = grind (arith, nat_tests) in
      let in_r : is_subtask r (task_at w u) ≡ true = rw q here in
      let one : cond (is_standing_scope (scope_at w r)) (cond (is_subtask r (task_at w u)) (f (task_at w u)) 0) 0 ≡ cond (is_standing_scope (scope_at w r)) (f (task_at w u)) 0 = rw in_r refl in
      let a : cond (is_standing_task w (task_at w u)) (f (task_at w u)) 0 ≡ cond (is_standing_scope (scope_at w r)) (f (task_at w u)) 0 = rw q refl in
      let b : cond (is_none (task_at w u).scope) (f (task_at w u)) 0 ≡ 0 = rw q refl in
      omega (arith, only, one, a, b)
    where
      outside : (s : ℕ) → (s ≡ r → ⊥) → (c : Bool) → (r == s) ≡ c → (b : Bool) → cond b (cond (is_subtask s (task_at w u)) (f (task_at w u)) 0) 0 ≡ 0
      outside s other true h b = let same : s ≡ r = grind (arith, nat_tests) in absurd (other same)
      outside s other false h true = let out : is_subtask s (task_at w u) ≡ false = rw q h in rw out refl
      outside s other false h false = refl

  -- the tasks that count are the root and the subtasks of open scopes
  pub over_tasks : (p : Program) (f : Task → ℕ) → Rooted p w.tasks → sum_by (λ (x : Task). cond (is_standing_task w x) (f x) 0) w.tasks ≡ f (task_at w 0) + upto (λ s. cond (is_standing_scope (scope_at w s)) (sum_by (λ (x : Task). cond (is_subtask s x) (f x) 0) w.tasks) 0) (length w.scopes)
  over_tasks p f r =
      let n : ℕ = length w.scopes in
      let a : sum_by (λ (x : Task). cond (is_standing_task w x) (f x) 0) w.tasks ≡ sum_by (λ (x : Task). cond (is_none x.scope) (f x) 0 + upto (λ s. cond (is_standing_scope (scope_at w s)) (cond (is_subtask s x) (f x) 0) 0) n) w.tasks =
      sum-same _ _ w.tasks no_task (λ u less. by_scope f u (task_at w u).scope refl) in
      let b = sum-add (λ (x : Task). cond (is_none x.scope) (f x) 0) (λ (x : Task). upto (λ s. cond (is_standing_scope (scope_at w s)) (cond (is_subtask s x) (f x) 0) 0) n) w.tasks in
      let c : sum_by (λ (x : Task). cond (is_none x.scope) (f x) 0) w.tasks ≡ cond (is_none (task_at w 0).scope) (f (task_at w 0)) 0 =
      sum-only (λ (x : Task). cond (is_none x.scope) (f x) 0) w.tasks 0 no_task r.some (λ u less other. alone u less other (task_at w u).scope refl) in
      let d : cond (is_none (task_at w 0).scope) (f (task_at w 0)) 0 ≡ f (task_at w 0) = rw r.root refl in
      let g = sum-upto (λ (x : Task) s. cond (is_standing_scope (scope_at w s)) (cond (is_subtask s x) (f x) 0) 0) n w.tasks in
      let h : upto (λ s. sum_by (λ (x : Task). cond (is_standing_scope (scope_at w s)) (cond (is_subtask s x) (f x) 0) 0) w.tasks) n ≡ upto (λ s. cond (is_standing_scope (scope_at w s)) (sum_by (λ (x : Task). cond (is_subtask s x) (f x) 0) w.tasks) 0) n =
      upto-same _ _ n (λ s less. sum-cond (is_standing_scope (scope_at w s)) (λ (x : Task). cond (is_subtask s x) (f x) 0) w.tasks) in
      omega (arith, a, b, c, d, g, h)
    where
      alone : (u : ℕ) → u < length w.tasks → (u ≡ 0 → ⊥) → (q : Option ℕ) → (task_at w u).scope ≡ q → cond (is_none (task_at w u).scope) (f (task_at w u)) 0 ≡ 0
      alone u less other None q = absurd (other (r.others u less q))
      alone u less other (Some s) q = rw q refl

-- ---- the balance

-- what an entry counts itself
abbrev pub flat : Peak → Entry → ℕ
flat k (entry.Scope s) = k.scope
flat k (entry.Binding key value) = k.binding

entry_parts : (k : Peak) (budgets : List Budgets) (tasks : List Task) (e : Entry) → entry_use k budgets tasks e ≡ flat k e + gate (subtask_shares k budgets tasks) e
entry_parts k budgets tasks (entry.Scope s) = refl
entry_parts k budgets tasks (entry.Binding key value) = omega arith

entries_parts : (k : Peak) (budgets : List Budgets) (tasks : List Task) (es : List Entry) → sum_by (entry_use k budgets tasks) es ≡ sum_by (flat k) es + sum_by (gate (subtask_shares k budgets tasks)) es
entries_parts k budgets tasks [] = refl
entries_parts k budgets tasks (x ∷ es) =
    let a = entry_parts k budgets tasks x in
    let b = entries_parts k budgets tasks es in
    let c = sum_by-cons (entry_use k budgets tasks) x es in
    let d = sum_by-cons (flat k) x es in
    let e = sum_by-cons (gate (subtask_shares k budgets tasks)) x es in
    omega (arith, a, b, c, d, e)

module _ (p : Program) (k : Peak) (budgets : List Budgets) (w : World) (o : Sound w) (e : Entered w) (idle : Idle w) (thrifty : Thrifty k budgets w) (rooted : Rooted p w.tasks) where
  -- a task that doesn't count doesn't live
  pub not_standing : (u : ℕ) → is_standing_task w (task_at w u) ≡ false → lives (task_at w u) ≡ false
  not_standing u h = by (task_at w u).scope refl
    where
      by : (q : Option ℕ) → (task_at w u).scope ≡ q → lives (task_at w u) ≡ false
      by None q = let n : is_standing_task w (task_at w u) ≡ true = rw q refl in cc
      by (Some s) q = let n : is_standing_scope (scope_at w s) ≡ false = rw q at h in o.empty s u (closed (is_closed (scope_at w s).phase) n) q
        where
          closed : (b : Bool) → not b ≡ false → b ≡ true
          closed true n = refl
          closed false n = cc

  -- the share of a task that counts is the sum of its use and its slack
  of_task : (u : ℕ) → u < length w.tasks → cond (is_standing_task w (task_at w u)) (share k budgets (task_at w u)) 0 ≡ cond (is_standing_task w (task_at w u)) k.task 0 + sum_by (entry_use k budgets w.tasks) (task_at w u).frame.entries + slack k budgets w (task_at w u)
  of_task u less = by (is_standing_task w (task_at w u)) refl
    where
      by : (b : Bool) → is_standing_task w (task_at w u) ≡ b → cond b (share k budgets (task_at w u)) 0 ≡ cond b k.task 0 + sum_by (entry_use k budgets w.tasks) (task_at w u).frame.entries + cond b (share k budgets (task_at w u) - use_of k budgets w.tasks (task_at w u)) 0
      by true h = let t = thrifty u less in omega (arith, t)
      by false h = let none = idle u (not_standing u h) in rw none refl

  pub balance : share k budgets (task_at w 0) ≡ sum_by (λ (x : Task). cond (is_standing_task w x) k.task 0) w.tasks + sum_by (λ (x : Task). sum_by (flat k) x.frame.entries) w.tasks + room k budgets w
  balance =
      let a = over_tasks w o e idle p (share k budgets) rooted in
      let b = over_entries w o e idle (subtask_shares k budgets w.tasks) in
      let c = sum-same (λ (x : Task). cond (is_standing_task w x) (share k budgets x) 0) (λ (x : Task). cond (is_standing_task w x) k.task 0 + sum_by (entry_use k budgets w.tasks) x.frame.entries + slack k budgets w x) w.tasks no_task of_task in
      let d = sum-add (λ (x : Task). cond (is_standing_task w x) k.task 0 + sum_by (entry_use k budgets w.tasks) x.frame.entries) (slack k budgets w) w.tasks in
      let f = sum-add (λ (x : Task). cond (is_standing_task w x) k.task 0) (λ (x : Task). sum_by (entry_use k budgets w.tasks) x.frame.entries) w.tasks in
      let g = sum-same (λ (x : Task). sum_by (entry_use k budgets w.tasks) x.frame.entries) (λ (x : Task). sum_by (flat k) x.frame.entries + sum_by (gate (subtask_shares k budgets w.tasks)) x.frame.entries) w.tasks no_task (λ u less. entries_parts k budgets w.tasks (task_at w u).frame.entries) in
      let h = sum-add (λ (x : Task). sum_by (flat k) x.frame.entries) (λ (x : Task). sum_by (gate (subtask_shares k budgets w.tasks)) x.frame.entries) w.tasks in
      omega (arith, a, b, c, d, f, g, h)

-- ---- the three kinds

no_flat : (es : List Entry) → sum_by (flat tasks_peak) es ≡ 0
no_flat [] = refl
no_flat (entry.Scope s ∷ es) = let a = sum_by-cons (flat tasks_peak) (entry.Scope s) es in let b = no_flat es in omega (arith, a, b)
no_flat (entry.Binding key value ∷ es) = let a = sum_by-cons (flat tasks_peak) (entry.Binding key value) es in let b = no_flat es in omega (arith, a, b)

flat_scopes : (es : List Entry) → sum_by (flat scopes_peak) es ≡ sum_by (gate (λ s. 1)) es
flat_scopes [] = refl
flat_scopes (entry.Scope s ∷ es) = let a = sum_by-cons (flat scopes_peak) (entry.Scope s) es in let c = sum_by-cons (gate (λ s. 1)) (entry.Scope s) es in let b = flat_scopes es in omega (arith, a, b, c)
flat_scopes (entry.Binding key value ∷ es) = let a = sum_by-cons (flat scopes_peak) (entry.Binding key value) es in let c = sum_by-cons (gate (λ s. 1)) (entry.Binding key value) es in let b = flat_scopes es in omega (arith, a, b, c)

flat_binds : (es : List Entry) → sum_by (flat binds_peak) es ≡ length (filter_map bound_of es)
flat_binds [] = refl
flat_binds (entry.Scope s ∷ es) = let a = sum_by-cons (flat binds_peak) (entry.Scope s) es in let b = flat_binds es in omega (arith, a, b)
flat_binds (entry.Binding key value ∷ es) = let a = sum_by-cons (flat binds_peak) (entry.Binding key value) es in let b = flat_binds es in omega (arith, a, b)

zero_cond : (b : Bool) → cond {A = ℕ} b 0 0 ≡ 0
zero_cond true = refl
zero_cond false = refl

-- the numbers that count and the room add up to the root's budget
pub balance_tasks : (p : Program) (budgets : List Budgets) (w : World) → Sound w → Entered w → Idle w → Thrifty tasks_peak budgets w → Rooted p w.tasks → standing_tasks w + room tasks_peak budgets w ≡ share tasks_peak budgets (task_at w 0)
balance_tasks p budgets w o e idle thrifty rooted =
    let a = balance p tasks_peak budgets w o e idle thrifty rooted in
    let b = sum-none (λ (x : Task). sum_by (flat tasks_peak) x.frame.entries) w.tasks no_task (λ u less. no_flat (task_at w u).frame.entries) in
    let c : standing_tasks w ≡ sum_by (λ (x : Task). cond (is_standing_task w x) 1 0) w.tasks = refl in
    omega (arith, a, b, c)

pub balance_scopes : (p : Program) (budgets : List Budgets) (w : World) → Sound w → Entered w → Idle w → Thrifty scopes_peak budgets w → Rooted p w.tasks → standing_scopes w + room scopes_peak budgets w ≡ share scopes_peak budgets (task_at w 0)
balance_scopes p budgets w o e idle thrifty rooted =
    let a = balance p scopes_peak budgets w o e idle thrifty rooted in
    let b = sum-none (λ (x : Task). cond (is_standing_task w x) 0 0) w.tasks no_task (λ u less. zero_cond (is_standing_task w (task_at w u))) in
    let c = sum-same (λ (x : Task). sum_by (flat scopes_peak) x.frame.entries) (λ (x : Task). sum_by (gate (λ s. 1)) x.frame.entries) w.tasks no_task (λ u less. flat_scopes (task_at w u).frame.entries) in
    let d = over_entries w o e idle (λ s. 1) in
    let f : standing_scopes w ≡ upto (λ s. cond (is_standing_scope (scope_at w s)) 1 0) (length w.scopes) = sum-places (λ (x : Scope). cond (is_standing_scope x) 1 0) w.scopes no_scope in
    omega (arith, a, b, c, d, f)

pub balance_binds : (p : Program) (budgets : List Budgets) (w : World) → Sound w → Entered w → Idle w → Thrifty binds_peak budgets w → Rooted p w.tasks → standing_bindings w + room binds_peak budgets w ≡ share binds_peak budgets (task_at w 0)
balance_binds p budgets w o e idle thrifty rooted =
    let a = balance p binds_peak budgets w o e idle thrifty rooted in
    let b = sum-none (λ (x : Task). cond (is_standing_task w x) 0 0) w.tasks no_task (λ u less. zero_cond (is_standing_task w (task_at w u))) in
    let c : sum_by (λ (x : Task). sum_by (flat binds_peak) x.frame.entries) w.tasks ≡ standing_bindings w = sum-same (λ (x : Task). sum_by (flat binds_peak) x.frame.entries) (λ (x : Task). length (filter_map bound_of x.frame.entries)) w.tasks no_task (λ u less. flat_binds (task_at w u).frame.entries) in
    omega (arith, a, b, c)
