-- The effect of `open`, `fork` and `close` on structure lists.
use Rattle.std.proofs.Common.{◌≡◌, ℕ, ◌+◌, ◌<◌, ◌≤◌, List, [], ◌∷◌, ◌++◌, Bool, true, false, Option, refl, sym, ◌∙◌, ap, length, arith, get_or, set, cond, drop}
use Rattle.std.proofs.Common.{◌||◌, not, length-set, get_or-set_other}
use Rattle.std.specs.Prelude.{◌==◌}
use Rattle.std.specs.List.{list_any}
use Rattle.std.proofs.lemmas.Bool.{cond_both, not-false}
use Rattle.std.proofs.lemmas.Bool.Decides.{nat_tests}
use Rattle.std.proofs.lemmas.List.{get_or_append_left}
use Rattle.std.proofs.Math.Seq.{get_or-append_seam}
use Rattle.sts_code.specs.Program.{Program, routine}
use Rattle.sts_code.specs.declared.instr.Joiner.{Joiner}
use Rattle.sts_model.specs.declared.event.Phase.TheVariants.{Closing, Closed}
use Rattle.sts_model.specs.declared.record.Entry.{Entry}
use Rattle.sts_model.specs.declared.record.Entry.TheVariants as entry
use Rattle.sts_model.specs.declared.record.Frame.{Frame}
use Rattle.sts_model.specs.declared.record.Task.{Task}
use Rattle.sts_model.specs.declared.record.Scope.{Scope}
use Rattle.sts_model.specs.World.{World, task_at, scope_at, no_task, no_scope}
use Rattle.sts_model.specs.Local.{steps}
use Rattle.sts_model.specs.Living.{lives, any_lives, is_closed}
use Rattle.sts_model.specs.Cancelling.{cancel}
use Rattle.sts_model.specs.Misuse.{is_entry_of, innermost}
use Rattle.sts_model.specs.Effect.{with_phase, closed, close_scope, cleared, open_scope, fork_task, subtask_of, forked}
use Rattle.sts_model.proofs.LivesLemmas.{cancel_alive}
use Rattle.laws_runs.proofs.ListLemmas.{at_set, at_put, at_more}
use Rattle.laws_runs.proofs.KeptLemmas.{Kept, kept-cancel}
use Rattle.laws_runs.proofs.EffectLemmas.{frame-cancel}
use Rattle.laws_runs.proofs.SoundLemmas.{Owner, alive_before}
use Rattle.laws_runs.proofs.BirthLemmas.{more_tasks, new_scope, opener, still-forker, born_alive, owner-more, owner-new}
use Rattle.laws_runs.proofs.EntryLemmas.{Has, times_in, Enters, enters-task, enters-cancel, drops-same, any-drop, times-drop, times-cons}

-- a scope that was born, of this owner, and isn't closed
pub record IsOpen (scopes : List Scope) (s t : ℕ) : Type 0 where
  pub owner : Owner scopes s t
  pub still : is_closed (get_or scopes s no_scope).phase ≡ false

pub record Entered (w : World) : Type 0 where
  pub opens : (t s : ℕ) → lives (task_at w t) ≡ true → Has s (task_at w t).frame.entries → IsOpen w.scopes s t
  pub once : (t s : ℕ) → times_in s (task_at w t).frame.entries ≤ 1

pub entered-enters : (w v : World) → Entered w → Kept w v → Enters w v → Entered v
entered-enters w v o k e =
    record {
      opens = λ t s alive has.
          let h = o.opens t s (alive_before w v t k alive) (e.entry t s has) in
          record { owner = record { born = rw (k.scopes) h.owner.born; owner = (k.scope s).same.owner ∙ h.owner.owner }; still = by s h.still (is_closed (scope_at v s).phase) refl };
      once = λ t s. let a = e.once t s in let b = o.once t s in omega (arith, a, b);
    }
  where
    by : (s : ℕ) → is_closed (scope_at w s).phase ≡ false → (b : Bool) → is_closed (scope_at v s).phase ≡ b → b ≡ false
    by s still false h = refl
    by s still true h = let c = e.closes s h in cc

-- ---- close

one_if : (b : Bool) → b ≡ true → cond {A = ℕ} b 1 0 ≡ 1
one_if true e = refl
one_if false e = cc

none_if : (b : Bool) → b ≡ false → cond {A = ℕ} b 1 0 ≡ 0
none_if true e = cc
none_if false e = refl

-- what is in a list is counted there
pub some_times : (es : List Entry) (s : ℕ) → Has s es → 0 < times_in s es
some_times [] s has = cc
some_times (x ∷ es) s has = by (is_entry_of s x) refl has (times-cons x es s) (some_times es s)
  where
    by : (b : Bool) → is_entry_of s x ≡ b → (b || list_any (is_entry_of s) es) ≡ true → times_in s (x ∷ es) ≡ cond (is_entry_of s x) 1 0 + times_in s es → (Has s es → 0 < times_in s es) → 0 < times_in s (x ∷ es)
    by true h has e next = let c = one_if (is_entry_of s x) h in omega (arith, e, c)
    by false h has e next = let n = next has in omega (arith, e, n)

-- what isn't in a list is counted nowhere
pub times_none : (es : List Entry) (s : ℕ) → list_any (is_entry_of s) es ≡ false → times_in s es ≡ 0
times_none [] s e = refl
times_none (x ∷ es) s e = by (is_entry_of s x) refl e (times-cons x es s) (times_none es s)
  where
    by : (b : Bool) → is_entry_of s x ≡ b → (b || list_any (is_entry_of s) es) ≡ false → times_in s (x ∷ es) ≡ cond (is_entry_of s x) 1 0 + times_in s es → (list_any (is_entry_of s) es ≡ false → times_in s es ≡ 0) → times_in s (x ∷ es) ≡ 0
    by true h e k next = cc
    by false h e k next = let c = none_if (is_entry_of s x) h in let n = next e in omega (arith, k, c, n)

-- a scope that occurs once in a list, at its front, isn't in the rest
not_again : (es : List Entry) (s : ℕ) → times_in s es ≤ 1 → not (innermost (is_entry_of s) es) ≡ false → Has s (drop 1 es) → ⊥
not_again [] s once first has = cc
not_again (entry.Binding k x ∷ es) s once first has = cc
not_again (entry.Scope r ∷ es) s once first has =
    let one : (r == s) ≡ true = not-false (r == s) first in
    let more = some_times es s has in
    let e = times-cons (entry.Scope r) es s in
    let c = one_if (r == s) one in
    omega (arith, once, more, e, c)

-- the scope s is closed, and its owner's innermost entry, that of s, leaves
entered-closed : (w v : World) (t s : ℕ) (f : Frame) → Entered v → Owner v.scopes s t → lives (task_at v t) ≡ true → (task_at v t).frame ≡ f → not (innermost (is_entry_of s) f.entries) ≡ false → Entered (closed v t f s)
entered-closed w v t s f o mine alive same first =
    record {
      opens = λ u r.
          at_put (λ (task : Task). lives task ≡ true → Has r task.frame.entries → IsOpen scopes r u) v.tasks t u task no_task (born_alive v t alive)
          (λ e lives_too has.
          let in_f : Has r f.entries = any-drop f.entries r has in
          let open_t : IsOpen v.scopes r t = o.opens t r alive (rw same in_f) in
          rw e (closed-other r t open_t (λ d. not_again f.entries s (rw (← same) (o.once t s)) first (rw d at has))))
          (λ other lives_too has.
          let open_u : IsOpen v.scopes r u = o.opens u r lives_too has in
          closed-other r u open_u (λ d. other (sym open_u.owner.owner ∙ ap (λ n. (get_or v.scopes n no_scope).owner) d ∙ mine.owner)));
      once = λ u r.
          at_set (λ (task : Task). times_in r task.frame.entries ≤ 1) v.tasks t u task no_task
          (λ e. let a = times-drop f.entries r in let b : times_in r f.entries ≤ 1 = rw (← same) (o.once t r) in omega (arith, a, b))
          (o.once u r);
    }
  where
    task : Task
    task = record (task_at v t) { frame = record (steps f 0 []) { entries = drop 1 f.entries; slots = cleared v s f.slots } }

    scopes : List Scope
    scopes = set v.scopes s (record (scope_at v s) { phase = Closed })

    closed-other : (r u : ℕ) → IsOpen v.scopes r u → (r ≡ s → ⊥) → IsOpen (set v.scopes s (record (scope_at v s) { phase = Closed })) r u
    closed-other r u h other =
        let at = get_or-set_other v.scopes s r (record (scope_at v s) { phase = Closed }) no_scope other in
        record { owner = record { born = rw (length-set v.scopes s (record (scope_at v s) { phase = Closed })) h.owner.born; owner = rw at h.owner.owner }; still = rw at h.still }

-- another phase of a scope that isn't closed
entered-closing : (w : World) (s : ℕ) → Entered w → Entered (with_phase w s Closing)
entered-closing w s o =
    record {
      opens = λ u r alive has.
          let h = o.opens u r alive has in
          record {
            owner = record { born = rw (length-set w.scopes s (record (scope_at w s) { phase = Closing })) h.owner.born; owner = at_set (λ (scope : Scope). scope.owner ≡ u) w.scopes s r (record (scope_at w s) { phase = Closing }) no_scope (λ e. rw e at h.owner.owner) h.owner.owner };
            still = at_set (λ (scope : Scope). is_closed scope.phase ≡ false) w.scopes s r (record (scope_at w s) { phase = Closing }) no_scope (λ e. refl) h.still;
          };
      once = o.once;
    }

pub entered-close : (w : World) (t s : ℕ) → Entered w → Owner w.scopes s t → lives (task_at w t) ≡ true → not (innermost (is_entry_of s) (task_at w t).frame.entries) ≡ false → Entered (close_scope w t (task_at w t).frame s)
unfolding close_scope
entered-close w t s o mine alive first =
    let v : World = cancel w s in
    let k = kept-cancel w s in
    let o_v : Entered v = entered-enters w v o k (enters-cancel w s) in
    let scopes = k.scopes in
    let mine_v : Owner v.scopes s t = record { born = rw scopes mine.born; owner = (k.scope s).same.owner ∙ mine.owner } in
    cond_both (any_lives v s) _ _ (λ (x : World). Entered x)
    (λ e. entered-closing v s o_v)
    (λ e. entered-closed w v t s (task_at w t).frame o_v mine_v (cancel_alive w s t ∙ alive) (frame-cancel w s t) first)

-- ---- open

grown : (w : World) (x : Scope) (s t : ℕ) → IsOpen w.scopes s t → IsOpen (w.scopes ++ x ∷ []) s t
grown w x s t h = record { owner = owner-more w.scopes x s t h.owner; still = rw (get_or_append_left w.scopes (x ∷ []) no_scope s h.owner.born) h.still }

-- the new scope, or one that was entered before
entered_or : (w : World) (x : Scope) (s t : ℕ) (es : List Entry) (b : Bool) → (length w.scopes == s) ≡ b → x.owner ≡ t → is_closed x.phase ≡ false → (Has s es → IsOpen w.scopes s t) → (b || list_any (is_entry_of s) es) ≡ true → IsOpen (w.scopes ++ x ∷ []) s t
entered_or w x s t es true e owner still old has =
    let same : length w.scopes ≡ s = grind (arith, nat_tests) in
    let new = owner-new w.scopes x in
    rw (← same) (record { owner = record { born = new.born; owner = new.owner ∙ owner }; still = rw (get_or-append_seam w.scopes x [] no_scope) still })
entered_or w x s t es false e owner still old has = grown w x s t (old has)

-- the new scope occurs nowhere else
once_more : (w : World) (t s : ℕ) (es : List Entry) → (Has s es → IsOpen w.scopes s t) → times_in s es ≤ 1 → (b : Bool) → (length w.scopes == s) ≡ b → times_in s (entry.Scope (length w.scopes) ∷ es) ≡ cond (length w.scopes == s) 1 0 + times_in s es → times_in s (entry.Scope (length w.scopes) ∷ es) ≤ 1
once_more w t s es old once false e k = let c = none_if (length w.scopes == s) e in omega (arith, k, c, once)
once_more w t s es old once true e k =
    let same : length w.scopes ≡ s = grind (arith, nat_tests) in
    let none = times_none es s (unborn same (list_any (is_entry_of s) es) refl) in
    let c = one_if (length w.scopes == s) e in
    omega (arith, k, c, none)
  where
    unborn : length w.scopes ≡ s → (b : Bool) → list_any (is_entry_of s) es ≡ b → b ≡ false
    unborn same false h = refl
    unborn same true h = let born = (old h).owner.born in absurd (omega (arith, born, same))

pub entered-open : (w : World) (t x : ℕ) (joiner : Joiner) (timed : Bool) → Entered w → lives (task_at w t) ≡ true → Entered (open_scope w t (task_at w t).frame x joiner timed)
unfolding open_scope
entered-open w t x joiner timed o alive =
    record {
      opens = λ u s.
          at_set (λ (y : Task). lives y ≡ true → Has s y.frame.entries → IsOpen (w.scopes ++ new_scope w t joiner timed ∷ []) s u) w.tasks t u task no_task
          (λ e lives_too has. entered_or w (new_scope w t joiner timed) s u (task_at w t).frame.entries (length w.scopes == s) refl (sym e) refl (λ h. rw e (o.opens t s alive h)) has)
          (λ lives_too has. grown w (new_scope w t joiner timed) s u (o.opens u s lives_too has));
      once = λ u s.
          at_set (λ (y : Task). times_in s y.frame.entries ≤ 1) w.tasks t u task no_task
          (λ e. once_more w t s (task_at w t).frame.entries (o.opens t s alive) (o.once t s) (length w.scopes == s) refl (times-cons (entry.Scope (length w.scopes)) (task_at w t).frame.entries s))
          (o.once u s);
    }
  where
    task : Task
    task = record (task_at w t) { frame = opener w (task_at w t).frame x }

-- ---- fork

entered-more_tasks : (w : World) (x : Task) → x.frame.entries ≡ [] → Entered w → Entered (more_tasks w x)
entered-more_tasks w x none o =
    record {
      opens = λ u s.
          at_more (λ (task : Task). lives task ≡ true → Has s task.frame.entries → IsOpen w.scopes s u) w.tasks x u no_task
          (λ e alive has. let h : Has s [] = rw none at has in cc)
          (o.opens u s);
      once = λ u s. at_more (λ (task : Task). times_in s task.frame.entries ≤ 1) w.tasks x u no_task (λ e. rw none (omega arith)) (o.once u s);
    }

enters-forker : (p : Program) (w : World) (t s g : ℕ) (h : Option ℕ) → lives (task_at w t) ≡ true → Enters (more_tasks w (subtask_of p w (task_at w t).frame s g)) (fork_task p w t (task_at w t).frame s g h)
unfolding fork_task
enters-forker p w t s g h alive =
    let x : Task = subtask_of p w (task_at w t).frame s g in
    let f : Frame = forked (task_at w t).frame (routine p g).args h (length w.tasks) in
    let same : task_at (more_tasks w x) t ≡ task_at w t = get_or_append_left w.tasks (x ∷ []) no_task t (born_alive w t alive) in
    enters-task (more_tasks w x) t (record (task_at (more_tasks w x) t) { frame = f }) (rw same (drops-same (task_at w t).frame f refl))

pub entered-fork : (p : Program) (w : World) (t s g : ℕ) (h : Option ℕ) → Entered w → lives (task_at w t) ≡ true → Entered (fork_task p w t (task_at w t).frame s g h)
entered-fork p w t s g h o alive =
    let x : Task = subtask_of p w (task_at w t).frame s g in
    entered-enters (more_tasks w x) (fork_task p w t (task_at w t).frame s g h) (entered-more_tasks w x refl o) (still-forker p w t s g h alive).kept (enters-forker p w t s g h alive)
