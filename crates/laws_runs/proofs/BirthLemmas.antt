-- The facts that `open` and `fork` keep: one scope more, one task more.
use Rattle.std.proofs.Common.{◌≡◌, ◌≢◌, ℕ, zero, suc, ◌<◌, List, [], ◌∷◌, ◌++◌, Bool, true, false, Option, Some, None, refl, sym, ◌∙◌, ap, length, arith}
use Rattle.std.proofs.Common.{get_or, set, ◌||◌, nat_eq, replicate, take, length-append, get_or-set_same}
use Rattle.std.specs.Prelude.{slice_set, reverse, ℤ, ◌==◌}
use Rattle.std.specs.List.{list_any}
use Rattle.std.proofs.lemmas.List.{get_or_append_left}
use Rattle.std.proofs.Math.Seq.{get_or-append_seam}
use Rattle.std.proofs.lemmas.Bool.Decides.{nat_tests}
use Rattle.std.proofs.lemmas.Bool.{not_from_true, or_right}
use Rattle.std.proofs.lemmas.Option.{same_Some}
use Rattle.sts_code.specs.Program.{Program, routine}
use Rattle.sts_code.specs.declared.instr.Joiner.{Joiner}
use Rattle.sts_model.specs.declared.record.Slot.{Slot}
use Rattle.sts_model.specs.declared.record.Slot.TheVariants as slots
use Rattle.sts_model.specs.declared.record.Entry.TheVariants as entry
use Rattle.sts_model.specs.declared.record.Frame.{Frame}
use Rattle.sts_model.specs.declared.record.Task.{Task}
use Rattle.sts_model.specs.declared.record.Scope.{Scope}
use Rattle.sts_model.specs.World.{World, task_at, scope_at, no_task, no_scope, fresh_scope, entry_frame}
use Rattle.sts_model.specs.Local.{steps}
use Rattle.sts_model.specs.Living.{lives, is_closed}
use Rattle.sts_model.specs.Environment.{environment_of}
use Rattle.sts_model.specs.Misuse.{slot, is_entry_of}
use Rattle.sts_model.specs.Effect.{open_scope, fork_task, subtask_of, forked}
pub use Rattle.sts_model.proofs.LivesLemmas.{born_alive}
use Rattle.laws_runs.proofs.ListLemmas.{at_set, at_more}
use Rattle.laws_runs.specs.Later.{Later}
use Rattle.laws_runs.proofs.LaterLemmas.{later_task-refl, later_scope-refl, later-trans, none_fresh}
use Rattle.laws_runs.proofs.KeptLemmas.{Holds, kept-later}
use Rattle.laws_runs.proofs.StillLemmas.{Still, still-frame}
use Rattle.laws_runs.proofs.FrameLemmas.{owns-with_slot}
use Rattle.laws_runs.proofs.SoundLemmas.{Sound, Owner, sound-kept}

-- ---- fork

-- with one task more
abbrev pub more_tasks : World → Task → World
more_tasks w x = record w { tasks = w.tasks ++ x ∷ [] }

empties : (n i : ℕ) → get_or (replicate n slots.Empty) i slots.Empty ≡ slots.Empty
empties zero i = refl
empties (suc n) zero = refl
empties (suc n) (suc i) = empties n i

-- a new task owns nothing
pub new-owns_nothing : (g : ℕ) (args : List ℤ) (x : Slot) → ((r : ℕ) → x ≡ slots.Own r → ⊥) → (i r : ℕ) → slot (entry_frame g args x) i ≡ slots.Own r → ⊥
new-owns_nothing g args x never zero r e = never r e
new-owns_nothing g args x never (suc i) r e = let q = empties 15 i in cc

-- a task of no cancelled scope, or one that was not started
abbrev pub IsFresh : World → Task → Type 0
IsFresh w x = (s : ℕ) → x.scope ≡ Some s → (scope_at w s).cancelled ≡ true → x.started ≡ false

pub later-more_tasks : (w : World) (x : Task) → IsFresh w x → Later w (more_tasks w x)
later-more_tasks w x is_fresh =
    let n = length-append w.tasks (x ∷ []) in
    record {
      tasks = omega (arith, n);
      scopes = omega arith;
      task = λ t less. rw (get_or_append_left w.tasks (x ∷ []) no_task t less) (later_task-refl (task_at w t));
      scope = λ s less. later_scope-refl (scope_at w s);
      fresh = λ u s late cancelled.
          at_more (λ (task : Task). task.scope ≡ Some s → task.started ≡ false) w.tasks x u no_task
          (λ e inside. is_fresh s inside cancelled)
          (none_fresh w w (omega arith) u s late cancelled);
    }

-- a subtask of a scope that isn't closed and has a born owner
pub record IsChild (w : World) (x : Task) (s : ℕ) : Type 0 where
  pub scope : x.scope ≡ Some s
  pub born : s < length w.scopes
  pub owner : (scope_at w s).owner < length w.tasks
  pub still : is_closed (scope_at w s).phase ≡ false
  pub own : (i r : ℕ) → slot x.frame i ≡ slots.Own r → ⊥
  pub outcome : x.outcome ≡ None

sound-more_tasks : (w : World) (x : Task) (s : ℕ) → Sound w → IsChild w x s → Sound (more_tasks w x)
sound-more_tasks w x s o child =
    record {
      own = λ u. at_more (λ (task : Task). (i r : ℕ) → slot task.frame i ≡ slots.Own r → Owner w.scopes r u) w.tasks x u no_task (λ e i r q. absurd (child.own i r q)) (o.own u);
      born = λ u.
          at_more (λ (task : Task). (r : ℕ) → task.scope ≡ Some r → (r < length w.scopes) × ((scope_at w r).owner < u)) w.tasks x u no_task
          (λ e r q. let same = same_Some s r (sym child.scope ∙ q) in (rw (← same) child.born, rw (← same, e) child.owner))
          (o.born u);
      root = λ u. at_more (λ (task : Task). lives task ≡ true → task.scope ≡ None → u ≡ 0) w.tasks x u no_task (λ e alive q. let c = child.scope in cc) (o.root u);
      held = λ r less still.
          let h : Holds (task_at w (scope_at w r).owner) r = o.held r less still in
          rw (get_or_append_left w.tasks (x ∷ []) no_task (scope_at w r).owner (born_alive w (scope_at w r).owner h.alive)) h;
      empty = λ r u closed.
          at_more (λ (task : Task). task.scope ≡ Some r → lives task ≡ false) w.tasks x u no_task
          (λ e q. let same = same_Some s r (sym child.scope ∙ q) in let still = child.still in let never : true ≡ false = sym closed ∙ ap (λ n. is_closed (scope_at w n).phase) (sym same) ∙ still in cc)
          (o.empty r u closed);
    }

-- the rest of a fork: the forker goes on
pub still-forker : (p : Program) (w : World) (t s g : ℕ) (h : Option ℕ) → lives (task_at w t) ≡ true → Still (more_tasks w (subtask_of p w (task_at w t).frame s g)) (fork_task p w t (task_at w t).frame s g h)
unfolding fork_task
still-forker p w t s g h alive =
    let x : Task = subtask_of p w (task_at w t).frame s g in
    let same : task_at (more_tasks w x) t ≡ task_at w t = get_or_append_left w.tasks (x ∷ []) no_task t (born_alive w t alive) in
    still-frame (more_tasks w x) t (forked (task_at w t).frame (routine p g).args h (length w.tasks))
    (rw same (record { own = λ i r e. owns-with_slot (task_at w t).frame.slots h (length w.tasks) i r e; entries = λ r still e. e }))

pub child-of : (p : Program) (w : World) (t s g : ℕ) → Owner w.scopes s t → lives (task_at w t) ≡ true → is_closed (scope_at w s).phase ≡ false → IsChild w (subtask_of p w (task_at w t).frame s g) s
child-of p w t s g mine alive still =
    record {
      scope = refl;
      born = mine.born;
      owner = rw (mine.owner) (born_alive w t alive);
      still = still;
      own = new-owns_nothing g (reverse (take (routine p g).args (task_at w t).frame.operands)) (slots.Lent s) (λ r e. cc);
      outcome = refl;
    }

pub sound-fork : (p : Program) (w : World) (t s g : ℕ) (h : Option ℕ) → Sound w → Owner w.scopes s t → lives (task_at w t) ≡ true → is_closed (scope_at w s).phase ≡ false → Sound (fork_task p w t (task_at w t).frame s g h)
sound-fork p w t s g h o mine alive still =
    let x : Task = subtask_of p w (task_at w t).frame s g in
    sound-kept (more_tasks w x) _ (sound-more_tasks w x s o (child-of p w t s g mine alive still)) (still-forker p w t s g h alive).kept

pub later-fork : (p : Program) (w : World) (t s g : ℕ) (h : Option ℕ) → lives (task_at w t) ≡ true → Later w (fork_task p w t (task_at w t).frame s g h)
later-fork p w t s g h alive =
    let x : Task = subtask_of p w (task_at w t).frame s g in
    let fresh : IsFresh w x =
    λ r inside cancelled.
    let same : s ≡ r = cc in
    not_from_true (scope_at w s).cancelled (rw same cancelled)
    in
    later-trans w (more_tasks w x) _ (later-more_tasks w x fresh) (kept-later (more_tasks w x) _ (still-forker p w t s g h alive).kept)

-- ---- open

-- with one scope more
abbrev pub more_scopes : World → Scope → World
more_scopes w x = record w { scopes = w.scopes ++ x ∷ [] }

abbrev pub new_scope : World → ℕ → Joiner → Bool → Scope
new_scope w t joiner timed = fresh_scope t joiner timed (environment_of (task_at w t) w)

-- the frame that owns it
abbrev pub opener : World → Frame → ℕ → Frame
opener w f x = record (steps f 0 []) { entries = entry.Scope (length w.scopes) ∷ f.entries; slots = slice_set f.slots x (slots.Own (length w.scopes)) }

pub later-more_scopes : (w : World) (x : Scope) → Later w (more_scopes w x)
later-more_scopes w x =
    let n = length-append w.scopes (x ∷ []) in
    record {
      tasks = omega arith;
      scopes = omega (arith, n);
      task = λ t less. later_task-refl (task_at w t);
      scope = λ s less. rw (get_or_append_left w.scopes (x ∷ []) no_scope s less) (later_scope-refl (scope_at w s));
      fresh = none_fresh w (more_scopes w x) (omega arith);
    }

-- the owner of an earlier scope still owns it
pub owner-more : (xs : List Scope) (x : Scope) (s t : ℕ) → Owner xs s t → Owner (xs ++ x ∷ []) s t
owner-more xs x s t h =
    let n = length-append xs (x ∷ []) in
    let less = h.born in
    record { born = omega (arith, n, less); owner = rw (get_or_append_left xs (x ∷ []) no_scope s h.born) h.owner }

pub owner-new : (xs : List Scope) (x : Scope) → Owner (xs ++ x ∷ []) (length xs) x.owner
owner-new xs x =
    let n = length-append xs (x ∷ []) in
    record { born = omega (arith, n); owner = ap (λ (scope : Scope). scope.owner) (get_or-append_seam xs x [] no_scope) }

-- a task with another frame, which has all its entries and perhaps more
pub holds-more : (task : Task) (f : Frame) (s : ℕ) → (list_any (is_entry_of s) task.frame.entries ≡ true → list_any (is_entry_of s) f.entries ≡ true) → Holds task s → Holds (record task { frame = f }) s
holds-more task f s more h = record { alive = h.alive; entry = more h.entry }

first_true : (a b : Bool) → a ≡ true → (a || b) ≡ true
first_true true b e = refl
first_true false b e = cc

pub sound-open : (w : World) (t x : ℕ) (joiner : Joiner) (timed : Bool) → Sound w → lives (task_at w t) ≡ true → Sound (open_scope w t (task_at w t).frame x joiner timed)
unfolding open_scope
sound-open w t x joiner timed o alive =
    let new : Scope = new_scope w t joiner timed in
    let scopes : List Scope = w.scopes ++ new ∷ [] in
    let f : Frame = opener w (task_at w t).frame x in
    let task : Task = record (task_at w t) { frame = f } in
    let tasks : List Task = set w.tasks t task in
    record {
      own = λ u.
          at_set (λ (task : Task). (i s : ℕ) → slot task.frame i ≡ slots.Own s → Owner (w.scopes ++ new_scope w t joiner timed ∷ []) s u) w.tasks t u task no_task
          (λ e i s.
          at_set (λ (q : Slot). q ≡ slots.Own s → Owner (w.scopes ++ new_scope w t joiner timed ∷ []) s u) (task_at w t).frame.slots x i (slots.Own (length w.scopes)) slots.Empty
          (λ d q. let same : length w.scopes ≡ s = cc in rw (← same, e) (owner-new w.scopes (new_scope w t joiner timed)))
          (λ q. owner-more w.scopes (new_scope w t joiner timed) s u (rw e (o.own t i s q))))
          (λ i s q. owner-more w.scopes (new_scope w t joiner timed) s u (o.own u i s q));
      born = λ u s e. born u s (scope u ∙ e);
      root = λ u alive e. o.root u (alive_too u alive) (scope u ∙ e);
      held = λ s less still. held s less still (nat_eq s (length w.scopes)) refl;
      empty = λ s u closed e. empty s u closed (scope u ∙ e);
    }
  where
    scope : (u : ℕ) → (task_at w u).scope ≡ (get_or (set w.tasks t (record (task_at w t) { frame = opener w (task_at w t).frame x })) u no_task).scope
    scope u = at_set (λ (task : Task). (task_at w u).scope ≡ task.scope) w.tasks t u (record (task_at w t) { frame = opener w (task_at w t).frame x }) no_task (λ e. rw e refl) refl

    living : (u : ℕ) → lives (task_at w u) ≡ lives (get_or (set w.tasks t (record (task_at w t) { frame = opener w (task_at w t).frame x })) u no_task)
    living u = at_set (λ (task : Task). lives (task_at w u) ≡ lives task) w.tasks t u (record (task_at w t) { frame = opener w (task_at w t).frame x }) no_task (λ e. rw e refl) refl

    alive_too : (u : ℕ) → lives (get_or (set w.tasks t (record (task_at w t) { frame = opener w (task_at w t).frame x })) u no_task) ≡ true → lives (task_at w u) ≡ true
    alive_too u e = living u ∙ e

    born : (u s : ℕ) → (task_at w u).scope ≡ Some s → (s < length (w.scopes ++ new_scope w t joiner timed ∷ [])) × ((get_or (w.scopes ++ new_scope w t joiner timed ∷ []) s no_scope).owner < u)
    born u s e =
        let h = o.born u s e in
        let m = owner-more w.scopes (new_scope w t joiner timed) s (scope_at w s).owner (record { born = h.0; owner = refl }) in
        (m.born, rw (m.owner) h.1)

    held : (s : ℕ) → s < length (w.scopes ++ new_scope w t joiner timed ∷ []) → is_closed (get_or (w.scopes ++ new_scope w t joiner timed ∷ []) s no_scope).phase ≡ false → (b : Bool) → nat_eq s (length w.scopes) ≡ b → Holds (get_or (set w.tasks t (record (task_at w t) { frame = opener w (task_at w t).frame x })) (get_or (w.scopes ++ new_scope w t joiner timed ∷ []) s no_scope).owner no_task) s
    held s less still true e =
        let same : s ≡ length w.scopes = grind (arith, nat_tests) in
        rw (same, get_or-append_seam w.scopes (new_scope w t joiner timed) [] no_scope, get_or-set_same w.tasks t (record (task_at w t) { frame = opener w (task_at w t).frame x }) no_task (born_alive w t alive))
        (record { alive = alive; entry = first_true (length w.scopes == length w.scopes) _ (grind (arith, nat_tests)) })
    held s less still false e =
        let n = length-append w.scopes (new_scope w t joiner timed ∷ []) in
        let other : s ≢ length w.scopes = grind (arith, nat_tests) in
        let before : s < length w.scopes = omega (arith, n, less, other) in
        let at : get_or (w.scopes ++ new_scope w t joiner timed ∷ []) s no_scope ≡ scope_at w s = get_or_append_left w.scopes (new_scope w t joiner timed ∷ []) no_scope s before in
        let h : Holds (task_at w (scope_at w s).owner) s = o.held s before (rw at at still) in
        rw at
        (at_set (λ (task : Task). Holds task s) w.tasks t (scope_at w s).owner (record (task_at w t) { frame = opener w (task_at w t).frame x }) no_task
        (λ e. holds-more (task_at w t) (opener w (task_at w t).frame x) s (or_right (length w.scopes == s) _) (rw e at h))
        h)

    empty : (s u : ℕ) → is_closed (get_or (w.scopes ++ new_scope w t joiner timed ∷ []) s no_scope).phase ≡ true → (task_at w u).scope ≡ Some s → lives (get_or (set w.tasks t (record (task_at w t) { frame = opener w (task_at w t).frame x })) u no_task) ≡ false
    empty s u =
        at_more (λ (scope : Scope). is_closed scope.phase ≡ true → (task_at w u).scope ≡ Some s → lives (get_or (set w.tasks t (record (task_at w t) { frame = opener w (task_at w t).frame x })) u no_task) ≡ false) w.scopes (new_scope w t joiner timed) s no_scope
        (λ e closed inside. cc)
        (λ closed inside. sym (living u) ∙ o.empty s u closed inside)
