-- Flags: what each effect does to them.
use Rattle.std.proofs.Common.{◌≡◌, ◌⊎◌, inl, inr, ℕ, zero, suc, ◌<◌, List, [], ◌∷◌, Bool, true, false, Option, Some, None, refl, sym, ◌∙◌, ap, length, arith}
use Rattle.std.proofs.Common.{get_or, set, cond, ◌||◌, ◌&&◌, not, unwrap_or, drop, get_or-set_same, get_or-set_other, length-set}
use Rattle.std.specs.Prelude.{◌==◌}
use Rattle.std.specs.Cmp.Derive.{both_true}
use Rattle.std.proofs.lemmas.Bool.{cond_both, and_parts}
use Rattle.std.proofs.lemmas.Bool.Decides.{nat_tests}
use Rattle.sts_code.specs.Program.{Program}
use Rattle.sts_code.specs.declared.instr.Instr.{Instr}
use Rattle.sts_code.specs.declared.instr.Joiner.{Joiner}
use Rattle.sts_code.specs.declared.instr.Instr.TheVariants.{Open, Fork, Join, Close, Interrupted, Ret, Fail}
use Rattle.sts_model.specs.declared.event.Event.{Event}
use Rattle.sts_model.specs.declared.event.Event.TheVariants as event
use Rattle.sts_model.specs.declared.event.End.{End}
use Rattle.sts_model.specs.declared.event.End.TheVariants.{Success, Failed}
use Rattle.sts_model.specs.declared.event.Phase.{Phase}
use Rattle.sts_model.specs.declared.event.Phase.TheVariants.{Attempted, Joined, Closing, Closed}
use Rattle.sts_model.specs.declared.event.Verdict.{Verdict}
use Rattle.sts_model.specs.declared.event.Verdict.TheVariants as verdict
use Rattle.sts_model.specs.declared.record.Slot.TheVariants as slots
use Rattle.sts_model.specs.declared.record.Frame.{Frame}
use Rattle.sts_model.specs.declared.record.Task.{Task}
use Rattle.sts_model.specs.declared.record.Scope.{Scope}
use Rattle.sts_model.specs.World.{World, task_at, scope_at, no_task, no_scope, with_task, with_scope, with_frame, instr_at}
use Rattle.sts_model.specs.Local.{operand, goes, steps, truth}
use Rattle.sts_model.specs.Joining.{cancels, result_of}
use Rattle.sts_model.specs.Living.{lives, is_subtask, is_living_subtask, any_lives, ends, subtask_count}
use Rattle.sts_model.specs.Cancelling.{raise, raised, marked, cancel}
use Rattle.sts_model.specs.Misuse.{slot}
use Rattle.sts_model.specs.Waiting.{can_step}
use Rattle.sts_model.specs.Effect.{effect, named, with_phase, open_scope, fork_task, subtask_of, joined, join_verdict, join_scope, closed, cleared, close_scope}
use Rattle.sts_model.specs.Effect.{told, decide, tell, ended, end_task}
use Rattle.sts_model.specs.Outside.{interrupt, can_expire, expire}
use Rattle.laws_runs.specs.Runs.{Does, LeadsBy, Each}
use Rattle.laws_runs.proofs.ListLemmas.{at_set, at_more, past, within}
use Rattle.laws_runs.proofs.FrameLemmas.{own_slot}
use Rattle.laws_runs.proofs.SoundLemmas.{Sound}
use Rattle.laws_runs.proofs.EffectLemmas.{first_no, is_in-some, some-is_in, owned_slot}
use Rattle.laws_runs.proofs.BirthLemmas.{born_alive, more_tasks, more_scopes, new_scope}
use Rattle.laws_runs.proofs.EventLemmas.{Right, each}
use Rattle.laws_runs.specs.Flags.{IsCancelled, takes_flag, is_taken, Takes, CancelInterrupts, InterruptSetsFlag, FlagsHaveCause, FlagsAreTaken}

-- ---- what changes no flag and cancels nothing

record Calm (w v : World) : Type 0 where
  pub flag : (u : ℕ) → (task_at v u).flag ≡ (task_at w u).flag
  pub cancelled : (s : ℕ) → (scope_at v s).cancelled ≡ (scope_at w s).cancelled

calm-refl : (w : World) → Calm w w
calm-refl w = record { flag = λ u. refl; cancelled = λ s. refl }

calm-trans : (w v x : World) → Calm w v → Calm v x → Calm w x
calm-trans w v x h k = record { flag = λ u. k.flag u ∙ h.flag u; cancelled = λ s. k.cancelled s ∙ h.cancelled s }

calm-task : (w : World) (t : ℕ) (x : Task) → x.flag ≡ (task_at w t).flag → Calm w (with_task w t x)
calm-task w t x same =
    record {
      flag = λ u. at_set (λ (task : Task). task.flag ≡ (task_at w u).flag) w.tasks t u x no_task (λ e. rw e same) refl;
      cancelled = λ s. refl;
    }

calm-frame : (w : World) (t : ℕ) (f : Frame) → Calm w (with_frame w t f)
calm-frame w t f = calm-task w t (record (task_at w t) { frame = f }) refl

calm-scope : (w : World) (s : ℕ) (x : Scope) → x.cancelled ≡ (scope_at w s).cancelled → Calm w (with_scope w s x)
calm-scope w s x same =
    record {
      flag = λ u. refl;
      cancelled = λ r. at_set (λ (scope : Scope). scope.cancelled ≡ (scope_at w r).cancelled) w.scopes s r x no_scope (λ e. rw e same) refl;
    }

calm-phase : (w : World) (s : ℕ) (phase : Phase) → Calm w (with_phase w s phase)
calm-phase w s phase = calm-scope w s (record (scope_at w s) { phase = phase }) refl

-- ---- births

calm-more_tasks : (w : World) (x : Task) → x.flag ≡ false → Calm w (more_tasks w x)
calm-more_tasks w x none =
    record {
      flag = λ u.
          at_more (λ (task : Task). task.flag ≡ (task_at w u).flag) w.tasks x u no_task
          (λ e. none ∙ sym (ap (λ (task : Task). task.flag) (past w.tasks u no_task (omega (arith, e)))))
          refl;
      cancelled = λ s. refl;
    }

calm-more_scopes : (w : World) (x : Scope) → x.cancelled ≡ false → Calm w (more_scopes w x)
calm-more_scopes w x none =
    record {
      flag = λ u. refl;
      cancelled = λ s.
          at_more (λ (scope : Scope). scope.cancelled ≡ (scope_at w s).cancelled) w.scopes x s no_scope
          (λ e. none ∙ sym (ap (λ (scope : Scope). scope.cancelled) (past w.scopes s no_scope (omega (arith, e)))))
          refl;
    }

calm-open : (w : World) (t x : ℕ) (f : Frame) (joiner : Joiner) (timed : Bool) → Calm w (open_scope w t f x joiner timed)
unfolding open_scope
calm-open w t x f joiner timed =
    let v : World = more_scopes w (new_scope w t joiner timed) in
    calm-trans w v _ (calm-more_scopes w (new_scope w t joiner timed) refl) (calm-frame v t _)

calm-fork : (p : Program) (w : World) (t : ℕ) (f : Frame) (s g : ℕ) (h : Option ℕ) → Calm w (fork_task p w t f s g h)
unfolding fork_task
calm-fork p w t f s g h =
    let v : World = more_tasks w (subtask_of p w f s g) in
    calm-trans w v _ (calm-more_tasks w (subtask_of p w f s g) refl) (calm-frame v t _)

-- ---- what sets flags by a cancel alone

record Raises (w v : World) : Type 0 where
  pub cancelled : (s u : ℕ) → IsCancelled w v s → (task_at v u).scope ≡ Some s → lives (task_at v u) ≡ true → (task_at v u).flag ≡ true
  pub raised : (u : ℕ) → (task_at w u).flag ≡ false → (task_at v u).flag ≡ true → (s : ℕ) × ((task_at w u).scope ≡ Some s) × IsCancelled w v s
  pub kept : (u : ℕ) → (task_at w u).flag ≡ true → (task_at v u).flag ≡ true

raises-calm : (w v : World) → Calm w v → Raises w v
raises-calm w v k =
    record {
      cancelled = λ s u c. let same = k.cancelled s in let a = c.before in let b = c.after in let never : true ≡ false = sym b ∙ same ∙ a in cc;
      raised = λ u off on. let never : true ≡ false = sym on ∙ k.flag u ∙ off in cc;
      kept = λ u on. k.flag u ∙ on;
    }

-- first a calm change that moves no task
raises-after : (w a v : World) → Calm w a → ((u : ℕ) → (task_at a u).scope ≡ (task_at w u).scope) → Raises a v → Raises w v
raises-after w a v k scopes h =
    record {
      cancelled = λ s u c. h.cancelled s u (record { before = k.cancelled s ∙ c.before; after = c.after });
      raised = λ u off on.
          let r = h.raised u (k.flag u ∙ off) on in
          (r.0, sym (scopes u) ∙ r.1, record { before = sym (k.cancelled r.0) ∙ r.2.before; after = r.2.after });
      kept = λ u on. h.kept u (k.flag u ∙ on);
    }

-- last a calm change that moves no task and brings none to life
raises-before : (w b v : World) → Raises w b → Calm b v → ((u : ℕ) → (task_at v u).scope ≡ (task_at b u).scope) → ((u : ℕ) → lives (task_at v u) ≡ lives (task_at b u)) → Raises w v
raises-before w b v h k scopes alive =
    record {
      cancelled = λ s u c inside live. k.flag u ∙ h.cancelled s u (record { before = c.before; after = sym (k.cancelled s) ∙ c.after }) (sym (scopes u) ∙ inside) (sym (alive u) ∙ live);
      raised = λ u off on.
          let r = h.raised u off (sym (k.flag u) ∙ on) in
          (r.0, r.1, record { before = r.2.before; after = k.cancelled r.0 ∙ r.2.after });
      kept = λ u on. k.flag u ∙ h.kept u on;
    }

-- ---- a cancel

raised-at : (s : ℕ) (xs : List Task) (u : ℕ) → get_or (raised s xs) u no_task ≡ raise s (get_or xs u no_task)
raised-at s [] u = refl
raised-at s (x ∷ xs) zero = refl
raised-at s (x ∷ xs) (suc u) = raised-at s xs u

raise_on : (s : ℕ) (x : Task) → (raise s x).scope ≡ Some s → lives (raise s x) ≡ true → (raise s x).flag ≡ true
raise_on s x inside alive = by (is_living_subtask s x) refl inside alive
  where
    by : (b : Bool) → is_living_subtask s x ≡ b → (cond b (record x { flag = true }) x).scope ≡ Some s → lives (cond b (record x { flag = true }) x) ≡ true → (cond b (record x { flag = true }) x).flag ≡ true
    by true e inside alive = refl
    by false e inside alive = let is : is_living_subtask s x ≡ true = both_true (is_in-some s x.scope inside) alive in cc

raise_off : (s : ℕ) (x : Task) → x.flag ≡ false → (raise s x).flag ≡ true → x.scope ≡ Some s
raise_off s x off on = by (is_living_subtask s x) refl on
  where
    by : (b : Bool) → is_living_subtask s x ≡ b → (cond b (record x { flag = true }) x).flag ≡ true → x.scope ≡ Some s
    by true e on = some-is_in s x.scope (and_parts (is_subtask s x) (lives x) e).0
    by false e on = cc

raise_kept : (s : ℕ) (x : Task) → x.flag ≡ true → (raise s x).flag ≡ true
raise_kept s x on = cond_both (is_living_subtask s x) _ _ (λ (y : Task). y.flag ≡ true) (λ e. refl) (λ e. on)

raises-cancel : (w : World) (s : ℕ) → s < length w.scopes → Raises w (cancel w s)
raises-cancel w s born =
    cond_both (scope_at w s).cancelled w (marked w s) (λ (v : World). Raises w v)
    (λ e. raises-calm w w (calm-refl w))
    (λ e.
    record {
      cancelled = λ r u c inside alive.
          let same : r ≡ s = which r c (r == s) refl in
          rw (raised-at s w.tasks u) (raise_on s (task_at w u) (rw (raised-at s w.tasks u) at (rw same at inside)) (rw (raised-at s w.tasks u) at alive));
      raised = λ u off on.
          (s, raise_off s (task_at w u) off (rw (raised-at s w.tasks u) at on), record { before = e; after = here });
      kept = λ u on. rw (raised-at s w.tasks u) (raise_kept s (task_at w u) on);
    })
  where
    x : Scope
    x = record (scope_at w s) { cancelled = true }

    here : (scope_at (marked w s) s).cancelled ≡ true
    here = ap (λ (scope : Scope). scope.cancelled) (get_or-set_same w.scopes s x no_scope born)

    which : (r : ℕ) → IsCancelled w (marked w s) r → (b : Bool) → (r == s) ≡ b → r ≡ s
    which r c true d = grind (arith, nat_tests)
    which r c false d =
        let other : r ≡ s → ⊥ = λ same. grind (arith, nat_tests) in
        let is = get_or-set_other w.scopes s r x no_scope other in
        let never : true ≡ false = sym c.after ∙ ap (λ (scope : Scope). scope.cancelled) is ∙ c.before in
        cc

-- ---- close

raises-close : (w : World) (t : ℕ) (f : Frame) (s : ℕ) → s < length w.scopes → Raises w (close_scope w t f s)
unfolding close_scope
raises-close w t f s born =
    let v : World = cancel w s in
    let h = raises-cancel w s born in
    cond_both (any_lives v s) _ _ (λ (x : World). Raises w x)
    (λ e. raises-before w v (with_phase v s Closing) h (calm-phase v s Closing) (λ u. refl) (λ u. refl))
    (λ e.
    let shut : World = with_phase v s Closed in
    let x : Task = record (task_at v t) { frame = record (steps f 0 []) { entries = drop 1 f.entries; slots = cleared v s f.slots } } in
    raises-before w v (closed v t f s) h (calm-trans v shut (closed v t f s) (calm-phase v s Closed) (calm-frame shut t _))
    (λ u. at_set (λ (task : Task). task.scope ≡ (task_at v u).scope) v.tasks t u x no_task (λ d. rw d refl) refl)
    (λ u. at_set (λ (task : Task). lives task ≡ lives (task_at v u)) v.tasks t u x no_task (λ d. rw d refl) refl))

-- ---- the end of a task

raises-decide : (w : World) (s : ℕ) → s < length w.scopes → Raises w (decide w s)
raises-decide w s born =
    cond_both (cancels (scope_at w s).joiner (ends (scope_at w s))) (cancel w s) w (λ (v : World). Raises w v)
    (λ e. raises-cancel w s born)
    (λ e. raises-calm w w (calm-refl w))

raises-tell : (w : World) (t : ℕ) (o : Option ℕ) (end : End) → ((s : ℕ) → o ≡ Some s → s < length w.scopes) → Raises w (tell w t o end)
raises-tell w t None end born = raises-calm w w (calm-refl w)
raises-tell w t (Some s) end born =
    let v : World = with_scope w s (told (scope_at w s) t end) in
    let n = born s refl in
    let same = length-set w.scopes s (told (scope_at w s) t end) in
    cond_both (scope_at w s).cancelled w (decide v s) (λ (x : World). Raises w x)
    (λ e. raises-calm w w (calm-refl w))
    (λ e. raises-after w v (decide v s) (calm-scope w s (told (scope_at w s) t end) refl) (λ u. refl) (raises-decide v s (omega (arith, n, same))))

raises-end : (w : World) (t : ℕ) (f : Frame) (end : End) → Sound w → Raises w (end_task w t f end)
unfolding end_task
raises-end w t f end o =
    let x : Task = record (task_at w t) { frame = steps f 1 []; outcome = Some end } in
    raises-after w (ended w t f end) (tell (ended w t f end) t (task_at w t).scope end) (calm-task w t x refl)
    (λ u. at_set (λ (task : Task). task.scope ≡ (task_at w u).scope) w.tasks t u x no_task (λ d. rw d refl) refl)
    (raises-tell (ended w t f end) t (task_at w t).scope end (λ s e. (o.born t s e).0))

-- ---- an expiry

raises-expire : (w : World) (s : ℕ) → Raises w (expire w s)
raises-expire w s =
    let y : Scope = record (scope_at w s) { expired = true } in
    let v : World = with_scope w s y in
    let same = length-set w.scopes s y in
    cond_both (can_expire (scope_at w s)) (cancel v s) w (λ (x : World). Raises w x)
    (λ e.
    let born = within can_expire w.scopes s no_scope refl e in
    raises-after w v (cancel v s) (calm-scope w s y refl) (λ u. refl) (raises-cancel v s (omega (arith, born, same))))
    (λ e. raises-calm w w (calm-refl w))

-- ---- what sets or clears the flag of one task

record Puts (w v : World) (t : ℕ) (b : Bool) : Type 0 where
  pub here : (task_at v t).flag ≡ b
  pub others : (u : ℕ) → (u ≡ t → ⊥) → (task_at v u).flag ≡ (task_at w u).flag
  pub cancelled : (s : ℕ) → (scope_at v s).cancelled ≡ (scope_at w s).cancelled

puts-task : (w : World) (t : ℕ) (x : Task) → t < length w.tasks → Puts w (with_task w t x) t x.flag
puts-task w t x born =
    record {
      here = ap (λ (task : Task). task.flag) (get_or-set_same w.tasks t x no_task born);
      others = λ u other. ap (λ (task : Task). task.flag) (get_or-set_other w.tasks t u x no_task other);
      cancelled = λ s. refl;
    }

puts-after : (w a v : World) (t : ℕ) (b : Bool) → Calm w a → Puts a v t b → Puts w v t b
puts-after w a v t b k h =
    record {
      here = h.here;
      others = λ u other. h.others u other ∙ k.flag u;
      cancelled = λ s. h.cancelled s ∙ k.cancelled s;
    }

-- ---- all that is said of an event

record Follows (p : Program) (w : World) (e : Event) (v : World) : Type 0 where
  pub cancelled : (s u : ℕ) → IsCancelled w v s → (task_at v u).scope ≡ Some s → lives (task_at v u) ≡ true → (task_at v u).flag ≡ true
  pub interrupted : (t : ℕ) → e ≡ event.Interrupt t → lives (task_at w t) ≡ true → (task_at v t).flag ≡ true
  pub raised : (t : ℕ) → (task_at w t).flag ≡ false → (task_at v t).flag ≡ true → (e ≡ event.Interrupt t) ⊎ ((s : ℕ) × ((task_at w t).scope ≡ Some s) × IsCancelled w v s)
  pub takes : (t : ℕ) → Takes p w e v t

follows-raises : (p : Program) (w : World) (e : Event) (v : World) → Raises w v → ((t : ℕ) → e ≡ event.Interrupt t → lives (task_at w t) ≡ true → ⊥) → ((t : ℕ) → is_taken p w e t ≡ true → ⊥) → Follows p w e v
follows-raises p w e v h never_interrupted never_taken =
    record {
      cancelled = h.cancelled;
      interrupted = λ t is alive. absurd (never_interrupted t is alive);
      raised = λ t off on. inr (h.raised t off on);
      takes = λ t.
          record {
            taken = λ is. absurd (never_taken t is);
            cleared = λ on off. let still = h.kept t on in let never : true ≡ false = sym still ∙ off in cc;
          };
    }

-- a step of t takes the flag of no other task, and only if t can step
step_taken : (p : Program) (w : World) (t u : ℕ) → is_taken p w (event.Step t) u ≡ true → (t ≡ u) × ((can_step p w u ≡ true) × (takes_flag w (task_at w u).frame (instr_at p (task_at w u).frame) ≡ true))
step_taken p w t u is =
    let k = and_parts (t == u) _ is in
    let same : t ≡ u = let q = k.0 in grind (arith, nat_tests) in
    (same, and_parts (can_step p w u) _ k.1)

-- a step with an instruction that does not take the flag
follows-step : (p : Program) (w : World) (t : ℕ) (i : Instr) (v : World) → Does p w t i → takes_flag w (task_at w t).frame (Some i) ≡ false → Raises w v → Follows p w (event.Step t) v
follows-step p w t i v d keeps h = follows-raises p w (event.Step t) v h (λ u is. cc) never
  where
    never : (u : ℕ) → is_taken p w (event.Step t) u ≡ true → ⊥
    never u is =
        let k = step_taken p w t u is in
        let same : t ≡ u = k.0 in
        let taken = k.1.1 in
        let here : takes_flag w (task_at w t).frame (instr_at p (task_at w t).frame) ≡ true = rw (← same) at taken in
        let at = d.at in
        let clash : takes_flag w (task_at w t).frame (Some i) ≡ true = rw at at here in
        let bad : true ≡ false = sym clash ∙ keeps in
        cc

-- a step that takes it
follows-taken : (p : Program) (w : World) (t : ℕ) (i : Instr) (v : World) → Does p w t i → takes_flag w (task_at w t).frame (Some i) ≡ true → Puts w v t false → Follows p w (event.Step t) v
follows-taken p w t i v d is h =
    record {
      cancelled = λ s u c. let same = h.cancelled s in let never : true ≡ false = sym c.after ∙ same ∙ c.before in cc;
      interrupted = λ u e. cc;
      raised = λ u off on. raised u off on (u == t) refl;
      takes = λ u. record { taken = λ e. taken u e; cleared = λ on off. cleared_by u on off (u == t) refl };
    }
  where
    it : takes_flag w (task_at w t).frame (instr_at p (task_at w t).frame) ≡ true
    it = ap (takes_flag w (task_at w t).frame) d.at ∙ is

    raised : (u : ℕ) → (task_at w u).flag ≡ false → (task_at v u).flag ≡ true → (b : Bool) → (u == t) ≡ b → (event.Step t ≡ event.Interrupt u) ⊎ ((s : ℕ) × ((task_at w u).scope ≡ Some s) × IsCancelled w v s)
    raised u off on true e = let same : u ≡ t = grind (arith, nat_tests) in let here = h.here in let never : true ≡ false = sym on ∙ ap (λ n. (task_at v n).flag) same ∙ here in cc
    raised u off on false e = let never : true ≡ false = sym on ∙ h.others u (λ same. grind (arith, nat_tests)) ∙ off in cc

    taken : (u : ℕ) → is_taken p w (event.Step t) u ≡ true → (task_at v u).flag ≡ false
    taken u is =
        let k = (and_parts (t == u) _ is).0 in
        let same : u ≡ t = grind (arith, nat_tests) in
        ap (λ n. (task_at v n).flag) same ∙ h.here

    cleared_by : (u : ℕ) → (task_at w u).flag ≡ true → (task_at v u).flag ≡ false → (b : Bool) → (u == t) ≡ b → is_taken p w (event.Step t) u ≡ true
    cleared_by u on off true e =
        let same : t ≡ u = grind (arith, nat_tests) in
        let self : (t == t) ≡ true = grind (arith, nat_tests) in
        rw (← same) (both_true self (both_true d.can it))
    cleared_by u on off false e = let never : true ≡ false = sym on ∙ sym (h.others u (λ same. grind (arith, nat_tests))) ∙ off in cc

-- ---- join

unfinished : (a b c : Bool) → a ≡ false → (b || not c) ≡ false → (not a && (not b && c)) ≡ true
unfinished true b c e d = cc
unfinished false true c e d = cc
unfinished false false true e d = refl
unfinished false false false e d = cc

finished : (a b c : Bool) → (b || not c) ≡ true → (not a && (not b && c)) ≡ false
finished true b c e = refl
finished false true c e = refl
finished false false true e = cc
finished false false false e = refl

expired : (a b c : Bool) → a ≡ true → (not a && (not b && c)) ≡ false
expired true b c e = refl
expired false b c e = cc

calm-joined : (w : World) (t s : ℕ) (f : Frame) → Calm w (joined w t s f)
calm-joined w t s f = calm-trans w (with_phase w s Joined) _ (calm-phase w s Joined) (calm-frame (with_phase w s Joined) t f)

calm-verdict : (v : Verdict) (w : World) (t s : ℕ) (f : Frame) (failed : ℕ) → Calm w (join_verdict v w t s f failed)
calm-verdict (verdict.Ok None) w t s f failed = calm-joined w t s (steps f 0 [])
calm-verdict (verdict.Ok (Some x)) w t s f failed = calm-joined w t s (steps f 0 (x ∷ []))
calm-verdict (verdict.Failed c) w t s f failed = calm-joined w t s (goes f failed 0 (c ∷ []))

follows-join : (p : Program) (w : World) (t x : ℕ) (failed timeout : Option ℕ) (interrupted : ℕ) → Does p w t (Join x failed timeout interrupted) → Follows p w (event.Step t) (join_scope w t (task_at w t).frame (named (slot (task_at w t).frame x)) (unwrap_or failed 0) (unwrap_or timeout 0) interrupted)
unfolding join_scope
follows-join p w t x failed timeout interrupted d =
    let f : Frame = (task_at w t).frame in
    let s : ℕ = named (slot f x) in
    let scope : Scope = scope_at w s in
    let i : Instr = Join x failed timeout interrupted in
    cond_both scope.expired _ _ (λ (v : World). Follows p w (event.Step t) v)
    (λ late. follows-step p w t i _ d (expired scope.expired scope.cancelled (any_lives w s) late) (raises-calm w _ (calm-joined w t s (goes f (unwrap_or timeout 0) 0 []))))
    (λ timely.
    cond_both (scope.cancelled || not (any_lives w s)) _ _ (λ (v : World). Follows p w (event.Step t) v)
    (λ done. follows-step p w t i _ d (finished scope.expired scope.cancelled (any_lives w s) done) (raises-calm w _ (calm-verdict (result_of scope.joiner (ends scope) (subtask_count w s)) w t s f (unwrap_or failed 0))))
    (λ waits.
    follows-taken p w t i _ d (unfinished scope.expired scope.cancelled (any_lives w s) timely waits)
    (puts-after w (with_phase w s Attempted) _ t false (calm-phase w s Attempted)
    (puts-task (with_phase w s Attempted) t (record (task_at w t) { frame = goes f interrupted 0 []; flag = false }) (born_alive w t d.alive)))))

-- ---- every instruction

follows-effect : (p : Program) (w : World) (t : ℕ) (i : Instr) → Right w → Does p w t i → Follows p w (event.Step t) (effect p w t (task_at w t).frame i)
follows-effect p w t (Open x timed joiner) h d = follows-step p w t _ _ d refl (raises-calm w _ (calm-open w t x (task_at w t).frame joiner timed))
follows-effect p w t (Fork x g q) h d = follows-step p w t _ _ d refl (raises-calm w _ (calm-fork p w t (task_at w t).frame (named (slot (task_at w t).frame x)) g q))
follows-effect p w t (Join x failed timeout interrupted) h d = follows-join p w t x failed timeout interrupted d
follows-effect p w t (Close x) h d =
    let f : Frame = (task_at w t).frame in
    let mine : slot f x ≡ slots.Own (named (slot f x)) = own_slot (slot f x) (first_no _ _ (first_no _ _ d.fine.slots)) d.fine.own in
    follows-step p w t _ _ d refl (raises-close w t f (named (slot f x)) (owned_slot p w t (Close x) x h.sound mine))
follows-effect p w t Interrupted h d =
    follows-taken p w t _ _ d refl
    (puts-task w t (record (task_at w t) { frame = steps (task_at w t).frame 0 (truth (task_at w t).flag ∷ []); flag = false }) (born_alive w t d.alive))
follows-effect p w t Ret h d = follows-step p w t _ _ d refl (raises-end w t (task_at w t).frame (Success (operand (task_at w t).frame 0)) h.sound)
follows-effect p w t Fail h d = follows-step p w t _ _ d refl (raises-end w t (task_at w t).frame (Failed (operand (task_at w t).frame 0)) h.sound)
follows-effect p w t i h d = follows-step p w t _ _ d refl (raises-calm w _ (calm-frame w t _))

-- ---- events from outside, and those that do nothing

follows-interrupt : (p : Program) (w : World) (t : ℕ) → Follows p w (event.Interrupt t) (interrupt w t)
follows-interrupt p w t =
    let x : Task = record (task_at w t) { flag = true } in
    cond_both (lives (task_at w t)) (with_task w t x) w (λ (v : World). Follows p w (event.Interrupt t) v)
    (λ alive. set (with_task w t x) (puts-task w t x (born_alive w t alive)))
    (λ dead.
    follows-raises p w (event.Interrupt t) w (raises-calm w w (calm-refl w))
    (λ u is alive. let same : t ≡ u = cc in let never : true ≡ false = sym alive ∙ ap (λ n. lives (task_at w n)) (sym same) ∙ dead in cc)
    (λ u is. cc))
  where
    set : (v : World) → Puts w v t true → Follows p w (event.Interrupt t) v
    set v h =
        record {
          cancelled = λ s u c. let same = h.cancelled s in let never : true ≡ false = sym c.after ∙ same ∙ c.before in cc;
          interrupted = λ u is alive. let same : u ≡ t = cc in ap (λ n. (task_at v n).flag) same ∙ h.here;
          raised = λ u off on. raised u off on (u == t) refl;
          takes = λ u. record { taken = λ is. cc; cleared = λ on off. cleared_by u on off (u == t) refl };
        }
      where
        raised : (u : ℕ) → (task_at w u).flag ≡ false → (task_at v u).flag ≡ true → (b : Bool) → (u == t) ≡ b → (event.Interrupt t ≡ event.Interrupt u) ⊎ ((s : ℕ) × ((task_at w u).scope ≡ Some s) × IsCancelled w v s)
        raised u off on true e = let same : t ≡ u = grind (arith, nat_tests) in inl (ap event.Interrupt same)
        raised u off on false e = let never : true ≡ false = sym on ∙ h.others u (λ same. grind (arith, nat_tests)) ∙ off in cc

        cleared_by : (u : ℕ) → (task_at w u).flag ≡ true → (task_at v u).flag ≡ false → (b : Bool) → (u == t) ≡ b → is_taken p w (event.Interrupt t) u ≡ true
        cleared_by u on off true e = let same : u ≡ t = grind (arith, nat_tests) in let never : true ≡ false = sym h.here ∙ ap (λ n. (task_at v n).flag) (sym same) ∙ off in cc
        cleared_by u on off false e = let never : true ≡ false = sym on ∙ sym (h.others u (λ same. grind (arith, nat_tests))) ∙ off in cc

-- a step of a task that can't step
follows-nothing : (p : Program) (w : World) (t : ℕ) → can_step p w t ≡ false → Follows p w (event.Step t) w
follows-nothing p w t cannot = follows-raises p w (event.Step t) w (raises-calm w w (calm-refl w)) (λ u is. cc) never
  where
    never : (u : ℕ) → is_taken p w (event.Step t) u ≡ true → ⊥
    never u is =
        let k = step_taken p w t u is in
        let bad : true ≡ false = sym k.1.0 ∙ ap (λ n. can_step p w n) (sym k.0) ∙ cannot in
        cc

follows-leads : (p : Program) → LeadsBy p Right (λ w e v. Follows p w e v)
follows-leads p =
    record {
      nothing = λ w t h cannot. follows-nothing p w t cannot;
      effect = λ w t i h d. follows-effect p w t i h d;
      interrupt = λ w t h. follows-interrupt p w t;
      expire = λ w s h. follows-raises p w (event.Expire s) (expire w s) (raises-expire w s) (λ t is. cc) (λ t is. cc);
    }

-- ---- the laws

-- a law of each event, of what is said of it
law : (R : Program → World → Event → World → Type 0) → ((p : Program) (w : World) (e : Event) (v : World) → Follows p w e v → R p w e v) → Each R
law R from =
    each R
    (λ p.
    let l = follows-leads p in
    record {
      nothing = λ w t h e. from p w (event.Step t) w (l.nothing w t h e);
      effect = λ w t i h d. from p w (event.Step t) _ (l.effect w t i h d);
      interrupt = λ w t h. from p w (event.Interrupt t) _ (l.interrupt w t h);
      expire = λ w s h. from p w (event.Expire s) _ (l.expire w s h);
    })

pub cancel_interrupts : CancelInterrupts
cancel_interrupts = law _ (λ p w e v h. h.cancelled)

pub interrupt_sets_flag : InterruptSetsFlag
interrupt_sets_flag = law _ (λ p w e v h. h.interrupted)

pub flags_have_cause : FlagsHaveCause
flags_have_cause = law _ (λ p w e v h. h.raised)

pub flags_are_taken : FlagsAreTaken
flags_are_taken = law _ (λ p w e v h. h.takes)
