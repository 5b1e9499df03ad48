-- The scopes in structure lists: each belongs to the task, isn't closed, and occurs once.
use Rattle.std.proofs.Common.{◌≡◌, ℕ, ◌+◌, ◌≤◌, List, [], ◌∷◌, Bool, true, false, Option, Some, None, refl, arith, cond, drop, ◌||◌, not, unwrap_or}
use Rattle.std.specs.Prelude.{nat_le, count_by}
use Rattle.std.specs.List.{list_any}
use Rattle.std.proofs.lemmas.Bool.{cond_both}
use Rattle.std.proofs.lemmas.List.Sums.{sum_by-cons}
use Rattle.sts_code.specs.Program.{Program}
use Rattle.sts_code.specs.declared.instr.Instr.{Instr}
use Rattle.sts_code.specs.declared.instr.Instr.TheVariants.{Push, Div, Times, Next, Open, Fork, Join, Close, Bind, Unbind, Ret, Fail}
use Rattle.sts_model.specs.declared.event.End.{End}
use Rattle.sts_model.specs.declared.event.End.TheVariants.{Success, Failed}
use Rattle.sts_model.specs.declared.event.Phase.{Phase}
use Rattle.sts_model.specs.declared.event.Phase.TheVariants.{Attempted, Joined}
use Rattle.sts_model.specs.declared.event.Verdict.{Verdict}
use Rattle.sts_model.specs.declared.event.Verdict.TheVariants as verdict
use Rattle.sts_model.specs.declared.record.Entry.{Entry}
use Rattle.sts_model.specs.declared.record.Entry.TheVariants as entry
use Rattle.sts_model.specs.declared.record.Frame.{Frame}
use Rattle.sts_model.specs.declared.record.Loop.{Loop}
use Rattle.sts_model.specs.declared.record.Task.{Task}
use Rattle.sts_model.specs.declared.record.Scope.{Scope}
use Rattle.sts_model.specs.World.{World, task_at, scope_at, no_task, no_scope, code, with_task, with_scope, with_frame}
use Rattle.sts_model.specs.Local.{local, turns, operand, goes, steps}
use Rattle.sts_model.specs.Joining.{cancels, result_of}
use Rattle.sts_model.specs.Living.{lives, any_lives, is_closed, ends, subtask_count}
use Rattle.sts_model.specs.Cancelling.{raised, marked, cancel}
use Rattle.sts_model.specs.Misuse.{slot, is_entry_of}
use Rattle.sts_model.specs.Effect.{effect, named, with_phase, join_verdict, join_scope, told, decide, tell, ended, end_task}
use Rattle.sts_model.specs.Outside.{interrupt, can_expire, expire}
use Rattle.laws_runs.proofs.ListLemmas.{at_set}
use Rattle.laws_runs.proofs.KeptLemmas.{at_raised}

-- the entries hold the scope; how often
abbrev pub Has : ℕ → List Entry → Type 0
Has s es = list_any (is_entry_of s) es ≡ true

abbrev pub times_in : ℕ → List Entry → ℕ
times_in s es = count_by (is_entry_of s) es

-- no scope is entered or closed
pub record Enters (w v : World) : Type 0 where
  pub entry : (u s : ℕ) → Has s (task_at v u).frame.entries → Has s (task_at w u).frame.entries
  pub once : (u s : ℕ) → times_in s (task_at v u).frame.entries ≤ times_in s (task_at w u).frame.entries
  pub closes : (s : ℕ) → is_closed (scope_at v s).phase ≡ true → is_closed (scope_at w s).phase ≡ true

pub enters-refl : (w : World) → Enters w w
enters-refl w = record { entry = λ u s e. e; once = λ u s. omega arith; closes = λ s e. e }

pub enters-trans : (w v x : World) → Enters w v → Enters v x → Enters w x
enters-trans w v x h k =
    record {
      entry = λ u s e. h.entry u s (k.entry u s e);
      once = λ u s. let a = h.once u s in let b = k.once u s in omega (arith, a, b);
      closes = λ s e. h.closes s (k.closes s e);
    }

-- fewer entries of scopes
pub record Drops (f g : Frame) : Type 0 where
  pub entry : (s : ℕ) → Has s g.entries → Has s f.entries
  pub once : (s : ℕ) → times_in s g.entries ≤ times_in s f.entries

pub drops-same : (f g : Frame) → g.entries ≡ f.entries → Drops f g
drops-same f g e = record { entry = λ s h. rw (← e) h; once = λ s. rw e (omega arith) }

pub enters-task : (w : World) (t : ℕ) (x : Task) → Drops (task_at w t).frame x.frame → Enters w (with_task w t x)
enters-task w t x d =
    record {
      entry = λ u s. at_set (λ (task : Task). Has s task.frame.entries → Has s (task_at w u).frame.entries) w.tasks t u x no_task (λ e. rw e (d.entry s)) (λ h. h);
      once = λ u s. at_set (λ (task : Task). times_in s task.frame.entries ≤ times_in s (task_at w u).frame.entries) w.tasks t u x no_task (λ e. rw e (d.once s)) (omega arith);
      closes = λ s e. e;
    }

pub enters-scope : (w : World) (s : ℕ) (x : Scope) → (is_closed x.phase ≡ true → is_closed (scope_at w s).phase ≡ true) → Enters w (with_scope w s x)
enters-scope w s x closes =
    record {
      entry = λ u r e. e;
      once = λ u r. omega arith;
      closes = λ r. at_set (λ (scope : Scope). is_closed scope.phase ≡ true → is_closed (scope_at w r).phase ≡ true) w.scopes s r x no_scope (λ e. rw e closes) (λ h. h);
    }

pub enters-raised : (w : World) (s : ℕ) → Enters w (record w { tasks = raised s w.tasks })
enters-raised w s =
    record {
      entry = λ u r. at_raised (λ (task : Task). Has r task.frame.entries → Has r (task_at w u).frame.entries) s w.tasks u (λ h. h) (λ h. h);
      once = λ u r. at_raised (λ (task : Task). times_in r task.frame.entries ≤ times_in r (task_at w u).frame.entries) s w.tasks u (omega arith) (omega arith);
      closes = λ r e. e;
    }

pub enters-cancel : (w : World) (s : ℕ) → Enters w (cancel w s)
enters-cancel w s =
    cond_both (scope_at w s).cancelled w (marked w s) (λ (v : World). Enters w v)
    (λ e. enters-refl w)
    (λ e. enters-trans w (record w { tasks = raised s w.tasks }) (marked w s) (enters-raised w s)
    (enters-scope (record w { tasks = raised s w.tasks }) s (record (scope_at w s) { cancelled = true }) (λ h. h)))

-- ---- frames

pub same-turns : (f : Frame) (ls : List Loop) → (turns f ls).entries ≡ f.entries
same-turns f [] = refl
same-turns f (l ∷ ls) = cond_both (nat_le l.left 1) _ _ (λ (g : Frame). g.entries ≡ f.entries) (λ e. refl) (λ e. refl)

pub same-local : (is : List Instr) (i : Instr) (f : Frame) → (local is i f).entries ≡ f.entries
same-local is (Div to) f = cond_both _ _ _ (λ (g : Frame). g.entries ≡ f.entries) (λ e. refl) (λ e. refl)
same-local is (Times n) f = cond_both _ _ _ (λ (g : Frame). g.entries ≡ f.entries) (λ e. refl) (λ e. refl)
same-local is Next f = same-turns f f.loops
same-local is _ f = refl

pub any-drop : (es : List Entry) (s : ℕ) → Has s (drop 1 es) → Has s es
any-drop [] s h = h
any-drop (x ∷ es) s h = later (is_entry_of s x) h
  where
    later : (b : Bool) → list_any (is_entry_of s) es ≡ true → (b || list_any (is_entry_of s) es) ≡ true
    later true h = refl
    later false h = h

pub times-cons : (x : Entry) (es : List Entry) (s : ℕ) → times_in s (x ∷ es) ≡ cond (is_entry_of s x) 1 0 + times_in s es
times-cons x es s = sum_by-cons (λ (y : Entry). cond (is_entry_of s y) 1 0) x es

pub times-drop : (es : List Entry) (s : ℕ) → times_in s (drop 1 es) ≤ times_in s es
times-drop [] s = omega arith
times-drop (x ∷ es) s = let h = times-cons x es s in omega (arith, h)

pub drops-first : (f : Frame) → Drops f (record (steps f 0 []) { entries = drop 1 f.entries })
drops-first f = record { entry = λ s h. any-drop f.entries s h; once = λ s. times-drop f.entries s }

pub drops-bind : (f : Frame) (k : ℕ) → Drops f (record (steps f 1 []) { entries = entry.Binding k (operand f 0) ∷ f.entries })
drops-bind f k = record { entry = λ s h. h; once = λ s. let h = times-cons (entry.Binding k (operand f 0)) f.entries s in omega (arith, h) }

-- ---- effects

enters-frame : (w : World) (t : ℕ) (f : Frame) → Drops (task_at w t).frame f → Enters w (with_frame w t f)
enters-frame w t f d = enters-task w t (record (task_at w t) { frame = f }) d

-- a phase that isn't Closed, and then the task goes on
enters-going : (w : World) (t s : ℕ) (phase : Phase) (f : Frame) (flag : Bool) → is_closed phase ≡ false → f.entries ≡ (task_at w t).frame.entries → Enters w (with_task (with_phase w s phase) t (record (task_at w t) { frame = f; flag = flag }))
enters-going w t s phase f flag still same =
    enters-trans w (with_phase w s phase) _ (enters-scope w s (record (scope_at w s) { phase = phase }) (λ e. cc))
    (enters-task (with_phase w s phase) t (record (task_at w t) { frame = f; flag = flag }) (drops-same (task_at w t).frame f same))

enters-verdict : (v : Verdict) (w : World) (t s failed : ℕ) → Enters w (join_verdict v w t s (task_at w t).frame failed)
enters-verdict (verdict.Ok None) w t s failed = enters-going w t s Joined (steps (task_at w t).frame 0 []) (task_at w t).flag refl refl
enters-verdict (verdict.Ok (Some x)) w t s failed = enters-going w t s Joined (steps (task_at w t).frame 0 (x ∷ [])) (task_at w t).flag refl refl
enters-verdict (verdict.Failed c) w t s failed = enters-going w t s Joined (goes (task_at w t).frame failed 0 (c ∷ [])) (task_at w t).flag refl refl

enters-join : (w : World) (t s failed timeout interrupted : ℕ) → Enters w (join_scope w t (task_at w t).frame s failed timeout interrupted)
unfolding join_scope
enters-join w t s failed timeout interrupted =
    cond_both (scope_at w s).expired _ _ (λ (v : World). Enters w v)
    (λ e. enters-going w t s Joined (goes (task_at w t).frame timeout 0 []) (task_at w t).flag refl refl)
    (λ e.
    cond_both ((scope_at w s).cancelled || not (any_lives w s)) _ _ (λ (v : World). Enters w v)
    (λ h. enters-verdict (result_of (scope_at w s).joiner (ends (scope_at w s)) (subtask_count w s)) w t s failed)
    (λ h. enters-going w t s Attempted (goes (task_at w t).frame interrupted 0 []) false refl refl))

enters-decide : (w : World) (s : ℕ) → Enters w (decide w s)
enters-decide w s = cond_both (cancels (scope_at w s).joiner (ends (scope_at w s))) (cancel w s) w (λ (v : World). Enters w v) (λ e. enters-cancel w s) (λ e. enters-refl w)

-- a fact of a world, also once a joiner has got an end and decided, is one after each end that is
-- reported
pub tell_both : (w : World) (t : ℕ) (o : Option ℕ) (end : End) (P : World → Type 0) → P w → ((s : ℕ) → P (decide (with_scope w s (told (scope_at w s) t end)) s)) → P (tell w t o end)
tell_both w t None end P none some = none
tell_both w t (Some s) end P none some =
    cond_both (scope_at w s).cancelled w (decide (with_scope w s (told (scope_at w s) t end)) s) P (λ e. none) (λ e. some s)

enters-tell : (w : World) (t : ℕ) (o : Option ℕ) (end : End) → Enters w (tell w t o end)
enters-tell w t o end =
    tell_both w t o end (λ (x : World). Enters w x) (enters-refl w)
    (λ s.
    let v : World = with_scope w s (told (scope_at w s) t end) in
    enters-trans w v (decide v s) (enters-scope w s (told (scope_at w s) t end) (λ h. h)) (enters-decide v s))

pub enters-end : (w : World) (t : ℕ) (end : End) → Enters w (end_task w t (task_at w t).frame end)
unfolding end_task
enters-end w t end =
    let v : World = ended w t (task_at w t).frame end in
    enters-trans w v (tell v t (task_at w t).scope end)
    (enters-task w t (record (task_at w t) { frame = steps (task_at w t).frame 1 []; outcome = Some end }) (drops-same (task_at w t).frame (steps (task_at w t).frame 1 []) refl))
    (enters-tell v t (task_at w t).scope end)

pub enters-interrupt : (w : World) (t : ℕ) → Enters w (interrupt w t)
enters-interrupt w t =
    cond_both (lives (task_at w t)) _ w (λ (v : World). Enters w v)
    (λ e. enters-task w t (record (task_at w t) { flag = true }) (drops-same (task_at w t).frame (task_at w t).frame refl))
    (λ e. enters-refl w)

pub enters-expire : (w : World) (s : ℕ) → Enters w (expire w s)
enters-expire w s =
    let v : World = with_scope w s (record (scope_at w s) { expired = true }) in
    cond_both (can_expire (scope_at w s)) (cancel v s) w (λ (x : World). Enters w x)
    (λ e. enters-trans w v (cancel v s) (enters-scope w s (record (scope_at w s) { expired = true }) (λ h. h)) (enters-cancel v s))
    (λ e. enters-refl w)

-- does the instruction enter or close a scope?
abbrev pub changes_entries : Instr → Bool
changes_entries (Open s timed joiner) = true
changes_entries (Fork s g h) = true
changes_entries (Close s) = true
changes_entries _ = false

pub enters-effect : (p : Program) (w : World) (t : ℕ) (i : Instr) → changes_entries i ≡ false → Enters w (effect p w t (task_at w t).frame i)
enters-effect p w t (Open s timed joiner) e = cc
enters-effect p w t (Fork s g h) e = cc
enters-effect p w t (Close s) e = cc
enters-effect p w t (Join x failed timeout interrupted) e = enters-join w t (named (slot (task_at w t).frame x)) (unwrap_or failed 0) (unwrap_or timeout 0) interrupted
enters-effect p w t Ret e = enters-end w t (Success (operand (task_at w t).frame 0))
enters-effect p w t Fail e = enters-end w t (Failed (operand (task_at w t).frame 0))
enters-effect p w t (Bind k) e = enters-frame w t _ (drops-bind (task_at w t).frame k)
enters-effect p w t Unbind e = enters-frame w t _ (drops-first (task_at w t).frame)
enters-effect p w t (Push k) e = enters-frame w t _ (drops-same (task_at w t).frame _ (same-local (code p (task_at w t).frame) (Push k) (task_at w t).frame))
enters-effect p w t (Div to) e = enters-frame w t _ (drops-same (task_at w t).frame (local (code p (task_at w t).frame) (Div to) (task_at w t).frame) (same-local (code p (task_at w t).frame) (Div to) (task_at w t).frame))
enters-effect p w t (Times n) e = enters-frame w t _ (drops-same (task_at w t).frame (local (code p (task_at w t).frame) (Times n) (task_at w t).frame) (same-local (code p (task_at w t).frame) (Times n) (task_at w t).frame))
enters-effect p w t Next e = enters-frame w t _ (drops-same (task_at w t).frame (local (code p (task_at w t).frame) Next (task_at w t).frame) (same-local (code p (task_at w t).frame) Next (task_at w t).frame))
enters-effect p w t _ e = enters-task w t _ (record { entry = λ s h. h; once = λ s. omega arith })
