-- The place after each step, and that every task stays typed.
use Rattle.std.proofs.Common.{◌≡◌, ℕ, ◌<◌, inl, List, [], ◌∷◌, length, Bool, true, false, Option, Some, None, refl, sym, ◌∙◌, ap, subst, get_or, arith, not}
use Rattle.std.proofs.Common.{length-append, get_or-set_same}
use Rattle.std.specs.Prelude.{nat_lt}
use Rattle.std.proofs.lemmas.Bool.Decides.{nat_tests}
use Rattle.std.proofs.lemmas.List.{get_or_append_left}
use Rattle.std.proofs.Math.Seq.{get_or-append_seam}
use Rattle.std.proofs.lemmas.Bool.{not_from_true}
use Rattle.sts_code.specs.Checks.{program_fault}
use Rattle.sts_code.specs.Program.{Program, routine}
use Rattle.sts_code.specs.declared.instr.Instr.{Instr}
use Rattle.sts_code.specs.declared.instr.Instr.TheVariants.{Open, Fork, Join, Close, Cancelled, Case, Get, Except, Tally, Total, Bind, Unbind, Read, Bound}
use Rattle.sts_code.specs.declared.instr.Instr.TheVariants.{OrElse, Interrupted, Ret, Fail}
use Rattle.sts_code.specs.declared.instr.Joiner.{Joiner}
use Rattle.sts_model.specs.declared.record.Frame.{Frame}
use Rattle.sts_model.specs.declared.record.Scope.{Scope}
use Rattle.sts_model.specs.declared.record.Task.{Task}
use Rattle.sts_model.specs.declared.record.Slot.TheVariants as slots
use Rattle.sts_model.specs.World.{World, task_at, scope_at, no_task, no_scope, with_task, code}
use Rattle.sts_model.specs.Local.{local}
use Rattle.sts_model.specs.Living.{lives, parent, sub_state}
use Rattle.sts_model.specs.Environment.{environment_of}
use Rattle.sts_model.specs.Misuse.{slot, can_join, IsFine, joins_wrongly}
use Rattle.sts_rules.specs.TypeState.{TypeState}
use Rattle.sts_model.specs.Effect.{effect, named, open_scope, fork_task, subtask_of, forked}
use Rattle.laws_runs.proofs.ListLemmas.{at_set}
use Rattle.laws_runs.proofs.FrameLemmas.{own_slot, at_own-is}
use Rattle.laws_runs.proofs.EffectLemmas.{first_no}
use Rattle.laws_runs.proofs.SoundLemmas.{Sound}
use Rattle.laws_runs.proofs.BirthLemmas.{more_tasks, more_scopes, new_scope, opener, later-more_scopes, later-more_tasks, IsFresh, born_alive}
use Rattle.laws_runs.proofs.EventLemmas.{Also}
use Rattle.laws_accepted.specs.Typed.{Covers, AllTyped}
use Rattle.laws_accepted.proofs.Same.{Knows, Same, samescope-refl}
use Rattle.laws_accepted.proofs.TimelyLemmas.{Timely, also-orderly}
use Rattle.laws_accepted.proofs.Others.{knows-later}
use Rattle.laws_accepted.proofs.Stands.{Stands, Lands, lands-same}
use Rattle.laws_accepted.proofs.Keys.{covers-own}
use Rattle.laws_accepted.proofs.Checked.{instr_checked}
use Rattle.laws_accepted.proofs.FrameRows.{lands-reading, lands-case, lands-in_frame, lands-bind, lands-unbind, lands-orelse}
use Rattle.laws_accepted.proofs.BirthRows.{lands-open, lands-fork}
use Rattle.laws_accepted.proofs.JoinRows.{Landed, lands-join, at-join}
use Rattle.laws_accepted.proofs.CloseRows.{lands-close}

-- all that is known of a state of a run of the program
pub record Sure (p : Program) (w : World) : Type 0 where
  pub timely : Timely w
  pub typed : AllTyped p w

pub also-timely : (p : Program) (w : World) → Also (Sure p) w → Also Timely w
also-timely p w h = record { right = h.right; also = h.also.timely }

-- ---- the frame alone

parent-same : (w v : World) (o : Option ℕ) → v.scopes ≡ w.scopes → parent v o ≡ parent w o
parent-same w v None e = refl
parent-same w v (Some s) e = ap (λ (scopes : List Scope). get_or scopes s no_scope) e

-- if a task is written that keeps its scope, the same is known of subtasks
knows-task : (w : World) (t : ℕ) (x : Task) → x.scope ≡ (task_at w t).scope → Knows w (with_task w t x)
knows-task w t x same =
    record {
      task = λ u n e. at_set (λ (task : Task). task.scope ≡ Some n) w.tasks t u x no_task (λ d. same ∙ rw d at e) e;
      state = λ u end e.
          let scope : (task_at (with_task w t x) u).scope ≡ (task_at w u).scope = at_set (λ (task : Task). task.scope ≡ (task_at w u).scope) w.tasks t u x no_task (λ d. rw d same) refl in
          rw (scope, parent-same w (with_task w t x) (task_at w u).scope refl) e;
    }

same-task : (w : World) (t : ℕ) (x : Task) (f : Frame) → x.scope ≡ (task_at w t).scope → Same w (with_task w t x) f
same-task w t x f same = record { scope = λ y n e. samescope-refl (scope_at w n); knows = knows-task w t x same }

framed : (p : Program) (w m : World) (t : ℕ) (g : Frame) (flag : Bool) → t < length m.tasks → Lands p m (task_at w t).frame g → Lands p (with_task m t (record (task_at m t) { frame = g; flag = flag })) (task_at w t).frame (task_at (with_task m t (record (task_at m t) { frame = g; flag = flag })) t).frame
framed p w m t g flag alive h =
    let x : Task = record (task_at m t) { frame = g; flag = flag } in
    let v : World = with_task m t x in
    let frame : (task_at v t).frame ≡ g = ap (λ (y : Task). y.frame) (get_or-set_same m.tasks t x no_task alive) in
    subst (λ (y : Frame). Lands p v (task_at w t).frame y) (sym frame) (lands-same p m v (task_at w t).frame g (same-task m t x g refl) h)

-- ---- open and fork

-- the keys that are due are bound in the task's environment
pub covers-environment : (p : Program) (w : World) (t : ℕ) (s : TypeState) (i : Instr) → Stands p w (task_at w t).frame i s → Covers p (task_at w t).frame.function [] (parent w (task_at w t).scope).environment → Covers p (task_at w t).frame.function s.entries (environment_of (task_at w t) w)
covers-environment p w t s i st bound = covers-own p w (task_at w t).frame (task_at w t).frame.function (task_at w t).frame.entries s.entries (parent w (task_at w t).scope).environment st.fits.entries bound

in-range : (b : ℕ) → nat_lt 15 b ≡ false → b < 16
in-range b e = grind (arith, nat_tests)

landed-open : (p : Program) (w : World) (t x : ℕ) (joiner : Joiner) (timed : Bool) (s : TypeState) → Sound w → t < length w.tasks → Stands p w (task_at w t).frame (Open x timed joiner) s → Covers p (task_at w t).frame.function [] (parent w (task_at w t).scope).environment → x < 16 → Lands p (open_scope w t (task_at w t).frame x joiner timed) (task_at w t).frame (task_at (open_scope w t (task_at w t).frame x joiner timed) t).frame
unfolding open_scope
landed-open p w t x joiner timed s sound alive st bound less =
    let new : Scope = new_scope w t joiner timed in
    let m : World = more_scopes w new in
    let below : (y n : ℕ) → slot (task_at w t).frame y ≡ slots.Own n → n < length w.scopes = λ y n e. (sound.own t y n e).born in
    let same : Same w m (task_at w t).frame =
    record {
      scope = λ y n e. rw (get_or_append_left w.scopes (new ∷ []) no_scope n (below y n e)) (samescope-refl (scope_at w n));
      knows = knows-later w m (later-more_scopes w new);
    }
    in
    framed p w m t (opener w (task_at w t).frame x) (task_at w t).flag alive (lands-open p w t x joiner timed s st same (covers-environment p w t s (Open x timed joiner) st bound) less below)

fresh-child : (p : Program) (w : World) (f : Frame) (n a : ℕ) → IsFresh w (subtask_of p w f n a)
fresh-child p w f n a r inside cancelled = let same : n ≡ r = cc in not_from_true (scope_at w n).cancelled (rw same cancelled)

landed-fork : (p : Program) (w : World) (t x a n : ℕ) (h : Option ℕ) (s : TypeState) → t < length w.tasks → Stands p w (task_at w t).frame (Fork x a h) s → slot (task_at w t).frame x ≡ slots.Own n → Lands p (fork_task p w t (task_at w t).frame n a h) (task_at w t).frame (task_at (fork_task p w t (task_at w t).frame n a h) t).frame
unfolding fork_task
landed-fork p w t x a n h s alive st own =
    let child : Task = subtask_of p w (task_at w t).frame n a in
    let m : World = more_tasks w child in
    let there : task_at m (length w.tasks) ≡ child = get_or-append_seam w.tasks child [] no_task in
    let long = length-append w.tasks (child ∷ []) in
    let before : task_at m t ≡ task_at w t = get_or_append_left w.tasks (child ∷ []) no_task t alive in
    let same : Same w m (task_at w t).frame = record { scope = λ y r e. samescope-refl (scope_at w r); knows = knows-later w m (later-more_tasks w child (fresh-child p w (task_at w t).frame n a)) } in
    framed p w m t (forked (task_at w t).frame (routine p a).args h (length w.tasks)) (task_at m t).flag (omega (arith, long, alive)) (lands-fork p w m (task_at w t).frame x a n (length w.tasks) h s st same own (rw there refl))

-- ---- all instructions but `ret` and `fail`

abbrev pub is_end : Instr → Bool
is_end Ret = true
is_end Fail = true
is_end _ = false

pub landed : (p : Program) (w : World) (t : ℕ) (i : Instr) (s : TypeState) → program_fault p.routines ≡ None → Also (Sure p) w → lives (task_at w t) ≡ true → IsFine p w t (task_at w t).frame i → Stands p w (task_at w t).frame i s → Covers p (task_at w t).frame.function [] (parent w (task_at w t).scope).environment → is_end i ≡ false → Landed p w t (effect p w t (task_at w t).frame i)
landed p w t (Open x timed joiner) s checked h alive fine st bound e later = landed-open p w t x joiner timed s h.right.sound (born_alive w t alive) st bound (in-range x (first_no _ _ (instr_checked p (task_at w t).frame (Open x timed joiner) checked st.inside st.at).1))
landed p w t (Fork x a q) s checked h alive fine st bound e later =
    let f : Frame = (task_at w t).frame in
    let mine : slot f x ≡ slots.Own (named (slot f x)) = own_slot (slot f x) (first_no _ _ (first_no _ _ fine.slots)) fine.own in
    landed-fork p w t x a (named (slot f x)) q s (born_alive w t alive) st mine
landed p w t (Join x failed timeout interrupted) s checked h alive fine st bound e later =
    let f : Frame = (task_at w t).frame in
    let n : ℕ = named (slot f x) in
    let mine : slot f x ≡ slots.Own n = own_slot (slot f x) (first_no _ _ (first_no _ _ fine.slots)) fine.own in
    let legal : not (can_join (scope_at w n).phase) ≡ false = sym (at_own-is w (slot f x) (λ r scope. not (can_join scope.phase)) mine) ∙ fine.legal in
    let right : joins_wrongly f failed timeout (scope_at w n) ≡ false = sym (at_own-is w (slot f x) (λ r scope. joins_wrongly f failed timeout scope) mine) ∙ fine.joins in
    lands-join p w t x n failed timeout interrupted s (at-join p w t x n failed timeout interrupted s (also-orderly w (also-timely p w h)) (h.also.timely.timely n) (born_alive w t alive) st mine legal right) later
landed p w t (Close x) s checked h alive fine st bound e later =
    let f : Frame = (task_at w t).frame in
    let n : ℕ = named (slot f x) in
    let mine : slot f x ≡ slots.Own n = own_slot (slot f x) (first_no _ _ (first_no _ _ fine.slots)) fine.own in
    lands-close p w t x n s (record { stands = st; own = mine; born = (h.right.sound.own t x n mine).born; alive = born_alive w t alive }) later
landed p w t (Cancelled x) s checked h alive fine st bound e later = framed p w w t _ (task_at w t).flag (born_alive w t alive) (lands-reading p w (task_at w t).frame (Cancelled x) s _ st (λ y. refl) (inl (refl, refl)))
landed p w t (Get x) s checked h alive fine st bound e later = framed p w w t _ (task_at w t).flag (born_alive w t alive) (lands-reading p w (task_at w t).frame (Get x) s _ st (λ y. refl) (inl (refl, refl)))
landed p w t (Except x) s checked h alive fine st bound e later = framed p w w t _ (task_at w t).flag (born_alive w t alive) (lands-reading p w (task_at w t).frame (Except x) s _ st (λ y. refl) (inl (refl, refl)))
landed p w t (Tally x k) s checked h alive fine st bound e later = framed p w w t _ (task_at w t).flag (born_alive w t alive) (lands-reading p w (task_at w t).frame (Tally x k) s _ st (λ y. refl) (inl (refl, refl)))
landed p w t (Total x) s checked h alive fine st bound e later = framed p w w t _ (task_at w t).flag (born_alive w t alive) (lands-reading p w (task_at w t).frame (Total x) s _ st (λ y. refl) (inl (refl, refl)))
landed p w t (Read k) s checked h alive fine st bound e later = framed p w w t _ (task_at w t).flag (born_alive w t alive) (lands-reading p w (task_at w t).frame (Read k) s _ st (λ y. refl) (inl (refl, refl)))
landed p w t (Bound k) s checked h alive fine st bound e later = framed p w w t _ (task_at w t).flag (born_alive w t alive) (lands-reading p w (task_at w t).frame (Bound k) s _ st (λ y. refl) (inl (refl, refl)))
landed p w t Interrupted s checked h alive fine st bound e later = framed p w w t _ false (born_alive w t alive) (lands-reading p w (task_at w t).frame Interrupted s _ st (λ y. refl) (inl (refl, refl)))
landed p w t (Case x success failed) s checked h alive fine st bound e later = framed p w w t _ (task_at w t).flag (born_alive w t alive) (lands-case p w (task_at w t).frame x success failed s st (sub_state w (named (slot (task_at w t).frame x))) refl)
landed p w t (Bind k) s checked h alive fine st bound e later = framed p w w t _ (task_at w t).flag (born_alive w t alive) (lands-bind p w (task_at w t).frame k s st)
landed p w t Unbind s checked h alive fine st bound e later = framed p w w t _ (task_at w t).flag (born_alive w t alive) (lands-unbind p w (task_at w t).frame s st)
landed p w t (OrElse k) s checked h alive fine st bound e later = framed p w w t _ (task_at w t).flag (born_alive w t alive) (lands-orelse p w (task_at w t).frame k s _ st)
landed p w t Ret s checked h alive fine st bound e later = cc
landed p w t Fail s checked h alive fine st bound e later = cc
landed p w t i s checked h alive fine st bound e later = framed p w w t (local (code p (task_at w t).frame) i (task_at w t).frame) (task_at w t).flag (born_alive w t alive) (lands-in_frame p w (task_at w t).frame i s st refl)
