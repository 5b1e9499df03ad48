-- While the close of a scope waits, its owner is at this `close`.
use Rattle.std.proofs.Common.{◌≡◌, ℕ, suc, ◌<◌, ◌≤◌, [], ◌∷◌, Bool, true, false, Option, Some, None, refl, sym, ◌∙◌, ap, subst, length, arith, nat_eq, not}
use Rattle.std.proofs.Common.{◌||◌, unwrap_or, cond, drop, length-set, length-append, get_or-set_same, get_or-set_other}
use Rattle.std.proofs.lemmas.Bool.{cond_both}
use Rattle.std.proofs.lemmas.Bool.Decides.{nat_tests}
use Rattle.std.proofs.lemmas.List.{length-map, get_or_append_left}
use Rattle.sts_code.specs.Program.{Program, routine}
use Rattle.sts_code.specs.declared.instr.Instr.{Instr}
use Rattle.sts_code.specs.declared.instr.Instr.TheVariants.{Open, Fork, Join, Close, Ret, Fail}
use Rattle.sts_code.specs.declared.instr.Joiner.{Joiner}
use Rattle.sts_model.specs.declared.event.End.{End}
use Rattle.sts_model.specs.declared.event.End.TheVariants.{Success, Failed}
use Rattle.sts_model.specs.declared.event.Phase.TheVariants.{Attempted, Joined, Closing, Closed}
use Rattle.sts_model.specs.declared.event.Verdict.{Verdict}
use Rattle.sts_model.specs.declared.event.Verdict.TheVariants as verdict
use Rattle.sts_model.specs.declared.record.Frame.{Frame}
use Rattle.sts_model.specs.declared.record.Task.{Task}
use Rattle.sts_model.specs.declared.record.Scope.{Scope}
use Rattle.sts_model.specs.declared.record.Slot.TheVariants as slots
use Rattle.sts_model.specs.World.{World, task_at, scope_at, no_task, no_scope, with_task, instr_at, with_scope, with_frame}
use Rattle.sts_model.specs.Local.{goes, steps, operand}
use Rattle.sts_model.specs.Living.{lives, any_lives, ends, subtask_count, is_closed}
use Rattle.sts_model.specs.Joining.{cancels, result_of}
use Rattle.sts_model.specs.Cancelling.{raised, marked, cancel}
use Rattle.sts_model.specs.Misuse.{slot}
use Rattle.sts_model.specs.Waiting.{is_closing}
use Rattle.sts_model.specs.Effect.{effect, named, with_phase, joined, join_verdict, join_scope, close_scope, cleared, told, decide, tell, ended, end_task}
use Rattle.sts_model.specs.Effect.{open_scope, fork_task, subtask_of, forked}
use Rattle.sts_model.specs.Effect as def
use Rattle.sts_model.specs.Outside.{interrupt, can_expire, expire}
use Rattle.laws_runs.specs.Runs.{Does, Leads}
use Rattle.laws_runs.proofs.ListLemmas.{at_set, at_more, within}
use Rattle.laws_runs.proofs.KeptLemmas.{at_raised}
use Rattle.laws_runs.proofs.FrameLemmas.{own_slot}
use Rattle.laws_runs.proofs.EffectLemmas.{first_no, frame-cancel}
use Rattle.laws_runs.proofs.BirthLemmas.{more_tasks, more_scopes, new_scope, opener, born_alive}
use Rattle.laws_runs.proofs.SoundLemmas.{Sound}
use Rattle.laws_runs.proofs.StillLemmas.{still-cancel}
use Rattle.laws_runs.proofs.EventLemmas.{Right, Next, Also, also-after, ever-from}
use Rattle.ends_faults.specs.Closing.{IsAtClose, ClosesAreWaitedFor, ClosingIsAtClose}

-- A step of t leaves the frames of the others, and begins no close.
record Calm (w v : World) (t : ℕ) : Type 0 where
  tasks : length w.tasks ≤ length v.tasks
  frame : (u : ℕ) → u < length w.tasks → (u ≡ t → ⊥) → (task_at v u).frame ≡ (task_at w u).frame
  phase : (s : ℕ) → (scope_at v s).phase ≡ Closing → (scope_at w s).phase ≡ Closing

calm-refl : (w : World) (t : ℕ) → Calm w w t
calm-refl w t = record { tasks = omega arith; frame = λ u less other. refl; phase = λ s e. e }

calm-trans : (w v x : World) (t : ℕ) → Calm w v t → Calm v x t → Calm w x t
calm-trans w v x t h k =
    let a = h.tasks in
    let b = k.tasks in
    record {
      tasks = omega (arith, a, b);
      frame = λ u less other. k.frame u (omega (arith, a, less)) other ∙ h.frame u less other;
      phase = λ s e. h.phase s (k.phase s e);
    }

-- ---- building blocks

calm-task : (w : World) (t q : ℕ) (x : Task) → ((q ≡ t → ⊥) → x.frame ≡ (task_at w q).frame) → Calm w (with_task w q x) t
calm-task w t q x same =
    let n = length-set w.tasks q x in
    record {
      tasks = omega (arith, n);
      frame = λ u less other. at_set (λ (task : Task). task.frame ≡ (task_at w u).frame) w.tasks q u x no_task (λ e. rw e (same (λ d. other (e ∙ d)))) refl;
      phase = λ s e. e;
    }

calm-frame : (w : World) (t : ℕ) (f : Frame) → Calm w (with_frame w t f) t
calm-frame w t f = calm-task w t t (record (task_at w t) { frame = f }) (λ other. absurd (other refl))

calm-scope : (w : World) (t s : ℕ) (x : Scope) → (x.phase ≡ Closing → (scope_at w s).phase ≡ Closing) → Calm w (with_scope w s x) t
calm-scope w t s x phase =
    record {
      tasks = omega arith;
      frame = λ u less other. refl;
      phase = λ r. at_set (λ (scope : Scope). scope.phase ≡ Closing → (scope_at w r).phase ≡ Closing) w.scopes s r x no_scope (λ e. rw e phase) (λ e. e);
    }

calm-raised : (w : World) (t s : ℕ) → Calm w (record w { tasks = raised s w.tasks }) t
calm-raised w t s =
    let n : length (raised s w.tasks) ≡ length w.tasks = length-map w.tasks _ in
    record {
      tasks = omega (arith, n);
      frame = λ u less other. at_raised (λ (task : Task). task.frame ≡ (task_at w u).frame) s w.tasks u refl refl;
      phase = λ r e. e;
    }

calm-cancel : (w : World) (t s : ℕ) → Calm w (cancel w s) t
calm-cancel w t s =
    let v : World = record w { tasks = raised s w.tasks } in
    cond_both (scope_at w s).cancelled w (marked w s) (λ (x : World). Calm w x t)
    (λ e. calm-refl w t)
    (λ e. calm-trans w v (marked w s) t (calm-raised w t s) (calm-scope v t s (record (scope_at w s) { cancelled = true }) (λ d. d)))

calm-more_tasks : (w : World) (t : ℕ) (x : Task) → Calm w (more_tasks w x) t
calm-more_tasks w t x =
    let n = length-append w.tasks (x ∷ []) in
    record {
      tasks = omega (arith, n);
      frame = λ u less other. rw (get_or_append_left w.tasks (x ∷ []) no_task u less) refl;
      phase = λ s e. e;
    }

calm-more_scopes : (w : World) (t : ℕ) (x : Scope) → (x.phase ≡ Closing → ⊥) → Calm w (more_scopes w x) t
calm-more_scopes w t x fresh =
    record {
      tasks = omega arith;
      frame = λ u less other. refl;
      phase = λ s. at_more (λ (scope : Scope). scope.phase ≡ Closing → (scope_at w s).phase ≡ Closing) w.scopes x s no_scope (λ e d. absurd (fresh d)) (λ d. d);
    }

-- ---- effects

calm-joined : (w : World) (t s : ℕ) (f : Frame) → Calm w (joined w t s f) t
calm-joined w t s f = calm-trans w (with_phase w s Joined) _ t (calm-scope w t s (record (scope_at w s) { phase = Joined }) (λ e. cc)) (calm-frame (with_phase w s Joined) t f)

calm-verdict : (v : Verdict) (w : World) (t s : ℕ) (f : Frame) (failed : ℕ) → Calm w (join_verdict v w t s f failed) t
calm-verdict (verdict.Ok None) w t s f failed = calm-joined w t s (steps f 0 [])
calm-verdict (verdict.Ok (Some x)) w t s f failed = calm-joined w t s (steps f 0 (x ∷ []))
calm-verdict (verdict.Failed c) w t s f failed = calm-joined w t s (goes f failed 0 (c ∷ []))

calm-join : (w : World) (t s : ℕ) (f : Frame) (failed timeout interrupted : ℕ) → Calm w (join_scope w t f s failed timeout interrupted) t
unfolding join_scope
calm-join w t s f failed timeout interrupted =
    cond_both (scope_at w s).expired _ _ (λ (v : World). Calm w v t)
    (λ e. calm-joined w t s (goes f timeout 0 []))
    (λ e.
    cond_both ((scope_at w s).cancelled || not (any_lives w s)) _ _ (λ (v : World). Calm w v t)
    (λ h. calm-verdict (result_of (scope_at w s).joiner (ends (scope_at w s)) (subtask_count w s)) w t s f failed)
    (λ h.
    calm-trans w (with_phase w s Attempted) _ t (calm-scope w t s (record (scope_at w s) { phase = Attempted }) (λ d. cc))
    (calm-task (with_phase w s Attempted) t t (record (task_at w t) { frame = goes f interrupted 0 []; flag = false }) (λ other. absurd (other refl)))))

calm-decide : (w : World) (t s : ℕ) → Calm w (decide w s) t
calm-decide w t s = cond_both (cancels (scope_at w s).joiner (ends (scope_at w s))) (cancel w s) w (λ (v : World). Calm w v t) (λ e. calm-cancel w t s) (λ e. calm-refl w t)

calm-tell : (w : World) (t u : ℕ) (q : Option ℕ) (end : End) → Calm w (tell w u q end) t
calm-tell w t u None end = calm-refl w t
calm-tell w t u (Some s) end =
    let v : World = with_scope w s (told (scope_at w s) u end) in
    cond_both (scope_at w s).cancelled w (decide v s) (λ (x : World). Calm w x t)
    (λ e. calm-refl w t)
    (λ e. calm-trans w v (decide v s) t (calm-scope w t s (told (scope_at w s) u end) (λ d. d)) (calm-decide v t s))

calm-end : (w : World) (t : ℕ) (f : Frame) (end : End) → Calm w (end_task w t f end) t
unfolding end_task
calm-end w t f end =
    let v : World = ended w t f end in
    calm-trans w v (tell v t (task_at w t).scope end) t
    (calm-task w t t (record (task_at w t) { frame = steps f 1 []; outcome = Some end }) (λ other. absurd (other refl)))
    (calm-tell v t t (task_at w t).scope end)

calm-open : (w : World) (t x : ℕ) (joiner : Joiner) (timed : Bool) → Calm w (open_scope w t (task_at w t).frame x joiner timed) t
unfolding open_scope
calm-open w t x joiner timed =
    let v : World = more_scopes w (new_scope w t joiner timed) in
    calm-trans w v _ t (calm-more_scopes w t (new_scope w t joiner timed) (λ e. cc)) (calm-frame v t (opener w (task_at w t).frame x))

calm-fork : (p : Program) (w : World) (t s g : ℕ) (h : Option ℕ) → Calm w (fork_task p w t (task_at w t).frame s g h) t
unfolding fork_task
calm-fork p w t s g h =
    let v : World = more_tasks w (subtask_of p w (task_at w t).frame s g) in
    calm-trans w v _ t (calm-more_tasks w t (subtask_of p w (task_at w t).frame s g)) (calm-frame v t (forked (task_at w t).frame (routine p g).args h (length w.tasks)))

calm-interrupt : (w : World) (t u : ℕ) → Calm w (interrupt w u) t
calm-interrupt w t u =
    cond_both (lives (task_at w u)) _ w (λ (v : World). Calm w v t)
    (λ e. calm-task w t u (record (task_at w u) { flag = true }) (λ other. refl))
    (λ e. calm-refl w t)

calm-expire : (w : World) (t s : ℕ) → Calm w (expire w s) t
calm-expire w t s =
    let x : Scope = record (scope_at w s) { expired = true } in
    let v : World = with_scope w s x in
    cond_both (can_expire (scope_at w s)) (cancel v s) w (λ (y : World). Calm w y t)
    (λ e. calm-trans w v (cancel v s) t (calm-scope w t s x (λ d. d)) (calm-cancel v t s))
    (λ e. calm-refl w t)

-- ---- one event

-- a scope whose close waits was born
waits_born : (w : World) (s : ℕ) → (scope_at w s).phase ≡ Closing → s < length w.scopes
waits_born w s e = within (λ (scope : Scope). is_closing scope.phase) w.scopes s no_scope refl (ap is_closing e)

-- and its owner was born
owner_born : (w : World) → Sound w → (s : ℕ) → (scope_at w s).phase ≡ Closing → (scope_at w s).owner < length w.tasks
owner_born w o s e = born_alive w (scope_at w s).owner (o.held s (waits_born w s e) (ap is_closed e)).alive

-- the owner has the same frame
moved_close : (p : Program) (w v : World) (s : ℕ) → (scope_at v s).owner ≡ (scope_at w s).owner → (task_at v (scope_at w s).owner).frame ≡ (task_at w (scope_at w s).owner).frame → IsAtClose p w s → IsAtClose p v s
moved_close p w v s owner same h =
    let frame : (task_at v (scope_at v s).owner).frame ≡ (task_at w (scope_at w s).owner).frame = ap (λ o. (task_at v o).frame) owner ∙ same in
    record {
      x = h.x;
      at = ap (instr_at p) frame ∙ h.at;
      holds = ap (λ (f : Frame). slot f h.x) frame ∙ h.holds;
    }

-- is it a `close`?
abbrev pub is_close : Instr → Bool
is_close (Close x) = true
is_close i = false

same_owner : (w v : World) → Next w v → (s : ℕ) → (scope_at w s).phase ≡ Closing → (scope_at v s).owner ≡ (scope_at w s).owner
same_owner w v n s e = (n.later.scope s (waits_born w s e)).same.owner

-- an event from outside
outside : (p : Program) (w v : World) → Right w → ClosesAreWaitedFor p w → ((t : ℕ) → Calm w v t) → Next w v → ClosesAreWaitedFor p v
outside p w v o h calm n s e =
    let o2 : ℕ = (scope_at w s).owner in
    let c = calm (suc o2) in
    let before = c.phase s e in
    moved_close p w v s (same_owner w v n s before) (c.frame o2 (owner_born w o.sound s before) (λ d. absurd (omega (arith, d)))) (h s before)

-- an instruction that is no `close`
other_instr : (p : Program) (w v : World) (t : ℕ) (i : Instr) → Right w → ClosesAreWaitedFor p w → instr_at p (task_at w t).frame ≡ Some i → is_close i ≡ false → Calm w v t → Next w v → ClosesAreWaitedFor p v
other_instr p w v t i o h at other c n s e = by (nat_eq (scope_at w s).owner t) refl (c.phase s e)
  where
    by : (b : Bool) → nat_eq (scope_at w s).owner t ≡ b → (scope_at w s).phase ≡ Closing → IsAtClose p v s
    by false d before = moved_close p w v s (same_owner w v n s before) (c.frame (scope_at w s).owner (owner_born w o.sound s before) (grind (arith, nat_tests))) (h s before)
    by true d before =
        let same : (scope_at w s).owner ≡ t = grind (arith, nat_tests) in
        let k = h s before in
        let one : Some (Close k.x) ≡ Some i = sym k.at ∙ ap (λ q. instr_at p (task_at w q).frame) same ∙ at in
        let is : Close k.x ≡ i = cc in
        let yes : is_close i ≡ true = ap is_close (sym is) in
        cc

module _ (p : Program) (w : World) (o : Right w) (h : ClosesAreWaitedFor p w) (t x : ℕ) (d : Does p w t (Close x)) where
  abbrev f : Frame
  f = (task_at w t).frame

  abbrev r : ℕ
  r = named (slot f x)

  abbrev c : World
  c = cancel w r

  mine : slot f x ≡ slots.Own r
  mine = own_slot (slot f x) (first_no _ _ (first_no _ _ d.fine.slots)) d.fine.own

  owner : (scope_at w r).owner ≡ t
  owner = (o.sound.own t x r mine).owner

  born : r < length w.scopes
  born = (o.sound.own t x r mine).born

  -- the task is at this `close`
  at_close : (v : World) → (scope_at v r).owner ≡ t → (task_at v t).frame ≡ f → IsAtClose p v r
  at_close v mine_v same =
      let frame : (task_at v (scope_at v r).owner).frame ≡ f = ap (λ q. (task_at v q).frame) mine_v ∙ same in
      record { x = x; at = ap (instr_at p) frame ∙ d.at; holds = ap (λ (g : Frame). slot g x) frame ∙ mine }

  -- another scope of the task is at no close
  only_one : (s : ℕ) → (s ≡ r → ⊥) → (scope_at w s).owner ≡ t → IsAtClose p w s → ⊥
  only_one s other same k =
      let one : Some (Close k.x) ≡ Some (Close x) = sym k.at ∙ ap (λ q. instr_at p (task_at w q).frame) same ∙ d.at in
      let slots_same : k.x ≡ x = cc in
      let two : slots.Own s ≡ slots.Own r = sym k.holds ∙ ap (λ q. slot (task_at w q).frame k.x) same ∙ ap (slot f) slots_same ∙ mine in
      let is : s ≡ r = cc in
      other is

  abbrev waits : World
  waits = with_phase c r Closing

  waiting : Next w waits → ClosesAreWaitedFor p waits
  waiting n s e = by (nat_eq s r) refl
    where
      frames : (u : ℕ) → (task_at waits u).frame ≡ (task_at w u).frame
      frames u = frame-cancel w r u

      before : (s ≡ r → ⊥) → (scope_at w s).phase ≡ Closing
      before other = (calm-cancel w t r).phase s (sym (ap (λ (z : Scope). z.phase) (get_or-set_other c.scopes r s (record (scope_at c r) { phase = Closing }) no_scope other)) ∙ e)

      by : (b : Bool) → nat_eq s r ≡ b → IsAtClose p waits s
      by true is =
          let same : s ≡ r = grind (arith, nat_tests) in
          let k : IsAtClose p waits r = at_close waits ((n.later.scope r born).same.owner ∙ owner) (frames t) in
          subst (λ q. IsAtClose p waits q) (sym same) k
      by false is =
          let other : s ≡ r → ⊥ = grind (arith, nat_tests) in
          moved_close p w waits s (same_owner w waits n s (before other)) (frames (scope_at w s).owner) (h s (before other))

  abbrev shut : World
  shut = def.closed c t f r

  shutting : Next w shut → ClosesAreWaitedFor p shut
  shutting n s e = by (nat_eq s r) refl
    where
      before : (s ≡ r → ⊥) → (scope_at w s).phase ≡ Closing
      before other = (calm-cancel w t r).phase s (sym (ap (λ (z : Scope). z.phase) (get_or-set_other c.scopes r s (record (scope_at c r) { phase = Closed }) no_scope other)) ∙ e)

      frames : (u : ℕ) → (u ≡ t → ⊥) → (task_at shut u).frame ≡ (task_at w u).frame
      frames u other =
          let g : Frame = record (steps f 0 []) { entries = drop 1 f.entries; slots = cleared c r f.slots } in
          ap (λ (z : Task). z.frame) (get_or-set_other c.tasks t u (record (task_at c t) { frame = g }) no_task other) ∙ frame-cancel w r u

      others : (s ≡ r → ⊥) → (b : Bool) → nat_eq (scope_at w s).owner t ≡ b → IsAtClose p shut s
      others other true is = let same : (scope_at w s).owner ≡ t = grind (arith, nat_tests) in absurd (only_one s other same (h s (before other)))
      others other false is =
          let apart : (scope_at w s).owner ≡ t → ⊥ = grind (arith, nat_tests) in
          moved_close p w shut s (same_owner w shut n s (before other)) (frames (scope_at w s).owner apart) (h s (before other))

      gone : s ≡ r → ⊥
      gone same =
          let many : length c.scopes ≡ length w.scopes = (still-cancel w r).kept.scopes in
          let now : (scope_at shut r).phase ≡ Closed = ap (λ (z : Scope). z.phase) (get_or-set_same c.scopes r (record (scope_at c r) { phase = Closed }) no_scope (omega (arith, many, born))) in
          let both : Closing ≡ Closed = sym e ∙ ap (λ q. (scope_at shut q).phase) same ∙ now in
          cc

      by : (b : Bool) → nat_eq s r ≡ b → IsAtClose p shut s
      by true is = absurd (gone (grind (arith, nat_tests)))
      by false is = others (grind (arith, nat_tests)) (nat_eq (scope_at w s).owner t) refl

  closing : Next w (close_scope w t f r) → ClosesAreWaitedFor p (close_scope w t f r)
  unfolding close_scope
  closing n = by (any_lives c r) n
    where
      by : (b : Bool) → Next w (cond b waits shut) → ClosesAreWaitedFor p (cond b waits shut)
      by true k = waiting k
      by false k = shutting k

one_step : (p : Program) (w : World) (t : ℕ) (i : Instr) → Right w → ClosesAreWaitedFor p w → Does p w t i → Next w (effect p w t (task_at w t).frame i) → ClosesAreWaitedFor p (effect p w t (task_at w t).frame i)
one_step p w t (Close x) o h d n = closing p w o h t x d n
one_step p w t (Open x timed joiner) o h d n = other_instr p w _ t (Open x timed joiner) o h d.at refl (calm-open w t x joiner timed) n
one_step p w t (Fork x g q) o h d n = other_instr p w _ t (Fork x g q) o h d.at refl (calm-fork p w t (named (slot (task_at w t).frame x)) g q) n
one_step p w t (Join x failed timeout interrupted) o h d n =
    other_instr p w _ t (Join x failed timeout interrupted) o h d.at refl (calm-join w t (named (slot (task_at w t).frame x)) (task_at w t).frame (unwrap_or failed 0) (unwrap_or timeout 0) interrupted) n
one_step p w t Ret o h d n = other_instr p w _ t Ret o h d.at refl (calm-end w t (task_at w t).frame (Success (operand (task_at w t).frame 0))) n
one_step p w t Fail o h d n = other_instr p w _ t Fail o h d.at refl (calm-end w t (task_at w t).frame (Failed (operand (task_at w t).frame 0))) n
one_step p w t i o h d n = other_instr p w _ t i o h d.at refl (calm-task w t t _ (λ other. absurd (other refl))) n

leads : (p : Program) → Leads p (Also (ClosesAreWaitedFor p)) (λ w v. Next w v → ClosesAreWaitedFor p v)
leads p =
    record {
      nothing = λ w h n. h.also;
      effect = λ w t i h d n. one_step p w t i h.right h.also d n;
      interrupt = λ w u h n. outside p w (interrupt w u) h.right h.also (λ t. calm-interrupt w t u) n;
      expire = λ w s h n. outside p w (expire w s) h.right h.also (λ t. calm-expire w t s) n;
    }

pub closing_is_at_close : ClosingIsAtClose
closing_is_at_close =
    ever-from (λ p w. Also (ClosesAreWaitedFor p) w) (λ p events. also-after p (ClosesAreWaitedFor p) (λ s e. cc) (leads p) events) ClosesAreWaitedFor
    (λ p w h s e. h.also s e)
