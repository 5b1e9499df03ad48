-- What another task does, and what comes from outside, neither reads nor changes a task's frame.
use Rattle.std.proofs.Common.{◌≡◌, ℕ, zero, suc, ◌+◌, List, [], ◌∷◌, ◌++◌, Bool, true, false, Option, Some, None}
use Rattle.std.proofs.Common.{refl, sym, ◌∙◌, ap, subst, length, get_or, set, cond, ◌&&◌, ◌||◌, not, drop, get_or-set_other}
use Rattle.std.specs.Prelude.{pos, nat_lt, unwrap_or, is_some, is_none, slice_set}
use Rattle.std.proofs.lemmas.List.{get_or_append_left}
use Rattle.sts_code.specs.Program.{Program, routine}
use Rattle.sts_code.specs.declared.instr.Instr.{Instr}
use Rattle.sts_code.specs.declared.instr.Instr.TheVariants as instr
use Rattle.sts_code.specs.declared.instr.Joiner.{Joiner}
use Rattle.sts_model.specs.declared.event.End.{End}
use Rattle.sts_model.specs.declared.event.End.TheVariants.{Success, Failed}
use Rattle.sts_model.specs.declared.event.Event.{Event}
use Rattle.sts_model.specs.declared.event.Event.TheVariants as event
use Rattle.sts_model.specs.declared.event.Fault.{Fault}
use Rattle.sts_model.specs.declared.event.Phase.TheVariants.{Attempted, Joined, Closing, Closed}
use Rattle.sts_model.specs.declared.event.Stand.{Stand}
use Rattle.sts_model.specs.declared.event.Stand.TheVariants.{Free, AtJoin, AtClose}
use Rattle.sts_model.specs.declared.event.Verdict.{Verdict}
use Rattle.sts_model.specs.declared.event.Verdict.TheVariants as verdict
use Rattle.sts_model.specs.declared.record.Bound.{Bound}
use Rattle.sts_model.specs.declared.record.Entry.TheVariants as entry
use Rattle.sts_model.specs.declared.record.Frame.{Frame}
use Rattle.sts_model.specs.declared.record.Scope.{Scope}
use Rattle.sts_model.specs.declared.record.Slot.{Slot}
use Rattle.sts_model.specs.declared.record.Slot.TheVariants.{Empty, Own, Lent, Sub}
use Rattle.sts_model.specs.declared.record.Task.{Task}
use Rattle.sts_model.specs.World.{World, State, Running, Faulted, task_at, scope_at, no_task, fresh_scope, with_task, with_scope, with_frame, instr_at}
use Rattle.sts_model.specs.Living.{lives, any_lives, subtask_count, scope_of, sub_state, ends}
use Rattle.sts_model.specs.Local.{steps, goes, truth, operand}
use Rattle.sts_model.specs.Joining.{cancels, result_of}
use Rattle.sts_model.specs.Cancelling.{cancel}
use Rattle.sts_model.specs.Environment.{environment_of, read}
use Rattle.sts_model.specs.Effect.{with_phase, open_scope, fork_task, subtask_of, forked, joined, join_verdict, join_scope, closed, close_scope, cleared, told}
use Rattle.sts_model.specs.Effect.{decide, complete, tell, ended, end_task, effect, named, case_target, value_or_zero, moved}
use Rattle.sts_model.specs.Misuse.{slot, at_own, at_sub, misjoins, has_no_room, is_illegal, breaks_structure, is_unbound, misuse}
use Rattle.sts_model.specs.Misuse.{fault_of, fault_at, is_opened, is_readable, has_succeeded, has_failed, is_crowded}
use Rattle.sts_model.specs.Standing.{standing_tasks}
use Rattle.sts_model.specs.Waiting.{can_step, can_go, stand_at, stand_at_instr, stands_at_join, stands_at_close}
use Rattle.sts_model.specs.Outside.{interrupt, can_expire, expire}
use Rattle.sts_model.specs.Run.{apply, step, stepped, perform}
use Rattle.ends_plain.proofs.ApartLemmas.{task_apart, value_apart, scope_of_apart, sub_state_apart, any_lives_apart, subtask_count_apart}
use Rattle.ends_plain.proofs.ApartLemmas.{standing_tasks_apart, tasks_born_apart, environment_apart, tally_apart, cleared_apart}
use Rattle.ends_plain.proofs.ApartLemmas.{with_task_apart, flag_apart, more_apart, cancel_apart}
use Rattle.sts_model.proofs.LivesLemmas.{born_alive, cancel_alive}
use Rattle.laws_names.proofs.EffectLemmas.{closing}

-- the second world with this frame in place of the task's, which lives there, is the first
pub record Apart (t : ℕ) (g : Frame) (v w : World) : Type 0 where
  pub same : v ≡ with_frame w t g
  pub alive : lives (task_at w t) ≡ true

-- ---- building blocks

apart-is : (t : ℕ) (g : Frame) (v x w : World) → v ≡ x → Apart t g x w → Apart t g v w
apart-is t g v x w e h = record { same = e ∙ h.same; alive = h.alive }

apart-cond : (t : ℕ) (g : Frame) (b : Bool) (v w x y : World) → Apart t g v w → Apart t g x y → Apart t g (cond b v x) (cond b w y)
apart-cond t g true v w x y h k = h
apart-cond t g false v w x y h k = k

-- one change after another
apart-on : (t : ℕ) (g : Frame) (change : World → World) (v w : World) → ((x : World) → lives (task_at x t) ≡ true → Apart t g (change (with_frame x t g)) (change x)) → Apart t g v w → Apart t g (change v) (change w)
apart-on t g change v w each h = apart-is t g (change v) (change (with_frame w t g)) (change w) (ap change h.same) (each w h.alive)

apart-task : (w : World) (t : ℕ) (g : Frame) (u : ℕ) (x : Task) → (u ≡ t → ⊥) → lives (task_at w t) ≡ true → Apart t g (with_task (with_frame w t g) u x) (with_task w u x)
apart-task w t g u x apart alive = record {
  same = with_task_apart w t g u x apart;
  alive = ap lives (get_or-set_other w.tasks u t x no_task (λ e. apart (sym e))) ∙ alive;
}

-- the other task changed, as it was there
apart-change : (w : World) (t : ℕ) (g : Frame) (u : ℕ) (change : Task → Task) → (u ≡ t → ⊥) → lives (task_at w t) ≡ true → Apart t g (with_task (with_frame w t g) u (change (task_at (with_frame w t g) u))) (with_task w u (change (task_at w u)))
apart-change w t g u change apart alive =
    apart-is t g (with_task (with_frame w t g) u (change (task_at (with_frame w t g) u))) (with_task (with_frame w t g) u (change (task_at w u))) (with_task w u (change (task_at w u)))
    (ap (λ (x : Task). with_task (with_frame w t g) u (change x)) (task_apart w t g u apart))
    (apart-task w t g u (change (task_at w u)) apart alive)

apart-frame : (w : World) (t : ℕ) (g : Frame) (u : ℕ) (f : Frame) → (u ≡ t → ⊥) → lives (task_at w t) ≡ true → Apart t g (with_frame (with_frame w t g) u f) (with_frame w u f)
apart-frame w t g u f apart alive = apart-change w t g u (λ (x : Task). record x { frame = f }) apart alive

-- the same frame in both, by two names
apart-frames : (w : World) (t : ℕ) (g : Frame) (u : ℕ) (e f : Frame) → e ≡ f → (u ≡ t → ⊥) → lives (task_at w t) ≡ true → Apart t g (with_frame (with_frame w t g) u e) (with_frame w u f)
apart-frames w t g u e f same apart alive = apart-is t g (with_frame (with_frame w t g) u e) (with_frame (with_frame w t g) u f) (with_frame w u f) (ap (λ h. with_frame (with_frame w t g) u h) same) (apart-frame w t g u f apart alive)

apart-scope : (w : World) (t : ℕ) (g : Frame) (s : ℕ) (x : Scope) → lives (task_at w t) ≡ true → Apart t g (with_scope (with_frame w t g) s x) (with_scope w s x)
apart-scope w t g s x alive = record { same = refl; alive = alive }

apart-cancel : (w : World) (t : ℕ) (g : Frame) (s : ℕ) → lives (task_at w t) ≡ true → Apart t g (cancel (with_frame w t g) s) (cancel w s)
apart-cancel w t g s alive = record { same = cancel_apart w t g s; alive = cancel_alive w s t ∙ alive }

-- ---- scopes

-- a scope more
abbrev with_new : World → ℕ → Joiner → Bool → List Bound → World
with_new w u joiner timed environment = record w { scopes = w.scopes ++ fresh_scope u joiner timed environment ∷ [] }

abbrev entered : World → Frame → ℕ → Frame
entered w f x = record (steps f 0 []) { entries = entry.Scope (length w.scopes) ∷ f.entries; slots = slice_set f.slots x (Own (length w.scopes)) }

apart-open : (w : World) (t : ℕ) (g : Frame) (u : ℕ) (f : Frame) (x : ℕ) (joiner : Joiner) (timed : Bool) → (u ≡ t → ⊥) → lives (task_at w t) ≡ true → Apart t g (open_scope (with_frame w t g) u f x joiner timed) (open_scope w u f x joiner timed)
unfolding open_scope
apart-open w t g u f x joiner timed apart alive =
    let env = environment_of (task_at w u) w in
    apart-is t g (open_scope (with_frame w t g) u f x joiner timed) (with_frame (with_new (with_frame w t g) u joiner timed env) u (entered w f x)) (open_scope w u f x joiner timed)
    (ap (λ (bs : List Bound). with_frame (with_new (with_frame w t g) u joiner timed bs) u (entered w f x)) (environment_apart w t g u apart))
    (apart-frame (with_new w u joiner timed env) t g u (entered w f x) apart alive)

apart-fork : (p : Program) (w : World) (t : ℕ) (g : Frame) (u : ℕ) (f : Frame) (s n : ℕ) (h : Option ℕ) → (u ≡ t → ⊥) → lives (task_at w t) ≡ true → Apart t g (fork_task p (with_frame w t g) u f s n h) (fork_task p w u f s n h)
unfolding fork_task
apart-fork p w t g u f s n h apart alive =
    let x = subtask_of p w f s n in
    let born = born_alive w t alive in
    let more : World = record w { tasks = w.tasks ++ x ∷ [] } in
    apart-is t g (fork_task p (with_frame w t g) u f s n h) (with_frame (with_frame more t g) u (forked f (routine p n).args h (length w.tasks))) (fork_task p w u f s n h)
    (ap (λ (k : ℕ). with_frame (record (with_frame w t g) { tasks = (with_frame w t g).tasks ++ x ∷ [] }) u (forked f (routine p n).args h k)) (tasks_born_apart w t g)
    ∙ ap (λ (v : World). with_frame v u (forked f (routine p n).args h (length w.tasks))) (more_apart w t g x born))
    (apart-frame more t g u (forked f (routine p n).args h (length w.tasks)) apart (ap lives (get_or_append_left w.tasks (x ∷ []) no_task t born) ∙ alive))

apart-joined : (w : World) (t : ℕ) (g : Frame) (u s : ℕ) (f : Frame) → (u ≡ t → ⊥) → lives (task_at w t) ≡ true → Apart t g (joined (with_frame w t g) u s f) (joined w u s f)
apart-joined w t g u s f apart alive = apart-frame (with_phase w s Joined) t g u f apart alive

apart-verdict : (v : Verdict) (w : World) (t : ℕ) (g : Frame) (u s : ℕ) (f : Frame) (failed : ℕ) → (u ≡ t → ⊥) → lives (task_at w t) ≡ true → Apart t g (join_verdict v (with_frame w t g) u s f failed) (join_verdict v w u s f failed)
apart-verdict (verdict.Ok None) w t g u s f failed apart alive = apart-joined w t g u s (steps f 0 []) apart alive
apart-verdict (verdict.Ok (Some n)) w t g u s f failed apart alive = apart-joined w t g u s (steps f 0 (n ∷ [])) apart alive
apart-verdict (verdict.Failed c) w t g u s f failed apart alive = apart-joined w t g u s (goes f failed 0 (c ∷ [])) apart alive

apart-join : (w : World) (t : ℕ) (g : Frame) (u : ℕ) (f : Frame) (s failed timeout interrupted : ℕ) → (u ≡ t → ⊥) → lives (task_at w t) ≡ true → Apart t g (join_scope (with_frame w t g) u f s failed timeout interrupted) (join_scope w u f s failed timeout interrupted)
unfolding join_scope
apart-join w t g u f s failed timeout interrupted apart alive =
    let scope = scope_at w s in
    let v = with_frame w t g in
    let answer : Verdict = result_of scope.joiner (ends scope) (subtask_count w s) in
    let change : Task → Task = λ (x : Task). record x { frame = goes f interrupted 0 []; flag = false } in
    rw (any_lives_apart w t g s, subtask_count_apart w t g s) (
    apart-cond t g scope.expired (joined v u s (goes f timeout 0 [])) (joined w u s (goes f timeout 0 []))
    (cond (scope.cancelled || not (any_lives w s)) (join_verdict answer v u s f failed) (with_task (with_phase v s Attempted) u (change (task_at v u))))
    (cond (scope.cancelled || not (any_lives w s)) (join_verdict answer w u s f failed) (with_task (with_phase w s Attempted) u (change (task_at w u))))
    (apart-joined w t g u s (goes f timeout 0 []) apart alive)
    (apart-cond t g (scope.cancelled || not (any_lives w s)) (join_verdict answer v u s f failed) (join_verdict answer w u s f failed)
    (with_task (with_phase v s Attempted) u (change (task_at v u))) (with_task (with_phase w s Attempted) u (change (task_at w u)))
    (apart-verdict answer w t g u s f failed apart alive)
    (apart-change (with_phase w s Attempted) t g u change apart alive))
    )

apart-closed : (w : World) (t : ℕ) (g : Frame) (u : ℕ) (f : Frame) (s : ℕ) → (u ≡ t → ⊥) → lives (task_at w t) ≡ true → Apart t g (closed (with_frame w t g) u f s) (closed w u f s)
apart-closed w t g u f s apart alive =
    let without : List Slot → Frame = λ (xs : List Slot). record (steps f 0 []) { entries = drop 1 f.entries; slots = xs } in
    apart-frames (with_phase w s Closed) t g u (without (cleared (with_frame w t g) s f.slots)) (without (cleared w s f.slots)) (ap without (cleared_apart w t g s f.slots)) apart alive

apart-closing : (w : World) (t : ℕ) (g : Frame) (u : ℕ) (f : Frame) (s : ℕ) → (u ≡ t → ⊥) → lives (task_at w t) ≡ true → Apart t g (closing u f s (with_frame w t g)) (closing u f s w)
apart-closing w t g u f s apart alive =
    rw (any_lives_apart w t g s) (apart-cond t g (any_lives w s) (with_phase (with_frame w t g) s Closing) (with_phase w s Closing) (closed (with_frame w t g) u f s) (closed w u f s)
    (apart-scope w t g s (record (scope_at w s) { phase = Closing }) alive) (apart-closed w t g u f s apart alive))

apart-close : (w : World) (t : ℕ) (g : Frame) (u : ℕ) (f : Frame) (s : ℕ) → (u ≡ t → ⊥) → lives (task_at w t) ≡ true → Apart t g (close_scope (with_frame w t g) u f s) (close_scope w u f s)
unfolding close_scope
apart-close w t g u f s apart alive =
    apart-on t g (closing u f s) (cancel (with_frame w t g) s) (cancel w s) (λ x lives_there. apart-closing x t g u f s apart lives_there) (apart-cancel w t g s alive)

-- ---- the end of a task

apart-decide : (w : World) (t : ℕ) (g : Frame) (s : ℕ) → lives (task_at w t) ≡ true → Apart t g (decide (with_frame w t g) s) (decide w s)
apart-decide w t g s alive =
    apart-cond t g (cancels (scope_at w s).joiner (ends (scope_at w s))) (cancel (with_frame w t g) s) (cancel w s) (with_frame w t g) w
    (apart-cancel w t g s alive) (record { same = refl; alive = alive })

apart-complete : (w : World) (t : ℕ) (g : Frame) (u s : ℕ) (end : End) → lives (task_at w t) ≡ true → Apart t g (complete (with_frame w t g) u s end) (complete w u s end)
apart-complete w t g u s end alive =
    let x = told (scope_at w s) u end in
    apart-cond t g (scope_at w s).cancelled (with_frame w t g) w (decide (with_scope (with_frame w t g) s x) s) (decide (with_scope w s x) s)
    (record { same = refl; alive = alive })
    (apart-decide (with_scope w s x) t g s alive)

apart-tell : (w : World) (t : ℕ) (g : Frame) (u : ℕ) (o : Option ℕ) (end : End) → lives (task_at w t) ≡ true → Apart t g (tell (with_frame w t g) u o end) (tell w u o end)
apart-tell w t g u None end alive = record { same = refl; alive = alive }
apart-tell w t g u (Some s) end alive = apart-complete w t g u s end alive

apart-end : (w : World) (t : ℕ) (g : Frame) (u : ℕ) (f : Frame) (end : End) → (u ≡ t → ⊥) → lives (task_at w t) ≡ true → Apart t g (end_task (with_frame w t g) u f end) (end_task w u f end)
unfolding end_task
apart-end w t g u f end apart alive =
    apart-is t g (end_task (with_frame w t g) u f end) (tell (ended (with_frame w t g) u f end) u (task_at w u).scope end) (end_task w u f end)
    (ap (λ (x : Task). tell (ended (with_frame w t g) u f end) u x.scope end) (task_apart w t g u apart))
    (apart-on t g (λ (x : World). tell x u (task_at w u).scope end) (ended (with_frame w t g) u f end) (ended w u f end)
    (λ x lives_there. apart-tell x t g u (task_at w u).scope end lives_there)
    (apart-change w t g u (λ (x : Task). record x { frame = steps f 1 []; outcome = Some end }) apart alive))

-- ---- an instruction

-- its readings are the same in both worlds
moved_apart : (p : Program) (w : World) (t : ℕ) (g : Frame) (u : ℕ) (f : Frame) (i : Instr) → (u ≡ t → ⊥) → moved p (with_frame w t g) u f i ≡ moved p w u f i
moved_apart p w t g u f (instr.Case h success failed) apart = ap (λ (o : Option End). goes f (case_target o success failed (f.pc + 1)) 0 []) (sub_state_apart w t g (named (slot f h)))
moved_apart p w t g u f (instr.Get h) apart = ap (λ (o : Option End). steps f 0 (value_or_zero o ∷ [])) (sub_state_apart w t g (named (slot f h)))
moved_apart p w t g u f (instr.Except h) apart = ap (λ (o : Option End). steps f 0 (value_or_zero o ∷ [])) (sub_state_apart w t g (named (slot f h)))
moved_apart p w t g u f (instr.Tally s k) apart = ap (λ (n : ℕ). steps f 0 (pos n ∷ [])) (tally_apart w t g (named (slot f s)) k)
moved_apart p w t g u f (instr.Read k) apart = ap (λ (bs : List Bound). steps f 0 (unwrap_or (read bs k) (pos 0) ∷ [])) (environment_apart w t g u apart)
moved_apart p w t g u f (instr.Bound k) apart = ap (λ (bs : List Bound). steps f 0 (truth (is_some (read bs k)) ∷ [])) (environment_apart w t g u apart)
moved_apart p w t g u f (instr.OrElse k) apart = ap (λ (bs : List Bound). steps f 1 (unwrap_or (read bs k) (operand f 0) ∷ [])) (environment_apart w t g u apart)
moved_apart p w t g u f i apart = refl

pub apart-effect : (p : Program) (w : World) (t : ℕ) (g : Frame) (u : ℕ) (f : Frame) (i : Instr) → (u ≡ t → ⊥) → lives (task_at w t) ≡ true → Apart t g (effect p (with_frame w t g) u f i) (effect p w u f i)
apart-effect p w t g u f (instr.Open s timed joiner) apart alive = apart-open w t g u f s joiner timed apart alive
apart-effect p w t g u f (instr.Fork s n h) apart alive = apart-fork p w t g u f (named (slot f s)) n h apart alive
apart-effect p w t g u f (instr.Join s failed timeout interrupted) apart alive = apart-join w t g u f (named (slot f s)) (unwrap_or failed 0) (unwrap_or timeout 0) interrupted apart alive
apart-effect p w t g u f (instr.Close s) apart alive = apart-close w t g u f (named (slot f s)) apart alive
apart-effect p w t g u f instr.Interrupted apart alive = apart-change w t g u (λ (x : Task). record x { frame = steps f 0 (truth x.flag ∷ []); flag = false }) apart alive
apart-effect p w t g u f instr.Ret apart alive = apart-end w t g u f (Success (operand f 0)) apart alive
apart-effect p w t g u f instr.Fail apart alive = apart-end w t g u f (Failed (operand f 0)) apart alive
apart-effect p w t g u f (instr.Bind k) apart alive = apart-frame w t g u _ apart alive
apart-effect p w t g u f instr.Unbind apart alive = apart-frame w t g u _ apart alive
apart-effect p w t g u f i apart alive = apart-frames w t g u (moved p (with_frame w t g) u f i) (moved p w u f i) (moved_apart p w t g u f i apart) apart alive

-- ---- misuse

own_slot_apart : (w : World) (t : ℕ) (g : Frame) (x : Slot) (test : ℕ → Scope → Bool) → at_own (with_frame w t g) x test ≡ at_own w x test
own_slot_apart w t g Empty test = refl
own_slot_apart w t g (Own s) test = refl
own_slot_apart w t g (Lent s) test = refl
own_slot_apart w t g (Sub n) test = refl

count_slot_apart : (w : World) (t : ℕ) (g : Frame) (x : Slot) → at_own (with_frame w t g) x (λ n scope. is_opened scope.phase && nat_lt 0 (subtask_count (with_frame w t g) n)) ≡ at_own w x (λ n scope. is_opened scope.phase && nat_lt 0 (subtask_count w n))
count_slot_apart w t g Empty = refl
count_slot_apart w t g (Own s) = ap (λ n. is_opened (scope_at w s).phase && nat_lt 0 n) (subtask_count_apart w t g s)
count_slot_apart w t g (Lent s) = refl
count_slot_apart w t g (Sub n) = refl

sub_slot_apart : (w : World) (t : ℕ) (g : Frame) (x : Slot) (test : Scope → Option End → Bool) → at_sub (with_frame w t g) x (λ n scope. test scope (sub_state (with_frame w t g) n)) ≡ at_sub w x (λ n scope. test scope (sub_state w n))
sub_slot_apart w t g Empty test = refl
sub_slot_apart w t g (Own s) test = refl
sub_slot_apart w t g (Lent s) test = refl
sub_slot_apart w t g (Sub n) test =
    ap (λ (x : Scope). test x (sub_state (with_frame w t g) n)) (scope_of_apart w t g n)
    ∙ ap (λ (o : Option End). test (scope_of w n) o) (sub_state_apart w t g n)

misjoins_apart : (w : World) (t : ℕ) (g f : Frame) (i : Instr) → misjoins (with_frame w t g) f i ≡ misjoins w f i
misjoins_apart w t g f (instr.Join s failed timeout interrupted) = own_slot_apart w t g (slot f s) _
misjoins_apart w t g f i = refl

room_apart : (w : World) (t : ℕ) (g f : Frame) (i : Instr) → has_no_room (with_frame w t g) f i ≡ has_no_room w f i
room_apart w t g f (instr.Fork s n h) =
    ap (λ (k : ℕ). is_crowded k (length (with_frame w t g).tasks)) (standing_tasks_apart w t g)
    ∙ ap (λ (k : ℕ). is_crowded (standing_tasks w) k) (tasks_born_apart w t g)
room_apart w t g f i = refl

legal_apart : (p : Program) (w : World) (t : ℕ) (g f : Frame) (i : Instr) → is_illegal p (with_frame w t g) f i ≡ is_illegal p w f i
legal_apart p w t g f (instr.Fork s n h) = own_slot_apart w t g (slot f s) _
legal_apart p w t g f (instr.Join s failed timeout i) = own_slot_apart w t g (slot f s) _
legal_apart p w t g f (instr.Close s) = count_slot_apart w t g (slot f s)
legal_apart p w t g f (instr.Tally s k) = own_slot_apart w t g (slot f s) _
legal_apart p w t g f (instr.Total s) = own_slot_apart w t g (slot f s) _
legal_apart p w t g f (instr.Get h) = sub_slot_apart w t g (slot f h) (λ scope o. not (is_readable p.profile scope && has_succeeded o))
legal_apart p w t g f (instr.Except h) = sub_slot_apart w t g (slot f h) (λ scope o. not (is_readable p.profile scope && has_failed o))
legal_apart p w t g f i = refl

structure_apart : (w : World) (t : ℕ) (g f : Frame) (i : Instr) → breaks_structure (with_frame w t g) f i ≡ breaks_structure w f i
structure_apart w t g f (instr.Fork s n h) = own_slot_apart w t g (slot f s) _
structure_apart w t g f (instr.Close s) = own_slot_apart w t g (slot f s) _
structure_apart w t g f i = refl

bound_apart : (w : World) (t : ℕ) (g : Frame) (u : ℕ) (i : Instr) → (u ≡ t → ⊥) → is_unbound (with_frame w t g) u i ≡ is_unbound w u i
bound_apart w t g u (instr.Read k) apart = ap (λ (bs : List Bound). is_none (read bs k)) (environment_apart w t g u apart)
bound_apart w t g u i apart = refl

fault_apart : (p : Program) (w : World) (t : ℕ) (g : Frame) (u : ℕ) (f : Frame) (i : Instr) → (u ≡ t → ⊥) → fault_of p (with_frame w t g) u f i ≡ fault_of p w u f i
fault_apart p w t g u f i apart = rw (misjoins_apart w t g f i, room_apart w t g f i, legal_apart p w t g f i, structure_apart w t g f i, bound_apart w t g u i apart) refl

fault_at_apart : (p : Program) (w : World) (t : ℕ) (g : Frame) (u : ℕ) (f : Frame) (o : Option Instr) → (u ≡ t → ⊥) → fault_at p (with_frame w t g) u f o ≡ fault_at p w u f o
fault_at_apart p w t g u f None apart = refl
fault_at_apart p w t g u f (Some i) apart = fault_apart p w t g u f i apart

pub misuse_apart : (p : Program) (w : World) (t : ℕ) (g : Frame) (u : ℕ) → (u ≡ t → ⊥) → misuse p (with_frame w t g) u ≡ misuse p w u
misuse_apart p w t g u apart =
    ap (λ (x : Task). fault_at p (with_frame w t g) u x.frame (instr_at p x.frame)) (task_apart w t g u apart)
    ∙ fault_at_apart p w t g u (task_at w u).frame (instr_at p (task_at w u).frame) apart

-- ---- who can step

stands_at_close_apart : (w : World) (t : ℕ) (g : Frame) (x : Slot) → stands_at_close (with_frame w t g) x ≡ stands_at_close w x
stands_at_close_apart w t g Empty = refl
stands_at_close_apart w t g (Own s) = refl
stands_at_close_apart w t g (Lent s) = refl
stands_at_close_apart w t g (Sub n) = refl

stand_apart : (p : Program) (w : World) (t : ℕ) (g : Frame) (u : ℕ) (o : Option Instr) → (u ≡ t → ⊥) → stand_at_instr p (with_frame w t g) u o ≡ stand_at_instr p w u o
stand_apart p w t g u (Some (instr.Join x failed timeout interrupted)) apart =
    ap (λ (m : Option Fault). stands_at_join m (slot (task_at (with_frame w t g) u).frame x)) (misuse_apart p w t g u apart)
    ∙ ap (λ (y : Task). stands_at_join (misuse p w u) (slot y.frame x)) (task_apart w t g u apart)
stand_apart p w t g u (Some (instr.Close x)) apart =
    ap (λ (y : Task). stands_at_close (with_frame w t g) (slot y.frame x)) (task_apart w t g u apart)
    ∙ stands_at_close_apart w t g (slot (task_at w u).frame x)
stand_apart p w t g u o apart = refl

go_apart : (w : World) (t : ℕ) (g : Frame) (x : Task) (st : Stand) → can_go (with_frame w t g) x st ≡ can_go w x st
go_apart w t g x Free = refl
go_apart w t g x (AtJoin s) = ap (λ (b : Bool). (scope_at w s).expired || (scope_at w s).cancelled || not b || x.flag) (any_lives_apart w t g s)
go_apart w t g x (AtClose s) = ap not (any_lives_apart w t g s)

can_step_apart : (p : Program) (w : World) (t : ℕ) (g : Frame) (u : ℕ) → (u ≡ t → ⊥) → can_step p (with_frame w t g) u ≡ can_step p w u
can_step_apart p w t g u apart =
    let v = with_frame w t g in
    ap (λ (x : Task). lives x && can_go v x (stand_at_instr p v u (instr_at p x.frame))) (task_apart w t g u apart)
    ∙ ap (λ (st : Stand). lives (task_at w u) && can_go v (task_at w u) st) (stand_apart p w t g u (instr_at p (task_at w u).frame) apart)
    ∙ ap (λ (b : Bool). lives (task_at w u) && b) (go_apart w t g (task_at w u) (stand_at p w u))

-- ---- events

-- what leads to the second state leads to the first one, if the task has this frame; it lives on
abbrev pub Beside : ℕ → Frame → State → State → Type 0
Beside t g x (Running w) = (x ≡ Running (with_frame w t g)) × (lives (task_at w t) ≡ true)
Beside t g x (Faulted kind u f pc) = x ≡ Faulted kind u f pc

beside : (t : ℕ) (g : Frame) (v w : World) → Apart t g v w → Beside t g (Running v) (Running w)
beside t g v w h = (ap Running h.same, h.alive)

performed : (p : Program) (w : World) (t : ℕ) (g : Frame) (u : ℕ) (f : Frame) (o : Option Instr) → (u ≡ t → ⊥) → lives (task_at w t) ≡ true → Apart t g (perform p (with_frame w t g) u f o) (perform p w u f o)
performed p w t g u f None apart alive = record { same = refl; alive = alive }
performed p w t g u f (Some i) apart alive = apart-effect p w t g u f i apart alive

stepped_beside : (m : Option Fault) (p : Program) (w : World) (t : ℕ) (g : Frame) (u : ℕ) (f : Frame) → (u ≡ t → ⊥) → lives (task_at w t) ≡ true → Beside t g (stepped m p (with_frame w t g) u f) (stepped m p w u f)
stepped_beside None p w t g u f apart alive = beside t g (perform p (with_frame w t g) u f (instr_at p f)) (perform p w u f (instr_at p f)) (performed p w t g u f (instr_at p f) apart alive)
stepped_beside (Some kind) p w t g u f apart alive = refl

step_beside : (p : Program) (w : World) (t : ℕ) (g : Frame) (u : ℕ) → (u ≡ t → ⊥) → lives (task_at w t) ≡ true → Beside t g (step p (with_frame w t g) u) (step p w u)
step_beside p w t g u apart alive =
    let v = with_frame w t g in
    let same : step p v u ≡ cond (can_step p w u) (stepped (misuse p w u) p v u (task_at w u).frame) (Running v) =
    ap (λ (b : Bool). cond b (stepped (misuse p v u) p v u (task_at v u).frame) (Running v)) (can_step_apart p w t g u apart)
    ∙ ap (λ (m : Option Fault). cond (can_step p w u) (stepped m p v u (task_at v u).frame) (Running v)) (misuse_apart p w t g u apart)
    ∙ ap (λ (x : Task). cond (can_step p w u) (stepped (misuse p w u) p v u x.frame) (Running v)) (task_apart w t g u apart) in
    subst (λ (s : State). Beside t g s (step p w u)) (sym same) (by (can_step p w u))
  where
    by : (b : Bool) → Beside t g (cond b (stepped (misuse p w u) p (with_frame w t g) u (task_at w u).frame) (Running (with_frame w t g))) (cond b (stepped (misuse p w u) p w u (task_at w u).frame) (Running w))
    by true = stepped_beside (misuse p w u) p w t g u (task_at w u).frame apart alive
    by false = (refl, alive)

flagged_alive : (xs : List Task) (u t : ℕ) → lives (get_or (set xs u (record (get_or xs u no_task) { flag = true })) t no_task) ≡ lives (get_or xs t no_task)
flagged_alive [] u t = refl
flagged_alive (x ∷ xs) zero zero = refl
flagged_alive (x ∷ xs) zero (suc t) = refl
flagged_alive (x ∷ xs) (suc u) zero = refl
flagged_alive (x ∷ xs) (suc u) (suc t) = flagged_alive xs u t

interrupt_apart : (w : World) (t : ℕ) (g : Frame) (u : ℕ) → lives (task_at w t) ≡ true → Apart t g (interrupt (with_frame w t g) u) (interrupt w u)
interrupt_apart w t g u alive =
    let v = with_frame w t g in
    let flagged : World = with_task v u (record (task_at v u) { flag = true }) in
    apart-is t g (interrupt v u) (cond (lives (task_at w u)) flagged v) (interrupt w u) (ap (λ (b : Bool). cond b flagged v) (value_apart lives w t g u (λ x. refl))) (
    apart-cond t g (lives (task_at w u)) flagged (with_task w u (record (task_at w u) { flag = true })) v w
    (record { same = flag_apart w t g u; alive = flagged_alive w.tasks u t ∙ alive })
    (record { same = refl; alive = alive })
    )

expire_apart : (w : World) (t : ℕ) (g : Frame) (s : ℕ) → lives (task_at w t) ≡ true → Apart t g (expire (with_frame w t g) s) (expire w s)
expire_apart w t g s alive =
    let x : Scope = record (scope_at w s) { expired = true } in
    apart-cond t g (can_expire (scope_at w s)) (cancel (with_scope (with_frame w t g) s x) s) (cancel (with_scope w s x) s) (with_frame w t g) w
    (apart-cancel (with_scope w s x) t g s alive)
    (record { same = refl; alive = alive })

-- any event but the task's own step
pub event_beside : (p : Program) (w : World) (t : ℕ) (g : Frame) (e : Event) → (e ≡ event.Step t → ⊥) → lives (task_at w t) ≡ true → Beside t g (apply p (Running (with_frame w t g)) e) (apply p (Running w) e)
event_beside p w t g (event.Step u) other alive = step_beside p w t g u (λ e. other (ap event.Step e)) alive
event_beside p w t g (event.Interrupt u) other alive = beside t g (interrupt (with_frame w t g) u) (interrupt w u) (interrupt_apart w t g u alive)
event_beside p w t g (event.Expire s) other alive = beside t g (expire (with_frame w t g) s) (expire w s) (expire_apart w t g s alive)
