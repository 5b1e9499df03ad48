-- Why scopes are cancelled: the list of scopes after each effect.
use Rattle.std.proofs.Common.{◌⊎◌, inl, inr, ◌≡◌, ℕ, ◌<◌, List, [], Bool, true, false, Option, Some, None, refl, sym, ◌∙◌, ap, length, arith, get_or, set, ◌||◌}
use Rattle.std.proofs.Common.{not, unwrap_or, length-set, get_or-set_same, get_or-set_other}
use Rattle.std.proofs.lemmas.Bool.{cond_both}
use Rattle.sts_code.specs.Program.{Program}
use Rattle.sts_code.specs.declared.instr.Instr.{Instr}
use Rattle.sts_code.specs.declared.instr.Joiner.{Joiner}
use Rattle.sts_code.specs.declared.instr.Instr.TheVariants.{Open, Join, Close, Ret, Fail}
use Rattle.sts_model.specs.declared.event.End.{End}
use Rattle.sts_model.specs.declared.event.End.TheVariants.{Success, Failed}
use Rattle.sts_model.specs.declared.event.Phase.{Phase}
use Rattle.sts_model.specs.declared.event.Phase.TheVariants.{Attempted, Joined, Closing, Closed}
use Rattle.sts_model.specs.declared.event.Verdict.{Verdict}
use Rattle.sts_model.specs.declared.event.Verdict.TheVariants as verdict
use Rattle.sts_model.specs.declared.record.Slot.TheVariants as slots
use Rattle.sts_model.specs.declared.record.Frame.{Frame}
use Rattle.sts_model.specs.declared.record.Task.{Task}
use Rattle.sts_model.specs.declared.record.Scope.{Scope}
use Rattle.sts_model.specs.World.{World, task_at, scope_at, no_scope, with_scope}
use Rattle.sts_model.specs.Local.{operand}
use Rattle.sts_model.specs.Joining.{result_of}
use Rattle.sts_model.specs.Living.{lives, any_lives, ends, subtask_count}
use Rattle.sts_model.specs.Cancelling.{marked, cancel}
use Rattle.sts_model.specs.Misuse.{slot, can_join, is_joined, IsFine}
use Rattle.sts_model.specs.Effect.{effect, named, with_phase, joined, join_verdict, join_scope, close_scope, told, decide, complete, tell, ended, end_task}
use Rattle.sts_model.specs.Effect.{open_scope, fork_task}
use Rattle.sts_model.specs.Outside.{interrupt, can_expire, expire}
use Rattle.laws_runs.specs.Scopes.{is_leaving, is_asked, HasCause}
use Rattle.laws_runs.proofs.ListLemmas.{at_set, at_put, at_one_more, within}
use Rattle.laws_runs.proofs.FrameLemmas.{own_slot, at_own-is}
use Rattle.laws_runs.proofs.EffectLemmas.{first_no, owned_slot}
use Rattle.laws_runs.proofs.SoundLemmas.{Sound}
use Rattle.laws_runs.proofs.BirthLemmas.{new_scope}

abbrev pub AllCaused : World → Type 0
AllCaused w = (s : ℕ) → s < length w.scopes → HasCause (scope_at w s)

-- a scope s after an effect in w: cancelled for a cause, and joined before, or when no subtask
-- lived
pub record Follows (w : World) (s : ℕ) (y : Scope) : Type 0 where
  pub cause : HasCause y
  pub joined : is_joined y.phase ≡ true → y.cancelled ≡ false → (is_joined (scope_at w s).phase ≡ true) ⊎ (any_lives w s ≡ false)

abbrev pub AllFollow : World → List Scope → Type 0
AllFollow w ys = (s : ℕ) → s < length ys → Follows w s (get_or ys s no_scope)

follow-refl : (w : World) → AllCaused w → AllFollow w w.scopes
follow-refl w h s born = record { cause = h s born; joined = λ e still. inl e }

follow-set : (w : World) (s : ℕ) (y : Scope) → AllCaused w → Follows w s y → AllFollow w (set w.scopes s y)
follow-set w s y h new r born =
    let count = length-set w.scopes s y in
    at_set (λ (scope : Scope). Follows w r scope) w.scopes s r y no_scope (λ e. rw e new) (follow-refl w h r (omega (arith, count, born)))

-- ---- scopes that were changed

-- a cancelled scope for a reason
caused : (w : World) (s : ℕ) (y : Scope) → y.cancelled ≡ true → (y.expired ≡ false → is_leaving y.phase ≡ false → is_asked y ≡ true) → Follows w s y
caused w s y e cause =
    record {
      cause = record { asked = λ still. cc; expired = λ h. e; leaving = λ h. e; cause = λ h. cause };
      joined = λ h still. cc;
    }

-- a scope that isn't cancelled is neither expired nor leaving
uncaused : (w : World) (s : ℕ) (y : Scope) → y.cancelled ≡ false → y.expired ≡ false → is_leaving y.phase ≡ false → (is_asked y ≡ true → y.completions ≡ []) → (is_joined y.phase ≡ true → (is_joined (scope_at w s).phase ≡ true) ⊎ (any_lives w s ≡ false)) → Follows w s y
uncaused w s y still timely staying asked joined =
    record {
      cause = record { asked = λ h. asked; expired = λ h. cc; leaving = λ h. cc; cause = λ h. cc };
      joined = λ h e. joined h;
    }

-- a scope that isn't cancelled is neither expired nor leaving
not_expired : (x : Scope) → HasCause x → x.cancelled ≡ false → x.expired ≡ false
not_expired x h still = by x.expired refl
  where
    by : (b : Bool) → x.expired ≡ b → b ≡ false
    by false e = refl
    by true e = let c = h.expired e in cc

not_leaving : (x : Scope) → HasCause x → x.cancelled ≡ false → is_leaving x.phase ≡ false
not_leaving x h still = by (is_leaving x.phase) refl
  where
    by : (b : Bool) → is_leaving x.phase ≡ b → b ≡ false
    by false e = refl
    by true e = let c = h.leaving e in cc

-- ---- open, join, close

pub follow-open : (w : World) (t x : ℕ) (f : Frame) (joiner : Joiner) (timed : Bool) → AllCaused w → AllFollow w (open_scope w t f x joiner timed).scopes
unfolding open_scope
follow-open w t x f joiner timed h s born =
    at_one_more (λ (scope : Scope). Follows w s scope) w.scopes (new_scope w t joiner timed) s no_scope born
    (uncaused w s (new_scope w t joiner timed) refl refl refl (λ h. refl) (λ h. cc))
    (follow-refl w h s)

pub staying_at_join : (phase : Phase) → not (can_join phase) ≡ false → is_leaving phase ≡ false
staying_at_join Closing e = cc
staying_at_join Closed e = cc
staying_at_join _ e = refl

-- if the close of a scope hasn't begun, the scope was born
born_staying : (w : World) (s : ℕ) → is_leaving (scope_at w s).phase ≡ false → s < length w.scopes
born_staying w s e = within (λ (scope : Scope). not (is_leaving scope.phase)) w.scopes s no_scope refl (rw e refl)

-- another phase of a scope before its close begins
follow-phase : (w : World) (s : ℕ) (phase : Phase) → AllCaused w → is_leaving (scope_at w s).phase ≡ false → is_leaving phase ≡ false → (is_joined phase ≡ true → (scope_at w s).cancelled ≡ false → any_lives w s ≡ false) → AllFollow w (with_phase w s phase).scopes
follow-phase w s phase h before after settled =
    let c = h s (born_staying w s before) in
    follow-set w s (record (scope_at w s) { phase = phase }) h
    (record {
      cause = record { asked = c.asked; expired = c.expired; leaving = λ e. cc; cause = λ e d q. c.cause e d before };
      joined = λ e still. inr (settled e still);
    })

follow-verdict : (v : Verdict) (w : World) (t s : ℕ) (f : Frame) (failed : ℕ) → AllCaused w → is_leaving (scope_at w s).phase ≡ false → ((scope_at w s).cancelled ≡ false → any_lives w s ≡ false) → AllFollow w (join_verdict v w t s f failed).scopes
follow-verdict (verdict.Ok None) w t s f failed h before settled = follow-phase w s Joined h before refl (λ e. settled)
follow-verdict (verdict.Ok (Some x)) w t s f failed h before settled = follow-phase w s Joined h before refl (λ e. settled)
follow-verdict (verdict.Failed c) w t s f failed h before settled = follow-phase w s Joined h before refl (λ e. settled)

none_live : (a b : Bool) → (a || not b) ≡ true → a ≡ false → b ≡ false
none_live true b e still = cc
none_live false true e still = cc
none_live false false e still = refl

follow-join : (w : World) (t : ℕ) (f : Frame) (s failed timeout interrupted : ℕ) → AllCaused w → is_leaving (scope_at w s).phase ≡ false → AllFollow w (join_scope w t f s failed timeout interrupted).scopes
unfolding join_scope
follow-join w t f s failed timeout interrupted h before =
    cond_both (scope_at w s).expired _ _ (λ (v : World). AllFollow w v.scopes)
    (λ late. follow-phase w s Joined h before refl (λ e still. let c = (h s (born_staying w s before)).expired late in cc))
    (λ timely.
    cond_both ((scope_at w s).cancelled || not (any_lives w s)) _ _ (λ (v : World). AllFollow w v.scopes)
    (λ done. follow-verdict (result_of (scope_at w s).joiner (ends (scope_at w s)) (subtask_count w s)) w t s f failed h before (none_live (scope_at w s).cancelled (any_lives w s) done))
    (λ waits. follow-phase w s Attempted h before refl (λ e. cc)))

-- a cancel marks its scope, and no other
cancel-marks : (w : World) (s : ℕ) → s < length w.scopes → (scope_at (cancel w s) s).cancelled ≡ true
cancel-marks w s born =
    cond_both (scope_at w s).cancelled w (marked w s) (λ (v : World). (scope_at v s).cancelled ≡ true)
    (λ e. e)
    (λ e. ap (λ (scope : Scope). scope.cancelled) (get_or-set_same w.scopes s (record (scope_at w s) { cancelled = true }) no_scope born))

pub cancel-others : (w : World) (s r : ℕ) → (r ≡ s → ⊥) → scope_at (cancel w s) r ≡ scope_at w r
cancel-others w s r other =
    cond_both (scope_at w s).cancelled w (marked w s) (λ (v : World). scope_at v r ≡ scope_at w r)
    (λ e. refl)
    (λ e. get_or-set_other w.scopes s r (record (scope_at w s) { cancelled = true }) no_scope other)

cancel-scopes : (w : World) (s : ℕ) → length (cancel w s).scopes ≡ length w.scopes
cancel-scopes w s =
    cond_both (scope_at w s).cancelled w (marked w s) (λ (v : World). length v.scopes ≡ length w.scopes)
    (λ e. refl)
    (λ e. length-set w.scopes s (record (scope_at w s) { cancelled = true }))

-- a phase of the close, of the cancelled scope
follow-leaving : (w : World) (s : ℕ) (phase : Phase) → AllCaused w → s < length w.scopes → is_leaving phase ≡ true → AllFollow w (with_phase (cancel w s) s phase).scopes
follow-leaving w s phase h born leaving r less =
    let v : World = cancel w s in
    let y : Scope = record (scope_at v s) { phase = phase } in
    let count = cancel-scopes w s in
    let phases = length-set v.scopes s y in
    at_put (λ (scope : Scope). Follows w r scope) v.scopes s r y no_scope (omega (arith, count, born))
    (λ e. caused w r y (cancel-marks w s born) (λ timely staying. cc))
    (λ other. rw (cancel-others w s r other) (follow-refl w h r (omega (arith, count, phases, less))))

follow-close : (w : World) (t : ℕ) (f : Frame) (s : ℕ) → AllCaused w → s < length w.scopes → AllFollow w (close_scope w t f s).scopes
unfolding close_scope
follow-close w t f s h born =
    cond_both (any_lives (cancel w s) s) _ _ (λ (v : World). AllFollow w v.scopes)
    (λ e. follow-leaving w s Closing h born refl)
    (λ e. follow-leaving w s Closed h born refl)

-- ---- the end of a task

-- the joiner of the scope is told, and asks for a cancel
follow-asked : (w v : World) (s : ℕ) (y : Scope) → AllCaused w → v.scopes ≡ set w.scopes s y → s < length w.scopes → is_asked (scope_at v s) ≡ true → AllFollow w (marked v s).scopes
follow-asked w v s y h is born asked r less =
    let z : Scope = record (scope_at v s) { cancelled = true } in
    let count : length v.scopes ≡ length w.scopes = ap (λ (l : List Scope). length l) is ∙ length-set w.scopes s y in
    let marks = length-set v.scopes s z in
    at_put (λ (scope : Scope). Follows w r scope) v.scopes s r z no_scope (omega (arith, count, born))
    (λ e. caused w r z refl (λ timely staying. asked))
    (λ other. rw (is, get_or-set_other w.scopes s r y no_scope other) (follow-refl w h r (omega (arith, count, marks, less))))

-- the joiner of the scope is told, and doesn't ask for a cancel
follow-quiet : (w : World) (s : ℕ) (x y : Scope) → AllCaused w → s < length w.scopes → scope_at w s ≡ x → x.cancelled ≡ false → y.cancelled ≡ x.cancelled → y.expired ≡ x.expired → y.phase ≡ x.phase → is_asked y ≡ false → AllFollow w (set w.scopes s y)
follow-quiet w s x y h born at still cancelled expired phase quiet =
    let c : HasCause x = rw (← at) (h s born) in
    follow-set w s y h
    (uncaused w s y (cancelled ∙ still) (expired ∙ not_expired x c still) (rw phase (not_leaving x c still)) (λ asked. cc) (λ e. inl (rw at (rw phase at e))))

follow-told : (w : World) (tasks : List Task) (t s : ℕ) (end : End) → AllCaused w → s < length w.scopes → AllFollow w (complete (record w { tasks = tasks }) t s end).scopes
follow-told w tasks t s end h born =
    let x : Scope = scope_at w s in
    let y : Scope = told x t end in
    let v : World = with_scope (record w { tasks = tasks }) s y in
    let at : scope_at v s ≡ y = get_or-set_same w.scopes s y no_scope born in
    cond_both x.cancelled (record w { tasks = tasks }) (decide v s) (λ (a : World). AllFollow w a.scopes)
    (λ e. follow-refl w h)
    (λ still.
    cond_both (is_asked (scope_at v s)) (cancel v s) v (λ (a : World). AllFollow w a.scopes)
    (λ asked.
    cond_both (scope_at v s).cancelled v (marked v s) (λ (a : World). AllFollow w a.scopes)
    (λ e. let never : true ≡ false = sym e ∙ ap (λ (scope : Scope). scope.cancelled) at ∙ still in cc)
    (λ e. follow-asked w v s y h refl born asked))
    (λ quiet. follow-quiet w s x y h born refl still refl refl refl (sym (ap is_asked at) ∙ quiet)))

pub follow-end : (w : World) (t : ℕ) (f : Frame) (end : End) → Sound w → AllCaused w → AllFollow w (end_task w t f end).scopes
unfolding end_task
follow-end w t f end o h = by (task_at w t).scope refl
  where
    by : (q : Option ℕ) → (task_at w t).scope ≡ q → AllFollow w (tell (ended w t f end) t q end).scopes
    by None e = follow-refl w h
    by (Some s) e = follow-told w (ended w t f end).tasks t s end h (o.born t s e).0

-- ---- outside

pub follow-expire : (w : World) (s : ℕ) → AllCaused w → AllFollow w (expire w s).scopes
follow-expire w s h =
    let y : Scope = record (scope_at w s) { expired = true } in
    let v : World = with_scope w s y in
    cond_both (can_expire (scope_at w s)) (cancel v s) w (λ (a : World). AllFollow w a.scopes)
    (λ can.
    let born = within can_expire w.scopes s no_scope refl can in
    let at : scope_at v s ≡ y = get_or-set_same w.scopes s y no_scope born in
    let z : Scope = record (scope_at v s) { cancelled = true } in
    let late : (scope_at v s).expired ≡ true = rw at refl in
    let count = length-set w.scopes s y in
    let marks = length-set v.scopes s z in
    cond_both (scope_at v s).cancelled v (marked v s) (λ (a : World). AllFollow w a.scopes)
    (λ e. follow-set w s y h (caused w s y (rw at at e) (λ timely. cc)))
    (λ e r less.
    at_put (λ (scope : Scope). Follows w r scope) v.scopes s r z no_scope (omega (arith, count, born))
    (λ d. caused w r z refl (λ timely staying. let never : true ≡ false = sym late ∙ timely in cc))
    (λ other. rw (get_or-set_other w.scopes s r y no_scope other) (follow-refl w h r (omega (arith, count, marks, less))))))
    (λ e. follow-refl w h)

pub follow-interrupt : (w : World) (t : ℕ) → AllCaused w → AllFollow w (interrupt w t).scopes
follow-interrupt w t h = cond_both (lives (task_at w t)) _ w (λ (a : World). AllFollow w a.scopes) (λ e. follow-refl w h) (λ e. follow-refl w h)

-- ---- every instruction

pub follow-effect : (p : Program) (w : World) (t : ℕ) (i : Instr) → Sound w → AllCaused w → IsFine p w t (task_at w t).frame i → AllFollow w (effect p w t (task_at w t).frame i).scopes
unfolding fork_task
follow-effect p w t (Open x timed joiner) o h is = follow-open w t x (task_at w t).frame joiner timed h
follow-effect p w t (Join x failed timeout interrupted) o h is =
    let f : Frame = (task_at w t).frame in
    let mine : slot f x ≡ slots.Own (named (slot f x)) = own_slot (slot f x) (first_no _ _ (first_no _ _ is.slots)) is.own in
    let legal : not (can_join (scope_at w (named (slot f x))).phase) ≡ false = sym (at_own-is w (slot f x) (λ n scope. not (can_join scope.phase)) mine) ∙ is.legal in
    follow-join w t f (named (slot f x)) (unwrap_or failed 0) (unwrap_or timeout 0) interrupted h (staying_at_join (scope_at w (named (slot f x))).phase legal)
follow-effect p w t (Close x) o h is =
    let f : Frame = (task_at w t).frame in
    let mine : slot f x ≡ slots.Own (named (slot f x)) = own_slot (slot f x) (first_no _ _ (first_no _ _ is.slots)) is.own in
    follow-close w t f (named (slot f x)) h (owned_slot p w t (Close x) x o mine)
follow-effect p w t Ret o h is = follow-end w t (task_at w t).frame (Success (operand (task_at w t).frame 0)) o h
follow-effect p w t Fail o h is = follow-end w t (task_at w t).frame (Failed (operand (task_at w t).frame 0)) o h
follow-effect p w t _ o h is = follow-refl w h
