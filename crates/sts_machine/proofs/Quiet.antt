-- Effects that don't change the numbers of tasks, scopes and bindings.
use Rattle.std.proofs.Common.{◌≡◌, ℕ, [], length, Bool, true, false, ◌||◌, not, Option, Some, None, refl, ◌∙◌, ap, set, cond, is_some}
use Rattle.std.proofs.lemmas.List.{length-set, length-map}
use Rattle.std.specs.Prelude.{option_map, unwrap_or, count_by}
use Rattle.laws_words.proofs.OptionLemmas.{some_mapped}
use Rattle.sts_code.specs.Program.{Program}
use Rattle.sts_code.specs.declared.instr.Instr.{Instr}
use Rattle.sts_code.specs.declared.instr.Instr.TheVariants.{Div, Times, Next, Open, Fork, Join, Close, Bind, Unbind, Interrupted, Ret, Fail}
use Rattle.sts_model.specs.declared.event.End.{End}
use Rattle.sts_model.specs.declared.event.Phase.{Phase}
use Rattle.sts_model.specs.declared.event.Phase.TheVariants.{Attempted, Joined}
use Rattle.sts_model.specs.declared.event.Verdict.{Verdict}
use Rattle.sts_model.specs.declared.event.Verdict.TheVariants as verdict
use Rattle.sts_model.specs.declared.record.Frame.{Frame}
use Rattle.sts_model.specs.World.{code}
use Rattle.sts_model.specs.Living.{is_in}
use Rattle.sts_model.specs.Local.{goes, stays_in_frame}
use Rattle.sts_model.specs.Misuse.{slot, is_binding}
use Rattle.sts_model.specs.Effect.{named}
use Rattle.sts_model.specs.Told.{tell, cancels_told, result_told}
use Rattle.sts_model.specs.Live.{Live, LiveTask, LiveScope, Alive}
use Rattle.laws_runs.proofs.ListLemmas.{at_set}
use Rattle.laws_runs.proofs.FrameLemmas.{leaves-local}
use Rattle.laws_live.specs.Reading.{scope_in, task_in, no_live_task, no_alive, live_task_at, live_scope_at, alive_at, lives_in, with_live_task, with_alive, with_live_frame, with_live_scope, with_live_phase, live_any_lives, live_count}
use Rattle.laws_live.specs.Cancelling.{live_raise, live_raised, live_marked, live_cancel}
use Rattle.laws_live.specs.Effect.{live_verdict, live_join, live_told, live_decide, live_tell, live_effect}
use Rattle.laws_live.specs.Outside.{live_can_expire, live_expire, live_interrupt}
use Rattle.laws_accepted.specs.Views.{bindings_in}
use Rattle.sts_machine.specs.Changing.{is_quiet, may_wait}
use Rattle.sts_machine.specs.Room.{is_living}
use Rattle.laws_live.proofs.RestingLemmas.{mapped}

-- the change of what a task has, if it lives
abbrev pub changed : (Alive → Alive) → LiveTask → LiveTask
changed change task = record task { alive = option_map change task.alive }

-- the two tasks are both there or not, both live or not, and have the same number of bindings
pub record Alike (o q : Option LiveTask) : Type 0 where
  pub stands : is_some q ≡ is_some o
  pub living : is_living q ≡ is_living o
  pub binds : bindings_in q ≡ bindings_in o

-- each task is alike, and the same scopes are open
pub record IsQuiet (v x : Live) : Type 0 where
  pub born : length x.tasks ≡ length v.tasks
  pub tasks : (u : ℕ) → Alike (task_in v u) (task_in x u)
  pub opened : length x.scopes ≡ length v.scopes
  pub scopes : (s : ℕ) → is_some (scope_in x s) ≡ is_some (scope_in v s)

pub alike-refl : (o : Option LiveTask) → Alike o o
alike-refl o = record { stands = refl; living = refl; binds = refl }

pub quiet-refl : (v : Live) → IsQuiet v v
quiet-refl v = record { born = refl; tasks = λ u. alike-refl (task_in v u); opened = refl; scopes = λ s. refl }

pub quiet-trans : (v w x : Live) → IsQuiet v w → IsQuiet w x → IsQuiet v x
quiet-trans v w x h k =
    record {
      born = k.born ∙ h.born;
      tasks = λ u. record {
        stands = (k.tasks u).stands ∙ (h.tasks u).stands;
        living = (k.tasks u).living ∙ (h.tasks u).living;
        binds = (k.tasks u).binds ∙ (h.tasks u).binds;
      };
      opened = k.opened ∙ h.opened;
      scopes = λ s. k.scopes s ∙ h.scopes s;
    }

pub quiet-cond : (v : Live) (b : Bool) (x y : Live) → IsQuiet v x → IsQuiet v y → IsQuiet v (cond b x y)
quiet-cond v true x y h k = h
quiet-cond v false x y h k = k

-- ---- one task

quiet-task : (v : Live) (t : ℕ) (o : Option LiveTask) → Alike (task_in v t) o → IsQuiet v (record v { tasks = set v.tasks t o })
quiet-task v t o same =
    record {
      born = length-set v.tasks t o;
      tasks = λ u. at_set (λ q. Alike (task_in v u) q) v.tasks t u o None (λ e. rw e same) (alike-refl (task_in v u));
      opened = refl;
      scopes = λ s. refl;
    }

-- the task's own state changes if it lives, but not its number of bindings
alike-alive : (task : LiveTask) (change : Alive → Alive) → ((a : Alive) → task.alive ≡ Some a → count_by is_binding (change a).frame.entries ≡ count_by is_binding a.frame.entries) → Alike (Some task) (Some (record task { alive = option_map change task.alive }))
alike-alive task change same = by task.alive refl
  where
    by : (a : Option Alive) → task.alive ≡ a → Alike (Some task) (Some (record task { alive = option_map change task.alive }))
    by None e = record { stands = refl; living = rw e refl; binds = rw e refl }
    by (Some a) e = record { stands = refl; living = rw e refl; binds = rw e (same a e) }

pub quiet-alive : (v : Live) (t : ℕ) (change : Alive → Alive) → ((a : Alive) → (live_task_at v t).alive ≡ Some a → count_by is_binding (change a).frame.entries ≡ count_by is_binding a.frame.entries) → IsQuiet v (with_alive v t change)
quiet-alive v t change same = quiet-task v t (option_map (changed change) (task_in v t)) (by (task_in v t) refl)
  where
    by : (o : Option LiveTask) → task_in v t ≡ o → Alike o (option_map (changed change) o)
    by None e = alike-refl None
    by (Some task) e = alike-alive task change (λ a h. same a (ap (λ q. (unwrap_or q no_live_task).alive) e ∙ h))

-- the bindings of what it has
bound_alike : (v : Live) (t : ℕ) (a : Alive) → (live_task_at v t).alive ≡ Some a → count_by is_binding (alive_at v t).frame.entries ≡ count_by is_binding a.frame.entries
bound_alike v t a e = ap (λ q. count_by is_binding (unwrap_or q no_alive).frame.entries) e

-- a frame is written with the same number of bindings
pub quiet-frame : (v : Live) (t : ℕ) (f : Frame) → count_by is_binding f.entries ≡ count_by is_binding (alive_at v t).frame.entries → IsQuiet v (with_live_frame v t f)
quiet-frame v t f same = quiet-alive v t (λ alive. record alive { frame = f }) (λ a e. same ∙ bound_alike v t a e)

-- ---- scopes

pub quiet-scope : (v : Live) (s : ℕ) (change : LiveScope → LiveScope) → IsQuiet v (with_live_scope v s change)
quiet-scope v s change =
    record {
      born = refl;
      tasks = λ u. alike-refl (task_in v u);
      opened = length-set v.scopes s (option_map change (scope_in v s));
      scopes = λ r. at_set (λ (o : Option LiveScope). is_some o ≡ is_some (scope_in v r)) v.scopes s r (option_map change (scope_in v s)) None (λ e. rw e (some_mapped change (scope_in v s))) refl;
    }

quiet-raised : (v : Live) (s : ℕ) → IsQuiet v (live_raised s v)
quiet-raised v s =
    record {
      born = length-map v.tasks (option_map (live_raise s));
      tasks = λ u. rw (mapped (option_map (live_raise s)) v.tasks u refl) (by (task_in v u));
      opened = refl;
      scopes = λ r. refl;
    }
  where
    raise : Alive → Alive
    raise alive = record alive { flag = true }

    by2 : (task : LiveTask) (b : Bool) → Alike (Some task) (Some (cond b (changed raise task) task))
    by2 task true = alike-alive task raise (λ a e. refl)
    by2 task false = alike-refl (Some task)

    by : (o : Option LiveTask) → Alike o (option_map (live_raise s) o)
    by None = alike-refl None
    by (Some task) = by2 task (is_in s task.scope)

pub quiet-cancel : (v : Live) (s : ℕ) → IsQuiet v (live_cancel v s)
quiet-cancel v s =
    quiet-cond v (live_scope_at v s).cancelled v (live_marked v s) (quiet-refl v)
    (quiet-trans v (live_raised s v) _ (quiet-raised v s) (quiet-scope (live_raised s v) s (λ scope. record scope { cancelled = true })))

-- ---- join

-- a phase of a scope, and a frame
quiet-joined : (v : Live) (t s : ℕ) (phase : Phase) (f : Frame) → f.entries ≡ (alive_at v t).frame.entries → IsQuiet v (with_live_frame (with_live_phase v s phase) t f)
quiet-joined v t s phase f same =
    quiet-trans v (with_live_phase v s phase) _ (quiet-scope v s (λ scope. record scope { phase = phase }))
    (quiet-frame (with_live_phase v s phase) t f (ap (λ es. count_by is_binding es) same))

quiet-verdict : (q : Verdict) (v : Live) (t s failed : ℕ) → IsQuiet v (live_verdict q v t s (alive_at v t).frame failed)
quiet-verdict (verdict.Ok None) v t s failed = quiet-joined v t s Joined _ refl
quiet-verdict (verdict.Ok (Some n)) v t s failed = quiet-joined v t s Joined _ refl
quiet-verdict (verdict.Failed c) v t s failed = quiet-joined v t s Joined _ refl

quiet-join : (v : Live) (t s failed timeout interrupted : ℕ) → IsQuiet v (live_join v t (alive_at v t).frame s failed timeout interrupted)
unfolding live_join
quiet-join v t s failed timeout interrupted =
    let f : Frame = (alive_at v t).frame in
    quiet-cond v (live_scope_at v s).expired _ _
    (quiet-joined v t s Joined (goes f timeout 0 []) refl)
    (quiet-cond v ((live_scope_at v s).cancelled || not (live_any_lives v s)) _ _
    (quiet-verdict (result_told (live_scope_at v s).joiner (live_scope_at v s).told (live_count v s)) v t s failed)
    (quiet-trans v (with_live_phase v s Attempted) _ (quiet-scope v s (λ scope. record scope { phase = Attempted }))
    (quiet-alive (with_live_phase v s Attempted) t (λ alive. record alive { frame = goes f interrupted 0 []; flag = false }) (bound_alike (with_live_phase v s Attempted) t))))

-- ---- who is told of an end

quiet-told : (v : Live) (t s : ℕ) (end : End) → IsQuiet v (live_told v t s end)
quiet-told v t s end =
    quiet-trans v (with_live_task v t stated) _
    (quiet-task v t (option_map stated (task_in v t)) (by (task_in v t)))
    (quiet-scope (with_live_task v t stated) s (λ scope. record scope { told = tell scope.joiner scope.told end }))
  where
    stated : LiveTask → LiveTask
    stated task = record task { state = Some end }

    by : (o : Option LiveTask) → Alike o (option_map stated o)
    by None = alike-refl None
    by (Some task) = record { stands = refl; living = refl; binds = refl }

pub quiet-tell : (v : Live) (t : ℕ) (q : Option ℕ) (end : End) → IsQuiet v (live_tell v t q end)
quiet-tell v t None end = quiet-refl v
quiet-tell v t (Some s) end =
    let x : Live = live_told v t s end in
    quiet-cond v (live_scope_at v s).cancelled v (live_decide x s) (quiet-refl v)
    (quiet-trans v x (live_decide x s) (quiet-told v t s end)
    (quiet-cond x (cancels_told (live_scope_at x s).joiner (live_scope_at x s).told) (live_cancel x s) x (quiet-cancel x s) (quiet-refl x)))

-- ---- every instruction

pub quiet-effect : (p : Program) (v : Live) (t : ℕ) (i : Instr) → is_quiet i ≡ true → IsQuiet v (live_effect p v t (alive_at v t).frame i)
quiet-effect p v t (Open x timed joiner) e = cc
quiet-effect p v t (Fork x g h) e = cc
quiet-effect p v t (Close x) e = cc
quiet-effect p v t (Bind k) e = cc
quiet-effect p v t Unbind e = cc
quiet-effect p v t Ret e = cc
quiet-effect p v t Fail e = cc
quiet-effect p v t (Join x failed timeout interrupted) e = quiet-join v t (named (slot (alive_at v t).frame x)) (unwrap_or failed 0) (unwrap_or timeout 0) interrupted
quiet-effect p v t Interrupted e = quiet-alive v t _ (bound_alike v t)
quiet-effect p v t (Div to) e = quiet-frame v t _ (ap (λ es. count_by is_binding es) (leaves-local (code p (alive_at v t).frame) (Div to) (alive_at v t).frame).entries)
quiet-effect p v t (Times n) e = quiet-frame v t _ (ap (λ es. count_by is_binding es) (leaves-local (code p (alive_at v t).frame) (Times n) (alive_at v t).frame).entries)
quiet-effect p v t Next e = quiet-frame v t _ (ap (λ es. count_by is_binding es) (leaves-local (code p (alive_at v t).frame) Next (alive_at v t).frame).entries)
quiet-effect p v t i e = quiet-frame v t _ refl

pub local_quiet : (i : Instr) → stays_in_frame i ≡ true → is_quiet i ≡ true
local_quiet (Open x timed joiner) e = cc
local_quiet (Fork x g h) e = cc
local_quiet (Close x) e = cc
local_quiet (Bind k) e = cc
local_quiet Unbind e = cc
local_quiet Ret e = cc
local_quiet Fail e = cc
local_quiet i e = refl

pub local_unwaiting : (i : Instr) → stays_in_frame i ≡ true → may_wait i ≡ false
local_unwaiting (Join x failed timeout interrupted) e = cc
local_unwaiting (Close x) e = cc
local_unwaiting i e = refl

-- ---- from outside

pub quiet-interrupt : (v : Live) (t : ℕ) → IsQuiet v (live_interrupt v t)
quiet-interrupt v t = quiet-cond v (lives_in v t) _ v (quiet-alive v t (λ alive. record alive { flag = true }) (λ a e. refl)) (quiet-refl v)

pub quiet-expire : (v : Live) (s : ℕ) → IsQuiet v (live_expire v s)
quiet-expire v s =
    quiet-cond v (live_can_expire (live_scope_at v s)) _ v
    (quiet-trans v _ _ (quiet-scope v s (λ scope. record scope { expired = true })) (quiet-cancel _ s))
    (quiet-refl v)
