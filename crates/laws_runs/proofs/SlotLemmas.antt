-- Each effect keeps the law of slots: each scope and subtask that a slot of a living task names
-- still counts.
use Rattle.std.proofs.Common.{◌≡◌, ℕ, zero, suc, ◌<◌, List, [], ◌∷◌, Bool, true, false, Option, Some, None, refl, sym, ◌∙◌, ap, subst, length, arith, get_or}
use Rattle.std.proofs.Common.{cond, replicate, take, drop, ◌||◌, not, unwrap_or, get_or-set_other}
use Rattle.std.proofs.lemmas.Bool.Decides.{nat_tests}
use Rattle.std.proofs.lemmas.List.{get_or_append_left}
use Rattle.std.proofs.Math.Seq.{get_or-append_seam}
use Rattle.std.specs.Prelude.{is_some, reverse, ℤ}
use Rattle.sts_code.specs.Program.{Program, routine}
use Rattle.sts_code.specs.declared.instr.Instr.{Instr}
use Rattle.sts_code.specs.declared.instr.Instr.TheVariants.{Open, Fork, Join, Close, Bind, Unbind, Interrupted, Ret, Fail}
use Rattle.sts_code.specs.declared.instr.Joiner.{Joiner}
use Rattle.sts_model.specs.declared.event.End.{End}
use Rattle.sts_model.specs.declared.event.End.TheVariants.{Success, Failed}
use Rattle.sts_model.specs.declared.event.Phase.{Phase}
use Rattle.sts_model.specs.declared.event.Phase.TheVariants.{Attempted, Joined, Closing, Closed}
use Rattle.sts_model.specs.declared.event.Verdict.{Verdict}
use Rattle.sts_model.specs.declared.event.Verdict.TheVariants as verdict
use Rattle.sts_model.specs.declared.record.Slot.{Slot}
use Rattle.sts_model.specs.declared.record.Slot.TheVariants.{Empty, Own, Lent, Sub}
use Rattle.sts_model.specs.declared.record.Frame.{Frame}
use Rattle.sts_model.specs.declared.record.Task.{Task}
use Rattle.sts_model.specs.declared.record.Scope.{Scope}
use Rattle.sts_model.specs.World.{World, task_at, scope_at, no_task, no_scope, entry_frame, with_task, with_scope, with_frame, opening}
use Rattle.sts_model.specs.Local.{emptied_slot, operand, goes, steps}
use Rattle.sts_model.specs.Joining.{cancels, result_of}
use Rattle.sts_model.specs.Living.{lives, is_in, any_lives, is_closed, ends, subtask_count}
use Rattle.sts_model.specs.Standing.{stands_in}
use Rattle.sts_model.specs.Cancelling.{raised, marked, cancel}
use Rattle.sts_model.specs.Misuse.{slot, IsFine}
use Rattle.sts_model.specs.Effect.{effect, moved, named, with_phase, open_scope, fork_task, forked, with_slot, subtask_of, joined, join_verdict, join_scope}
use Rattle.sts_model.specs.Effect.{is_of, cleared, closed, close_scope, told, decide, tell, ended, end_task}
use Rattle.sts_model.specs.Outside.{interrupt, can_expire, expire}
use Rattle.sts_model.proofs.LivesLemmas.{cancel_alive}
use Rattle.laws_runs.proofs.ListLemmas.{at_set, at_put, at_more, within}
use Rattle.laws_runs.proofs.KeptLemmas.{kept-cancel, at_raised}
use Rattle.laws_runs.proofs.SoundLemmas.{Sound, sound-kept, born_open, stands_alive}
use Rattle.laws_runs.proofs.FrameLemmas.{own_slot, leaves-moved}
use Rattle.laws_runs.proofs.BirthLemmas.{born_alive, more_tasks, more_scopes, new_scope, opener}
use Rattle.laws_runs.proofs.EffectLemmas.{first_no, frame-cancel}
use Rattle.std.proofs.Math.Bool.{and-false}
use Rattle.laws_runs.specs.Runs.{In, Leads}
use Rattle.laws_runs.proofs.EventLemmas.{Also, main, also-kept, ever-from}
use Rattle.sts_model.specs.declared.event.Event.{Event}
use Rattle.sts_model.specs.Run.{after}
use Rattle.laws_runs.specs.Slots.{NamesStanding, SlotsStand}

-- a subtask of a scope of t that isn't closed
pub record IsSubOf (w : World) (t u : ℕ) : Type 0 where
  pub scope : ℕ
  pub inside : (task_at w u).scope ≡ Some scope
  pub owner : (scope_at w scope).owner ≡ t
  pub still : is_closed (scope_at w scope).phase ≡ false

-- what a slot of t may hold
abbrev pub IsNamed : World → ℕ → Slot → Type 0
IsNamed w t Empty = Unit {0}
IsNamed w t (Own s) = is_closed (scope_at w s).phase ≡ false
IsNamed w t (Lent s) = (task_at w t).scope ≡ Some s
IsNamed w t (Sub u) = IsSubOf w t u

abbrev pub Named : World → Type 0
Named w = (t x : ℕ) → lives (task_at w t) ≡ true → IsNamed w t (slot (task_at w t).frame x)

-- the scopes of tasks, the owners, and the open scopes stay
record Stays (w v : World) : Type 0 where
  pub scope : (u s : ℕ) → (task_at w u).scope ≡ Some s → (task_at v u).scope ≡ Some s
  pub owner : (s : ℕ) → is_closed (scope_at w s).phase ≡ false → (scope_at v s).owner ≡ (scope_at w s).owner
  pub still : (s : ℕ) → is_closed (scope_at w s).phase ≡ false → is_closed (scope_at v s).phase ≡ false

is_named-stays : (w v : World) (t : ℕ) (y : Slot) → Stays w v → IsNamed w t y → IsNamed v t y
is_named-stays w v t Empty k h = tt
is_named-stays w v t (Own s) k h = k.still s h
is_named-stays w v t (Lent s) k h = k.scope t s h
is_named-stays w v t (Sub u) k h = record { scope = h.scope; inside = k.scope u h.scope h.inside; owner = k.owner h.scope h.still ∙ h.owner; still = k.still h.scope h.still }

named-cond : (b : Bool) (x y : World) → (b ≡ true → Named x) → (b ≡ false → Named y) → Named (cond b x y)
named-cond true x y h k = h refl
named-cond false x y h k = k refl

-- ---- building blocks

-- one task changes, and its slots name only what they may
named-task : (w : World) (t : ℕ) (x : Task) → Named w → x.scope ≡ (task_at w t).scope → (lives x ≡ true → (i : ℕ) → IsNamed w t (slot x.frame i)) → Named (with_task w t x)
named-task w t x h scope names u i alive =
    is_named-stays w (with_task w t x) u (slot (task_at (with_task w t x) u).frame i)
    (record {
      scope = λ q s e. at_set (λ (task : Task). task.scope ≡ Some s) w.tasks t q x no_task (λ d. scope ∙ rw d at e) e;
      owner = λ s still. refl;
      still = λ s still. still;
    })
    (at_set (λ (task : Task). lives task ≡ true → IsNamed w u (slot task.frame i)) w.tasks t u x no_task (λ e a. rw e (names a i)) (h u i) alive)

-- one frame with the same slots, except for a slot that is emptied
named-emptied : (w : World) (t : ℕ) (f : Frame) (flag : Bool) (emptied : Option ℕ) → Named w → f.slots ≡ with_slot (task_at w t).frame.slots emptied Empty → Named (with_task w t (record (task_at w t) { frame = f; flag = flag }))
named-emptied w t f flag emptied h same =
    named-task w t (record (task_at w t) { frame = f; flag = flag }) h refl
    (λ alive i. subst (λ (l : List Slot). IsNamed w t (get_or l i Empty)) (sym same) (by emptied i (h t i alive)))
  where
    by : (o : Option ℕ) (i : ℕ) → IsNamed w t (get_or (task_at w t).frame.slots i Empty) → IsNamed w t (get_or (with_slot (task_at w t).frame.slots o Empty) i Empty)
    by None i old = old
    by (Some x) i old = at_set (IsNamed w t) (task_at w t).frame.slots x i Empty Empty (λ e. tt) old

-- one frame with the same slots
named-frame : (w : World) (t : ℕ) (f : Frame) (flag : Bool) → Named w → f.slots ≡ (task_at w t).frame.slots → Named (with_task w t (record (task_at w t) { frame = f; flag = flag }))
named-frame w t f flag h same = named-emptied w t f flag None h same

-- one scope
named-scope : (w : World) (s : ℕ) (y : Scope) → Named w → y.owner ≡ (scope_at w s).owner → (is_closed (scope_at w s).phase ≡ false → is_closed y.phase ≡ false) → Named (with_scope w s y)
named-scope w s y h owner still u i alive =
    is_named-stays w (with_scope w s y) u (slot (task_at w u).frame i)
    (record {
      scope = λ q r e. e;
      owner = λ r open_before. at_set (λ (scope : Scope). scope.owner ≡ (scope_at w r).owner) w.scopes s r y no_scope (λ e. rw e owner) refl;
      still = λ r open_before. at_set (λ (scope : Scope). is_closed scope.phase ≡ false) w.scopes s r y no_scope (λ e. still (rw e at open_before)) open_before;
    })
    (h u i alive)

named-raised : (w : World) (s : ℕ) → Named w → Named (record w { tasks = raised s w.tasks })
named-raised w s h u i alive =
    let v : World = record w { tasks = raised s w.tasks } in
    is_named-stays w v u (slot (task_at v u).frame i)
    (record {
      scope = λ q r e. at_raised (λ (task : Task). task.scope ≡ Some r) s w.tasks q e e;
      owner = λ r still. refl;
      still = λ r still. still;
    })
    (at_raised (λ (task : Task). lives task ≡ true → IsNamed w u (slot task.frame i)) s w.tasks u (h u i) (h u i) alive)

named-cancel : (w : World) (s : ℕ) → Named w → Named (cancel w s)
named-cancel w s h =
    named-cond (scope_at w s).cancelled w (marked w s) (λ e. h)
    (λ e. named-scope (record w { tasks = raised s w.tasks }) s (record (scope_at w s) { cancelled = true }) (named-raised w s h) refl (λ still. still))

named-more_scopes : (w : World) (x : Scope) → Named w → Named (more_scopes w x)
named-more_scopes w x h u i alive =
    is_named-stays w (more_scopes w x) u (slot (task_at w u).frame i)
    (record {
      scope = λ q r e. e;
      owner = λ r still. ap (λ (scope : Scope). scope.owner) (get_or_append_left w.scopes (x ∷ []) no_scope r (born_open w r still));
      still = λ r still. rw (get_or_append_left w.scopes (x ∷ []) no_scope r (born_open w r still)) still;
    })
    (h u i alive)

-- one task more, with slots that name only what they may
named-more_tasks : (w : World) (x : Task) → Named w → ((i : ℕ) → IsNamed (more_tasks w x) (length w.tasks) (slot x.frame i)) → Named (more_tasks w x)
named-more_tasks w x h new u i =
    at_more (λ (task : Task). lives task ≡ true → IsNamed (more_tasks w x) u (slot task.frame i)) w.tasks x u no_task
    (λ e alive. rw e (new i))
    (λ alive. is_named-stays w (more_tasks w x) u (slot (task_at w u).frame i) stays (h u i alive))
  where
    stays : Stays w (more_tasks w x)
    stays =
        record {
          scope = λ q s e.
              let born : q < length w.tasks = within (λ (task : Task). is_some task.scope) w.tasks q no_task refl (rw e refl) in
              ap (λ (task : Task). task.scope) (get_or_append_left w.tasks (x ∷ []) no_task q born) ∙ e;
          owner = λ s still. refl;
          still = λ s still. still;
        }

-- ---- open and fork

named-open : (w : World) (t x : ℕ) (joiner : Joiner) (timed : Bool) → Named w → Named (open_scope w t (task_at w t).frame x joiner timed)
unfolding open_scope
named-open w t x joiner timed h =
    let new : Scope = new_scope w t joiner timed in
    let v : World = more_scopes w new in
    let k : Named v = named-more_scopes w new h in
    let fresh : is_closed (scope_at v (length w.scopes)).phase ≡ false = ap (λ (scope : Scope). is_closed scope.phase) (get_or-append_seam w.scopes new [] no_scope) in
    named-task v t (record (task_at w t) { frame = opener w (task_at w t).frame x }) k refl
    (λ alive i. at_set (IsNamed v t) (task_at w t).frame.slots x i (Own (length w.scopes)) Empty (λ e. fresh) (k t i alive))

-- a new task has its scope in slot 0, and nothing else
pub empties : (w : World) (t n i : ℕ) → IsNamed w t (get_or (replicate n Empty) i Empty)
empties w t zero i = tt
empties w t (suc n) zero = tt
empties w t (suc n) (suc i) = empties w t n i

entry_named : (w : World) (t s g : ℕ) (args : List ℤ) → (task_at w t).scope ≡ Some s → (i : ℕ) → IsNamed w t (slot (entry_frame g args (Lent s)) i)
entry_named w t s g args inside zero = inside
entry_named w t s g args inside (suc i) = empties w t 15 i

named-fork : (p : Program) (w : World) (t s g : ℕ) (h : Option ℕ) → Named w → lives (task_at w t) ≡ true → (scope_at w s).owner ≡ t → is_closed (scope_at w s).phase ≡ false → Named (fork_task p w t (task_at w t).frame s g h)
unfolding fork_task
named-fork p w t s g h k alive mine still =
    let f : Frame = (task_at w t).frame in
    let same : task_at v t ≡ task_at w t = get_or_append_left w.tasks (x ∷ []) no_task t (born_alive w t alive) in
    named-task v t (record (task_at v t) { frame = forked f (routine p g).args h (length w.tasks) }) all refl
    (λ a i. handle h i (subst (λ (task : Task). IsNamed v t (slot task.frame i)) same (all t i (rw same alive))))
  where
    x : Task
    x = subtask_of p w (task_at w t).frame s g

    v : World
    v = more_tasks w x

    inside : (task_at v (length w.tasks)).scope ≡ Some s
    inside = ap (λ (task : Task). task.scope) (get_or-append_seam w.tasks x [] no_task)

    all : Named v
    all = named-more_tasks w x k (entry_named v (length w.tasks) s g (reverse (take (routine p g).args (task_at w t).frame.operands)) inside)

    handle : (o : Option ℕ) (i : ℕ) → IsNamed v t (get_or (task_at w t).frame.slots i Empty) → IsNamed v t (get_or (with_slot (task_at w t).frame.slots o (Sub (length w.tasks))) i Empty)
    handle None i old = old
    handle (Some q) i old = at_set (IsNamed v t) (task_at w t).frame.slots q i (Sub (length w.tasks)) Empty (λ e. record { scope = s; inside = inside; owner = mine; still = still }) old

-- ---- join

named-phase : (w : World) (s : ℕ) (phase : Phase) → Named w → is_closed phase ≡ false → Named (with_phase w s phase)
named-phase w s phase h after = named-scope w s (record (scope_at w s) { phase = phase }) h refl (λ still. after)

named-joined : (w : World) (t s : ℕ) (f : Frame) → Named w → f.slots ≡ (task_at w t).frame.slots → Named (joined w t s f)
named-joined w t s f h same = named-frame (with_phase w s Joined) t f (task_at w t).flag (named-phase w s Joined h refl) same

named-verdict : (v : Verdict) (w : World) (t s failed : ℕ) → Named w → Named (join_verdict v w t s (task_at w t).frame failed)
named-verdict (verdict.Ok None) w t s failed h = named-joined w t s (steps (task_at w t).frame 0 []) h refl
named-verdict (verdict.Ok (Some n)) w t s failed h = named-joined w t s (steps (task_at w t).frame 0 (n ∷ [])) h refl
named-verdict (verdict.Failed c) w t s failed h = named-joined w t s (goes (task_at w t).frame failed 0 (c ∷ [])) h refl

named-join : (w : World) (t s failed timeout interrupted : ℕ) → Named w → Named (join_scope w t (task_at w t).frame s failed timeout interrupted)
unfolding join_scope
named-join w t s failed timeout interrupted h =
    let f : Frame = (task_at w t).frame in
    named-cond (scope_at w s).expired _ _
    (λ e. named-joined w t s (goes f timeout 0 []) h refl)
    (λ e.
    named-cond ((scope_at w s).cancelled || not (any_lives w s)) _ _
    (λ d. named-verdict (result_of (scope_at w s).joiner (ends (scope_at w s)) (subtask_count w s)) w t s failed h)
    (λ d. named-frame (with_phase w s Attempted) t (goes f interrupted 0 []) false (named-phase w s Attempted h refl) refl))

-- ---- close

-- the slot names neither the scope nor a subtask of it
abbrev Avoids : World → ℕ → Slot → Type 0
Avoids w s Empty = Unit {0}
Avoids w s (Own r) = r ≡ s → ⊥
Avoids w s (Lent r) = Unit {0}
Avoids w s (Sub u) = (task_at w u).scope ≡ Some s → ⊥

avoids_of : (w : World) (s : ℕ) (y : Slot) → is_of w s y ≡ false → Avoids w s y
avoids_of w s Empty e = tt
avoids_of w s (Own r) e = λ same. grind (arith, nat_tests)
avoids_of w s (Lent r) e = tt
avoids_of w s (Sub u) e = λ inside. let there : is_in s (task_at w u).scope ≡ true = rw inside (grind (arith, nat_tests)) in cc

-- a cleared slot names neither, and every other content was there before
cleared-avoids : (w : World) (t s : ℕ) (xs : List Slot) (i : ℕ) → IsNamed w t (get_or xs i Empty) → IsNamed w t (get_or (cleared w s xs) i Empty) × Avoids w s (get_or (cleared w s xs) i Empty)
cleared-avoids w t s [] i h = (h, tt)
cleared-avoids w t s (y ∷ ys) zero h = by (is_of w s y) refl
  where
    by : (b : Bool) → is_of w s y ≡ b → IsNamed w t (cond b Empty y) × Avoids w s (cond b Empty y)
    by true e = (tt, tt)
    by false e = (h, avoids_of w s y e)
cleared-avoids w t s (y ∷ ys) (suc i) h = cleared-avoids w t s ys i h

-- another task's slots name nothing of a scope of t
avoids_others : (w : World) (t u i s : ℕ) (y : Slot) → Sound w → (scope_at w s).owner ≡ t → (u ≡ t → ⊥) → slot (task_at w u).frame i ≡ y → IsNamed w u y → Avoids w s y
avoids_others w t u i s Empty o mine other is h = tt
avoids_others w t u i s (Own r) o mine other is h = λ same. let owner = (o.own u i r is).owner in other (cc)
avoids_others w t u i s (Lent r) o mine other is h = tt
avoids_others w t u i s (Sub q) o mine other is h = λ inside. let a = h.inside in let b = h.owner in let same : h.scope ≡ s = cc in other (cc)

-- if no slot names the scope, it can be closed
is_named-shut : (w : World) (t s : ℕ) (y : Slot) → Avoids w s y → IsNamed w t y → IsNamed (with_phase w s Closed) t y
is_named-shut w t s Empty avoids h = tt
is_named-shut w t s (Own r) avoids h = rw (get_or-set_other w.scopes s r (record (scope_at w s) { phase = Closed }) no_scope avoids) h
is_named-shut w t s (Lent r) avoids h = h
is_named-shut w t s (Sub u) avoids h =
    let same = get_or-set_other w.scopes s h.scope (record (scope_at w s) { phase = Closed }) no_scope (λ e. avoids (rw (← e) h.inside)) in
    record { scope = h.scope; inside = h.inside; owner = rw same h.owner; still = rw same h.still }

-- no slot of a living task names the scope
abbrev Shuns : World → ℕ → Type 0
Shuns w s = (u i : ℕ) → lives (task_at w u) ≡ true → Avoids w s (slot (task_at w u).frame i)

named-shut : (w : World) (s : ℕ) → Named w → Shuns w s → Named (with_phase w s Closed)
named-shut w s h shuns u i alive = is_named-shut w u s (slot (task_at w u).frame i) (shuns u i alive) (h u i alive)

avoids-stays : (w v : World) (s : ℕ) (y : Slot) → ((u : ℕ) → (task_at v u).scope ≡ (task_at w u).scope) → Avoids w s y → Avoids v s y
avoids-stays w v s Empty same h = tt
avoids-stays w v s (Own r) same h = h
avoids-stays w v s (Lent r) same h = tt
avoids-stays w v s (Sub u) same h = λ inside. h (sym (same u) ∙ inside)

named-closed : (w : World) (t s : ℕ) (f : Frame) → Sound w → Named w → t < length w.tasks → lives (task_at w t) ≡ true → (task_at w t).frame ≡ f → (scope_at w s).owner ≡ t → Named (closed w t f s)
named-closed w t s f o h born alive same mine = named-shut v s named shuns
  where
    frame : Frame
    frame = record (steps f 0 []) { entries = drop 1 f.entries; slots = cleared w s f.slots }

    x : Task
    x = record (task_at w t) { frame = frame }

    v : World
    v = with_frame w t frame

    old : (i : ℕ) → IsNamed w t (get_or f.slots i Empty)
    old i = subst (λ (g : Frame). IsNamed w t (slot g i)) same (h t i alive)

    named : Named v
    named = named-task w t x h refl (λ a i. (cleared-avoids w t s f.slots i (old i)).0)

    scopes : (u : ℕ) → (task_at v u).scope ≡ (task_at w u).scope
    scopes u = at_set (λ (task : Task). task.scope ≡ (task_at w u).scope) w.tasks t u x no_task (λ e. rw e refl) refl

    shuns : Shuns v s
    shuns u i a =
        avoids-stays w v s (slot (task_at v u).frame i) scopes
        (at_put (λ (task : Task). lives task ≡ true → Avoids w s (slot task.frame i)) w.tasks t u x no_task born
        (λ e b. (cleared-avoids w t s f.slots i (old i)).1)
        (λ other b. avoids_others w t u i s (slot (task_at w u).frame i) o mine other refl (h u i b))
        a)

owner-cancel : (w : World) (s r : ℕ) → (scope_at (cancel w s) r).owner ≡ (scope_at w r).owner
owner-cancel w s r = ((kept-cancel w s).scope r).same.owner

named-close : (w : World) (t s : ℕ) → Sound w → Named w → lives (task_at w t) ≡ true → (scope_at w s).owner ≡ t → Named (close_scope w t (task_at w t).frame s)
unfolding close_scope
named-close w t s o h alive mine =
    let v : World = cancel w s in
    let k = kept-cancel w s in
    let tasks = k.tasks in
    let born = born_alive w t alive in
    named-cond (any_lives v s) _ _
    (λ e. named-phase v s Closing (named-cancel w s h) refl)
    (λ e. named-closed v t s (task_at w t).frame (sound-kept w v o k) (named-cancel w s h) (omega (arith, tasks, born)) (cancel_alive w s t ∙ alive) (frame-cancel w s t) (owner-cancel w s s ∙ mine))

-- ---- the end of a task

named-decide : (w : World) (s : ℕ) → Named w → Named (decide w s)
named-decide w s h = named-cond (cancels (scope_at w s).joiner (ends (scope_at w s))) (cancel w s) w (λ e. named-cancel w s h) (λ e. h)

named-tell : (w : World) (t : ℕ) (o : Option ℕ) (end : End) → Named w → Named (tell w t o end)
named-tell w t None end h = h
named-tell w t (Some s) end h =
    let y : Scope = told (scope_at w s) t end in
    named-cond (scope_at w s).cancelled w (decide (with_scope w s y) s) (λ e. h)
    (λ e. named-decide (with_scope w s y) s (named-scope w s y h refl (λ still. still)))

named-end : (w : World) (t : ℕ) (f : Frame) (end : End) → Named w → Named (end_task w t f end)
unfolding end_task
named-end w t f end h =
    named-tell (ended w t f end) t (task_at w t).scope end
    (named-task w t (record (task_at w t) { frame = steps f 1 []; outcome = Some end }) h refl
    (λ alive i. let dead = and-false (task_at w t).started in let never : true ≡ false = sym alive ∙ dead in absurd (cc)))

-- ---- every instruction

pub named-effect : (p : Program) (w : World) (t : ℕ) (i : Instr) → Sound w → Named w → lives (task_at w t) ≡ true → IsFine p w t (task_at w t).frame i → Named (effect p w t (task_at w t).frame i)
named-effect p w t (Open x timed joiner) o h alive is = named-open w t x joiner timed h
named-effect p w t (Fork x g q) o h alive is =
    let f : Frame = (task_at w t).frame in
    let mine : slot f x ≡ Own (named (slot f x)) = own_slot (slot f x) (first_no _ _ (first_no _ _ is.slots)) is.own in
    named-fork p w t (named (slot f x)) g q h alive (o.own t x (named (slot f x)) mine).owner (subst (IsNamed w t) mine (h t x alive))
named-effect p w t (Join x failed timeout interrupted) o h alive is = named-join w t (named (slot (task_at w t).frame x)) (unwrap_or failed 0) (unwrap_or timeout 0) interrupted h
named-effect p w t (Close x) o h alive is =
    let f : Frame = (task_at w t).frame in
    let mine : slot f x ≡ Own (named (slot f x)) = own_slot (slot f x) (first_no _ _ (first_no _ _ is.slots)) is.own in
    named-close w t (named (slot f x)) o h alive (o.own t x (named (slot f x)) mine).owner
named-effect p w t (Bind k) o h alive is = named-frame w t _ (task_at w t).flag h refl
named-effect p w t Unbind o h alive is = named-frame w t _ (task_at w t).flag h refl
named-effect p w t Interrupted o h alive is = named-frame w t _ false h refl
named-effect p w t Ret o h alive is = named-end w t (task_at w t).frame (Success (operand (task_at w t).frame 0)) h
named-effect p w t Fail o h alive is = named-end w t (task_at w t).frame (Failed (operand (task_at w t).frame 0)) h
named-effect p w t i o h alive is = named-emptied w t (moved p w t (task_at w t).frame i) (task_at w t).flag (emptied_slot i) h (leaves-moved p w t (task_at w t).frame i).slots

pub named-interrupt : (w : World) (t : ℕ) → Named w → Named (interrupt w t)
named-interrupt w t h = named-cond (lives (task_at w t)) _ w (λ e. named-frame w t (task_at w t).frame true h refl) (λ e. h)

pub named-expire : (w : World) (s : ℕ) → Named w → Named (expire w s)
named-expire w s h =
    let y : Scope = record (scope_at w s) { expired = true } in
    named-cond (can_expire (scope_at w s)) (cancel (with_scope w s y) s) w
    (λ e. named-cancel (with_scope w s y) s (named-scope w s y h refl (λ still. still)))
    (λ e. h)

-- ---- what stands

pub names_standing : (w : World) (t x : ℕ) → Sound w → Named w → lives (task_at w t) ≡ true → NamesStanding w t x
names_standing w t x o h alive =
    record {
      own = λ s e. let still : is_closed (scope_at w s).phase ≡ false = subst (IsNamed w t) e (h t x alive) in rw still refl;
      lent = λ s e. let inside : (task_at w t).scope ≡ Some s = subst (IsNamed w t) e (h t x alive) in (subst (λ (q : Option ℕ). stands_in w q ≡ true) inside (stands_alive w t o alive), inside);
      sub = λ u e. let k : IsSubOf w t u = subst (IsNamed w t) e (h t x alive) in let still = k.still in rw (k.inside, still) refl;
    }

-- ---- every state

named-leads : (p : Program) → Leads p (Also Named) (λ w v. Named v)
named-leads p =
    record {
      nothing = λ w h. h.also;
      effect = λ w t i h d. named-effect p w t i h.right.sound h.also d.alive d.fine;
      interrupt = λ w t h. named-interrupt w t h.also;
      expire = λ w s h. named-expire w s h.also;
    }

-- the root's slots are empty
root_named : (p : Program) (w : World) (t x : ℕ) → lives (get_or (main p ∷ []) t no_task) ≡ true → IsNamed w t (slot (get_or (main p ∷ []) t no_task).frame x)
root_named p w zero zero alive = tt
root_named p w zero (suc x) alive = empties w 0 15 x
root_named p w (suc t) x alive = cc

named-opening : (p : Program) → In Named (opening p)
named-opening p t x alive = root_named p (record { tasks = main p ∷ []; scopes = [] }) t x alive

pub named-after : (p : Program) (events : List Event) → In (Also Named) (after p events)
named-after p events = also-kept p Named (named-opening p) (named-leads p) events

pub slots_stand : SlotsStand
slots_stand = ever-from (λ p w. Also Named w) named-after _ (λ p w h t x alive. names_standing w t x h.right.sound h.also alive)
