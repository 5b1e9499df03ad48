-- A task that can step still can after any event but its own step.
use Rattle.std.proofs.Common.{◌≡◌, ℕ, ◌<◌, ◌≤◌, List, [], ◌∷◌, Bool, true, false, Option, Some, None, refl, sym, ◌∙◌, ap, subst, length, get_or, set, drop}
use Rattle.std.proofs.Common.{cond, ◌&&◌, ◌||◌, not, suc, arith, length-set, get_or-set_other}
use Rattle.std.proofs.lemmas.Bool.Decides.{nat_tests}
use Rattle.std.proofs.lemmas.List.{length-map}
use Rattle.std.specs.List.{list_any}
use Rattle.std.specs.Prelude.{◌==◌}
use Rattle.sts_code.specs.Program.{Program}
use Rattle.sts_code.specs.declared.instr.Instr.{Instr}
use Rattle.sts_code.specs.declared.instr.Instr.TheVariants.{Fork, Join, Close, Ret, Fail}
use Rattle.sts_model.specs.declared.event.Event.{Event}
use Rattle.sts_model.specs.declared.event.Event.TheVariants as event
use Rattle.sts_model.specs.declared.event.End.{End}
use Rattle.sts_model.specs.declared.event.End.TheVariants.{Success, Failed}
use Rattle.sts_model.specs.declared.event.Fault.{Fault}
use Rattle.sts_model.specs.declared.event.Phase.TheVariants.{Closing, Closed}
use Rattle.sts_model.specs.declared.event.Stand.TheVariants.{Free, AtClose}
use Rattle.sts_model.specs.declared.record.Slot.{Slot}
use Rattle.sts_model.specs.declared.record.Slot.TheVariants.{Own}
use Rattle.sts_model.specs.declared.record.Frame.{Frame}
use Rattle.sts_model.specs.declared.record.Task.{Task}
use Rattle.sts_model.specs.declared.record.Scope.{Scope}
use Rattle.sts_model.specs.World.{World, Running, task_at, scope_at, no_task, no_scope, instr_at, with_task, with_scope}
use Rattle.sts_model.specs.Local.{operand, steps}
use Rattle.sts_model.specs.Joining.{cancels}
use Rattle.sts_model.specs.Living.{lives, is_living_subtask, is_in, any_lives, ends}
use Rattle.sts_model.specs.Cancelling.{raise, raised, marked, cancel}
use Rattle.sts_model.specs.Misuse.{slot, misuse, IsFine}
use Rattle.sts_model.proofs.FineLemmas.{fine}
use Rattle.sts_model.specs.Waiting.{can_step, is_closing}
use Rattle.sts_model.specs.Effect.{effect, named, cleared, close_scope, told, decide, tell, ended, end_task}
use Rattle.sts_model.specs.Outside.{can_expire}
use Rattle.sts_model.specs.Run.{apply, stepped, perform}
use Rattle.sts_model.specs.Live.{live}
use Rattle.laws_runs.specs.Runs.{In, NeverFaults}
use Rattle.laws_runs.proofs.ListLemmas.{at_set}
use Rattle.std.proofs.lemmas.Bool.{and_parts, eqb-false}
use Rattle.std.proofs.Math.Bool.{and-false}
use Rattle.laws_runs.proofs.KeptLemmas.{kept-cancel, at_raised}
use Rattle.laws_runs.proofs.FrameLemmas.{own_slot}
use Rattle.laws_runs.proofs.EffectLemmas.{first_no}
use Rattle.laws_runs.proofs.BirthLemmas.{born_alive}
use Rattle.laws_live.specs.Reading.{alive_at, lives_in}
use Rattle.laws_live.specs.Waiting.{live_stands_at_join, live_stands_at_close, live_stand_at_instr, live_can_go, live_can_step}
use Rattle.laws_live.proofs.ViewLemmas.{scope_is, alive_is, any_is, lives_is, tasks_born}
use Rattle.laws_live.proofs.EndLemmas.{open_some}
use Rattle.laws_live.proofs.EffectLemmas.{Facts}
use Rattle.laws_live.proofs.WaitingLemmas.{frame_is}
use Rattle.laws_live.specs.Waking.{is_step_of, ReadyStays}
use Rattle.laws_live.proofs.Looks.{Looks, looks-refl, same-scope-owned}
use Rattle.laws_live.proofs.Waking.{between, looks-phase, looks-effect, owner_of}
use Rattle.laws_live.proofs.Looks as looks

-- ---- what wakes

-- a scope that still lets its owner go on
record Wakens (x y : Scope) : Type 0 where
  pub owner : y.owner ≡ x.owner
  pub phase : y.phase ≡ x.phase
  pub cancelled : x.cancelled ≡ true → y.cancelled ≡ true
  pub expired : x.expired ≡ true → y.expired ≡ true

wakens-refl : (x : Scope) → Wakens x x
wakens-refl x = record { owner = refl; phase = refl; cancelled = λ e. e; expired = λ e. e }

-- the parts that u depends on still let it go on
record Wakes (w v : World) (u : ℕ) : Type 0 where
  pub scopes : length w.scopes ≤ length v.scopes
  pub frame : (task_at v u).frame ≡ (task_at w u).frame
  pub alive : lives (task_at w u) ≡ true → lives (task_at v u) ≡ true
  pub flag : (task_at w u).flag ≡ true → (task_at v u).flag ≡ true
  pub scope : (s : ℕ) → s < length w.scopes → (scope_at w s).owner ≡ u → Wakens (scope_at w s) (scope_at v s)
  pub any : (s : ℕ) → s < length w.scopes → (scope_at w s).owner ≡ u → any_lives v s ≡ true → any_lives w s ≡ true

wakes-looks : (w v : World) (u : ℕ) → Looks w v u → Wakes w v u
wakes-looks w v u h =
    record {
      scopes = h.scopes;
      frame = ap (λ (task : Task). task.frame) h.task;
      alive = λ e. ap lives h.task ∙ e;
      flag = λ e. ap (λ (task : Task). task.flag) h.task ∙ e;
      scope = λ s born mine. rw (h.scope s born mine) (wakens-refl (scope_at w s));
      any = λ s born mine e. sym (h.any s born mine) ∙ e;
    }

wakes-refl : (w : World) (u : ℕ) → Wakes w w u
wakes-refl w u = wakes-looks w w u (looks-refl w u)

wakes-trans : (w v x : World) (u : ℕ) → Wakes w v u → Wakes v x u → Wakes w x u
wakes-trans w v x u h k =
    record {
      scopes = let a = h.scopes in let b = k.scopes in omega (arith, a, b);
      frame = k.frame ∙ h.frame;
      alive = λ e. k.alive (h.alive e);
      flag = λ e. k.flag (h.flag e);
      scope = λ s born mine. both_wake (scope_at w s) (scope_at v s) (scope_at x s) (h.scope s born mine) (k.scope s (still s born) (same s born mine));
      any = λ s born mine e. h.any s born mine (k.any s (still s born) (same s born mine) e);
    }
  where
    still : (s : ℕ) → s < length w.scopes → s < length v.scopes
    still s born = let a = h.scopes in omega (arith, a, born)

    same : (s : ℕ) → s < length w.scopes → (scope_at w s).owner ≡ u → (scope_at v s).owner ≡ u
    same s born mine = (h.scope s born mine).owner ∙ mine

    both_wake : (a b c : Scope) → Wakens a b → Wakens b c → Wakens a c
    both_wake a b c f g = record { owner = g.owner ∙ f.owner; phase = g.phase ∙ f.phase; cancelled = λ e. g.cancelled (f.cancelled e); expired = λ e. g.expired (f.expired e) }

wakes-cond : (w : World) (u : ℕ) (b : Bool) (x y : World) → (b ≡ true → Wakes w x u) → (b ≡ false → Wakes w y u) → Wakes w (cond b x y) u
wakes-cond w u true x y h k = h refl
wakes-cond w u false x y h k = k refl

-- ---- it goes on where it did

go_on : (a b c d a' b' c' d' : Bool) → (a ≡ true → a' ≡ true) → (b ≡ true → b' ≡ true) → (c' ≡ true → c ≡ true) → (d ≡ true → d' ≡ true) → (a || b || not c || d) ≡ true → (a' || b' || not c' || d') ≡ true
go_on a b c d true b' c' d' f g h k e = refl
go_on a b c d false true c' d' f g h k e = refl
go_on a b c d false false false d' f g h k e = refl
go_on a b c d false false true true f g h k e = refl
go_on true b c d false false true false f g h k e = f refl
go_on false true c d false false true false f g h k e = g refl
go_on false false true true false false true false f g h k e = k refl
go_on false false true false false false true false f g h k e = e
go_on false false false d false false true false f g h k e = let never = h refl in cc

none_still : (c c' : Bool) → (c' ≡ true → c ≡ true) → not c ≡ true → not c' ≡ true
none_still c false h e = refl
none_still true true h e = e
none_still false true h e = let never = h refl in cc

go-still : (w v : World) (u : ℕ) (i : Option Instr) → Facts w → Facts v → Wakes w v u → lives (task_at w u) ≡ true → lives (task_at v u) ≡ true → live_can_go (live w) u (live_stand_at_instr (live w) u i) ≡ true → live_can_go (live v) u (live_stand_at_instr (live v) u i) ≡ true
go-still w v u (Some (Join x failed timeout interrupted)) o q h alive alive_v can =
    ap (λ (f : Frame). live_can_go (live v) u (live_stands_at_join (slot f x))) (frame_is v u q alive_v ∙ h.frame)
    ∙ by (slot (task_at w u).frame x) refl (ap (λ (f : Frame). live_can_go (live w) u (live_stands_at_join (slot f x))) (sym (frame_is w u o alive)) ∙ can)
  where
    by : (y : Slot) → slot (task_at w u).frame x ≡ y → live_can_go (live w) u (live_stands_at_join y) ≡ true → live_can_go (live v) u (live_stands_at_join y) ≡ true
    by (Own s) e can =
        let mine = same-scope-owned w u x s o e in
        let e_v : slot (task_at v u).frame x ≡ Own s = ap (λ (f : Frame). slot f x) h.frame ∙ e in
        let k = h.scope s mine.0 mine.1 in
        let before = rw (scope_is w s (open_some w s ((o.named u x alive).own s e)), any_is w s o.sound, alive_is w u o.sound alive) at can in
        rw (scope_is v s (open_some v s ((q.named u x alive_v).own s e_v)), any_is v s q.sound, alive_is v u q.sound alive_v)
        (go_on (scope_at w s).expired (scope_at w s).cancelled (any_lives w s) (task_at w u).flag (scope_at v s).expired (scope_at v s).cancelled (any_lives v s) (task_at v u).flag k.expired k.cancelled (h.any s mine.0 mine.1) h.flag before)
    by _ e can = refl
go-still w v u (Some (Close x)) o q h alive alive_v can =
    ap (λ (f : Frame). live_can_go (live v) u (live_stands_at_close (live v) (slot f x))) (frame_is v u q alive_v ∙ h.frame)
    ∙ by (slot (task_at w u).frame x) refl (ap (λ (f : Frame). live_can_go (live w) u (live_stands_at_close (live w) (slot f x))) (sym (frame_is w u o alive)) ∙ can)
  where
    closing : (s : ℕ) (b : Bool) → (any_lives v s ≡ true → any_lives w s ≡ true) → live_can_go (live w) u (cond b (AtClose s) Free) ≡ true → live_can_go (live v) u (cond b (AtClose s) Free) ≡ true
    closing s true any can = ap not (any_is v s q.sound) ∙ none_still (any_lives w s) (any_lives v s) any (ap not (sym (any_is w s o.sound)) ∙ can)
    closing s false any can = refl

    by : (y : Slot) → slot (task_at w u).frame x ≡ y → live_can_go (live w) u (live_stands_at_close (live w) y) ≡ true → live_can_go (live v) u (live_stands_at_close (live v) y) ≡ true
    by (Own s) e can =
        let mine = same-scope-owned w u x s o e in
        let e_v : slot (task_at v u).frame x ≡ Own s = ap (λ (f : Frame). slot f x) h.frame ∙ e in
        let k = h.scope s mine.0 mine.1 in
        let phase = k.phase in
        let before = rw (scope_is w s (open_some w s ((o.named u x alive).own s e))) at can in
        rw (scope_is v s (open_some v s ((q.named u x alive_v).own s e_v)), phase)
        (closing s (is_closing (scope_at w s).phase) (h.any s mine.0 mine.1) before)
    by _ e can = refl
go-still w v u i o q h alive alive_v can = refl

can-still : (p : Program) (w v : World) (u : ℕ) → Facts w → Facts v → Wakes w v u → live_can_step p (live w) u ≡ true → live_can_step p (live v) u ≡ true
can-still p w v u o q h can =
    let k = and_parts (lives_in (live w) u) _ can in
    let alive : lives (task_at w u) ≡ true = sym (lives_is w u o.sound) ∙ k.0 in
    let alive_v : lives (task_at v u) ≡ true = h.alive alive in
    let go = go-still w v u (instr_at p (task_at w u).frame) o q h alive alive_v (ap (λ (f : Frame). live_can_go (live w) u (live_stand_at_instr (live w) u (instr_at p f))) (sym (frame_is w u o alive)) ∙ k.1) in
    ap (λ b. b && live_can_go (live v) u (live_stand_at_instr (live v) u (instr_at p (alive_at (live v) u).frame))) (lives_is v u q.sound ∙ alive_v)
    ∙ ap (λ (f : Frame). live_can_go (live v) u (live_stand_at_instr (live v) u (instr_at p f))) (frame_is v u q alive_v ∙ h.frame)
    ∙ go

-- ---- building blocks

-- if an element of the first list passes, so does that of the second
any_less : (test : Task → Bool) (xs ys : List Task) → length xs ≡ length ys → ((i : ℕ) → test (get_or xs i no_task) ≡ true → test (get_or ys i no_task) ≡ true) → list_any test xs ≡ true → list_any test ys ≡ true
any_less test [] [] len h e = e
any_less test [] (y ∷ ys) len h e = absurd (omega (arith, len))
any_less test (x ∷ xs) [] len h e = absurd (omega (arith, len))
any_less test (x ∷ xs) (y ∷ ys) len h e = by (test x) (test y) (h 0) (any_less test xs ys (omega (arith, len)) (λ i. h (suc i))) e
  where
    by : (a b : Bool) → (a ≡ true → b ≡ true) → (list_any test xs ≡ true → list_any test ys ≡ true) → (a || list_any test xs) ≡ true → (b || list_any test ys) ≡ true
    by a true first next e = refl
    by true false first next e = let never = first refl in cc
    by false false first next e = next e

-- another task, which lives in no more scopes
wakes-task : (w : World) (t u : ℕ) (x : Task) → (u ≡ t → ⊥) → ((s : ℕ) → is_living_subtask s x ≡ true → is_living_subtask s (task_at w t) ≡ true) → Wakes w (with_task w t x) u
wakes-task w t u x other less =
    let same = get_or-set_other w.tasks t u x no_task other in
    record {
      scopes = omega arith;
      frame = ap (λ (task : Task). task.frame) same;
      alive = λ e. ap lives same ∙ e;
      flag = λ e. ap (λ (task : Task). task.flag) same ∙ e;
      scope = λ s born mine. wakens-refl (scope_at w s);
      any = λ s born mine.
          any_less (is_living_subtask s) (set w.tasks t x) w.tasks (length-set w.tasks t x)
          (λ i. at_set (λ (task : Task). is_living_subtask s task ≡ true → is_living_subtask s (task_at w i) ≡ true) w.tasks t i x no_task (λ e. rw e (less s)) (λ e. e));
    }

-- any scope
wakes-scope : (w : World) (s u : ℕ) (y : Scope) → Wakens (scope_at w s) y → Wakes w (with_scope w s y) u
wakes-scope w s u y h =
    let n = length-set w.scopes s y in
    record {
      scopes = omega (arith, n);
      frame = refl;
      alive = λ e. e;
      flag = λ e. e;
      scope = λ r born mine. at_set (λ (scope : Scope). Wakens (scope_at w r) scope) w.scopes s r y no_scope (λ e. rw e h) (wakens-refl (scope_at w r));
      any = λ r born mine e. e;
    }

wakes-cancel : (w : World) (s u : ℕ) → Wakes w (cancel w s) u
wakes-cancel w s u =
    wakes-cond w u (scope_at w s).cancelled w (marked w s) (λ e. wakes-refl w u)
    (λ e. wakes-trans w v (marked w s) u
    (record {
      scopes = omega arith;
      frame = at_raised (λ (task : Task). task.frame ≡ (task_at w u).frame) s w.tasks u refl refl;
      alive = at_raised (λ (task : Task). lives (task_at w u) ≡ true → lives task ≡ true) s w.tasks u (λ e. e) (λ e. e);
      flag = at_raised (λ (task : Task). (task_at w u).flag ≡ true → task.flag ≡ true) s w.tasks u (λ e. refl) (λ e. e);
      scope = λ r born mine. wakens-refl (scope_at w r);
      any = λ r born mine.
          any_less (is_living_subtask r) (raised s w.tasks) w.tasks (length-map w.tasks (raise s))
          (λ i. at_raised (λ (task : Task). is_living_subtask r task ≡ true → is_living_subtask r (task_at w i) ≡ true) s w.tasks i (λ e. e) (λ e. e));
    })
    (wakes-scope v s u (record (scope_at w s) { cancelled = true }) (record { owner = refl; phase = refl; cancelled = λ e. refl; expired = λ e. e })))
  where
    v : World
    v = record w { tasks = raised s w.tasks }

-- ---- effects

wakes-close : (w : World) (t u s : ℕ) (f : Frame) → (u ≡ t → ⊥) → (scope_at w s).owner ≡ t → Wakes w (close_scope w t f s) u
unfolding close_scope
wakes-close w t u s f other mine =
    let v : World = cancel w s in
    let owner : (scope_at v s).owner ≡ t = ((kept-cancel w s).scope s).same.owner ∙ mine in
    wakes-cond w u (any_lives v s) _ _
    (λ e. wakes-trans w v _ u (wakes-cancel w s u) (wakes-looks v _ u (looks.looks-scope v s u (record (scope_at v s) { phase = Closing }) (λ e. other (sym e ∙ owner)))))
    (λ e. wakes-trans w v _ u (wakes-cancel w s u) (wakes-looks v _ u (looks-phase v t u s Closed (record (steps f 0 []) { entries = drop 1 f.entries; slots = cleared v s f.slots }) (task_at v t).flag other owner)))

wakes-tell : (w : World) (t u : ℕ) (q : Option ℕ) (end : End) → Wakes w (tell w t q end) u
wakes-tell w t u None end = wakes-refl w u
wakes-tell w t u (Some s) end =
    let y : Scope = told (scope_at w s) t end in
    let v : World = with_scope w s y in
    wakes-cond w u (scope_at w s).cancelled w (decide v s) (λ e. wakes-refl w u)
    (λ e. wakes-trans w v _ u (wakes-scope w s u y (record { owner = refl; phase = refl; cancelled = λ e. e; expired = λ e. e }))
    (wakes-cond v u (cancels (scope_at v s).joiner (ends (scope_at v s))) (cancel v s) v (λ e. wakes-cancel v s u) (λ e. wakes-refl v u)))

wakes-end : (w : World) (t u : ℕ) (f : Frame) (end : End) → (u ≡ t → ⊥) → Wakes w (end_task w t f end) u
unfolding end_task
wakes-end w t u f end other =
    wakes-trans w (ended w t f end) _ u
    (wakes-task w t u (record (task_at w t) { frame = steps f 1 []; outcome = Some end }) other
    (λ s e. let dead = and-false (task_at w t).started in let h = (and_parts (is_in s (task_at w t).scope) _ e).1 in let never : true ≡ false = sym h ∙ dead in cc))
    (wakes-tell (ended w t f end) t u (task_at w t).scope end)

wakes-effect : (p : Program) (w : World) (t u : ℕ) (i : Instr) → Facts w → lives (task_at w t) ≡ true → IsFine p w t (task_at w t).frame i → (u ≡ t → ⊥) → u < length w.tasks → Wakes w (effect p w t (task_at w t).frame i) u
wakes-effect p w t u (Fork x g h) o alive is other born =
    let n = tasks_born w in
    wakes-looks w _ u (looks-effect p w t u (Fork x g h) o alive is other (late (u == length (live w).tasks) refl (omega (arith, n, born))))
  where
    late : (b : Bool) → (u == length (live w).tasks) ≡ b → u < length (live w).tasks → b ≡ false
    late false e less = refl
    late true e less = let same : u ≡ length (live w).tasks = grind (arith, nat_tests) in absurd (omega (arith, less, same))
wakes-effect p w t u (Close x) o alive is other born =
    let mine = own_slot (slot (task_at w t).frame x) (first_no _ _ (first_no _ _ is.slots)) is.own in
    wakes-close w t u (named (slot (task_at w t).frame x)) (task_at w t).frame other (owner_of p w t x (Close x) o mine)
wakes-effect p w t u Ret o alive is other born = wakes-end w t u (task_at w t).frame (Success (operand (task_at w t).frame 0)) other
wakes-effect p w t u Fail o alive is other born = wakes-end w t u (task_at w t).frame (Failed (operand (task_at w t).frame 0)) other
wakes-effect p w t u i o alive is other born = wakes-looks w _ u (looks-effect p w t u i o alive is other refl)

-- ---- events

perform_wakes : (p : Program) (w : World) (t u : ℕ) (i : Option Instr) → Facts w → lives (task_at w t) ≡ true → misuse p w t ≡ None → instr_at p (task_at w t).frame ≡ i → (u ≡ t → ⊥) → u < length w.tasks → Wakes w (perform p w t (task_at w t).frame i) u
perform_wakes p w t u None o alive m e other born = wakes-refl w u
perform_wakes p w t u (Some i) o alive m e other born = wakes-effect p w t u i o alive (fine p w t i m e) other born

step_wakes : (p : Program) (w : World) (t u : ℕ) → Facts w → lives (task_at w t) ≡ true → (u ≡ t → ⊥) → u < length w.tasks → (m : Option Fault) → misuse p w t ≡ m → In (λ v. Wakes w v u) (stepped m p w t (task_at w t).frame)
step_wakes p w t u o alive other born None m = perform_wakes p w t u (instr_at p (task_at w t).frame) o alive m refl other born
step_wakes p w t u o alive other born (Some kind) m = tt

interrupt_wakes : (w : World) (t u : ℕ) → Wakes w (with_task w t (record (task_at w t) { flag = true })) u
interrupt_wakes w t u =
    let x : Task = record (task_at w t) { flag = true } in
    record {
      scopes = omega arith;
      frame = at_set (λ (task : Task). task.frame ≡ (task_at w u).frame) w.tasks t u x no_task (λ e. rw e refl) refl;
      alive = at_set (λ (task : Task). lives (task_at w u) ≡ true → lives task ≡ true) w.tasks t u x no_task (λ e. rw e (λ a. a)) (λ a. a);
      flag = at_set (λ (task : Task). (task_at w u).flag ≡ true → task.flag ≡ true) w.tasks t u x no_task (λ e a. refl) (λ a. a);
      scope = λ s born mine. wakens-refl (scope_at w s);
      any = λ s born mine.
          any_less (is_living_subtask s) (set w.tasks t x) w.tasks (length-set w.tasks t x)
          (λ i. at_set (λ (task : Task). is_living_subtask s task ≡ true → is_living_subtask s (task_at w i) ≡ true) w.tasks t i x no_task (λ e. rw e (λ a. a)) (λ a. a));
    }

event_wakes : (p : Program) (w : World) (e : Event) (u : ℕ) → Facts w → u < length w.tasks → is_step_of u e ≡ false → In (λ v. Wakes w v u) (apply p (Running w) e)
event_wakes p w (event.Step t) u o born h = by (can_step p w t) refl
  where
    by : (b : Bool) → can_step p w t ≡ b → In (λ v. Wakes w v u) (cond b (stepped (misuse p w t) p w t (task_at w t).frame) (Running w))
    by false e = wakes-refl w u
    by true e = step_wakes p w t u o (and_parts (lives (task_at w t)) _ e).0 (eqb-false u t h) born (misuse p w t) refl
event_wakes p w (event.Interrupt t) u o born h = wakes-cond w u (lives (task_at w t)) _ w (λ e. interrupt_wakes w t u) (λ e. wakes-refl w u)
event_wakes p w (event.Expire s) u o born h =
    let y : Scope = record (scope_at w s) { expired = true } in
    let v : World = with_scope w s y in
    wakes-cond w u (can_expire (scope_at w s)) (cancel v s) w
    (λ e. wakes-trans w v _ u (wakes-scope w s u y (record { owner = refl; phase = refl; cancelled = λ e. e; expired = λ e. refl })) (wakes-cancel v s u))
    (λ e. wakes-refl w u)

pub ready_stays : (p : Program) → NeverFaults p → ReadyStays p
ready_stays p never events v n h e u own =
    between p events v n e never h (λ a b. live_can_step p a u ≡ true → live_can_step p b u ≡ true)
    (λ w x o q next can.
    let alive : lives (task_at w u) ≡ true = sym (lives_is w u o.sound) ∙ (and_parts (lives_in (live w) u) _ can).0 in
    can-still p w x u o q (subst (In (λ v. Wakes w v u)) next (event_wakes p w e u o (born_alive w u alive) own)) can)
