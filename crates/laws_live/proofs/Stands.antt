-- Only a task's own steps change at which scope it is.
use Rattle.std.proofs.Common.{◌≡◌, ℕ, [], ◌∷◌, ◌++◌, Bool, true, false, Option, Some, None, refl, sym, ◌∙◌, ap, subst, set, cond, ◌||◌, not, get_or-set_other}
use Rattle.std.proofs.Common.{length, arith, is_some, take}
use Rattle.std.proofs.Math.Seq.{get_or-append_seam}
use Rattle.std.proofs.lemmas.Bool.Decides.{nat_tests}
use Rattle.std.proofs.lemmas.Bool.{and_parts, eqb-false}
use Rattle.std.specs.Prelude.{unwrap_or, ◌==◌, reverse}
use Rattle.sts_code.specs.Program.{Program, routine}
use Rattle.sts_code.specs.declared.instr.Instr.{Instr}
use Rattle.sts_code.specs.declared.instr.Instr.TheVariants.{Open, Fork, Join, Close, Ret, Fail}
use Rattle.sts_code.specs.declared.instr.Joiner.{Joiner}
use Rattle.sts_model.specs.declared.event.Event.TheVariants as event
use Rattle.sts_model.specs.declared.event.End.{End}
use Rattle.sts_model.specs.declared.event.End.TheVariants.{Success, Failed}
use Rattle.sts_model.specs.declared.event.Phase.{Phase}
use Rattle.sts_model.specs.declared.event.Phase.TheVariants.{Attempted, Joined}
use Rattle.sts_model.specs.declared.event.Stand.TheVariants.{Free, AtClose}
use Rattle.sts_model.specs.declared.event.Verdict.{Verdict}
use Rattle.sts_model.specs.declared.event.Verdict.TheVariants as verdict
use Rattle.sts_model.specs.declared.record.Slot.{Slot}
use Rattle.sts_model.specs.declared.record.Slot.TheVariants.{Empty, Own, Lent}
use Rattle.sts_model.specs.declared.record.Frame.{Frame}
use Rattle.sts_model.specs.World.{instr_at, entry_frame}
use Rattle.sts_model.specs.Local.{operand}
use Rattle.sts_model.specs.Misuse.{slot}
use Rattle.sts_model.specs.Waiting.{is_closing}
use Rattle.sts_model.specs.Effect.{named}
use Rattle.sts_model.specs.Told.{tell, cancels_told, result_told}
use Rattle.sts_model.specs.Live.{Live, LiveTask, LiveScope, Alive}
use Rattle.laws_runs.specs.Runs.{NeverFaults}
use Rattle.laws_runs.proofs.ListLemmas.{past}
use Rattle.laws_runs.proofs.BirthLemmas.{new-owns_nothing}
use Rattle.laws_runs.proofs.EffectLemmas.{first_no}
use Rattle.laws_runs.proofs.FrameLemmas.{own_slot}
use Rattle.laws_live.specs.Reading.{scope_in, task_in, no_live_task, no_live_scope, no_alive, live_scope_at, live_task_at, alive_at, lives_in, with_live_phase}
use Rattle.laws_live.specs.Reading.{live_any_lives, live_count}
use Rattle.laws_live.specs.Cancelling.{live_cancel}
use Rattle.laws_live.specs.Effect.{opened_scope, live_open, live_subtask_of, live_fork, live_verdict, live_join, live_gone, live_close, live_told, live_decide}
use Rattle.laws_live.specs.Effect.{live_tell, live_ended, live_end}
use Rattle.laws_live.specs.Outside.{live_can_expire}
use Rattle.laws_live.specs.Waiting.{live_stands_at_join, live_stands_at_close, live_stand_at_instr, live_stand_at, live_can_step}
use Rattle.laws_live.specs.Run.{live_perform}
use Rattle.laws_live.specs.Fine.{IsSafe}
use Rattle.laws_live.specs.Order.{IsOwned, InOrder}
use Rattle.laws_live.specs.Stands.{IsUnmoved, EffectsMoveOne, InterruptsMoveNone, ExpiriesMoveNone, IdleStandFree, is_stand_at, StandsAreOwned, StandsStay}
use Rattle.laws_live.proofs.Order as order
use Rattle.laws_live.proofs.Safe as safe
use Rattle.laws_live.proofs.RestingLemmas.{Rests, rests-refl, rests-trans, rests-cond, rests-other, rests-more_tasks, rests-flag, rests-scope, IsAlien}
use Rattle.laws_live.proofs.RestingLemmas.{rests-alien, rests-more_scopes, alien_of, rests-cancel, owner-cancel, rests-gone}

-- ---- who owns nothing

-- no slot of the task owns a scope
abbrev OwnsNothing : Live → ℕ → Type 0
OwnsNothing v u = (y s : ℕ) → slot (alive_at v u).frame y ≡ Own s → ⊥

stands_free : (p : Program) (v : Live) (u : ℕ) → OwnsNothing v u → live_stand_at p v u ≡ Free
stands_free p v u none = by (instr_at p (alive_at v u).frame)
  where
    at_join : (q : Slot) → ((s : ℕ) → q ≡ Own s → ⊥) → live_stands_at_join q ≡ Free
    at_join (Own s) h = absurd (h s refl)
    at_join _ h = refl

    at_close : (q : Slot) → ((s : ℕ) → q ≡ Own s → ⊥) → live_stands_at_close v q ≡ Free
    at_close (Own s) h = absurd (h s refl)
    at_close _ h = refl

    by : (i : Option Instr) → live_stand_at_instr v u i ≡ Free
    by (Some (Join y failed timeout interrupted)) = at_join (slot (alive_at v u).frame y) (none y)
    by (Some (Close y)) = at_close (slot (alive_at v u).frame y) (none y)
    by i = refl

no_alive-owns_nothing : (y s : ℕ) → slot no_alive.frame y ≡ Own s → ⊥
no_alive-owns_nothing y s e = new-owns_nothing 0 [] Empty (λ r d. cc) y s e

idle-owns_nothing : (v : Live) (u : ℕ) → lives_in v u ≡ false → OwnsNothing v u
idle-owns_nothing v u idle = by (live_task_at v u).alive idle
  where
    by : (a : Option Alive) → is_some a ≡ false → (y s : ℕ) → slot (unwrap_or a no_alive).frame y ≡ Own s → ⊥
    by None e = no_alive-owns_nothing
    by (Some alive) e = cc

pub idle_stand_free : IdleStandFree
idle_stand_free p v t idle = stands_free p v t (idle-owns_nothing v t idle)

-- ---- who rests doesn't move

-- a scope that a slot owns belongs to the task, whether it lives or not
owned : (v : Live) (u y s : ℕ) → InOrder v → slot (alive_at v u).frame y ≡ Own s → IsOwned v u s
owned v u y s o e = by (lives_in v u) refl
  where
    by : (b : Bool) → lives_in v u ≡ b → IsOwned v u s
    by true alive = (o.alive u alive).own y s e
    by false idle = absurd (idle-owns_nothing v u idle y s e)

-- the phase of a scope of u is unchanged
phase_same : (v x : Live) (u s : ℕ) → Rests v x u → IsOwned v u s → (live_scope_at x s).phase ≡ (live_scope_at v s).phase
phase_same v x u s h mine = by (scope_in v s) refl mine.stands
  where
    by : (o : Option LiveScope) → scope_in v s ≡ o → is_some o ≡ true → (live_scope_at x s).phase ≡ (live_scope_at v s).phase
    by None e stands = cc
    by (Some c) e stands =
        let of : c.owner ≡ u = ap (λ q. (unwrap_or q no_live_scope).owner) (sym e) ∙ mine.owner in
        let k = h.scope s c e of in
        ap (λ q. (unwrap_or q no_live_scope).phase) k.there ∙ k.phase ∙ sym (ap (λ q. (unwrap_or q no_live_scope).phase) e)

stand_same : (p : Program) (v x : Live) (u : ℕ) → InOrder v → Rests v x u → live_stand_at p x u ≡ live_stand_at p v u
stand_same p v x u o h =
    ap (λ (f : Frame). live_stand_at_instr x u (instr_at p f)) h.frame ∙ by (instr_at p (alive_at v u).frame)
  where
    close_same : (y : ℕ) (q : Slot) → slot (alive_at v u).frame y ≡ q → live_stands_at_close x q ≡ live_stands_at_close v q
    close_same y (Own s) e = ap (λ phase. cond (is_closing phase) (AtClose s) Free) (phase_same v x u s h (owned v u y s o e))
    close_same y _ e = refl

    by : (i : Option Instr) → live_stand_at_instr x u i ≡ live_stand_at_instr v u i
    by (Some (Join y failed timeout interrupted)) = ap (λ (f : Frame). live_stands_at_join (slot f y)) h.frame
    by (Some (Close y)) = ap (λ (f : Frame). live_stands_at_close x (slot f y)) h.frame ∙ close_same y (slot (alive_at v u).frame y) refl
    by i = refl

unmoved : (p : Program) (v x : Live) (u : ℕ) → InOrder v → Rests v x u → IsUnmoved p v x u
unmoved p v x u o h = record { alive = h.alive; stand = stand_same p v x u o h }

-- ---- effects

-- a phase of a scope of t, and something of t
rests-phase : (v : Live) (t u s : ℕ) (phase : Phase) (o : Option LiveTask) → (u ≡ t → ⊥) → (live_scope_at v s).owner ≡ t → Rests v (record (with_live_phase v s phase) { tasks = set v.tasks t o }) u
rests-phase v t u s phase o other mine =
    rests-trans v (with_live_phase v s phase) _ u
    (rests-alien v s u _ (alien_of v s t u mine other))
    (rests-other (with_live_phase v s phase) t u o other)

rests-verdict : (q : Verdict) (v : Live) (t u s : ℕ) (f : Frame) (failed : ℕ) → (u ≡ t → ⊥) → (live_scope_at v s).owner ≡ t → Rests v (live_verdict q v t s f failed) u
rests-verdict (verdict.Ok None) v t u s f failed other mine = rests-phase v t u s Joined _ other mine
rests-verdict (verdict.Ok (Some n)) v t u s f failed other mine = rests-phase v t u s Joined _ other mine
rests-verdict (verdict.Failed c) v t u s f failed other mine = rests-phase v t u s Joined _ other mine

rests-join : (v : Live) (t u s : ℕ) (f : Frame) (failed timeout interrupted : ℕ) → (u ≡ t → ⊥) → (live_scope_at v s).owner ≡ t → Rests v (live_join v t f s failed timeout interrupted) u
unfolding live_join
rests-join v t u s f failed timeout interrupted other mine =
    rests-cond v u (live_scope_at v s).expired _ _
    (λ e. rests-phase v t u s Joined _ other mine)
    (λ e.
    rests-cond v u ((live_scope_at v s).cancelled || not (live_any_lives v s)) _ _
    (λ d. rests-verdict (result_told (live_scope_at v s).joiner (live_scope_at v s).told (live_count v s)) v t u s f failed other mine)
    (λ d. rests-phase v t u s Attempted _ other mine))

rests-close : (v : Live) (t u s : ℕ) (f : Frame) → (u ≡ t → ⊥) → (live_scope_at v s).owner ≡ t → Rests v (live_close v t f s) u
unfolding live_close
rests-close v t u s f other mine =
    let w : Live = live_cancel v s in
    let alien : IsAlien w s u = alien_of w s t u (owner-cancel v s s ∙ mine) other in
    let h : Rests v w u = rests-cancel v s u in
    rests-cond v u (live_any_lives w s) _ _
    (λ e. rests-trans v w _ u h (rests-alien w s u _ alien))
    (λ e. rests-trans v w _ u h (rests-trans w (live_gone w s) _ u (rests-gone w s u e alien) (rests-other (live_gone w s) t u _ other)))

rests-open : (v : Live) (t u x : ℕ) (f : Frame) (joiner : Joiner) (timed : Bool) → (u ≡ t → ⊥) → Rests v (live_open v t f x joiner timed) u
unfolding live_open
rests-open v t u x f joiner timed other =
    let w : Live = record v { scopes = v.scopes ++ Some (opened_scope v t joiner timed) ∷ [] } in
    rests-trans v w _ u (rests-more_scopes v u (Some (opened_scope v t joiner timed))) (rests-other w t u _ other)

rests-fork : (p : Program) (v : Live) (t u s g : ℕ) (f : Frame) (h : Option ℕ) → (u ≡ t → ⊥) → (u ≡ length v.tasks → ⊥) → Rests v (live_fork p v t f s g h) u
unfolding live_fork
rests-fork p v t u s g f h other born =
    let o : Option LiveTask = Some (live_subtask_of p (live_scope_at v s) f s g) in
    let w : Live = record v { tasks = v.tasks ++ o ∷ [] } in
    rests-trans v w _ u (rests-more_tasks v u o born) (rests-other w t u _ other)

-- who is forked owns nothing
child-owns_nothing : (p : Program) (scope : LiveScope) (f : Frame) (s g : ℕ) (y r : ℕ) → slot (unwrap_or (live_subtask_of p scope f s g).alive no_alive).frame y ≡ Own r → ⊥
child-owns_nothing p scope f s g y r = by scope.cancelled
  where
    by : (b : Bool) → slot (unwrap_or (cond b None (Some (record { frame = entry_frame g (reverse (take (routine p g).args f.operands)) (Lent s); flag = false; environment = scope.environment }))) no_alive).frame y ≡ Own r → ⊥
    by true e = no_alive-owns_nothing y r e
    by false e = new-owns_nothing g (reverse (take (routine p g).args f.operands)) (Lent s) (λ q d. cc) y r e

newborn : (p : Program) (v : Live) (t s g : ℕ) (f : Frame) (h : Option ℕ) → (length v.tasks ≡ t → ⊥) → IsUnmoved p v (live_fork p v t f s g h) (length v.tasks)
unfolding live_fork
newborn p v t s g f h other =
    record {
      alive = λ alive. let never : true ≡ false = sym alive ∙ idle in cc;
      stand = stands_free p x u (λ y r e. child-owns_nothing p (live_scope_at v s) f s g y r (subst (λ q. slot (unwrap_or (unwrap_or q no_live_task).alive no_alive).frame y ≡ Own r) here e)) ∙ sym (idle_stand_free p v u idle);
    }
  where
    u : ℕ
    u = length v.tasks

    o : Option LiveTask
    o = Some (live_subtask_of p (live_scope_at v s) f s g)

    x : Live
    x = live_fork p v t f s g h

    idle : lives_in v u ≡ false
    idle = ap (λ q. is_some (unwrap_or q no_live_task).alive) (past v.tasks (length v.tasks) None (omega arith))

    here : task_in x u ≡ o
    here = get_or-set_other (v.tasks ++ o ∷ []) t (length v.tasks) _ None other ∙ get_or-append_seam v.tasks o [] None

rests-decide : (v : Live) (s u : ℕ) → Rests v (live_decide v s) u
rests-decide v s u =
    rests-cond v u (cancels_told (live_scope_at v s).joiner (live_scope_at v s).told) (live_cancel v s) v
    (λ e. rests-cancel v s u) (λ e. rests-refl v u)

rests-tell : (v : Live) (t u : ℕ) (q : Option ℕ) (end : End) → (u ≡ t → ⊥) → Rests v (live_tell v t q end) u
rests-tell v t u None end other = rests-refl v u
rests-tell v t u (Some s) end other =
    let x : Live = live_told v t s end in
    rests-cond v u (live_scope_at v s).cancelled v (live_decide x s) (λ e. rests-refl v u)
    (λ e.
    rests-trans v x (live_decide x s) u
    (rests-trans v _ x u (rests-other v t u _ other) (rests-scope _ s u (λ scope. record scope { told = tell scope.joiner scope.told end }) (λ c. refl) (λ c. refl)))
    (rests-decide x s u))

rests-end : (v : Live) (t u : ℕ) (end : End) → (u ≡ t → ⊥) → Rests v (live_end v t end) u
unfolding live_end
rests-end v t u end other =
    let x : Live = live_ended v t end in
    let h = rests-other v t u _ other in
    rests-trans v x _ u (record { alive = h.alive; frame = h.frame; scope = h.scope }) (rests-tell x t u (live_task_at v t).scope end other)

-- ---- every instruction

-- if only the owner of a scope may do the instruction, the scope is the task's
owner_at : (v : Live) (t x : ℕ) → InOrder v → slot (alive_at v t).frame x ≡ Own (named (slot (alive_at v t).frame x)) → (live_scope_at v (named (slot (alive_at v t).frame x))).owner ≡ t
owner_at v t x o e = (owned v t x (named (slot (alive_at v t).frame x)) o e).owner

pub effects_move_one : EffectsMoveOne
effects_move_one p v o t u (Open x timed joiner) alive is e = unmoved p v _ u o (rests-open v t u x (alive_at v t).frame joiner timed (eqb-false u t e))
effects_move_one p v o t u (Fork x g h) alive is e = by (u == length v.tasks) refl
  where
    s : ℕ
    s = named (slot (alive_at v t).frame x)

    by : (b : Bool) → (u == length v.tasks) ≡ b → IsUnmoved p v (live_fork p v t (alive_at v t).frame (named (slot (alive_at v t).frame x)) g h) u
    by true d =
        let same : length v.tasks ≡ u = grind (arith, nat_tests) in
        subst (λ n. IsUnmoved p v (live_fork p v t (alive_at v t).frame (named (slot (alive_at v t).frame x)) g h) n) same
        (newborn p v t (named (slot (alive_at v t).frame x)) g (alive_at v t).frame h (λ f. eqb-false u t e (sym same ∙ f)))
    by false d = unmoved p v _ u o (rests-fork p v t u (named (slot (alive_at v t).frame x)) g (alive_at v t).frame h (eqb-false u t e) (eqb-false u (length v.tasks) d))
effects_move_one p v o t u (Join x failed timeout interrupted) alive is e =
    let f : Frame = (alive_at v t).frame in
    let mine = own_slot (slot f x) (first_no _ _ (first_no _ _ is.slots)) is.own in
    unmoved p v _ u o (rests-join v t u (named (slot f x)) f (unwrap_or failed 0) (unwrap_or timeout 0) interrupted (eqb-false u t e) (owner_at v t x o mine))
effects_move_one p v o t u (Close x) alive is e =
    let f : Frame = (alive_at v t).frame in
    let mine = own_slot (slot f x) (first_no _ _ (first_no _ _ is.slots)) is.own in
    unmoved p v _ u o (rests-close v t u (named (slot f x)) f (eqb-false u t e) (owner_at v t x o mine))
effects_move_one p v o t u Ret alive is e = unmoved p v _ u o (rests-end v t u (Success (operand (alive_at v t).frame 0)) (eqb-false u t e))
effects_move_one p v o t u Fail alive is e = unmoved p v _ u o (rests-end v t u (Failed (operand (alive_at v t).frame 0)) (eqb-false u t e))
effects_move_one p v o t u i alive is e = unmoved p v _ u o (rests-other v t u _ (eqb-false u t e))

-- ---- from outside

pub interrupts_move_none : InterruptsMoveNone
interrupts_move_none p v o t u = unmoved p v _ u o (rests-cond v u (lives_in v t) _ v (λ e. rests-flag v t u true) (λ e. rests-refl v u))

pub expiries_move_none : ExpiriesMoveNone
expiries_move_none p v o s u =
    unmoved p v _ u o
    (rests-cond v u (live_can_expire (live_scope_at v s)) _ v
    (λ e. rests-trans v _ _ u (rests-scope v s u (λ scope. record scope { expired = true }) (λ c. refl) (λ c. refl)) (rests-cancel _ s u))
    (λ e. rests-refl v u))

-- ---- whose the scopes are

pub stands_are_owned : StandsAreOwned
stands_are_owned p v o t s = by (instr_at p (alive_at v t).frame)
  where
    one : (y r : ℕ) → slot (alive_at v t).frame y ≡ Own r → (r == s) ≡ true → IsOwned v t s
    one y r e same = let is : r ≡ s = grind (arith, nat_tests) in subst (IsOwned v t) is (owned v t y r o e)

    at_join : (y : ℕ) (q : Slot) → slot (alive_at v t).frame y ≡ q → is_stand_at s (live_stands_at_join q) ≡ true → IsOwned v t s
    at_join y (Own r) e h = one y r e h
    at_join y _ e h = cc

    closing : (y r : ℕ) (b : Bool) → slot (alive_at v t).frame y ≡ Own r → is_stand_at s (cond b (AtClose r) Free) ≡ true → IsOwned v t s
    closing y r true e h = one y r e h
    closing y r false e h = cc

    at_close : (y : ℕ) (q : Slot) → slot (alive_at v t).frame y ≡ q → is_stand_at s (live_stands_at_close v q) ≡ true → IsOwned v t s
    at_close y (Own r) e h = closing y r (is_closing (live_scope_at v r).phase) e h
    at_close y _ e h = cc

    by : (i : Option Instr) → is_stand_at s (live_stand_at_instr v t i) ≡ true → IsOwned v t s
    by (Some (Join y failed timeout interrupted)) h = at_join y (slot (alive_at v t).frame y) refl h
    by (Some (Close y)) h = at_close y (slot (alive_at v t).frame y) refl h
    by i h = cc

-- ---- events

still : (p : Program) (v : Live) (u : ℕ) → IsUnmoved p v v u
still p v u = record { alive = λ e. e; stand = refl }

step_unmoved : (p : Program) (v : Live) (t u : ℕ) → InOrder v → IsSafe p v t → live_can_step p v t ≡ true → (u == t) ≡ false → IsUnmoved p v (live_perform p v t (alive_at v t).frame (instr_at p (alive_at v t).frame)) u
step_unmoved p v t u o h can e =
    subst (λ i. IsUnmoved p v (live_perform p v t (alive_at v t).frame i) u) (sym h.at)
    (effects_move_one p v o t u h.instr (and_parts (lives_in v t) _ can).0 h.fine e)

pub stands_stay : (p : Program) → NeverFaults p → StandsStay p
stands_stay p never events v n h (event.Step t) u e = by (live_can_step p v t) refl
  where
    by : (b : Bool) → live_can_step p v t ≡ b → IsUnmoved p v (cond b (live_perform p v t (alive_at v t).frame (instr_at p (alive_at v t).frame)) v) u
    by true can = step_unmoved p v t u (order.seen_in_order p events v n h) (safe.turns_are_safe p never events v n h t can) can e
    by false can = still p v u
stands_stay p never events v n h (event.Interrupt t) u e = interrupts_move_none p v (order.seen_in_order p events v n h) t u
stands_stay p never events v n h (event.Expire s) u e = expiries_move_none p v (order.seen_in_order p events v n h) s u
