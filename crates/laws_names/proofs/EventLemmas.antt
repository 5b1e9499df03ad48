-- Each event leads from two states that are alike to two that are.
use Rattle.std.proofs.Common.{◌≡◌, ℕ, List, [], ◌∷◌, Bool, true, false, Option, Some, None, refl, sym, ◌∙◌, ap, subst, cond, map, fold}
use Rattle.std.proofs.lemmas.Bool.{and_parts}
use Rattle.sts_code.specs.Program.{Program}
use Rattle.sts_code.specs.declared.instr.Instr.{Instr}
use Rattle.sts_model.specs.declared.event.Event.{Event}
use Rattle.sts_model.specs.declared.event.Event.TheVariants as event
use Rattle.sts_model.specs.declared.event.Fault.{Fault}
use Rattle.sts_model.specs.declared.record.Frame.{Frame}
use Rattle.sts_model.specs.declared.record.Scope.{Scope}
use Rattle.sts_model.specs.declared.record.Task.{Task}
use Rattle.sts_model.specs.World.{World, State, Running, Faulted, task_at, scope_at, with_task, with_scope, instr_at}
use Rattle.sts_model.specs.Living.{lives}
use Rattle.sts_model.specs.Cancelling.{cancel}
use Rattle.sts_model.specs.Misuse.{misuse, fault_at}
use Rattle.sts_model.specs.Outside.{interrupt, expire, can_expire}
use Rattle.sts_model.specs.Waiting.{can_step, can_go, stand_at}
use Rattle.sts_model.specs.Run.{apply, step, stepped, perform}
use Rattle.sts_model.proofs.FineLemmas.{IsFine-from_fault}
use Rattle.laws_names.specs.Names.{Names, IsAlike, AreAlike, ReadsNothing, BirthsAreNames, live_part, named_frame, named_task, named_event, is_reading}
use Rattle.laws_names.proofs.AlikeLemmas.{same_lives, same_alive, same_made, alike_task, alike_scope, alike_cond, alike_cancel}
use Rattle.laws_names.proofs.ReadLemmas.{misuse_same, can_step_same}
use Rattle.laws_names.proofs.EffectLemmas.{alike_effect}

-- ---- steps

performed : (p : Program) (n : Names) (w v : World) → IsAlike n w v → (t : ℕ) (f : Frame) (o : Option Instr) → lives (task_at w t) ≡ true → fault_at p w t f o ≡ None → ((i : Instr) → o ≡ Some i → is_reading i ≡ false)
    → IsAlike n (perform p w t f o) (perform p v (n.tasks t) (named_frame n f) o)
performed p n w v a t f None alive fine quiet = a
performed p n w v a t f (Some i) alive fine quiet = alike_effect p n w v a t f i alive (IsFine-from_fault p w t f i fine).slots (quiet i refl)

stepped_alike : (p : Program) → ReadsNothing p → (n : Names) (w v : World) → IsAlike n w v → (t : ℕ) → lives (task_at w t) ≡ true → (m : Option Fault) → misuse p w t ≡ m
    → AreAlike n (stepped m p w t (task_at w t).frame) (stepped m p v (n.tasks t) (named_frame n (task_at w t).frame))
stepped_alike p quiet n w v a t alive None fine = let f = (task_at w t).frame in performed p n w v a t f (instr_at p f) alive fine (λ i e. quiet f i e)
stepped_alike p quiet n w v a t alive (Some kind) fine = refl

alike_step : (p : Program) → ReadsNothing p → (n : Names) (w v : World) → IsAlike n w v → (t : ℕ) → AreAlike n (step p w t) (step p v (n.tasks t))
alike_step p quiet n w v a t =
    subst (λ (b : Bool). AreAlike n (step p w t) (cond b (stepped (misuse p v (n.tasks t)) p v (n.tasks t) (task_at v (n.tasks t)).frame) (Running v))) (sym (can_step_same p quiet n w v a t))
    (by (can_step p w t) refl)
  where
    by : (b : Bool) → can_step p w t ≡ b
        → AreAlike n (cond b (stepped (misuse p w t) p w t (task_at w t).frame) (Running w)) (cond b (stepped (misuse p v (n.tasks t)) p v (n.tasks t) (task_at v (n.tasks t)).frame) (Running v))
    by false e = a
    by true e =
        let alive = (and_parts (lives (task_at w t)) (can_go w (task_at w t) (stand_at p w t)) e).0 in
        let same : stepped (misuse p v (n.tasks t)) p v (n.tasks t) (task_at v (n.tasks t)).frame ≡ stepped (misuse p w t) p v (n.tasks t) (named_frame n (task_at w t).frame) =
        ap (λ (m : Option Fault). stepped m p v (n.tasks t) (task_at v (n.tasks t)).frame) (misuse_same p quiet n w v a t alive)
        ∙ ap (λ (x : Task). stepped (misuse p w t) p v (n.tasks t) x.frame) (same_alive n (task_at w t) (task_at v (n.tasks t)) (a.task t) alive) in
        subst (λ (s : State). AreAlike n (stepped (misuse p w t) p w t (task_at w t).frame) s) (sym same) (stepped_alike p quiet n w v a t alive (misuse p w t) refl)

-- ---- outside events

flagged : (n : Names) (x y : Task) → live_part y ≡ named_task n (live_part x) → lives x ≡ true → live_part (record y { flag = true }) ≡ named_task n (live_part (record x { flag = true }))
flagged n x y h alive = ap live_part (ap (λ (z : Task). record z { flag = true }) (same_alive n x y h alive)) ∙ same_made n (record x { flag = true })

alike_interrupt : (n : Names) (w v : World) → IsAlike n w v → (t : ℕ) → IsAlike n (interrupt w t) (interrupt v (n.tasks t))
alike_interrupt n w v a t =
    subst (λ (b : Bool). IsAlike n (interrupt w t) (cond b (with_task v (n.tasks t) (record (task_at v (n.tasks t)) { flag = true })) v)) (sym (same_lives n (task_at w t) (task_at v (n.tasks t)) (a.task t)))
    (by (lives (task_at w t)) refl)
  where
    by : (b : Bool) → lives (task_at w t) ≡ b → IsAlike n (cond b (with_task w t (record (task_at w t) { flag = true })) w) (cond b (with_task v (n.tasks t) (record (task_at v (n.tasks t)) { flag = true })) v)
    by false e = a
    by true e = alike_task n w v a t (record (task_at w t) { flag = true }) (record (task_at v (n.tasks t)) { flag = true }) (flagged n (task_at w t) (task_at v (n.tasks t)) (a.task t) e)

alike_expire : (n : Names) (w v : World) → IsAlike n w v → (s : ℕ) → IsAlike n (expire w s) (expire v (n.scopes s))
alike_expire n w v a s =
    let x : Scope = record (scope_at w s) { expired = true } in
    let y : Scope = record (scope_at v (n.scopes s)) { expired = true } in
    let same : can_expire (scope_at v (n.scopes s)) ≡ can_expire (scope_at w s) = ap can_expire (a.scope s) in
    subst (λ (b : Bool). IsAlike n (expire w s) (cond b (cancel (with_scope v (n.scopes s) y) (n.scopes s)) v)) (sym same)
    (alike_cond n (can_expire (scope_at w s)) (cancel (with_scope w s x) s) (cancel (with_scope v (n.scopes s) y) (n.scopes s)) w v
    (alike_cancel n (with_scope w s x) (with_scope v (n.scopes s) y) (alike_scope n w v a s x y (ap (λ (z : Scope). record z { expired = true }) (a.scope s))) s) a)

-- ---- events

pub alike_event : (p : Program) → ReadsNothing p → (n : Names) (x y : State) (e : Event) → AreAlike n x y → AreAlike n (apply p x e) (apply p y (named_event n e))
alike_event p quiet n (Running w) (Running v) (event.Step t) a = alike_step p quiet n w v a t
alike_event p quiet n (Running w) (Running v) (event.Interrupt t) a = alike_interrupt n w v a t
alike_event p quiet n (Running w) (Running v) (event.Expire s) a = alike_expire n w v a s
alike_event p quiet n (Running w) (Faulted kind t f pc) e a = absurd a
alike_event p quiet n (Faulted kind t f pc) y e a = ap (λ (s : State). apply p s (named_event n e)) a

pub alike_run : (p : Program) → ReadsNothing p → (n : Names) (x y : State) (es : List Event) → AreAlike n x y → AreAlike n (fold (apply p) x es) (fold (apply p) y (map (named_event n) es))
alike_run p quiet n x y [] a = a
alike_run p quiet n x y (e ∷ es) a = alike_run p quiet n (apply p x e) (apply p y (named_event n e)) es (alike_event p quiet n x y e a)

pub births_are_names : BirthsAreNames
births_are_names p quiet n x y es a = alike_run p quiet n x y es a
