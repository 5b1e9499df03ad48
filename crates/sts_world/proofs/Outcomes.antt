-- The outcomes of `join` and `close`, case by case.
use Rattle.std.proofs.Common.{◌≡◌, ℕ, zero, suc, ◌+◌, ◌<◌, ◌^◌, List, [], ◌∷◌, length, Bool, true, false, refl, ap, ◌∙◌, arith, get_or}
use Rattle.std.specs.Prelude.{◌||◌, ◌&&◌, not, nat_le, if◌then◌else◌}
use Rattle.std.proofs.lemmas.Bool.Decides.{nat_tests}
use Rattle.std.proofs.lemmas.List.{length-map}
use Rattle.sts_model.specs.Cancelling.{cancel, marked, raise, raised}
use Rattle.sts_model.specs.Effect.{joined, join_verdict, join_scope, closed, close_scope, with_phase}
use Rattle.sts_model.specs.Joining.{result_of}
use Rattle.sts_model.specs.Living.{any_lives, lives, ends, subtask_count, is_living_subtask}
use Rattle.sts_model.specs.Local.{goes}
use Rattle.sts_model.specs.World.{World, no_task, task_at, scope_at, with_task}
use Rattle.sts_model.specs.declared.event.Phase.TheVariants.{Attempted, Closing}
use Rattle.sts_model.specs.declared.event.Verdict.{Verdict}
use Rattle.sts_model.specs.declared.record.Frame.{Frame}
use Rattle.sts_model.specs.declared.record.Task.{Task}

chosen : {A : Type 0} (b : Bool) (x y : A) → true ≡ b → x ≡ (if b then x else y)
chosen true x y e = refl
chosen false x y e = cc

other : {A : Type 0} (b : Bool) (x y : A) → false ≡ b → y ≡ (if b then x else y)
other true x y e = cc
other false x y e = refl

-- there is room for one operand more, if the joiner pushes
pub room_left : (n m : ℕ) (a : Bool) → (nat_le m n && not a) ≡ false → a ≡ false → n < m
room_left n m a e h = grind (arith, nat_tests)

-- ---- join

pub join_expires : (w x : World) (t s failed timeout interrupted : ℕ) (f : Frame) → true ≡ (scope_at w s).expired → x ≡ joined w t s (goes f timeout 0 []) → x ≡ join_scope w t f s failed timeout interrupted
unfolding join_scope
join_expires w x t s failed timeout interrupted f e is = is ∙ chosen (scope_at w s).expired _ _ e

pub join_decides : (w x : World) (t s failed timeout interrupted : ℕ) (f : Frame) (v : Verdict) → false ≡ (scope_at w s).expired → true ≡ ((scope_at w s).cancelled || not (any_lives w s)) → v ≡ result_of (scope_at w s).joiner (ends (scope_at w s)) (subtask_count w s) → x ≡ join_verdict v w t s f failed → x ≡ join_scope w t f s failed timeout interrupted
unfolding join_scope
join_decides w x t s failed timeout interrupted f v e h decided is =
    is
    ∙ ap (λ (u : Verdict). join_verdict u w t s f failed) decided
    ∙ chosen ((scope_at w s).cancelled || not (any_lives w s)) _ _ h
    ∙ other (scope_at w s).expired _ _ e

pub join_waits : (w x : World) (t s failed timeout interrupted : ℕ) (f : Frame) → false ≡ (scope_at w s).expired → false ≡ ((scope_at w s).cancelled || not (any_lives w s)) → x ≡ with_task (with_phase w s Attempted) t (record (task_at w t) { frame = goes f interrupted 0 []; flag = false }) → x ≡ join_scope w t f s failed timeout interrupted
unfolding join_scope
join_waits w x t s failed timeout interrupted f e h is =
    is
    ∙ other ((scope_at w s).cancelled || not (any_lives w s)) _ _ h
    ∙ other (scope_at w s).expired _ _ e

-- ---- close

flag_apart : (b : Bool) (x : Task) → ((if b then record x { flag = true } else x).frame ≡ x.frame) × (lives (if b then record x { flag = true } else x) ≡ lives x)
flag_apart true x = (refl, refl)
flag_apart false x = (refl, refl)

raised_apart : (s : ℕ) (xs : List Task) (t : ℕ) → ((get_or (raised s xs) t no_task).frame ≡ (get_or xs t no_task).frame) × (lives (get_or (raised s xs) t no_task) ≡ lives (get_or xs t no_task))
raised_apart s [] t = (refl, refl)
raised_apart s (x ∷ xs) zero = flag_apart (is_living_subtask s x) x
raised_apart s (x ∷ xs) (suc t) = raised_apart s xs t

stays_by : (b : Bool) (w : World) (s t : ℕ) → ((task_at (if b then w else marked w s) t).frame ≡ (task_at w t).frame) × (lives (task_at (if b then w else marked w s) t) ≡ lives (task_at w t)) × (length (if b then w else marked w s).tasks ≡ length w.tasks)
stays_by true w s t = (refl, refl, refl)
stays_by false w s t = let same = raised_apart s w.tasks t in (same.0, same.1, length-map w.tasks (raise s))

-- a cancel changes no frame and ends no task
cancel_stays : (w : World) (s t : ℕ) → ((task_at (cancel w s) t).frame ≡ (task_at w t).frame) × (lives (task_at (cancel w s) t) ≡ lives (task_at w t)) × (length (cancel w s).tasks ≡ length w.tasks)
cancel_stays w s t = stays_by (scope_at w s).cancelled w s t

pub cancel_born : (w v : World) (s t : ℕ) → v ≡ cancel w s → t < length w.tasks → t < length v.tasks
cancel_born w v s t is h = omega (arith, ap (λ (u : World). length u.tasks) is, (cancel_stays w s t).2)

pub cancel_lives : (w v : World) (s t : ℕ) → v ≡ cancel w s → lives (task_at w t) ≡ true → lives (task_at v t) ≡ true
cancel_lives w v s t is h = ap (λ (u : World). lives (task_at u t)) is ∙ (cancel_stays w s t).1 ∙ h

pub cancel_more : (w v : World) (s t : ℕ) → v ≡ cancel w s → (task_at w t).frame.pc + 1 < 2 ^ 32 → (task_at v t).frame.pc + 1 < 2 ^ 32
cancel_more w v s t is h =
    let same : (task_at v t).frame.pc ≡ (task_at w t).frame.pc = ap (λ (u : World). (task_at u t).frame.pc) is ∙ ap (λ (g : Frame). g.pc) (cancel_stays w s t).0 in
    omega arith

pub close_waits : (w v x : World) (t s : ℕ) (f : Frame) → v ≡ cancel w s → true ≡ any_lives v s → x ≡ with_phase v s Closing → x ≡ close_scope w t f s
unfolding close_scope
close_waits w v x t s f is e after =
    after
    ∙ ap (λ (u : World). with_phase u s Closing) is
    ∙ chosen (any_lives (cancel w s) s) _ _ (e ∙ ap (λ (u : World). any_lives u s) is)

pub close_ends : (w v x : World) (t s : ℕ) → v ≡ cancel w s → false ≡ any_lives v s → x ≡ closed v t (task_at v t).frame s → x ≡ close_scope w t (task_at w t).frame s
unfolding close_scope
close_ends w v x t s is e after =
    after
    ∙ ap (λ (u : World). closed u t (task_at u t).frame s) is
    ∙ ap (λ (g : Frame). closed (cancel w s) t g s) (cancel_stays w s t).0
    ∙ other (any_lives (cancel w s) s) _ _ (e ∙ ap (λ (u : World). any_lives u s) is)
