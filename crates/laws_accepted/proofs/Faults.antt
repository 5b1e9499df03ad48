-- If living tasks misuse nothing, no run faults.
use Rattle.std.proofs.Common.{◌≡◌, ℕ, List, [], ◌∷◌, ◌++◌, Bool, true, false, None, refl, ◌∙◌, ap, cond, fold}
use Rattle.sts_code.specs.Program.{Program}
use Rattle.sts_model.specs.declared.event.Event.{Event}
use Rattle.sts_model.specs.declared.event.Event.TheVariants as event
use Rattle.sts_model.specs.World.{World, State, Running, Faulted, task_at, instr_at}
use Rattle.sts_model.specs.Living.{lives}
use Rattle.sts_model.specs.Misuse.{misuse}
use Rattle.sts_model.specs.Waiting.{can_step, can_go, stand_at}
use Rattle.sts_model.specs.Outside as outside
use Rattle.sts_model.specs.Run.{apply, after, stepped, perform}
use Rattle.laws_runs.specs.Runs.{In, NeverFaults}
use Rattle.std.proofs.lemmas.Bool.{and_parts}
use Rattle.laws_runs.proofs.RunLemmas.{after-append}
use Rattle.laws_runs.proofs.EventLemmas.{main}
use Rattle.laws_accepted.proofs.FineLemmas.{misuses_nothing}
use Rattle.laws_accepted.specs.Accepted.{AllFine, LivingTasksAreFine}

steps : (p : Program) (w : World) (t : ℕ) (b : Bool) → can_step p w t ≡ b → (b ≡ true → misuse p w t ≡ None) → (v : World) × (cond b (stepped (misuse p w t) p w t (task_at w t).frame) (Running w) ≡ Running v)
steps p w t false e none = (w, refl)
steps p w t true e none = (perform p w t (task_at w t).frame (instr_at p (task_at w t).frame), ap (λ m. stepped m p w t (task_at w t).frame) (none refl))

applies : (p : Program) (w : World) (e : Event) → ((t : ℕ) → can_step p w t ≡ true → misuse p w t ≡ None) → (v : World) × (apply p (Running w) e ≡ Running v)
applies p w (event.Step t) none = steps p w t (can_step p w t) refl (none t)
applies p w (event.Interrupt t) none = (outside.interrupt w t, refl)
applies p w (event.Expire s) none = (outside.expire w s, refl)

-- what holds in a state that is no fault
pub holds-in : (P : World → Type 0) (state : State) (w : World) → state ≡ Running w → In P state → P w
holds-in P (Running v) w e h = let same : v ≡ w = cc in rw (← same) h
holds-in P (Faulted kind t f pc) w e h = cc

-- in a state of a run no step is a misuse
none-in : (p : Program) → LivingTasksAreFine p → (events : List Event) (w : World) → after p events ≡ Running w → (t : ℕ) → can_step p w t ≡ true → misuse p w t ≡ None
none-in p fine events w e t can =
    let h = holds-in (AllFine p) (after p events) w e (fine events) in
    misuses_nothing p w t (h t (and_parts (lives (task_at w t)) (can_go w (task_at w t) (stand_at p w t)) can).0)

goes_on : (p : Program) → LivingTasksAreFine p → (events before : List Event) (w : World) → after p before ≡ Running w → (v : World) × (fold (apply p) (Running w) events ≡ Running v)
goes_on p fine [] before w e = (w, refl)
goes_on p fine (x ∷ xs) before w e =
    let next = applies p w x (none-in p fine before w e) in
    let then : after p (before ++ x ∷ []) ≡ Running next.0 = after-append p before (x ∷ []) ∙ ap (λ s. apply p s x) e ∙ next.1 in
    let rest = goes_on p fine xs (before ++ x ∷ []) next.0 then in
    (rest.0, ap (λ s. fold (apply p) s xs) next.1 ∙ rest.1)

pub never_faults : (p : Program) → LivingTasksAreFine p → NeverFaults p
never_faults p fine events = goes_on p fine events [] (record { tasks = main p ∷ []; scopes = [] }) refl
