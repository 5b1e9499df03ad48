-- No run faults, if each state of a table is safe.
use Rattle.std.proofs.Common.{◌≡◌, ℕ, inl, inr, List, [], ◌∷◌, ◌++◌, Bool, true, false, None, refl, sym, ◌∙◌, ap, subst, cond, append-nil, append_assoc}
use Rattle.std.specs.Prelude.{All}
use Rattle.std.proofs.lemmas.Bool.{and_parts}
use Rattle.std.proofs.lemmas.List.Elements.{All-head, All-tail}
use Rattle.sts_code.specs.Program.{Program}
use Rattle.sts_model.specs.declared.event.Event.{Event}
use Rattle.sts_model.specs.declared.event.Event.TheVariants as event
use Rattle.sts_model.specs.World.{World, State, Running, Faulted, task_at, instr_at, opening}
use Rattle.sts_model.specs.Living.{lives}
use Rattle.sts_model.specs.Misuse.{misuse}
use Rattle.sts_model.specs.Waiting.{can_step}
use Rattle.sts_model.specs.Outside.{interrupt, expire}
use Rattle.sts_model.specs.Run.{after, apply, stepped, perform}
use Rattle.laws_runs.specs.Runs.{In}
use Rattle.laws_runs.proofs.RunLemmas.{after-append}
use Rattle.laws_calls.specs.declared.table.Call.{Call}
use Rattle.laws_calls.specs.declared.table.Outside.{Outside}
use Rattle.laws_calls.specs.declared.table.Own.{Own}
use Rattle.laws_calls.specs.declared.table.Row.{Row}
use Rattle.laws_calls.specs.Tasks.{Among}
use Rattle.laws_calls.specs.Steps.{Table, IsTable}
use Rattle.laws_calls.specs.Covers.{TaskFits}
use Rattle.laws_calls.specs.Covered.{AllFit}
use Rattle.laws_calls.proofs.FittingLemmas.{tasks_are_covered}
use Rattle.ends_faults.specs.Safe.{IsSafe, AreSafe}
use Rattle.ends_faults.specs.Faults.{HasPlace, HavePlaces, IsIn, SafeNeverFaults}
use Rattle.ends_faults.proofs.FaultLemmas.{safe_is_fine}

all_among : {X : Type 0} (P : X → Type 0) (xs : List X) (x : X) → All P xs → Among xs x → P x
all_among P [] x all at = absurd at
all_among P (y ∷ ys) x all (inl same) = subst P same (All-head P y ys all)
all_among P (y ∷ ys) x all (inr at) = all_among P ys x (All-tail P y ys all) at

-- each living task is in a safe state, so it misuses nothing
table_fine : (p : Program) (outside : Outside) (t : Table) → AreSafe p t → (before : List Event) → In (AllFit outside t) (after p before) → In (λ w. (u : ℕ) → lives (task_at w u) ≡ true → HasPlace p w u) (after p before) → In (λ w. (u : ℕ) → lives (task_at w u) ≡ true → misuse p w u ≡ None) (after p before)
table_fine p outside t are before fit places = by (after p before) (safe_is_fine p before) fit places
  where
    by : (state : State) → In (λ w. (rows : ℕ → Row) (u : ℕ) (c : Call) (own : Own) → IsIn rows w u c own → IsSafe p c own → HasPlace p w u → misuse p w u ≡ None) state → In (AllFit outside t) state → In (λ w. (u : ℕ) → lives (task_at w u) ≡ true → HasPlace p w u) state
        → In (λ w. (u : ℕ) → lives (task_at w u) ≡ true → misuse p w u ≡ None) state
    by (Running w) law a few = λ u alive. one w law a few u alive (a.tasks u alive)
      where
        one : (w : World) → ((rows : ℕ → Row) (u : ℕ) (c : Call) (own : Own) → IsIn rows w u c own → IsSafe p c own → HasPlace p w u → misuse p w u ≡ None) → (a : AllFit outside t w) → ((u : ℕ) → lives (task_at w u) ≡ true → HasPlace p w u) → (u : ℕ) → lives (task_at w u) ≡ true → (own : Own) × TaskFits outside a.rows w u own → misuse p w u ≡ None
        one w law a few u alive k =
            let row = all_among (λ (r : Row). All (IsSafe p r.call) r.states) t (a.rows u) are (a.listed u) in
            let is : IsSafe p (a.rows u).call k.0 = all_among (IsSafe p (a.rows u).call) (a.rows u).states k.0 row k.1.there in
            law a.rows u (a.rows u).call k.0 (record { alive = alive; fits = k.1.fits; environment = k.1.environment }) is (few u alive)
    by (Faulted kind t2 g pc) law a few = tt

-- an event leads to no fault
runs_on : (p : Program) (w : World) → ((u : ℕ) → lives (task_at w u) ≡ true → misuse p w u ≡ None) → (e : Event) → (v : World) × (apply p (Running w) e ≡ Running v)
runs_on p w fine (event.Interrupt u) = (interrupt w u, refl)
runs_on p w fine (event.Expire s) = (expire w s, refl)
runs_on p w fine (event.Step u) = by (can_step p w u) refl
  where
    by : (b : Bool) → can_step p w u ≡ b → (v : World) × (cond b (stepped (misuse p w u) p w u (task_at w u).frame) (Running w) ≡ Running v)
    by false e = (w, refl)
    by true e =
        let alive = (and_parts (lives (task_at w u)) _ e).0 in
        (perform p w u (task_at w u).frame (instr_at p (task_at w u).frame), ap (λ m. stepped m p w u (task_at w u).frame) (fine u alive))

module _ (p : Program) (outside : Outside) (t : Table) (root : Row) (is : IsTable p outside t root) (cancels : outside.cancels ≡ true) (are : AreSafe p t) (events : List Event) (few : HavePlaces p events) where
  -- from a state that runs, by the rest of the events
  goes_on : (before later : List Event) → before ++ later ≡ events → (w : World) × (after p before ≡ Running w) → (v : World) × (after p events ≡ Running v)
  goes_on before [] same k = (k.0, ap (after p) (sym same ∙ append-nil before) ∙ k.1)
  goes_on before (e ∷ later) same k =
      let fine = subst (λ (state : State). In (λ w. (u : ℕ) → lives (task_at w u) ≡ true → misuse p w u ≡ None) state) k.1 (table_fine p outside t are before (tasks_are_covered p outside t root is cancels before) (few before (e ∷ later) same)) in
      let r = runs_on p k.0 fine e in
      let next : after p (before ++ e ∷ []) ≡ Running r.0 = after-append p before (e ∷ []) ∙ ap (λ state. apply p state e) k.1 ∙ r.1 in
      goes_on (before ++ e ∷ []) later (append_assoc before (e ∷ []) later ∙ same) (r.0, next)

pub safe_never_faults : SafeNeverFaults
safe_never_faults p outside t root is cancels are events few = goes_on p outside t root is cancels are events few [] events refl (start (opening p) refl)
  where
    start : (state : State) → opening p ≡ state → (w : World) × (after p [] ≡ Running w)
    start (Running w) e = (w, e)
    start (Faulted kind t2 g pc) e = cc
