-- An own step leads to the same state before another event as after it.
use Rattle.std.proofs.Common.{◌≡◌, ℕ, ◌+◌, ◌-◌, ◌<◌, List, [], ◌∷◌, ◌++◌, Bool, true, false, Option, Some, None}
use Rattle.std.proofs.Common.{refl, sym, ◌∙◌, ap, subst, cond, ◌&&◌, ◌||◌, get_or-set_same}
use Rattle.std.specs.Prelude.{pos, nat_le, is_none, unwrap_or, ◌==◌, filter_map}
use Rattle.std.specs.Int.{int_wrapping_div, w64}
use Rattle.std.specs.Ordering.{int_eq}
use Rattle.std.proofs.lemmas.Bool.{and_parts, or_parts}
use Rattle.std.proofs.lemmas.List.{set-get_or}
use Rattle.sts_code.proofs.OptionLemmas.{is_nothing}
use Rattle.sts_code.specs.Loops.{match_of}
use Rattle.sts_code.specs.Program.{Program}
use Rattle.sts_code.specs.declared.instr.Instr.{Instr}
use Rattle.sts_code.specs.declared.instr.Instr.TheVariants as instr
use Rattle.sts_model.specs.declared.event.Event.{Event}
use Rattle.sts_model.specs.declared.event.Event.TheVariants as event
use Rattle.sts_model.specs.declared.event.Fault.{Fault}
use Rattle.sts_model.specs.declared.event.Fault.TheVariants.{Operand, Unbound}
use Rattle.sts_model.specs.declared.record.Bound.{Bound}
use Rattle.sts_model.specs.declared.record.Frame.{Frame}
use Rattle.sts_model.specs.declared.record.Loop.{Loop}
use Rattle.sts_model.specs.declared.record.Task.{Task}
use Rattle.sts_model.specs.Environment.{environment_of, own_bindings, bound_of, read}
use Rattle.sts_model.specs.World.{World, State, Running, Faulted, task_at, no_task, with_frame, code, instr_at}
use Rattle.sts_model.specs.Living.{lives, parent}
use Rattle.sts_model.specs.Local.{operand, goes, steps, clipped, turns}
use Rattle.sts_model.specs.Effect.{effect}
use Rattle.sts_model.specs.Misuse.{misuse, fault_at, fault_of, breaks_loop, misuses_operand, lacks_operands, overflows, has_wrong_slot, misjoins, has_no_room}
use Rattle.sts_model.specs.Waiting.{can_step, can_go, stand_at, stand_at_instr}
use Rattle.sts_model.specs.Run.{apply, step, stepped, perform, after}
use Rattle.laws_runs.specs.Runs.{In, Between}
use Rattle.laws_runs.specs.Stays.{KeepsBorn}
use Rattle.laws_runs.proofs.EventLemmas.{Right, right-after}
use Rattle.laws_runs.proofs.RunLemmas.{after-append}
use Rattle.laws_runs.proofs.SoundLemmas.{Sound}
use Rattle.laws_runs.proofs.StayLemmas.{nothing_is_lost}
use Rattle.ends_plain.specs.Own.{is_own, is_own_at, has_own_step}
use Rattle.laws_runs.proofs.BirthLemmas.{born_alive}
use Rattle.ends_plain.proofs.FuelLemmas.{after_own, frame_fuel, own_less}
use Rattle.ends_plain.proofs.OthersLemmas.{Beside, event_beside}

-- ---- an own instruction

-- What it does: it changes its task's frame alone. With the same scoped values it is a misuse in both states or in neither. Its task doesn't wait
record Owns (p : Program) (w : World) (t : ℕ) (f : Frame) (i : Instr) : Type 0 where
  pub moves : effect p w t f i ≡ with_frame w t (after_own (environment_of (task_at w t) w) (code p f) i f)
  pub fails : (v : World) → environment_of (task_at v t) v ≡ environment_of (task_at w t) w → fault_of p v t f i ≡ fault_of p w t f i
  pub is_free : can_go w (task_at w t) (stand_at_instr p w t (Some i)) ≡ true

owns : (p : Program) (w : World) (t : ℕ) (f : Frame) (i : Instr) → is_own f i ≡ true → Owns p w t f i
owns p w t f (instr.Open s timed joiner) e = cc
owns p w t f (instr.Fork x g h) e = cc
owns p w t f (instr.Join x failed timeout to_i) e = cc
owns p w t f (instr.Close x) e = cc
owns p w t f (instr.Cancelled x) e = cc
owns p w t f (instr.Case h success failed) e = cc
owns p w t f (instr.Get h) e = cc
owns p w t f (instr.Except h) e = cc
owns p w t f (instr.Tally x kind) e = cc
owns p w t f (instr.Total x) e = cc
owns p w t f instr.Interrupted e = cc
owns p w t f instr.Ret e = cc
owns p w t f instr.Fail e = cc
owns p w t f (instr.Read k) e =
    record {
      moves = refl;
      fails = λ v same. ap (λ (bs : List Bound). cond (misuses_operand p w f (instr.Read k)) (Some Operand) (cond (is_none (read bs k)) (Some Unbound) None)) same;
      is_free = refl;
    }
owns p w t f i e = record { moves = refl; fails = λ v same. refl; is_free = refl }

-- its task stays in its function
turns_function : (f : Frame) (ls : List Loop) → (turns f ls).function ≡ f.function
turns_function f [] = refl
turns_function f (l ∷ ls) = by (nat_le l.left 1)
  where
    by : (b : Bool) → (cond b (record (steps f 0 []) { loops = ls }) (record f { pc = l.at + 1; loops = record l { left = l.left - 1 } ∷ ls })).function ≡ f.function
    by true = refl
    by false = refl

own_function : (bs : List Bound) (is : List Instr) (f : Frame) (i : Instr) → (after_own bs is i f).function ≡ f.function
own_function bs is f (instr.Div to) = by (int_eq (operand f 0) (pos 0))
  where
    by : (b : Bool) → (cond b (goes f to 2 []) (steps f 2 (int_wrapping_div w64 (operand f 1) (operand f 0) ∷ []))).function ≡ f.function
    by true = refl
    by false = refl
own_function bs is f (instr.Times n) = by (clipped n (operand f 0) == 0)
  where
    by : (b : Bool) → (cond b (goes f (unwrap_or (match_of is f.pc) 0 + 1) 1 []) (record (steps f 1 []) { loops = record { at = f.pc; left = clipped n (operand f 0) } ∷ f.loops })).function ≡ f.function
    by true = refl
    by false = refl
own_function bs is f instr.Next = turns_function f f.loops
own_function bs is f i = refl

-- ---- an own step

-- the frame after the next instruction
after_next : List Bound → List Instr → Option Instr → Frame → Frame
after_next bs is None f = f
after_next bs is (Some i) f = after_own bs is i f

pub moved : Program → List Bound → Frame → Frame
moved p bs f = after_next bs (code p f) (instr_at p f) f

-- the frame of a task after its own step
pub goes_on : Program → World → ℕ → Frame
goes_on p w t = moved p (environment_of (task_at w t) w) (task_at w t).frame

-- an own step, taken apart
pub record OwnStep (p : Program) (w : World) (t : ℕ) : Type 0 where
  pub alive : lives (task_at w t) ≡ true
  pub can : can_step p w t ≡ true
  pub leads : step p w t ≡ Running (with_frame w t (goes_on p w t))
  pub less : frame_fuel (code p (task_at w t).frame) (goes_on p w t) < frame_fuel (code p (task_at w t).frame) (task_at w t).frame
  pub function : (goes_on p w t).function ≡ (task_at w t).frame.function

no_loop_fault : (p : Program) (w : World) (t : ℕ) (f : Frame) (i : Instr) → fault_of p w t f i ≡ None → breaks_loop p f i ≡ false
no_loop_fault p w t f i e =
    let operands : misuses_operand p w f i ≡ false = first_no (misuses_operand p w f i) _ _ e in
    let a = or_parts (lacks_operands p f i || overflows p f i || breaks_loop p f i || has_wrong_slot f i || misjoins w f i) (has_no_room w f i) operands in
    let b = or_parts (lacks_operands p f i || overflows p f i || breaks_loop p f i || has_wrong_slot f i) (misjoins w f i) a.0 in
    let c = or_parts (lacks_operands p f i || overflows p f i || breaks_loop p f i) (has_wrong_slot f i) b.0 in
    (or_parts (lacks_operands p f i || overflows p f i) (breaks_loop p f i) c.0).1
  where
    first_no : (b : Bool) (k : Fault) (rest : Option Fault) → cond b (Some k) rest ≡ None → b ≡ false
    first_no true k rest h = cc
    first_no false k rest h = refl

own_at : (p : Program) (w : World) (t : ℕ) (o : Option Instr) → instr_at p (task_at w t).frame ≡ o → lives (task_at w t) ≡ true → is_own_at (task_at w t).frame o ≡ true → misuse p w t ≡ None → OwnStep p w t
unfolding goes_on moved after_next
own_at p w t None at alive own fine = cc
own_at p w t (Some i) at alive own fine =
    let f = (task_at w t).frame in
    let bs = environment_of (task_at w t) w in
    let frame : goes_on p w t ≡ after_own bs (code p f) i f = ap (λ (o : Option Instr). after_next bs (code p f) o f) at in
    let no_fault : fault_of p w t f i ≡ None = sym (ap (λ (o : Option Instr). fault_at p w t f o) at) ∙ fine in
    let free : can_go w (task_at w t) (stand_at p w t) ≡ true = ap (λ (o : Option Instr). can_go w (task_at w t) (stand_at_instr p w t o)) at ∙ (owns p w t f i own).is_free in
    let can : can_step p w t ≡ true = ap (λ (b : Bool). b && can_go w (task_at w t) (stand_at p w t)) alive ∙ free in
    record {
      alive = alive;
      can = can;
      leads =
          ap (λ (b : Bool). cond b (stepped (misuse p w t) p w t f) (Running w)) can
          ∙ ap (λ (m : Option Fault). stepped m p w t f) fine
          ∙ ap (λ (o : Option Instr). Running (perform p w t f o)) at
          ∙ ap Running ((owns p w t f i own).moves ∙ ap (λ (g : Frame). with_frame w t g) (sym frame));
      less = subst (λ (g : Frame). frame_fuel (code p f) g < frame_fuel (code p f) f) (sym frame) (own_less p bs f i own at (no_loop_fault p w t f i no_fault));
      function = ap (λ (g : Frame). g.function) frame ∙ own_function bs (code p f) f i;
    }

pub own_step : (p : Program) (w : World) (t : ℕ) → has_own_step p w t ≡ true → OwnStep p w t
own_step p w t e =
    let a = and_parts (lives (task_at w t) && is_own_at (task_at w t).frame (instr_at p (task_at w t).frame)) (is_none (misuse p w t)) e in
    let b = and_parts (lives (task_at w t)) (is_own_at (task_at w t).frame (instr_at p (task_at w t).frame)) a.0 in
    own_at p w t (instr_at p (task_at w t).frame) refl b.0 b.1 (is_nothing (misuse p w t) a.1)

-- ---- it stays an own step

own_misuse : (p : Program) (w v : World) (t : ℕ) (f : Frame) (o : Option Instr) → is_own_at f o ≡ true → environment_of (task_at v t) v ≡ environment_of (task_at w t) w → fault_at p v t f o ≡ fault_at p w t f o
own_misuse p w v t f None e same = cc
own_misuse p w v t f (Some i) e same = (owns p w t f i e).fails v same

still_own : (p : Program) (w v : World) (t : ℕ) → has_own_step p w t ≡ true → lives (task_at v t) ≡ true → (task_at v t).frame ≡ (task_at w t).frame → environment_of (task_at v t) v ≡ environment_of (task_at w t) w → has_own_step p v t ≡ true
still_own p w v t e alive frame same =
    let f = (task_at w t).frame in
    let o = instr_at p f in
    let a = and_parts (lives (task_at w t) && is_own_at f o) (is_none (misuse p w t)) e in
    let b = and_parts (lives (task_at w t)) (is_own_at f o) a.0 in
    ap (λ (x : Bool). x && is_own_at (task_at v t).frame (instr_at p (task_at v t).frame) && is_none (misuse p v t)) alive
    ∙ ap (λ (g : Frame). is_own_at g (instr_at p g) && is_none (fault_at p v t g (instr_at p g))) frame
    ∙ ap (λ (x : Bool). x && is_none (fault_at p v t f o)) b.1
    ∙ ap (λ (m : Option Fault). is_none m) (own_misuse p w v t f o b.1 same)
    ∙ a.1

-- ---- states of runs

-- a list of events leads to the state
pub record IsRun (p : Program) (s : State) : Type 0 where
  pub events : List Event
  pub leads : after p events ≡ s

pub run_on : (p : Program) (s : State) (e : Event) → IsRun p s → IsRun p (apply p s e)
run_on p s e r = record { events = r.events ++ e ∷ []; leads = after-append p r.events (e ∷ []) ∙ ap (λ (x : State). apply p x e) r.leads }

run_right : (p : Program) (w : World) → IsRun p (Running w) → Right w
run_right p w r = subst (λ (s : State). In Right s) r.leads (right-after p r.events)

run_keeps : (p : Program) (w v : World) (e : Event) → IsRun p (Running w) → apply p (Running w) e ≡ Running v → KeepsBorn w v
unfolding run_on
run_keeps p w v e r is =
    let on : after p (r.events ++ e ∷ []) ≡ Running v = (run_on p (Running w) e r).leads ∙ is in
    let first : Between KeepsBorn (Running w) (after p (r.events ++ e ∷ [])) = subst (λ (s : State). Between KeepsBorn s (after p (r.events ++ e ∷ []))) r.leads (nothing_is_lost p r.events (e ∷ [])) in
    subst (λ (s : State). Between KeepsBorn (Running w) s) on first

-- the scoped values that a task's scope keeps
kept_values : (w v : World) (t : ℕ) → Sound w → KeepsBorn w v → (o : Option ℕ) → (task_at w t).scope ≡ o → (parent v o).environment ≡ (parent w o).environment
kept_values w v t sound kept None is = refl
kept_values w v t sound kept (Some s) is = (kept.scope s (sound.born t s is).0).environment

same_values : (w v : World) (t : ℕ) → Sound w → KeepsBorn w v → lives (task_at w t) ≡ true → (task_at v t).frame ≡ (task_at w t).frame → environment_of (task_at v t) v ≡ environment_of (task_at w t) w
same_values w v t sound kept alive frame =
    let own = own_bindings (task_at w t) in
    ap (λ (g : Frame). filter_map bound_of g.entries ++ (parent v (task_at v t).scope).environment) frame
    ∙ ap (λ (o : Option ℕ). own ++ (parent v o).environment) (kept.task t (born_alive w t alive)).scope
    ∙ ap (λ (bs : List Bound). own ++ bs) (kept_values w v t sound kept (task_at w t).scope refl)

-- ---- and comes before or after any other event

-- the state as it is, with the task's frame written once more
same_frame : (w : World) (t : ℕ) → with_frame w t (task_at w t).frame ≡ w
same_frame w t = ap (λ (xs : List Task). record w { tasks = xs }) (set-get_or w.tasks t no_task)

frame_of : ℕ → State → Frame
frame_of t (Running w) = (task_at w t).frame
frame_of t (Faulted kind u f pc) = no_task.frame

-- what a state leads to by another event, with the own step before it
abbrev pub Swaps : Program → ℕ → State → State → Type 0
Swaps p t x (Running v) = (has_own_step p v t ≡ true) × (x ≡ step p v t)
Swaps p t x (Faulted kind u f pc) = x ≡ Faulted kind u f pc

swaps_to : (p : Program) (w : World) (t : ℕ) (e : Event) → IsRun p (Running w) → has_own_step p w t ≡ true → (y : State) → apply p (Running w) e ≡ y
    → Beside t (task_at w t).frame (apply p (Running (with_frame w t (task_at w t).frame)) e) y
    → Beside t (goes_on p w t) (apply p (Running (with_frame w t (goes_on p w t))) e) y
    → Swaps p t (apply p (step p w t) e) y
unfolding frame_of goes_on
swaps_to p w t e run own (Running v) is kept h =
    let here = own_step p w t own in
    let f = (task_at w t).frame in
    let again : Running v ≡ Running (with_frame v t f) = sym is ∙ ap (λ (x : World). apply p (Running x) e) (sym (same_frame w t)) ∙ kept.0 in
    let frame : (task_at v t).frame ≡ f = ap (frame_of t) again ∙ ap (λ (x : Task). x.frame) (get_or-set_same v.tasks t (record (task_at v t) { frame = f }) no_task (born_alive v t kept.1)) in
    let values = same_values w v t (run_right p w run).sound (run_keeps p w v e run is) here.alive frame in
    let still = still_own p w v t own kept.1 frame values in
    let there = own_step p v t still in
    let on : goes_on p w t ≡ goes_on p v t = ap (λ (g : Frame). moved p (environment_of (task_at w t) w) g) (sym frame) ∙ ap (λ (bs : List Bound). moved p bs (task_at v t).frame) (sym values) in
    (still, ap (λ (s : State). apply p s e) here.leads ∙ h.0 ∙ ap (λ (g : Frame). Running (with_frame v t g)) on ∙ sym there.leads)
swaps_to p w t e run own (Faulted kind u g pc) is kept h = ap (λ (s : State). apply p s e) (own_step p w t own).leads ∙ h

pub swaps : (p : Program) (w : World) (t : ℕ) (e : Event) → IsRun p (Running w) → has_own_step p w t ≡ true → (e ≡ event.Step t → ⊥) → Swaps p t (apply p (step p w t) e) (apply p (Running w) e)
swaps p w t e run own other =
    let alive = (own_step p w t own).alive in
    swaps_to p w t e run own (apply p (Running w) e) refl
    (event_beside p w t (task_at w t).frame e other alive)
    (event_beside p w t (goes_on p w t) e other alive)
