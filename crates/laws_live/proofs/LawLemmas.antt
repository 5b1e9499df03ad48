-- The laws over every run.
use Rattle.std.proofs.Common.{◌≡◌, ℕ, ◌+◌, List, [], ◌∷◌, ◌++◌, Bool, true, false, Option, Some, None, refl, sym, ◌∙◌, ap, subst, arith, cond, ◌&&◌}
use Rattle.std.proofs.Common.{append_assoc, pos}
use Rattle.std.proofs.lemmas.List.{append-nil}
use Rattle.std.proofs.lemmas.List.Sums.{fold-append}
use Rattle.sts_code.specs.Program.{Program}
use Rattle.sts_code.specs.declared.instr.Instr.{Instr}
use Rattle.sts_model.specs.declared.event.Event.{Event}
use Rattle.sts_model.specs.declared.event.Event.TheVariants as event
use Rattle.sts_model.specs.declared.event.End.TheVariants.{Success}
use Rattle.sts_model.specs.declared.event.Fault.{Fault}
use Rattle.sts_model.specs.declared.record.Frame.{Frame}
use Rattle.sts_model.specs.World.{World, State, Running, Faulted, task_at, scope_at, instr_at, opening}
use Rattle.sts_model.specs.Joining.{result_of}
use Rattle.sts_model.specs.Living.{lives, is_closed, ends, subtask_count}
use Rattle.sts_model.specs.Misuse.{misuse}
use Rattle.sts_model.proofs.FineLemmas.{fine}
use Rattle.sts_model.specs.Waiting.{can_step}
use Rattle.sts_model.specs.Run.{apply, after, stepped, perform, counts, is_step, steps_in, taken}
use Rattle.sts_model.specs.Live.{Live, Alive, live, result_in}
use Rattle.laws_runs.specs.Runs.{NeverFaults, In, Ever}
use Rattle.std.proofs.lemmas.Bool.{and_parts}
use Rattle.laws_runs.proofs.RunLemmas.{sum_one_more, taken_one_more, after-append}
use Rattle.laws_runs.proofs.EventLemmas.{Also}
use Rattle.laws_live.specs.Reading.{alive_at}
use Rattle.laws_live.specs.Waiting.{live_can_step}
use Rattle.laws_live.specs.Run.{live_opening, live_perform, live_apply, live_after, live_counts, live_steps_in, live_taken}
use Rattle.laws_live.specs.Seen.{EffectIsSeen, InterruptIsSeen, ExpireIsSeen, CanStepIsSeen, IsProper, CountsIsSeen, ResultIsSeen, EventIsSeen, RunIsSeen}
use Rattle.laws_live.specs.Seen.{TakenIsSeen, StandsAt, Turns, TurnsAreSeen, StandingIsSeen}
use Rattle.sts_joiners.proofs.TellLemmas.{is_enough}
use Rattle.laws_live.proofs.ViewLemmas.{tasks_stand, scopes_stand, alive_is, lives_is, scope_here, count_is}
use Rattle.laws_runs.proofs.SoundLemmas.{born_open}
use Rattle.laws_live.proofs.EndLemmas.{open_some}
use Rattle.laws_live.proofs.EffectLemmas.{Facts, seen-effect}
use Rattle.laws_live.proofs.OutsideLemmas.{seen-interrupt, seen-expire, can_expire_is}
use Rattle.laws_live.proofs.WaitingLemmas.{can_is}
use Rattle.laws_runs.proofs.SlotLemmas.{Named, named-after, names_standing}

-- ---- what holds of every state

pub facts : (w : World) → Also Named w → Facts w
facts w h = record { sound = h.right.sound; told = h.right.told; named = λ t x alive. names_standing w t x h.right.sound h.also alive }

pub facts-after : (p : Program) (events : List Event) → In Facts (after p events)
facts-after p events = by (after p events) (named-after p events)
  where
    by : (state : State) → In (Also Named) state → In Facts state
    by (Running w) h = facts w h
    by (Faulted kind t f pc) h = tt

ever : (P : Program → World → Type 0) → ((p : Program) (w : World) → Facts w → P p w) → Ever P
ever P law p events = by (after p events) (facts-after p events)
  where
    by : (state : State) → In Facts state → In (P p) state
    by (Running w) h = law p w h
    by (Faulted kind t f pc) h = tt

-- ---- one event

pub effect_is_seen : EffectIsSeen
effect_is_seen = ever _ (λ p w o t i alive is. seen-effect p w t i o alive is)

pub interrupt_is_seen : InterruptIsSeen
interrupt_is_seen = ever _ (λ p w o t. seen-interrupt w t o.sound)

pub expire_is_seen : ExpireIsSeen
expire_is_seen = ever _ (λ p w o s. seen-expire w s)

pub can_step_is_seen : CanStepIsSeen
can_step_is_seen = ever _ (λ p w o t m. (can_is p w t o).proper m)

counts_is : (p : Program) (w : World) (e : Event) → Facts w → IsProper p w e → counts p (Running w) e ≡ live_counts p (live w) e
counts_is p w (event.Step t) o m = (can_is p w t o).proper m
counts_is p w (event.Interrupt t) o m = sym (lives_is w t o.sound)
counts_is p w (event.Expire s) o m = sym (can_expire_is w s)

-- the result is read off what is kept
result_is : (w : World) (s : ℕ) → is_closed (scope_at w s).phase ≡ false → result_in (live w) s ≡ Some (result_of (scope_at w s).joiner (ends (scope_at w s)) (subtask_count w s))
result_is w s still =
    rw (scope_here w s (born_open w s still), still, count_is w s still)
    (ap Some (sym (is_enough (scope_at w s).joiner (ends (scope_at w s)) (Success (pos 0)) (subtask_count w s)).result))

pub counts_is_seen : CountsIsSeen
counts_is_seen = ever _ (λ p w o e m. counts_is p w e o m)

pub result_is_seen : ResultIsSeen
result_is_seen = ever _ (λ p w o s stands. result_is w s (open_some w s stands))

pub standing_is_seen : StandingIsSeen
standing_is_seen w = record { tasks = tasks_stand w; scopes = scopes_stand w }

-- the view after an event, and whether the event counts
record Follows (p : Program) (w : World) (e : Event) (v : World) : Type 0 where
  pub view : live v ≡ live_apply p (live w) e
  pub counts : counts p (Running w) e ≡ live_counts p (live w) e

follows-steps : (p : Program) (w v : World) (e : Event) → Follows p w e v → steps_in p (Running w) e ≡ live_steps_in p (live w) e
follows-steps p w v e h = ap (λ b. cond (is_step e && b) 1 0) h.counts

-- the instruction of a task that can step
perform_is : (p : Program) (w : World) (t : ℕ) → Facts w → lives (task_at w t) ≡ true → misuse p w t ≡ None → (i : Option Instr) → instr_at p (task_at w t).frame ≡ i → live (perform p w t (task_at w t).frame i) ≡ live_perform p (live w) t (task_at w t).frame i
perform_is p w t o alive m None e = refl
perform_is p w t o alive m (Some i) e = seen-effect p w t i o alive (fine p w t i m e)

follows-step : (p : Program) (w : World) (t : ℕ) → Facts w → can_step p w t ≡ true → (m : Option Fault) → misuse p w t ≡ m → In (Follows p w (event.Step t)) (stepped m p w t (task_at w t).frame)
follows-step p w t o can (Some kind) m = tt
follows-step p w t o can None m =
    let alive : lives (task_at w t) ≡ true = (and_parts (lives (task_at w t)) _ can).0 in
    let agrees : can_step p w t ≡ live_can_step p (live w) t = (can_is p w t o).proper m in
    let seen : live_can_step p (live w) t ≡ true = sym agrees ∙ can in
    let f : (alive_at (live w) t).frame ≡ (task_at w t).frame = ap (λ (a : Alive). a.frame) (alive_is w t o.sound alive) in
    record {
      view =
          perform_is p w t o alive m (instr_at p (task_at w t).frame) refl
          ∙ ap (λ (g : Frame). live_perform p (live w) t g (instr_at p g)) (sym f)
          ∙ ap (λ b. cond b (live_perform p (live w) t (alive_at (live w) t).frame (instr_at p (alive_at (live w) t).frame)) (live w)) (sym seen);
      counts = agrees;
    }

follows : (p : Program) (w : World) (e : Event) → Facts w → In (Follows p w e) (apply p (Running w) e)
follows p w (event.Interrupt t) o = record { view = seen-interrupt w t o.sound; counts = sym (lives_is w t o.sound) }
follows p w (event.Expire s) o = record { view = seen-expire w s; counts = sym (can_expire_is w s) }
follows p w (event.Step t) o = by (can_step p w t) refl
  where
    by : (b : Bool) → can_step p w t ≡ b → In (Follows p w (event.Step t)) (cond b (stepped (misuse p w t) p w t (task_at w t).frame) (Running w))
    by true e = follows-step p w t o e (misuse p w t) refl
    by false e =
        let still : live_can_step p (live w) t ≡ false = (can_is p w t o).still e in
        record {
          view = ap (λ b. cond b (live_perform p (live w) t (alive_at (live w) t).frame (instr_at p (alive_at (live w) t).frame)) (live w)) (sym still);
          counts = e ∙ sym still;
        }

event_is : (p : Program) (w : World) (e : Event) (state : State) → In (Follows p w e) state → In (λ v. live v ≡ live_apply p (live w) e) state
event_is p w e (Running v) h = h.view
event_is p w e (Faulted kind t f pc) h = tt

pub event_is_seen : EventIsSeen
event_is_seen = ever _ (λ p w o e. event_is p w e (apply p (Running w) e) (follows p w e o))

-- ---- whole runs

-- the view after a list of events, and the steps that the list takes
record Agrees (p : Program) (events : List Event) (w : World) : Type 0 where
  pub view : live w ≡ live_after p events
  pub steps : taken p events ≡ live_taken p events

one_more : (p : Program) (events : List Event) (e : Event) → In (Agrees p events) (after p events) → In (Agrees p (events ++ e ∷ [])) (after p (events ++ e ∷ []))
one_more p events e h =
    subst (In (Agrees p (events ++ e ∷ []))) (sym (after-append p events (e ∷ [])))
    (from (after p events) refl h (facts-after p events))
  where
    to : (w : World) → after p events ≡ Running w → Agrees p events w → (state : State) → In (Follows p w e) state → In (Agrees p (events ++ e ∷ [])) state
    to w is h (Faulted kind t f pc) k = tt
    to w is h (Running v) k =
        let more : live_after p (events ++ e ∷ []) ≡ live_apply p (live_after p events) e = fold-append (live_apply p) (live_opening p) events (e ∷ []) in
        let old = h.steps in
        let one : steps_in p (after p events) e ≡ live_steps_in p (live_after p events) e = ap (λ s. steps_in p s e) is ∙ follows-steps p w v e k ∙ ap (λ (a : Live). live_steps_in p a e) h.view in
        let a = taken_one_more p (opening p) events e in
        let b = sum_one_more (live_steps_in p) (live_apply p) (live_opening p) events e in
        record {
          view = k.view ∙ ap (λ (a : Live). live_apply p a e) h.view ∙ sym more;
          steps = omega (arith, old, one, a, b);
        }

    from : (state : State) → after p events ≡ state → In (Agrees p events) state → In Facts state → In (Agrees p (events ++ e ∷ [])) (apply p state e)
    from (Running w) is h o = to w is h (apply p (Running w) e) (follows p w e o)
    from (Faulted kind t f pc) is h o = tt

all_more : (p : Program) (before events : List Event) → In (Agrees p before) (after p before) → In (Agrees p (before ++ events)) (after p (before ++ events))
all_more p before [] h = subst (λ (es : List Event). In (Agrees p es) (after p es)) (sym (append-nil before)) h
all_more p before (e ∷ es) h =
    subst (λ (l : List Event). In (Agrees p l) (after p l)) (append_assoc before (e ∷ []) es)
    (all_more p (before ++ e ∷ []) es (one_more p before e h))

agrees : (p : Program) (events : List Event) → In (Agrees p events) (after p events)
agrees p events = all_more p [] events (record { view = refl; steps = refl })

pub run_is_seen : RunIsSeen
run_is_seen p events = by (after p events) (agrees p events)
  where
    by : (state : State) → In (Agrees p events) state → In (λ w. live w ≡ live_after p events) state
    by (Running w) h = h.view
    by (Faulted kind t f pc) h = tt

pub taken_is_seen : TakenIsSeen
taken_is_seen p events = by (after p events) (agrees p events)
  where
    by : (state : State) → In (Agrees p events) state → In (λ w. taken p events ≡ live_taken p events) state
    by (Running w) h = h.steps
    by (Faulted kind t f pc) h = tt

-- ---- what stands at a list of events

turn : (p : Program) (events : List Event) (v : Live) (n : ℕ) (e : Event) (h : StandsAt p events v n) → (x : World) → after p (events ++ e ∷ []) ≡ Running x → Turns p events v n e
turn p events v n e h x runs =
    let o : Facts h.world = subst (In Facts) h.runs (facts-after p events) in
    let next : apply p (Running h.world) e ≡ Running x = ap (λ s. apply p s e) (sym h.runs) ∙ sym (after-append p events (e ∷ [])) ∙ runs in
    let k : Follows p h.world e x = subst (In (Follows p h.world e)) next (follows p h.world e o) in
    let view : live x ≡ live_apply p v e = k.view ∙ ap (λ (a : Live). live_apply p a e) h.view in
    let more = taken_one_more p (opening p) events e in
    let one : steps_in p (after p events) e ≡ live_steps_in p v e = ap (λ s. steps_in p s e) h.runs ∙ follows-steps p h.world x e k ∙ ap (λ (a : Live). live_steps_in p a e) h.view in
    let before = h.steps in
    record {
      stands = record { world = x; runs = runs; view = view; steps = omega (arith, more, one, before) };
      count = ap (λ s. counts p s e) h.runs ∙ k.counts ∙ ap (λ (a : Live). live_counts p a e) h.view;
    }

pub turns_are_seen : (p : Program) → NeverFaults p → TurnsAreSeen p
turns_are_seen p never events v n e h = let q = never (events ++ e ∷ []) in turn p events v n e h q.0 q.1
