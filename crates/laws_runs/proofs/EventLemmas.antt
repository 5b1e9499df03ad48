-- Every event keeps all facts, and undoes nothing.
use Rattle.std.proofs.Common.{◌≡◌, ℕ, zero, suc, List, [], ◌∷◌, Bool, true, false, Option, Some, None, refl, sym, ◌∙◌, length, arith, get_or, cond, not, fold}
use Rattle.std.proofs.Common.{subst, ◌-◌, length-set}
use Rattle.sts_code.specs.Program.{Program}
use Rattle.sts_code.specs.declared.instr.Instr.{Instr}
use Rattle.sts_code.specs.declared.instr.Joiner.{Joiner}
use Rattle.sts_code.specs.declared.instr.Instr.TheVariants.{Open, Fork, Ret, Fail}
use Rattle.sts_model.specs.declared.event.Event.{Event}
use Rattle.sts_model.specs.declared.event.Event.TheVariants as event
use Rattle.sts_model.specs.declared.event.End.{End}
use Rattle.sts_model.specs.declared.event.End.TheVariants.{Success, Failed}
use Rattle.sts_model.specs.declared.event.Fault.{Fault}
use Rattle.sts_model.specs.declared.record.Slot.TheVariants as slots
use Rattle.sts_model.specs.declared.record.Frame.{Frame}
use Rattle.sts_model.specs.declared.record.Task.{Task}
use Rattle.sts_model.specs.World.{World, State, Running, Faulted, task_at, scope_at, no_task, no_scope, instr_at, opening, entry_frame, with_frame}
use Rattle.sts_model.specs.Local.{operand}
use Rattle.sts_model.specs.Living.{lives}
use Rattle.sts_model.specs.Misuse.{slot, is_opened, misuse, IsFine}
use Rattle.sts_model.proofs.FineLemmas.{fine}
use Rattle.sts_model.specs.Waiting.{can_step}
use Rattle.sts_model.specs.Effect as def
use Rattle.sts_model.specs.Effect.{named, open_scope, fork_task, end_task}
use Rattle.sts_model.specs.Run.{apply, after, stepped, perform}
use Rattle.laws_runs.specs.Runs.{In, Ever, Between, Always, Each, Leads, LeadsBy}
use Rattle.std.proofs.lemmas.Bool.{and_parts}
use Rattle.laws_runs.proofs.ListLemmas.{at_set}
use Rattle.laws_runs.specs.Later.{LaterTask, Later}
use Rattle.laws_runs.proofs.LaterLemmas.{later_task-refl, later_scope-refl, later-refl, later-trans, none_fresh}
use Rattle.laws_runs.proofs.KeptLemmas.{Kept, kept-later}
use Rattle.laws_runs.proofs.StillLemmas.{Still}
use Rattle.laws_runs.proofs.FrameLemmas.{own_slot, at_own-is}
use Rattle.laws_runs.proofs.SoundLemmas.{Sound, Owner, sound-kept}
use Rattle.laws_runs.proofs.EffectLemmas.{first_no, still-effect, kept-end, still-interrupt, still-expire}
use Rattle.laws_runs.proofs.BirthLemmas.{more_scopes, new_scope, opener, later-more_scopes, sound-open, sound-fork, later-fork, new-owns_nothing}
use Rattle.laws_runs.proofs.CompletionLemmas.{AllTold, told-new, told-still, told-open, told-fork, told-end}
use Rattle.laws_runs.proofs.RunLemmas.{after-append}
use Rattle.sts_model.proofs.PhaseLemmas.{opened_not_closed}

-- all facts about a state
pub record Right (w : World) : Type 0 where
  pub sound : Sound w
  pub told : AllTold w

-- the facts hold, in a state later than w
pub record Next (w v : World) : Type 0 where
  pub right : Right v
  pub later : Later w v

next-still : (w v : World) → Right w → Still w v → Next w v
next-still w v o k = record { right = record { sound = sound-kept w v o.sound k.kept; told = told-still w v o.told k }; later = kept-later w v k.kept }

next-end : (w : World) (t : ℕ) (end : End) → Right w → lives (task_at w t) ≡ true → (Kept w (end_task w t (task_at w t).frame end)) → Next w (end_task w t (task_at w t).frame end)
next-end w t end o alive k =
    record {
      right =
          record {
            sound = sound-kept w _ o.sound k;
            told = told-end w t end alive o.sound o.told;
          };
      later = kept-later w _ k;
    }

later-frame : (w : World) (t : ℕ) (f : Frame) → Later w (with_frame w t f)
later-frame w t f =
    let n = length-set w.tasks t (record (task_at w t) { frame = f }) in
    record {
      tasks = omega (arith, n);
      scopes = omega arith;
      task = λ u less. at_set (λ (task : Task). LaterTask (task_at w u) task) w.tasks t u (record (task_at w t) { frame = f }) no_task (λ e. rw e (record { same = record { started = refl; scope = refl }; outcome = λ end d. d })) (later_task-refl (task_at w u));
      scope = λ s less. later_scope-refl (scope_at w s);
      fresh = none_fresh w (with_frame w t f) (omega (arith, n));
    }

next-open : (w : World) (t x : ℕ) (joiner : Joiner) (timed : Bool) → Right w → lives (task_at w t) ≡ true → Next w (open_scope w t (task_at w t).frame x joiner timed)
unfolding open_scope
next-open w t x joiner timed o alive =
    let v : World = more_scopes w (new_scope w t joiner timed) in
    record {
      right =
          record {
            sound = sound-open w t x joiner timed o.sound alive;
            told = told-open w t x joiner timed o.sound o.told;
          };
      later = later-trans w v _ (later-more_scopes w (new_scope w t joiner timed)) (later-frame v t (opener w (task_at w t).frame x));
    }

next-fork : (p : Program) (w : World) (t s g : ℕ) (h : Option ℕ) → Right w → Owner w.scopes s t → lives (task_at w t) ≡ true → not (is_opened (scope_at w s).phase) ≡ false → Next w (fork_task p w t (task_at w t).frame s g h)
next-fork p w t s g h o mine alive opened =
    record {
      right =
          record {
            sound = sound-fork p w t s g h o.sound mine alive (opened_not_closed (scope_at w s).phase opened);
            told = told-fork p w t s g h alive o.told;
          };
      later = later-fork p w t s g h alive;
    }

-- an instruction that is no misuse
next-effect : (p : Program) (w : World) (t : ℕ) (i : Instr) → Right w → lives (task_at w t) ≡ true → IsFine p w t (task_at w t).frame i → Next w (def.effect p w t (task_at w t).frame i)
next-effect p w t (Open x timed joiner) o alive is = next-open w t x joiner timed o alive
next-effect p w t (Fork x g h) o alive is =
    let f : Frame = (task_at w t).frame in
    let mine : slot f x ≡ slots.Own (named (slot f x)) = own_slot (slot f x) (first_no _ _ (first_no _ _ is.slots)) is.own in
    let legal : not (is_opened (scope_at w (named (slot f x))).phase) ≡ false = sym (at_own-is w (slot f x) (λ n scope. not (is_opened scope.phase)) mine) ∙ is.legal in
    next-fork p w t (named (slot f x)) g h o (o.sound.own t x (named (slot f x)) mine) alive legal
next-effect p w t Ret o alive is = next-end w t (Success (operand (task_at w t).frame 0)) o alive (kept-end w t (Success (operand (task_at w t).frame 0)) alive is.structure)
next-effect p w t Fail o alive is = next-end w t (Failed (operand (task_at w t).frame 0)) o alive (kept-end w t (Failed (operand (task_at w t).frame 0)) alive is.structure)
next-effect p w t i o alive is = next-still w _ o (still-effect p w t i o.sound is refl)

-- ---- one event

module _ (p : Program) (P : World → Type 0) (R : World → Event → World → Type 0) (l : LeadsBy p P R) where
  lead-at : (w : World) (t : ℕ) → P w → can_step p w t ≡ true → misuse p w t ≡ None → (o : Option Instr) → instr_at p (task_at w t).frame ≡ o → R w (event.Step t) (perform p w t (task_at w t).frame o)
  lead-at w t h can m None e = let never = rw e at m in cc
  lead-at w t h can m (Some i) e = l.effect w t i h (record { alive = (and_parts (lives (task_at w t)) _ can).0; can = can; at = e; fine = fine p w t i m e })

  lead-stepped : (w : World) (t : ℕ) → P w → can_step p w t ≡ true → (m : Option Fault) → misuse p w t ≡ m → In (R w (event.Step t)) (stepped m p w t (task_at w t).frame)
  lead-stepped w t h can None e = lead-at w t h can e (instr_at p (task_at w t).frame) refl
  lead-stepped w t h can (Some kind) e = tt

  lead-step : (w : World) (t : ℕ) → P w → (b : Bool) → can_step p w t ≡ b → In (R w (event.Step t)) (cond b (stepped (misuse p w t) p w t (task_at w t).frame) (Running w))
  lead-step w t h false e = l.nothing w t h e
  lead-step w t h true e = lead-stepped w t h e (misuse p w t) refl

  -- an event leads to the states that its effects lead to
  pub lead-by : (w : World) (e : Event) → P w → In (R w e) (apply p (Running w) e)
  lead-by w (event.Step t) h = lead-step w t h (can_step p w t) refl
  lead-by w (event.Interrupt t) h = l.interrupt w t h
  lead-by w (event.Expire s) h = l.expire w s h

-- like the lemma before, if nothing is said of the event
pub lead : (p : Program) (P : World → Type 0) (R : World → World → Type 0) → Leads p P R → (w : World) (e : Event) → P w → In (R w) (apply p (Running w) e)
lead p P R l =
    lead-by p P (λ w e v. R w v)
    (record { nothing = λ w t h e. l.nothing w h; effect = l.effect; interrupt = l.interrupt; expire = l.expire })

pub next-leads : (p : Program) → Leads p Right Next
next-leads p =
    record {
      nothing = λ w h. record { right = h; later = later-refl w };
      effect = λ w t i h d. next-effect p w t i h d.alive d.fine;
      interrupt = λ w t h. next-still w _ h (still-interrupt w t);
      expire = λ w s h. next-still w _ h (still-expire w s);
    }

next-apply : (p : Program) (w : World) (e : Event) → Right w → In (Next w) (apply p (Running w) e)
next-apply p w e h = lead p Right Next (next-leads p) w e h

-- ---- lists of events

-- one event more, from the same beginning
since : (w v : World) → Next w v → (state : State) → In (Next v) state → In (Next w) state
since w v h (Running x) k = record { right = k.right; later = later-trans w v x h.later k.later }
since w v h (Faulted kind t f pc) k = tt

next-event : (p : Program) (w : World) (state : State) (e : Event) → In (Next w) state → In (Next w) (apply p state e)
next-event p w (Running v) e h = since w v h (apply p (Running v) e) (next-apply p v e h.right)
next-event p w (Faulted kind t f pc) e h = tt

next-fold : (p : Program) (w : World) (events : List Event) (state : State) → In (Next w) state → In (Next w) (fold (apply p) state events)
next-fold p w [] state h = h
next-fold p w (e ∷ es) state h = next-fold p w es (apply p state e) (next-event p w state e h)

-- ---- the beginning

abbrev pub main : Program → Task
main p = record { frame = entry_frame (length p.routines - 1) [] slots.Empty; started = true; flag = false; scope = None; outcome = None }

-- the root owns nothing, and no other task was born
root-owns_nothing : (p : Program) (t i s : ℕ) → slot (get_or (main p ∷ []) t no_task).frame i ≡ slots.Own s → ⊥
root-owns_nothing p zero i s e = new-owns_nothing (length p.routines - 1) [] slots.Empty (λ r d. cc) i s e
root-owns_nothing p (suc t) i s e = new-owns_nothing 0 [] slots.Empty (λ r d. cc) i s e

pub root-in_nothing : (p : Program) (u s : ℕ) → (get_or (main p ∷ []) u no_task).scope ≡ Some s → ⊥
root-in_nothing p zero s e = cc
root-in_nothing p (suc u) s e = cc

root-alone : (p : Program) (u : ℕ) → lives (get_or (main p ∷ []) u no_task) ≡ true → u ≡ 0
root-alone p zero e = refl
root-alone p (suc u) e = cc

right-opening : (p : Program) → In Right (opening p)
right-opening p =
    record {
      sound =
          record {
            own = λ t i s e. absurd (root-owns_nothing p t i s e);
            born = λ u s e. absurd (root-in_nothing p u s e);
            root = λ u alive e. root-alone p u alive;
            held = λ s less still. absurd (omega (arith, less));
            empty = λ s u closed e. absurd (root-in_nothing p u s e);
          };
      told = λ s. told-new (main p ∷ []) s no_scope refl (λ u end inside e. root-in_nothing p u s inside);
    }

-- ---- whole runs

-- in every state of every run all facts hold
right_fold : (p : Program) (events : List Event) (state : State) → In Right state → In Right (fold (apply p) state events)
right_fold p events (Running w) h = by (fold (apply p) (Running w) events) (next-fold p w events (Running w) (record { right = h; later = later-refl w }))
  where
    by : (state : State) → In (Next w) state → In Right state
    by (Running v) k = k.right
    by (Faulted kind t f pc) k = tt
right_fold p [] (Faulted kind t f pc) h = tt
right_fold p (e ∷ es) (Faulted kind t f pc) h = right_fold p es (Faulted kind t f pc) h

pub right-after : (p : Program) (events : List Event) → In Right (after p events)
right-after p events = right_fold p events (opening p) (right-opening p)

-- the state is right, and a further fact holds
pub record Also (E : World → Type 0) (w : World) : Type 0 where
  pub right : Right w
  pub also : E w

-- A fact holds in every state of every run if it holds at the beginning and each effect keeps it.
-- Each effect may take for granted that it leads to a state that is right and later.
pub also-after : (p : Program) (E : World → Type 0) → In E (opening p) → Leads p (Also E) (λ w v. Next w v → E v) → (events : List Event) → In (Also E) (after p events)
also-after p E start l events = fold_also events (opening p) (record { right = right-opening p; also = start })
  where
    joined : (w : World) (state : State) → In (Next w) state → In (λ v. Next w v → E v) state → In (Also E) state
    joined w (Running v) n h = record { right = n.right; also = h n }
    joined w (Faulted kind t f pc) n h = tt

    one_event : (state : State) (e : Event) → In (Also E) state → In (Also E) (apply p state e)
    one_event (Running w) e h = joined w (apply p (Running w) e) (next-apply p w e h.right) (lead p (Also E) (λ w v. Next w v → E v) l w e h)
    one_event (Faulted kind t f pc) e h = tt

    fold_also : (events : List Event) (state : State) → In (Also E) state → In (Also E) (fold (apply p) state events)
    fold_also [] state h = h
    fold_also (e ∷ es) state h = fold_also es (apply p state e) (one_event state e h)

-- like the lemma before, for a fact that says nothing of later states
pub also-kept : (p : Program) (E : World → Type 0) → In E (opening p) → Leads p (Also E) (λ w v. E v) → (events : List Event) → In (Also E) (after p events)
also-kept p E start l =
    also-after p E start
    (record {
      nothing = λ w h n. l.nothing w h;
      effect = λ w t i h d n. l.effect w t i h d;
      interrupt = λ w t h n. l.interrupt w t h;
      expire = λ w s h n. l.expire w s h;
    })

-- ---- laws

-- a law of single states, from a fact that holds in each
pub ever-from : (F : Program → World → Type 0) → Ever F → (P : Program → World → Type 0) → ((p : Program) (w : World) → F p w → P p w) → Ever P
ever-from F facts P law p events = by (after p events) (facts p events)
  where
    by : (state : State) → In (F p) state → In (P p) state
    by (Running w) h = law p w h
    by (Faulted kind t f pc) h = tt

-- a law of single states
pub ever : (P : Program → World → Type 0) → ((p : Program) (w : World) → Right w → P p w) → Ever P
ever = ever-from (λ p w. Right w) right-after

-- a law of a state and a later one
pub always : (R : Program → World → World → Type 0) → ((p : Program) (w v : World) → Next w v → R p w v) → Always R
always R law p before later = subst (Between (R p) (after p before)) (sym (after-append p before later)) (from (after p before) (right-after p before))
  where
    to : (w : World) (state : State) → In (Next w) state → Between (R p) (Running w) state
    to w (Running v) h = law p w v h
    to w (Faulted kind t f pc) h = tt

    from : (state : State) → In Right state → Between (R p) state (fold (apply p) state later)
    from (Running w) h = to w (fold (apply p) (Running w) later) (next-fold p w later (Running w) (record { right = h; later = later-refl w }))
    from (Faulted kind t f pc) h = tt

-- a law of each event, from a fact that holds in every state
pub each-from : (F : Program → World → Type 0) → Ever F → (R : Program → World → Event → World → Type 0) → ((p : Program) → LeadsBy p (F p) (R p)) → Each R
each-from F facts R leads p events e = subst (Between (λ w v. R p w e v) (after p events)) (sym (after-append p events (e ∷ []))) (by (after p events) (facts p events))
  where
    to : (w : World) (state : State) → In (R p w e) state → Between (λ x v. R p x e v) (Running w) state
    to w (Running v) h = h
    to w (Faulted kind t f pc) h = tt

    by : (state : State) → In (F p) state → Between (λ w v. R p w e v) state (apply p state e)
    by (Running w) h = to w (apply p (Running w) e) (lead-by p (F p) (R p) (leads p) w e h)
    by (Faulted kind t f pc) h = tt

-- a law of each event
pub each : (R : Program → World → Event → World → Type 0) → ((p : Program) → LeadsBy p Right (R p)) → Each R
each = each-from (λ p w. Right w) right-after
