-- What a table covers, over runs.
use Rattle.std.proofs.Common.{◌≡◌, ℕ, ◌+◌, ◌<◌, ◌≤◌, ◌⊎◌, inl, inr, List, [], ◌∷◌, ◌++◌, true, false, Some, None, refl}
use Rattle.std.proofs.Common.{sym, ap, subst, length, zero, suc, append-nil, append_assoc, arith, cond}
use Rattle.std.specs.List.{list_any}
use Rattle.std.proofs.lemmas.List.Sums.{sum_by-cons}
use Rattle.sts_code.specs.Program.{Program}
use Rattle.sts_code.specs.declared.instr.Instr.{Instr}
use Rattle.sts_code.specs.declared.instr.Instr.TheVariants.{Open, Fork, Join, Close, Ret, Fail}
use Rattle.sts_model.specs.declared.event.End.TheVariants.{Success, Failed}
use Rattle.sts_model.specs.declared.event.Event.{Event}
use Rattle.sts_model.specs.declared.event.Event.TheVariants as event
use Rattle.sts_model.specs.World.{World, State, Running, Faulted, task_at, scope_at, opening}
use Rattle.sts_model.specs.Living.{lives, sub_state}
use Rattle.sts_model.specs.Misuse.{is_joined, is_entry_of}
use Rattle.sts_model.specs.Effect.{effect}
use Rattle.sts_model.specs.Local.{operand}
use Rattle.sts_model.specs.Run.{after, apply}
use Rattle.sts_model.specs.Outside.{interrupt, expire}
use Rattle.laws_runs.specs.Flags.{IsCancelled}
use Rattle.laws_runs.specs.Runs.{In, Between, Each, Does}
use Rattle.laws_runs.specs.Scopes.{HasCause, IsEntered}
use Rattle.laws_runs.specs.Slots.{NamesStanding}
use Rattle.laws_runs.specs.Tallies.{IsTallied}
use Rattle.laws_runs.proofs.EventLemmas.{Right, Next, right-after, next-leads, each-from, main}
use Rattle.laws_runs.proofs.RunLemmas.{after-append}
use Rattle.laws_runs.proofs.FlagLemmas.{flags_have_cause}
use Rattle.laws_runs.proofs.ScopeLemmas.{cancelled_has_cause, joined_is_settled, entries_are_open, left_out_is_cancelled}
use Rattle.laws_runs.proofs.SlotLemmas.{slots_stand}
use Rattle.laws_runs.proofs.TallyLemmas.{tallies_are_counts}
use Rattle.laws_calls.specs.Outside.{Outside, may_flag}
use Rattle.laws_calls.specs.Held as held
use Rattle.laws_calls.specs.Tasks.{Call, HasWay, begin}
use Rattle.laws_calls.specs.Steps.{Row, Table, IsTable, root_call}
use Rattle.laws_calls.specs.Covers.{Covers, HasState, AreWithin, is_interrupt}
use Rattle.laws_calls.specs.Covered.{EventsAreCovered, RunsAreCovered, EndsAreWays, AllFit, TasksAreCovered, BirthsAreBounded}
use Rattle.laws_calls.proofs.Turns.{Facts, FlagsHaveCause, any_flag, some_flag}
use Rattle.laws_calls.proofs.Alone.{give}
use Rattle.laws_calls.proofs.Opens.{open_covered}
use Rattle.laws_calls.proofs.Forks.{fork_covered, empties}
use Rattle.laws_calls.proofs.Interrupts.{interrupt_covered}
use Rattle.laws_calls.proofs.Joins.{join_covered}
use Rattle.laws_calls.proofs.Closes.{close_covered}
use Rattle.laws_calls.proofs.Ends.{end_covered}
use Rattle.laws_calls.proofs.Expires.{expiry_covered}

pub facts_after : (p : Program) (events : List Event) → In Facts (after p events)
facts_after p events =
    by (after p events) (right-after p events) (cancelled_has_cause p events) (left_out_is_cancelled p events) (joined_is_settled p events) (entries_are_open p events) (slots_stand p events) (tallies_are_counts p events)
  where
    by : (state : State) → In Right state
        → In (λ w. (s : ℕ) → s < length w.scopes → HasCause (scope_at w s)) state
        → In (λ w. (s u : ℕ) → (task_at w u).scope ≡ Some s → lives (task_at w u) ≡ false → sub_state w u ≡ None → (scope_at w s).cancelled ≡ true) state
        → In (λ w. (s u : ℕ) → is_joined (scope_at w s).phase ≡ true → (scope_at w s).cancelled ≡ false → (task_at w u).scope ≡ Some s → lives (task_at w u) ≡ false) state
        → In (λ w. (t s : ℕ) → lives (task_at w t) ≡ true → list_any (is_entry_of s) (task_at w t).frame.entries ≡ true → IsEntered w t s) state
        → In (λ w. (t x : ℕ) → lives (task_at w t) ≡ true → NamesStanding w t x) state
        → In (λ w. (s : ℕ) → IsTallied w s) state
        → In Facts state
    by (Running w) right caused left settled entered names tallied = record { right = right; caused = caused; left_out = left; settled = settled; entered = entered; names = names; tallied = tallied }
    by (Faulted kind t f pc) right caused left settled entered names tallied = tt

-- what one event says of flags
abbrev FlagsSaid : World → Event → World → Type 0
FlagsSaid w e v = (u : ℕ) → (task_at w u).flag ≡ false → (task_at v u).flag ≡ true → (e ≡ event.Interrupt u) ⊎ ((s : ℕ) × ((task_at w u).scope ≡ Some s) × IsCancelled w v s)

have_cause : (outside : Outside) (w v : World) (e : Event) → (is_interrupt e ≡ true → may_flag outside ≡ true) → FlagsSaid w e v → FlagsHaveCause outside w v
have_cause outside w v e may said q before after = by (said q before after)
  where
    by : (e ≡ event.Interrupt q) ⊎ ((s : ℕ) × ((task_at w q).scope ≡ Some s) × IsCancelled w v s) → (may_flag outside ≡ true) ⊎ ((s : ℕ) × ((task_at w q).scope ≡ Some s) × IsCancelled w v s)
    by (inl same) = inl (may (ap is_interrupt same))
    by (inr r) = inr r

abbrev Gives : Program → World → Event → World → Type 0
Gives p w e v = (outside : Outside) (t : Table) (root : Row) → IsTable p outside t root → Covers p outside t root w → (is_interrupt e ≡ true → may_flag outside ≡ true) → Covers p outside t root v

abbrev Covered : Program → World → Event → World → Type 0
Covered p w e v = FlagsSaid w e v → Gives p w e v

give_step : (p : Program) (outside : Outside) (t : Table) (root : Row) (is : IsTable p outside t root) (w : World) (h : Facts w) (c : Covers p outside t root w) (u : ℕ) (i : Instr) → Next w (effect p w u (task_at w u).frame i) → FlagsHaveCause outside w (effect p w u (task_at w u).frame i) → Does p w u i → Covers p outside t root (effect p w u (task_at w u).frame i)
give_step p outside t root is w h c u (Open x timed joiner) n flags d = open_covered p outside t root is w h u x joiner timed c n flags d
give_step p outside t root is w h c u (Fork x g q) n flags d = fork_covered p outside t root is w h u x g q d c n flags
give_step p outside t root is w h c u (Join x failed timeout interrupted) n flags d = join_covered p outside t root is w h u x failed timeout interrupted d c n flags
give_step p outside t root is w h c u (Close x) n flags d = close_covered p outside t root is w h u x d c n flags
give_step p outside t root is w h c u Ret n flags d = end_covered p outside t root is w h u Ret (Success (operand (task_at w u).frame 0)) d refl c n flags
give_step p outside t root is w h c u Fail n flags d = end_covered p outside t root is w h u Fail (Failed (operand (task_at w u).frame 0)) d refl c n flags
give_step p outside t root is w h c u i n flags d = give p outside t root is w h c u i refl n flags d

event_law : Each Covered
event_law =
    each-from (λ p w. Facts w) facts_after Covered
    (λ p. record {
      nothing = λ w u h e flags outside t root is c may. c;
      effect = λ w u i h d flags outside t root is c may.
          give_step p outside t root is w h c u i ((next-leads p).effect w u i h.right d) (have_cause outside w (effect p w u (task_at w u).frame i) (event.Step u) may flags) d;
      interrupt = λ w u h flags outside t root is c may. interrupt_covered p outside t root w h u c ((next-leads p).interrupt w u h.right) (have_cause outside w (interrupt w u) (event.Interrupt u) may flags);
      expire = λ w s h flags outside t root is c may. expiry_covered p outside t root w h s c ((next-leads p).expire w s h.right) (have_cause outside w (expire w s) (event.Expire s) may flags);
    })

both : (p : Program) (e : Event) (a b : State) → Between (λ w v. Covered p w e v) a b → Between (λ w v. FlagsSaid w e v) a b → Between (λ w v. Gives p w e v) a b
both p e (Running w) (Running v) law flags = law flags
both p e (Running w) (Faulted kind t f pc) law flags = tt
both p e (Faulted kind t f pc) b law flags = tt

pub events_are_covered : EventsAreCovered
events_are_covered p events e = both p e (after p events) (after p (events ++ e ∷ [])) (event_law p events e) (flags_have_cause p events e)

-- ---- whole runs

module _ (p : Program) (outside : Outside) (t : Table) (root : Row) (is : IsTable p outside t root) where
  -- the beginning
  first : In (Covers p outside t root) (opening p)
  first =
      record {
        rows = λ u. root;
        listed = λ u. is.listed;
        first = refl;
        left = λ u. root.births;
        births = λ wide. few;
        timely = λ s late. cc;
        tasks = λ u alive owed. begun u alive;
        ended = λ e ended. cc;
      }
    where
      few : 1 + 0 + (0 + root.births) ≤ 1 + root.births
      few = omega arith

      begun : (u : ℕ) → lives (task_at (record { tasks = main p ∷ []; scopes = [] }) u) ≡ true → HasState outside (λ k. root) (λ k. root.births) (record { tasks = main p ∷ []; scopes = [] }) u
      begun zero alive = (
        begin held.Empty (root_call p) root.births,
        record {
          there = is.begins;
          fits = record { frame = refl; held = (tt, empties (record { tasks = main p ∷ []; scopes = [] }) [] 15); scopes = tt };
          flag = λ set. cc;
          environment = ap (λ (c : Call). c.environment) (sym is.call);
        },
        omega arith,
      )
      begun (suc u) alive = cc

  -- one event more
  next : (events : List Event) (e : Event) → (is_interrupt e ≡ true → may_flag outside ≡ true) → In (Covers p outside t root) (after p events) → In (Covers p outside t root) (after p (events ++ e ∷ []))
  next events e may = by (after p events) (after p (events ++ e ∷ [])) (after-append p events (e ∷ [])) (events_are_covered p events e)
    where
      by : (a b : State) → b ≡ apply p a e → Between (λ w v. Gives p w e v) a b → In (Covers p outside t root) a → In (Covers p outside t root) b
      by (Running w) (Running v) same law c = law outside t root is c may
      by (Running w) (Faulted kind u f pc) same law c = tt
      by (Faulted kind u f pc) (Running v) same law c = cc
      by (Faulted kind u f pc) (Faulted kind2 u2 f2 pc2) same law c = tt

  -- the first event is allowed, and the others are
  allowed : (e : Event) (es : List Event) → AreWithin outside (e ∷ es) → is_interrupt e ≡ true → may_flag outside ≡ true
  allowed e es (inl wide) is = any_flag outside wide
  allowed e es (inr within) is =
      let n = sum_by-cons (λ (y : Event). cond (is_interrupt y) 1 0) e es in
      let one : cond {A = ℕ} (is_interrupt e) 1 0 ≡ 1 = ap (λ b. cond b 1 0) is in
      some_flag outside (omega (arith, n, one, within))

  fewer : (e : Event) (es : List Event) → AreWithin outside (e ∷ es) → AreWithin outside es
  fewer e es (inl wide) = inl wide
  fewer e es (inr within) = let n = sum_by-cons (λ (y : Event). cond (is_interrupt y) 1 0) e es in inr (omega (arith, n, within))

  -- any events more
  from : (before events : List Event) → AreWithin outside events → In (Covers p outside t root) (after p before) → In (Covers p outside t root) (after p (before ++ events))
  from before [] within c = subst (λ es. In (Covers p outside t root) (after p es)) (sym (append-nil before)) c
  from before (e ∷ es) within c =
      subst (λ all. In (Covers p outside t root) (after p all)) (append_assoc before (e ∷ []) es) (from (before ++ e ∷ []) es (fewer e es within) (next before e (allowed e es within) c))

pub runs_are_covered : RunsAreCovered
runs_are_covered p outside t root is events within = from p outside t root is [] events within (first p outside t root is)

pub ends_are_ways : EndsAreWays
ends_are_ways p outside t root is events within end = by (after p events) (runs_are_covered p outside t root is events within)
  where
    by : (state : State) → In (Covers p outside t root) state → In (λ w. (task_at w 0).outcome ≡ Some end → HasWay root.ways end) state
    by (Running w) c = c.ended end
    by (Faulted kind u f pc) c = tt

pub tasks_are_covered : TasksAreCovered
tasks_are_covered p outside t root is wide events = by (after p events) (runs_are_covered p outside t root is events (inl wide))
  where
    by : (state : State) → In (Covers p outside t root) state → In (AllFit outside t) state
    by (Running w) c = record { rows = c.rows; listed = c.listed; tasks = λ u alive. (let state : HasState outside c.rows c.left w u = c.tasks u alive (inl wide) in (state.0, state.1)) }
    by (Faulted kind u f pc) c = tt

pub births_are_bounded : BirthsAreBounded
births_are_bounded p outside t root is wide events = by (after p events) (runs_are_covered p outside t root is events (inl wide))
  where
    by : (state : State) → In (Covers p outside t root) state → In (λ w. length w.tasks + length w.scopes ≤ 1 + root.births) state
    by (Running w) c = (let all = c.births wide in omega (arith, all))
    by (Faulted kind u f pc) c = tt
