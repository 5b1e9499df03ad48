-- The place after `join`.
use Rattle.std.proofs.Common.{◌≡◌, ℕ, ◌+◌, ◌<◌, inl, inr, List, [], ◌∷◌, ◌++◌, length, Bool, true, false, Option, Some, None, refl, sym, ◌∙◌, ap, subst, cond}
use Rattle.std.proofs.Common.{get_or, arith, not, ◌||◌, unwrap_or, length-append, get_or-set_same, get_or-set_other}
use Rattle.std.specs.Prelude.{ℤ, pos, ◌==◌, is_some, find, option_map}
use Rattle.std.specs.List.{list_any}
use Rattle.std.proofs.lemmas.Bool.{cond_both, or_parts, not-false}
use Rattle.std.proofs.lemmas.Bool.Decides.{nat_tests}
use Rattle.std.proofs.lemmas.List.{length-map}
use Rattle.std.proofs.Math.ListN.{get_or-map}
use Rattle.laws_words.proofs.BoolLemmas.{other_false}
use Rattle.laws_words.proofs.ListLemmas.{found_passes}
use Rattle.sts_code.specs.Program.{Program, routine}
use Rattle.sts_code.specs.declared.instr.Instr.{Instr}
use Rattle.sts_code.specs.declared.instr.Instr.TheVariants.{Join}
use Rattle.sts_code.specs.declared.instr.Joiner.{Joiner}
use Rattle.sts_code.specs.declared.instr.Joiner.TheVariants.{AllSucceed, AnySucceeds, AwaitOk, AwaitAll, Until}
use Rattle.sts_model.specs.declared.event.End.{End}
use Rattle.sts_model.specs.declared.event.End.TheVariants.{Success, Failed}
use Rattle.sts_model.specs.declared.event.Phase.{Phase}
use Rattle.sts_model.specs.declared.event.Phase.TheVariants as phase
use Rattle.sts_model.specs.declared.event.Verdict.{Verdict}
use Rattle.sts_model.specs.declared.event.Verdict.TheVariants as verdict
use Rattle.sts_model.specs.declared.record.Completion.{Completion}
use Rattle.sts_model.specs.declared.record.Frame.{Frame}
use Rattle.sts_model.specs.declared.record.Scope.{Scope}
use Rattle.sts_model.specs.declared.record.Task.{Task}
use Rattle.sts_model.specs.declared.record.Slot.{Slot}
use Rattle.sts_model.specs.declared.record.Slot.TheVariants.{Empty, Own, Lent, Sub}
use Rattle.sts_rules.specs.declared.typing.Known.TheVariants as known
use Rattle.sts_rules.specs.declared.typing.SlotKind.{SlotKind}
use Rattle.sts_rules.specs.declared.typing.SlotKind.TheVariants as kind_of
use Rattle.sts_rules.specs.declared.typing.TypedPhase.{TypedPhase}
use Rattle.sts_rules.specs.declared.typing.TypedPhase.TheVariants.{Attempted, Joined, Late}
use Rattle.sts_rules.specs.declared.typing.TypedScope.{TypedScope}
use Rattle.sts_model.specs.World.{World, task_at, scope_at, no_task, no_scope, with_task}
use Rattle.sts_model.specs.Local.{goes, steps}
use Rattle.sts_model.specs.Joining as joining
use Rattle.sts_model.specs.Joining.{cancels, result_of, verdict_or}
use Rattle.sts_model.specs.Living.{any_lives, completion_of, ends, ends_of, subtask_count, sub_state}
use Rattle.sts_model.specs.Misuse.{slot, can_join, has_succeeded, joins_wrongly}
use Rattle.sts_code.specs.Facts.{can_fail, same}
use Rattle.sts_rules.specs.TypeState.{TypeState, kind, scope_in}
use Rattle.sts_rules.specs.Causes as cause
use Rattle.sts_rules.specs.Edges as edges
use Rattle.sts_rules.specs.Edges.{follows, phase_set, joiner_of, ok_pushes, is_all_success, is_sub_of, succeeded, after_ok, raised, to_optional, join_follows}
use Rattle.sts_model.specs.Effect.{with_phase, joined, join_verdict, join_scope}
use Rattle.sts_rules.specs.Flow.{Leads}
use Rattle.laws_runs.specs.Later.{Later}
use Rattle.laws_runs.proofs.EffectLemmas.{dead_in}
use Rattle.laws_runs.proofs.EventLemmas.{Also}
use Rattle.laws_runs.proofs.ScopeLemmas.{has_ended}
use Rattle.laws_runs.proofs.OrderlyLemmas.{Orderly}
use Rattle.laws_runs.specs.Scopes.{is_leaving, is_asked}
use Rattle.laws_accepted.specs.Typed.{closes, fits_phase, FitsEntry, FitsSlot, Fits}
use Rattle.laws_accepted.proofs.Zips.{zips-mapped}
use Rattle.laws_accepted.proofs.Same.{Knows, SameScope, samescope-refl, slot-same, slot-on}
use Rattle.laws_accepted.proofs.Others.{knows-later}
use Rattle.laws_accepted.proofs.Stands.{Stands, Lands, not_closing, onward-slots}
use Rattle.laws_accepted.proofs.FrameRows.{kind-own}
use Rattle.laws_accepted.proofs.Phases.{InSlot, in-slot, Moved, entry-phase}

-- ---- a phase and operands

-- the scope n of slot x goes to a phase that fits the typed one, and the frame goes on with these
-- operands pushed
pub lands-phase : (p : Program) (w v : World) (f : Frame) (i : Instr) (s : TypeState) (x n to : ℕ) (pushed : List ℤ) (ph : Phase) (k : TypedPhase) (height : ℕ) (ks : List SlotKind) → Stands p w f i s → ((y : ℕ) → closes (Some i) y ≡ false) → slot f x ≡ Own n → Moved (scope_at w n) (scope_at v n) ph → ((closing : Bool) → fits_phase closing k ph (scope_at v n).expired ≡ true) → ((m : ℕ) → (m ≡ n → ⊥) → SameScope (scope_at w m) (scope_at v m)) → Knows w v → s.height + length pushed ≡ height → ((y : ℕ) → FitsSlot w f (slot f y) (get_or ks y kind_of.Empty)) → length ks ≡ 16 → Leads (follows p (routine p f.function).code f.pc i s) to (record (edges.with_phase x k s) { height = height; slots = ks }) → Lands p v f (goes f to 0 pushed)
lands-phase p w v f i s x n to pushed ph k height ks st none own moved now others knows long slots wide leads =
    let g : Frame = goes f to 0 pushed in
    let on = onward-slots p f g refl refl (not_closing p f i st.at none) in
    record {
      function = refl;
      state = record (edges.with_phase x k s) { height = height; slots = ks };
      reached = st.leads to (record (edges.with_phase x k s) { height = height; slots = ks }) leads;
      fits =
          record {
            height = let n = length-append pushed f.operands in let m = st.fits.height in omega (arith, n, m, long);
            loops = st.fits.loops;
            entries = zips-mapped (phase_set x k) (FitsEntry p w f) (FitsEntry p v g) f.entries s.entries (entry-phase p w v f g x n ph k on st.fits.apart own moved now others) st.fits.entries;
            slots = λ y. slot-same w v g knows (slot f y) (get_or ks y kind_of.Empty) (slot-on p w f g on (slot f y) (get_or ks y kind_of.Empty) (slots y));
            apart = st.fits.apart;
            wide = st.fits.wide;
            typed_wide = wide;
          };
    }

-- the same, once the world is written
pub lands-going : (p : Program) (w : World) (t : ℕ) (i : Instr) (s : TypeState) (x n to : ℕ) (pushed : List ℤ) (flag : Bool) (ph : Phase) (k : TypedPhase) (height : ℕ) (ks : List SlotKind) → Stands p w (task_at w t).frame i s → ((y : ℕ) → closes (Some i) y ≡ false) → slot (task_at w t).frame x ≡ Own n → n < length w.scopes → t < length w.tasks → ((closing : Bool) → fits_phase closing k ph (scope_at w n).expired ≡ true) → Later w (with_task (with_phase w n ph) t (record (task_at w t) { frame = goes (task_at w t).frame to 0 pushed; flag = flag })) → s.height + length pushed ≡ height → ((y : ℕ) → FitsSlot w (task_at w t).frame (slot (task_at w t).frame y) (get_or ks y kind_of.Empty)) → length ks ≡ 16 → Leads (follows p (routine p (task_at w t).frame.function).code (task_at w t).frame.pc i s) to (record (edges.with_phase x k s) { height = height; slots = ks }) → Lands p (with_task (with_phase w n ph) t (record (task_at w t) { frame = goes (task_at w t).frame to 0 pushed; flag = flag })) (task_at w t).frame (task_at (with_task (with_phase w n ph) t (record (task_at w t) { frame = goes (task_at w t).frame to 0 pushed; flag = flag })) t).frame
lands-going p w t i s x n to pushed flag ph k height ks st none own born alive now later long slots wide leads =
    let f : Frame = (task_at w t).frame in
    let task : Task = record (task_at w t) { frame = goes f to 0 pushed; flag = flag } in
    let v : World = with_task (with_phase w n ph) t task in
    let scope : Scope = record (scope_at w n) { phase = ph } in
    let here : scope_at v n ≡ scope = get_or-set_same w.scopes n scope no_scope born in
    let frame : (task_at v t).frame ≡ goes f to 0 pushed = ap (λ (y : Task). y.frame) (get_or-set_same w.tasks t task no_task alive) in
    subst (λ (g : Frame). Lands p v f g) (sym frame)
    (lands-phase p w v f i s x n to pushed ph k height ks st none own (rw here (record { joiner = refl; timed = refl; environment = refl; phase = refl })) (rw here now)
    (λ m never. rw (get_or-set_other w.scopes n m scope no_scope never) (samescope-refl (scope_at w m)))
    (knows-later w v later) long slots wide leads)

-- ---- edges

leads-left : (xs ys : List (ℕ × TypeState)) (pc : ℕ) (s : TypeState) → Leads xs pc s → Leads (xs ++ ys) pc s
leads-left [] ys pc s h = absurd h
leads-left (x ∷ xs) ys pc s (inl e) = inl e
leads-left (x ∷ xs) ys pc s (inr h) = inr (leads-left xs ys pc s h)

leads-right : (xs ys : List (ℕ × TypeState)) (pc : ℕ) (s : TypeState) → Leads ys pc s → Leads (xs ++ ys) pc s
leads-right [] ys pc s h = h
leads-right (x ∷ xs) ys pc s h = inr (leads-right xs ys pc s h)

leads-optional : (o : Option ℕ) (s : TypeState) → is_some o ≡ true → Leads (to_optional o s) (unwrap_or o 0) s
leads-optional None s e = cc
leads-optional (Some to) s e = inl (refl, refl)

leads-failed : (pc x : ℕ) (failed timeout : Option ℕ) (interrupted : ℕ) (s : TypeState) → is_some failed ≡ true → Leads (join_follows pc x failed timeout interrupted s) (unwrap_or failed 0) (raised 1 (edges.with_phase x Joined s))
leads-failed pc x failed timeout interrupted s e =
    let to : ℕ = unwrap_or failed 0 in
    let y : TypeState = raised 1 (edges.with_phase x Joined s) in
    inr (leads-left (to_optional failed (raised 1 (edges.with_phase x Joined s)) ++ to_optional timeout (edges.with_phase x Late s)) ((interrupted, edges.with_phase x Attempted s) ∷ []) to y (leads-left (to_optional failed (raised 1 (edges.with_phase x Joined s))) (to_optional timeout (edges.with_phase x Late s)) to y (leads-optional failed y e)))

leads-timeout : (pc x : ℕ) (failed timeout : Option ℕ) (interrupted : ℕ) (s : TypeState) → is_some timeout ≡ true → Leads (join_follows pc x failed timeout interrupted s) (unwrap_or timeout 0) (edges.with_phase x Late s)
leads-timeout pc x failed timeout interrupted s e =
    let to : ℕ = unwrap_or timeout 0 in
    let y : TypeState = edges.with_phase x Late s in
    inr (leads-left (to_optional failed (raised 1 (edges.with_phase x Joined s)) ++ to_optional timeout (edges.with_phase x Late s)) ((interrupted, edges.with_phase x Attempted s) ∷ []) to y (leads-right (to_optional failed (raised 1 (edges.with_phase x Joined s))) (to_optional timeout (edges.with_phase x Late s)) to y (leads-optional timeout y e)))

leads-interrupted : (pc x : ℕ) (failed timeout : Option ℕ) (interrupted : ℕ) (s : TypeState) → Leads (join_follows pc x failed timeout interrupted s) interrupted (edges.with_phase x Attempted s)
leads-interrupted pc x failed timeout interrupted s =
    inr (leads-right (to_optional failed (raised 1 (edges.with_phase x Joined s)) ++ to_optional timeout (edges.with_phase x Late s)) ((interrupted, edges.with_phase x Attempted s) ∷ []) interrupted (edges.with_phase x Attempted s) (inl (refl, refl)))

-- ---- the joiner's answer

found-none : {X : Type 0} (test : X → Bool) (xs : List X) → find test xs ≡ None → list_any test xs ≡ false
found-none test [] e = refl
found-none test (y ∷ ys) e = by (test y) e (found-none test ys)
  where
    by : (b : Bool) → cond b (Some y) (find test ys) ≡ None → (find test ys ≡ None → list_any test ys ≡ false) → (b || list_any test ys) ≡ false
    by true e next = cc
    by false e next = next e

-- the facts of an answer: how much it pushes, when it may be a failure, and when no subtask failed
pub record Answers (j : Joiner) (es : List End) (v : Verdict) : Type 0 where
  pub nothing : v ≡ verdict.Ok None → ok_pushes j ≡ 0
  pub value : (x : ℤ) → v ≡ verdict.Ok (Some x) → ok_pushes j ≡ 1
  pub failed : (c : ℤ) → v ≡ verdict.Failed c → can_fail j ≡ true
  pub ok : (o : Option ℤ) → v ≡ verdict.Ok o → is_all_success j ≡ true → list_any joining.is_failure es ≡ false

answers-all : (es : List End) (n : ℤ) (o : Option End) → find joining.is_failure es ≡ o → Answers AllSucceed es (verdict_or o (verdict.Ok (Some n)))
answers-all es n None e = record { nothing = λ d. cc; value = λ x d. refl; failed = λ c d. refl; ok = λ q d is. found-none joining.is_failure es e }
answers-all es n (Some (Success v)) e = let h = found_passes joining.is_failure es (Success v) e in cc
answers-all es n (Some (Failed c)) e = record { nothing = λ d. cc; value = λ x d. cc; failed = λ c d. refl; ok = λ q d is. cc }

answers-awaitok : (es : List End) (o : Option End) → find joining.is_failure es ≡ o → Answers AwaitOk es (verdict_or o (verdict.Ok None))
answers-awaitok es None e = record { nothing = λ d. refl; value = λ x d. cc; failed = λ c d. refl; ok = λ q d is. found-none joining.is_failure es e }
answers-awaitok es (Some (Success v)) e = let h = found_passes joining.is_failure es (Success v) e in cc
answers-awaitok es (Some (Failed c)) e = record { nothing = λ d. cc; value = λ x d. cc; failed = λ c d. refl; ok = λ q d is. cc }

answers-any : (es : List End) (a b : Option End) → Answers AnySucceeds es (verdict_or a (verdict_or b (verdict.Failed (ℤ.negsuc 0))))
answers-any es (Some (Success v)) b = record { nothing = λ d. cc; value = λ x d. refl; failed = λ c d. refl; ok = λ q d is. cc }
answers-any es (Some (Failed c)) b = record { nothing = λ d. cc; value = λ x d. refl; failed = λ c d. refl; ok = λ q d is. cc }
answers-any es None (Some (Success v)) = record { nothing = λ d. cc; value = λ x d. refl; failed = λ c d. refl; ok = λ q d is. cc }
answers-any es None (Some (Failed c)) = record { nothing = λ d. cc; value = λ x d. refl; failed = λ c d. refl; ok = λ q d is. cc }
answers-any es None None = record { nothing = λ d. cc; value = λ x d. refl; failed = λ c d. refl; ok = λ q d is. cc }

answers : (j : Joiner) (es : List End) (n : ℕ) → Answers j es (result_of j es n)
answers AllSucceed es n = answers-all es (pos n) (find joining.is_failure es) refl
answers AwaitOk es n = answers-awaitok es (find joining.is_failure es) refl
answers AnySucceeds es n = answers-any es (find joining.is_success es) (find joining.is_failure es)
answers AwaitAll es n = record { nothing = λ d. refl; value = λ x d. cc; failed = λ c d. cc; ok = λ q d is. cc }
answers (Until q) es n = record { nothing = λ d. cc; value = λ x d. refl; failed = λ c d. cc; ok = λ o d is. cc }

-- ---- each subtask is a success

-- a completion that is no failure is a success
no_failure : (cs : List Completion) (u : ℕ) (end : End) → list_any joining.is_failure (ends_of cs) ≡ false → completion_of cs u ≡ Some end → has_succeeded (Some end) ≡ true
no_failure [] u end none e = cc
no_failure (c ∷ cs) u end none e = by (c.task == u) e (or_parts _ _ none) (no_failure cs u end)
  where
    ends_well : (x : End) → joining.is_failure x ≡ false → has_succeeded (Some x) ≡ true
    ends_well (Success v) h = refl
    ends_well (Failed v) h = cc

    by : (b : Bool) → option_map (λ (x : Completion). x.end) (cond b (Some c) (find (λ (x : Completion). x.task == u) cs)) ≡ Some end → (joining.is_failure c.end ≡ false) × (list_any joining.is_failure (ends_of cs) ≡ false) → (list_any joining.is_failure (ends_of cs) ≡ false → completion_of cs u ≡ Some end → has_succeeded (Some end) ≡ true) → has_succeeded (Some end) ≡ true
    by true e h next = let same : c.end ≡ end = cc in rw (← same) (ends_well c.end h.0)
    by false e h next = next h.1 e

not_leaving : (ph : Phase) → can_join ph ≡ true → is_leaving ph ≡ false
not_leaving phase.Closing e = cc
not_leaving phase.Closed e = cc
not_leaving _ e = refl

asks_of_all : (j : Joiner) (es : List End) → is_all_success j ≡ true → cancels j es ≡ list_any joining.is_failure es
asks_of_all AllSucceed es e = refl
asks_of_all AwaitOk es e = refl
asks_of_all _ es e = cc

-- the joiner awaits all successes, and none failed
pub all_succeeded : (w : World) (n : ℕ) → Also Orderly w → n < length w.scopes → can_join (scope_at w n).phase ≡ true → (scope_at w n).expired ≡ false → ((scope_at w n).cancelled || not (any_lives w n)) ≡ true → is_all_success (scope_at w n).joiner ≡ true → list_any joining.is_failure (ends (scope_at w n)) ≡ false → (u : ℕ) → (task_at w u).scope ≡ Some n → has_succeeded (sub_state w u) ≡ true
all_succeeded w n h born opened timely done all none u inside = by (scope_at w n).cancelled refl done
  where
    by : (b : Bool) → (scope_at w n).cancelled ≡ b → (b || not (any_lives w n)) ≡ true → has_succeeded (sub_state w u) ≡ true
    by true e d =
        let asked : is_asked (scope_at w n) ≡ true = (h.also.settled.caused n born).cause e timely (not_leaving (scope_at w n).phase opened) in
        let failed : list_any joining.is_failure (ends (scope_at w n)) ≡ true = sym (asks_of_all (scope_at w n).joiner (ends (scope_at w n)) all) ∙ asked in
        cc
    by false e d =
        let quiet : any_lives w n ≡ false = none_lives (any_lives w n) d in
        let end = has_ended (task_at w u) (h.also.settled.started n u inside e) (dead_in w n u quiet inside) in
        let told = (h.right.told n).complete e u end.0 inside end.1 in
        let state : sub_state w u ≡ Some end.0 = rw inside told in
        rw state (no_failure (scope_at w n).completions u end.0 none told)
      where
        none_lives : (c : Bool) → (false || not c) ≡ true → c ≡ false
        none_lives true q = cc
        none_lives false q = refl

-- ---- slots after ok

slot-succeeded : (w : World) (f : Frame) (x n : ℕ) (q : Slot) (k : SlotKind) → slot f x ≡ Own n → ((u : ℕ) → (task_at w u).scope ≡ Some n → has_succeeded (sub_state w u) ≡ true) → FitsSlot w f q k → FitsSlot w f q (cond (is_sub_of x k) (kind_of.Sub x known.Success) k)
slot-succeeded w f x n (Sub u) (kind_of.Sub y state) own all h =
    cond_both (y == x) (kind_of.Sub x known.Success) (kind_of.Sub y state) (λ (k : SlotKind). FitsSlot w f (Sub u) k)
    (λ e.
    let same : y ≡ x = grind (arith, nat_tests) in
    let mine : Own h.scope ≡ Own n = sym h.own ∙ rw same own in
    let one : h.scope ≡ n = cc in
    record { scope = n; own = own; inside = rw one at h.inside; known = all u (rw one at h.inside) })
    (λ e. h)
slot-succeeded w f x n Empty (kind_of.Sub y state) own all h = absurd h
slot-succeeded w f x n (Own m) (kind_of.Sub y state) own all h = absurd h
slot-succeeded w f x n (Lent m) (kind_of.Sub y state) own all h = absurd h
slot-succeeded w f x n q k own all h = h

-- ---- the outcomes

-- the facts when a task joins the scope n of slot x
pub record AtJoin (p : Program) (w : World) (t x n : ℕ) (failed timeout : Option ℕ) (interrupted : ℕ) (s : TypeState) : Type 0 where
  pub stands : Stands p w (task_at w t).frame (Join x failed timeout interrupted) s
  pub own : slot (task_at w t).frame x ≡ Own n
  pub born : n < length w.scopes
  pub alive : t < length w.tasks
  pub failing : can_fail (scope_at w n).joiner ≡ true → is_some failed ≡ true
  pub timing : (scope_at w n).expired ≡ true → is_some timeout ≡ true
  pub joiner : joiner_of (scope_in s.entries x) ≡ (scope_at w n).joiner
  pub succeeded : (scope_at w n).expired ≡ false → ((scope_at w n).cancelled || not (any_lives w n)) ≡ true → is_all_success (scope_at w n).joiner ≡ true → list_any joining.is_failure (ends (scope_at w n)) ≡ false → (u : ℕ) → (task_at w u).scope ≡ Some n → has_succeeded (sub_state w u) ≡ true

-- the step leads to a world that fits the task's new place
abbrev pub Landed : Program → World → ℕ → World → Type 0
Landed p w t v = Later w v → Lands p v (task_at w t).frame (task_at v t).frame

late : (p : Program) (w : World) (t x n : ℕ) (failed timeout : Option ℕ) (interrupted : ℕ) (s : TypeState) → AtJoin p w t x n failed timeout interrupted s → (scope_at w n).expired ≡ true → Landed p w t (joined w t n (goes (task_at w t).frame (unwrap_or timeout 0) 0 []))
late p w t x n failed timeout interrupted s h e later =
    lands-going p w t (Join x failed timeout interrupted) s x n (unwrap_or timeout 0) [] (task_at w t).flag phase.Joined Late s.height s.slots h.stands (λ y. refl) h.own h.born h.alive (λ closing. e) later (omega arith) h.stands.fits.slots h.stands.fits.typed_wide
    (leads-timeout (task_at w t).frame.pc x failed timeout interrupted s (h.timing e))

interrupts : (p : Program) (w : World) (t x n : ℕ) (failed timeout : Option ℕ) (interrupted : ℕ) (s : TypeState) → AtJoin p w t x n failed timeout interrupted s → Landed p w t (with_task (with_phase w n phase.Attempted) t (record (task_at w t) { frame = goes (task_at w t).frame interrupted 0 []; flag = false }))
interrupts p w t x n failed timeout interrupted s h later =
    lands-going p w t (Join x failed timeout interrupted) s x n interrupted [] false phase.Attempted Attempted s.height s.slots h.stands (λ y. refl) h.own h.born h.alive (λ closing. refl) later (omega arith) h.stands.fits.slots h.stands.fits.typed_wide
    (leads-interrupted (task_at w t).frame.pc x failed timeout interrupted s)

is_timely : (e : Bool) → e ≡ false → (closing : Bool) → fits_phase closing Joined phase.Joined e ≡ true
is_timely false d closing = refl
is_timely true d closing = cc

fails : (p : Program) (w : World) (t x n : ℕ) (failed timeout : Option ℕ) (interrupted : ℕ) (s : TypeState) (c : ℤ) → AtJoin p w t x n failed timeout interrupted s → (scope_at w n).expired ≡ false → can_fail (scope_at w n).joiner ≡ true → Landed p w t (joined w t n (goes (task_at w t).frame (unwrap_or failed 0) 0 (c ∷ [])))
fails p w t x n failed timeout interrupted s c h e can later =
    lands-going p w t (Join x failed timeout interrupted) s x n (unwrap_or failed 0) (c ∷ []) (task_at w t).flag phase.Joined Joined (s.height + 1) s.slots h.stands (λ y. refl) h.own h.born h.alive (is_timely (scope_at w n).expired e) later (omega arith) h.stands.fits.slots h.stands.fits.typed_wide
    (leads-failed (task_at w t).frame.pc x failed timeout interrupted s (h.failing can))

succeeds : (p : Program) (w : World) (t x n : ℕ) (failed timeout : Option ℕ) (interrupted : ℕ) (s : TypeState) (pushed : List ℤ) → AtJoin p w t x n failed timeout interrupted s → (scope_at w n).expired ≡ false → length pushed ≡ ok_pushes (scope_at w n).joiner → (is_all_success (scope_at w n).joiner ≡ true → (u : ℕ) → (task_at w u).scope ≡ Some n → has_succeeded (sub_state w u) ≡ true) → Landed p w t (joined w t n (steps (task_at w t).frame 0 pushed))
succeeds p w t x n failed timeout interrupted s pushed h e long all later =
    let f : Frame = (task_at w t).frame in
    let j : Joiner = (scope_at w n).joiner in
    let st = h.stands in
    lands-going p w t (Join x failed timeout interrupted) s x n (f.pc + 1) pushed (task_at w t).flag phase.Joined Joined (s.height + ok_pushes j) (cond (is_all_success j) (succeeded x s.slots) s.slots) st (λ y. refl) h.own h.born h.alive (is_timely (scope_at w n).expired e) later (omega (arith, long))
    (λ y.
    cond_both (is_all_success j) (succeeded x s.slots) s.slots (λ (ks : List SlotKind). FitsSlot w f (slot f y) (get_or ks y kind_of.Empty))
    (λ is.
    subst (λ (k : SlotKind). FitsSlot w f (slot f y) k) (sym (get_or-map (λ (k : SlotKind). cond (is_sub_of x k) (kind_of.Sub x known.Success) k) s.slots y kind_of.Empty))
    (slot-succeeded w f x n (slot f y) (kind s y) h.own (all is) (st.fits.slots y)))
    (λ is. st.fits.slots y))
    (cond_both (is_all_success j) (succeeded x s.slots) s.slots (λ (ks : List SlotKind). length ks ≡ 16) (λ is. length-map s.slots _ ∙ st.fits.typed_wide) (λ is. st.fits.typed_wide))
    (inl (refl, ap (λ (q : Joiner). after_ok x q s) h.joiner))

by_verdict : (p : Program) (w : World) (t x n : ℕ) (failed timeout : Option ℕ) (interrupted : ℕ) (s : TypeState) (v : Verdict) → AtJoin p w t x n failed timeout interrupted s → (scope_at w n).expired ≡ false → ((scope_at w n).cancelled || not (any_lives w n)) ≡ true → Answers (scope_at w n).joiner (ends (scope_at w n)) v → Landed p w t (join_verdict v w t n (task_at w t).frame (unwrap_or failed 0))
by_verdict p w t x n failed timeout interrupted s (verdict.Ok None) h e done a = succeeds p w t x n failed timeout interrupted s [] h e (sym (a.nothing refl)) (λ all. h.succeeded e done all (a.ok None refl all))
by_verdict p w t x n failed timeout interrupted s (verdict.Ok (Some v)) h e done a = succeeds p w t x n failed timeout interrupted s (v ∷ []) h e (sym (a.value v refl)) (λ all. h.succeeded e done all (a.ok (Some v) refl all))
by_verdict p w t x n failed timeout interrupted s (verdict.Failed c) h e done a = fails p w t x n failed timeout interrupted s c h e (a.failed c refl)

pub lands-join : (p : Program) (w : World) (t x n : ℕ) (failed timeout : Option ℕ) (interrupted : ℕ) (s : TypeState) → AtJoin p w t x n failed timeout interrupted s → Landed p w t (join_scope w t (task_at w t).frame n (unwrap_or failed 0) (unwrap_or timeout 0) interrupted)
unfolding join_scope
lands-join p w t x n failed timeout interrupted s h =
    cond_both (scope_at w n).expired _ _ (λ (v : World). Landed p w t v)
    (λ e. late p w t x n failed timeout interrupted s h e)
    (λ e.
    cond_both ((scope_at w n).cancelled || not (any_lives w n)) _ _ (λ (v : World). Landed p w t v)
    (λ done. by_verdict p w t x n failed timeout interrupted s (result_of (scope_at w n).joiner (ends (scope_at w n)) (subtask_count w n)) h e done (answers (scope_at w n).joiner (ends (scope_at w n)) (subtask_count w n)))
    (λ waits. interrupts p w t x n failed timeout interrupted s h))

-- ---- what is known at a join

passed : (test : TypedScope → Bool) (o : Option TypedScope) → not (cause.passes test o) ≡ false → (r : TypedScope) × ((o ≡ Some r) × (test r ≡ true))
passed test None e = cc
passed test (Some r) e = (r, (refl, not-false (test r) e))

-- the scope of a slot that is owned, if the typestate has one that passes a test
pub own-scope : (p : Program) (w : World) (f : Frame) (s : TypeState) (x n : ℕ) (test : TypedScope → Bool) → Fits p w f s → slot f x ≡ Own n → cause.at_own s x (λ scope. not (cause.passes test scope)) ≡ false → (r : TypedScope) × ((scope_in s.entries x ≡ Some r) × (test r ≡ true) × InSlot p w f x n r)
own-scope p w f s x n test h own e =
    let k : cause.is_own (kind s x) ≡ true = kind-own w f (slot f x) (kind s x) n (h.slots x) own in
    let q = passed test (scope_in s.entries x) (other_false (cause.is_own (kind s x)) (not (cause.passes test (scope_in s.entries x))) e k) in
    (q.0, (q.1.0, q.1.1, in-slot p w f f.entries s.entries x n q.0 h.entries q.1.0 own))

pub as_same : (a b : Bool) → not (same a b) ≡ false → b ≡ true → a ≡ true
as_same true b e h = refl
as_same false true e h = cc
as_same false false e h = cc

pub at-join : (p : Program) (w : World) (t x n : ℕ) (failed timeout : Option ℕ) (interrupted : ℕ) (s : TypeState) → Also Orderly w → ((scope_at w n).expired ≡ true → (scope_at w n).timed ≡ true) → t < length w.tasks → Stands p w (task_at w t).frame (Join x failed timeout interrupted) s → slot (task_at w t).frame x ≡ Own n → not (can_join (scope_at w n).phase) ≡ false → joins_wrongly (task_at w t).frame failed timeout (scope_at w n) ≡ false → AtJoin p w t x n failed timeout interrupted s
at-join p w t x n failed timeout interrupted s h timely alive st own legal right =
    let born = (h.right.sound.own t x n own).born in
    let targets = or_parts _ (not (same (is_some timeout) (scope_at w n).timed)) right in
    let r = own-scope p w (task_at w t).frame s x n cause.can_join st.fits own st.clear.legal in
    record {
      stands = st;
      own = own;
      born = born;
      alive = alive;
      failing = as_same (is_some failed) (can_fail (scope_at w n).joiner) (or_parts _ (not (same (is_some failed) (can_fail (scope_at w n).joiner))) targets.0).1;
      timing = λ e. as_same (is_some timeout) (scope_at w n).timed targets.1 (timely e);
      joiner = ap joiner_of r.1.0 ∙ sym r.1.2.fits.scope.joiner;
      succeeded = all_succeeded w n h born (not-false (can_join (scope_at w n).phase) legal);
    }
