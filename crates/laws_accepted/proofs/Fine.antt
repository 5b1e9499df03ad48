-- A typed task misuses nothing, if there is room.
use Rattle.std.proofs.Common.{◌≡◌, ℕ, ◌+◌, ◌-◌, List, [], ◌∷◌, length, map, Bool, true, false, Option, Some, None, refl, sym, ◌∙◌, ap, subst, cond, arith, not}
use Rattle.std.proofs.Common.{◌||◌, ◌&&◌}
use Rattle.std.specs.Prelude.{◌==◌, nat_le, nat_lt, is_some, is_none}
use Rattle.std.proofs.lemmas.Bool.Decides.{nat_tests}
use Rattle.std.proofs.lemmas.List.{length-map}
use Rattle.sts_code.specs.Checks.{program_fault}
use Rattle.sts_code.specs.Program.{Program}
use Rattle.sts_code.specs.declared.instr.Instr.{Instr}
use Rattle.sts_code.specs.declared.instr.Instr.TheVariants.{Times, Next, Open, Fork, Join, Close, Cancelled, Get, Except, Tally, Total, Bind, Unbind, Read, Ret}
use Rattle.sts_code.specs.declared.instr.Instr.TheVariants.{Fail}
use Rattle.sts_code.specs.declared.profile.Profile.{Profile}
use Rattle.sts_code.specs.declared.profile.Profile.TheVariants.{One, Two}
use Rattle.sts_model.specs.declared.event.End.{End}
use Rattle.sts_model.specs.declared.event.Phase.{Phase}
use Rattle.sts_model.specs.declared.event.Phase.TheVariants as phase
use Rattle.sts_model.specs.declared.record.Entry.{Entry}
use Rattle.sts_model.specs.declared.record.Entry.TheVariants as entry
use Rattle.sts_model.specs.declared.record.Frame.{Frame}
use Rattle.sts_model.specs.declared.record.Loop.{Loop}
use Rattle.sts_model.specs.declared.record.Scope.{Scope}
use Rattle.sts_model.specs.declared.record.Slot.{Slot}
use Rattle.sts_model.specs.declared.record.Slot.TheVariants.{Empty, Own, Lent, Sub}
use Rattle.sts_rules.specs.declared.typing.Known.{Known}
use Rattle.sts_rules.specs.declared.typing.Known.TheVariants as known
use Rattle.sts_rules.specs.declared.typing.SlotKind.{SlotKind}
use Rattle.sts_rules.specs.declared.typing.SlotKind.TheVariants as kind_of
use Rattle.sts_rules.specs.declared.typing.TypedPhase.{TypedPhase}
use Rattle.sts_rules.specs.declared.typing.TypedPhase.TheVariants.{Opened, Attempted, Joined, Late}
use Rattle.sts_rules.specs.declared.typing.TypedScope.{TypedScope}
use Rattle.sts_rules.specs.declared.typing.TypedEntry.{TypedEntry}
use Rattle.sts_rules.specs.declared.typing.TypedEntry.TheVariants as typed
use Rattle.sts_rules.specs.declared.typing.TypedLoop.{TypedLoop}
use Rattle.sts_model.specs.World.{World, task_at, scope_at, code, instr_at}
use Rattle.sts_code.specs.Loops.{match_of, is_at}
use Rattle.sts_model.specs.Living.{parent, scope_of, sub_state, subtask_count}
use Rattle.sts_model.specs.Environment.{read, environment_of}
use Rattle.sts_model.specs.Misuse as misuse
use Rattle.sts_code.specs.Facts as facts
use Rattle.sts_model.specs.Standing.{standing_tasks}
use Rattle.sts_model.specs.Misuse.{slot, IsFine}
use Rattle.sts_rules.specs.TypeState.{TypeState, kind, scope_in}
use Rattle.sts_rules.specs.Causes as cause
use Rattle.sts_model.specs.Effect.{named}
use Rattle.std.proofs.lemmas.Bool.{or_parts, not-false, and_from, not_from_true, or_from, and_parts, and_right}
use Rattle.laws_words.proofs.BoolLemmas.{other_false}
use Rattle.laws_runs.proofs.FrameLemmas.{own_slot, at_own-is}
use Rattle.laws_runs.proofs.EffectLemmas.{first_no}
use Rattle.laws_accepted.specs.Typed.{closes, fits_phase, crowds, is_due, Covers, FitsEntry, FitsSlot, Zips, is_known}
use Rattle.laws_accepted.proofs.Zips.{zips-length}
use Rattle.laws_accepted.proofs.Stands.{Stands, not_closing}
use Rattle.laws_accepted.proofs.Checked.{instr_checked}
use Rattle.laws_accepted.proofs.FrameRows.{kind-own}
use Rattle.laws_accepted.proofs.Phases.{InSlot, in-slot}
use Rattle.laws_accepted.proofs.JoinRows.{own-scope}
use Rattle.laws_accepted.proofs.Steps.{covers-environment}

-- ---- small tests

not-both : (a b : Bool) → (a ≡ true → b ≡ false) → (a && b) ≡ false
not-both true b h = h refl
not-both false b h = refl

first-of : (a b : Bool) → (a && b) ≡ true → a ≡ true
first-of true b e = refl
first-of false b e = cc

-- ---- slots and their kinds

-- a test of a slot and one of its kind that agree on each of the four kinds
record IsTest (test : Slot → Bool) (kind_test : SlotKind → Bool) : Type 0 where
  empty : test Empty ≡ kind_test kind_of.Empty
  own : (n : ℕ) → test (Own n) ≡ kind_test kind_of.Own
  lent : (n : ℕ) → test (Lent n) ≡ kind_test kind_of.Lent
  sub : (u y : ℕ) (state : Known) → test (Sub u) ≡ kind_test (kind_of.Sub y state)

same-test : (test : Slot → Bool) (kind_test : SlotKind → Bool) (w : World) (f : Frame) (q : Slot) (k : SlotKind) → IsTest test kind_test → FitsSlot w f q k → test q ≡ kind_test k
same-test test kind_test w f Empty kind_of.Empty i h = i.empty
same-test test kind_test w f (Own n) kind_of.Own i h = i.own n
same-test test kind_test w f (Lent n) kind_of.Lent i h = i.lent n
same-test test kind_test w f (Sub u) (kind_of.Sub y state) i h = i.sub u y state
same-test test kind_test w f q k i h = absurd h

same-scope : (w : World) (f : Frame) (q : Slot) (k : SlotKind) → FitsSlot w f q k → misuse.is_scope q ≡ (cause.is_own k || cause.is_lent k)
same-scope w f q k h = same-test misuse.is_scope (λ x. cause.is_own x || cause.is_lent x) w f q k (record { empty = refl; own = λ n. refl; lent = λ n. refl; sub = λ u y state. refl }) h

same-lent : (w : World) (f : Frame) (q : Slot) (k : SlotKind) → FitsSlot w f q k → misuse.is_lent q ≡ cause.is_lent k
same-lent w f q k h = same-test misuse.is_lent cause.is_lent w f q k (record { empty = refl; own = λ n. refl; lent = λ n. refl; sub = λ u y state. refl }) h

same-sub : (w : World) (f : Frame) (q : Slot) (k : SlotKind) → FitsSlot w f q k → misuse.is_sub q ≡ cause.is_sub k
same-sub w f q k h = same-test misuse.is_sub cause.is_sub w f q k (record { empty = refl; own = λ n. refl; lent = λ n. refl; sub = λ u y state. refl }) h

same-empty : (w : World) (f : Frame) (q : Slot) (k : SlotKind) → FitsSlot w f q k → misuse.is_empty q ≡ cause.is_empty k
same-empty w f q k h = same-test misuse.is_empty cause.is_empty w f q k (record { empty = refl; own = λ n. refl; lent = λ n. refl; sub = λ u y state. refl }) h

at-slots : (w : World) (f : Frame) (s : TypeState) (o : Option ℕ) (test : Slot → Bool) (test' : SlotKind → Bool) → ((y : ℕ) → test (slot f y) ≡ test' (kind s y)) → misuse.at_slot f o test ≡ cause.at_slot s o test'
at-slots w f s None test test' same = refl
at-slots w f s (Some y) test test' same = same y

wrong_slots : (p : Program) (w : World) (f : Frame) (i : Instr) (s : TypeState) → Stands p w f i s → (misuse.at_slot f (facts.owners_slot i) (λ q. not (misuse.is_scope q)) || misuse.at_slot f (facts.subtask_slot i) (λ q. not (misuse.is_sub q)) || misuse.at_slot f (facts.filled_slot i) (λ q. not (misuse.is_empty q))) ≡ (cause.at_slot s (facts.owners_slot i) (λ k. not (cause.is_own k || cause.is_lent k)) || cause.at_slot s (facts.subtask_slot i) (λ k. not (cause.is_sub k)) || cause.at_slot s (facts.filled_slot i) (λ k. not (cause.is_empty k)))
wrong_slots p w f i s st =
    let a = at-slots w f s (facts.owners_slot i) (λ q. not (misuse.is_scope q)) (λ k. not (cause.is_own k || cause.is_lent k)) (λ y. ap not (same-scope w f (slot f y) (kind s y) (st.fits.slots y))) in
    let b = at-slots w f s (facts.subtask_slot i) (λ q. not (misuse.is_sub q)) (λ k. not (cause.is_sub k)) (λ y. ap not (same-sub w f (slot f y) (kind s y) (st.fits.slots y))) in
    let c = at-slots w f s (facts.filled_slot i) (λ q. not (misuse.is_empty q)) (λ k. not (cause.is_empty k)) (λ y. ap not (same-empty w f (slot f y) (kind s y) (st.fits.slots y))) in
    cc

fine-slots : (p : Program) (w : World) (f : Frame) (i : Instr) (s : TypeState) → Stands p w f i s → misuse.has_wrong_slot f i ≡ false
fine-slots p w f (Cancelled x) s st = ap not (same-scope w f (slot f x) (kind s x) (st.fits.slots x)) ∙ st.clear.slots
fine-slots p w f i s st = wrong_slots p w f i s st ∙ or_from _ _ st.clear.slots st.clear.free

fine-own : (p : Program) (w : World) (f : Frame) (i : Instr) (s : TypeState) → Stands p w f i s → misuse.is_strangers f i ≡ false
fine-own p w f i s st = at-slots w f s (facts.owners_slot i) misuse.is_lent cause.is_lent (λ y. same-lent w f (slot f y) (kind s y) (st.fits.slots y)) ∙ st.clear.own

-- ---- operands and loops

fine-operands : (p : Program) (w : World) (f : Frame) (i : Instr) (s : TypeState) → Stands p w f i s → misuse.lacks_operands p f i ≡ false
fine-operands p w f i s st = rw (st.fits.height) st.clear.operands

fine-room : (p : Program) (w : World) (f : Frame) (i : Instr) (s : TypeState) → Stands p w f i s → misuse.overflows p f i ≡ false
fine-room p w f i s st = rw (st.fits.height) (or_parts _ (cause.join_overflows s i) st.clear.room).0

many-loops : (f : Frame) (s : TypeState) → map (λ (l : Loop). l.at) f.loops ≡ map (λ (l : TypedLoop). l.at) s.loops → length f.loops ≡ length s.loops
many-loops f s e = sym (length-map f.loops _) ∙ ap length e ∙ length-map s.loops _

same-closing : (is : List Instr) (pc : ℕ) (ls : List Loop) (ks : List TypedLoop) → map (λ (l : Loop). l.at) ls ≡ map (λ (l : TypedLoop). l.at) ks → misuse.closes_loop is pc ls ≡ cause.closes_loop is pc ks
same-closing is pc [] [] e = refl
same-closing is pc (l ∷ ls) (k ∷ ks) e = let same : l.at ≡ k.at = cc in ap (λ n. is_at (match_of is n) pc) same
same-closing is pc [] (k ∷ ks) e = cc
same-closing is pc (l ∷ ls) [] e = cc

fine-loops : (p : Program) (w : World) (f : Frame) (i : Instr) (s : TypeState) → Stands p w f i s → misuse.breaks_loop p f i ≡ false
fine-loops p w f (Times n) s st = or_from (is_none (match_of (code p f) f.pc)) (nat_le 8 (length f.loops)) (or_parts _ _ (or_parts _ _ st.clear.loops).0).0 (rw (many-loops f s st.fits.loops) st.clear.depth)
fine-loops p w f Next s st = ap not (same-closing (code p f) f.pc f.loops s.loops st.fits.loops) ∙ (or_parts _ _ (or_parts _ _ st.clear.loops).0).0
fine-loops p w f i s st = refl

-- ---- scopes

-- a test of an own scope fails if it fails of each scope that is owned
at_own-fails : (w : World) (q : Slot) (test : ℕ → Scope → Bool) → ((n : ℕ) → q ≡ Own n → test n (scope_at w n) ≡ false) → misuse.at_own w q test ≡ false
at_own-fails w (Own n) test h = h n refl
at_own-fails w _ test h = refl

at_sub-fails : (w : World) (q : Slot) (test : ℕ → Scope → Bool) → ((u : ℕ) → q ≡ Sub u → test u (scope_of w u) ≡ false) → misuse.at_sub w q test ≡ false
at_sub-fails w (Sub u) test h = h u refl
at_sub-fails w _ test h = refl

-- the scope of the typestate passes no test of causes
passes-not : (s : TypeState) (x : ℕ) (r : TypedScope) (test : TypedScope → Bool) → cause.is_own (kind s x) ≡ true → scope_in s.entries x ≡ Some r → cause.at_own s x (cause.passes test) ≡ false → test r ≡ false
passes-not s x r test own there e = let h = other_false (cause.is_own (kind s x)) (cause.passes test (scope_in s.entries x)) e own in rw there at h

fine-joins : (p : Program) (w : World) (f : Frame) (i : Instr) (s : TypeState) → Stands p w f i s → misuse.misjoins w f i ≡ false
fine-joins p w f (Join x failed timeout interrupted) s st =
    at_own-fails w (slot f x) (λ _ scope. misuse.joins_wrongly f failed timeout scope)
    (λ n own.
    let r = own-scope p w f s x n cause.can_join st.fits own st.clear.legal in
    let k = kind-own w f (slot f x) (kind s x) n (st.fits.slots x) own in
    let scope = r.1.2.fits.scope in
    let targets = or_parts _ _ (passes-not s x r.0 (λ (q : TypedScope). not (facts.same (is_some failed) (facts.can_fail q.joiner)) || not (facts.same (is_some timeout) q.timed)) k r.1.0 st.clear.joins) in
    let over = or_parts (nat_lt 32 (s.height - 0 + 0)) (nat_le 32 s.height && cause.at_own s x (cause.passes (λ (q : TypedScope). not (facts.is_await_all q.joiner)))) st.clear.room in
    rw (scope.joiner, scope.timed, st.fits.height)
    (or_from _ _ (or_from _ _ (not-both (nat_le 32 s.height) _ (λ full. passes-not s x r.0 (λ (q : TypedScope). not (facts.is_await_all q.joiner)) k r.1.0 (other_false (nat_le 32 s.height) _ over.1 full))) targets.0) targets.1))
fine-joins p w f i s st = refl

-- ---- phases

opened-phase : (k : TypedPhase) (ph : Phase) (e : Bool) → cause.is_opened_phase k ≡ true → fits_phase false k ph e ≡ true → misuse.is_opened ph ≡ true
opened-phase Opened phase.Opened e a b = refl
opened-phase Opened phase.Attempted e a b = cc
opened-phase Opened phase.Joined e a b = cc
opened-phase Opened phase.Closing e a b = cc
opened-phase Opened phase.Closed e a b = cc
opened-phase k ph e a b = cc

joining-phase : (k : TypedPhase) (ph : Phase) (e : Bool) → cause.can_join_phase k ≡ true → fits_phase false k ph e ≡ true → misuse.can_join ph ≡ true
joining-phase k phase.Opened e a b = refl
joining-phase k phase.Attempted e a b = refl
joining-phase Opened ph e a b = cc
joining-phase Attempted ph e a b = cc
joining-phase k ph e a b = cc

readable-phase : (profile : Profile) (k : TypedPhase) (ph : Phase) (e : Bool) → cause.is_readable_phase profile k ≡ true → fits_phase false k ph e ≡ true → (misuse.is_joined ph && (facts.is_two profile || not e)) ≡ true
readable-phase One Joined phase.Joined e a b = b
readable-phase Two Joined phase.Joined e a b = refl
readable-phase One Late ph e a b = cc
readable-phase Two Late phase.Joined e a b = refl
readable-phase profile Joined phase.Opened e a b = cc
readable-phase profile Joined phase.Attempted e a b = cc
readable-phase profile Joined phase.Closing e a b = cc
readable-phase profile Joined phase.Closed e a b = cc
readable-phase Two Late phase.Opened e a b = cc
readable-phase Two Late phase.Attempted e a b = cc
readable-phase Two Late phase.Closing e a b = cc
readable-phase Two Late phase.Closed e a b = cc
readable-phase profile Opened ph e a b = cc
readable-phase profile Attempted ph e a b = cc

-- the frame isn't at the close of this scope
not-at-close : (p : Program) (w : World) (f : Frame) (i : Instr) (x n : ℕ) (r : TypedScope) → instr_at p f ≡ Some i → ((y : ℕ) → closes (Some i) y ≡ false) → InSlot p w f x n r → fits_phase false r.phase (scope_at w n).phase (scope_at w n).expired ≡ true
not-at-close p w f i x n r at none h = subst (λ (b : Bool). fits_phase b r.phase (scope_at w n).phase (scope_at w n).expired ≡ true) (not_closing p f i at none r.slot) h.fits.scope.phase

fine-readable : (p : Program) (w : World) (f : Frame) (i : Instr) (x n : ℕ) (s : TypeState) → Stands p w f i s → ((y : ℕ) → closes (Some i) y ≡ false) → cause.at_own s x (λ scope. not (cause.passes (cause.is_readable p.profile) scope)) ≡ false → slot f x ≡ Own n → misuse.is_readable p.profile (scope_at w n) ≡ true
fine-readable p w f i x n s st none legal own =
    let r = own-scope p w f s x n (cause.is_readable p.profile) st.fits own legal in
    readable-phase p.profile r.0.phase (scope_at w n).phase (scope_at w n).expired r.1.1 (not-at-close p w f i x n r.0 st.at none r.1.2)

-- what the typestate knows of a subtask in a slot
sub-known : (p : Program) (w : World) (f : Frame) (i : Instr) (s : TypeState) (q : Slot) (k : SlotKind) (u : ℕ) (test : Known → Bool) → Stands p w f i s → ((y : ℕ) → closes (Some i) y ≡ false) → FitsSlot w f q k → cause.at_sub s.entries k (λ scope state. not (cause.passes (cause.is_readable p.profile) scope && test state)) ≡ false → q ≡ Sub u → (state : Known) × ((test state ≡ true) × (is_known state (sub_state w u) ≡ true) × (misuse.is_readable p.profile (scope_of w u) ≡ true))
sub-known p w f i s (Sub v) (kind_of.Sub y state) u test st none h legal e =
    let same : v ≡ u = cc in
    let all = not-false (cause.passes (cause.is_readable p.profile) (scope_in s.entries y) && test state) legal in
    let readable = first-of (cause.passes (cause.is_readable p.profile) (scope_in s.entries y)) (test state) all in
    let r = own-scope p w f s y h.scope (cause.is_readable p.profile) st.fits h.own (and_right (cause.is_own (kind s y)) _ (not_from_true (cause.passes (cause.is_readable p.profile) (scope_in s.entries y)) readable)) in
    let fine = readable-phase p.profile r.0.phase (scope_at w h.scope).phase (scope_at w h.scope).expired r.1.1 (not-at-close p w f i y h.scope r.0 st.at none r.1.2) in
    rw (← same)
    (state, ((and_parts (cause.passes (cause.is_readable p.profile) (scope_in s.entries y)) (test state) all).1, h.known, rw (h.inside) fine))
sub-known p w f i s Empty k u test st none h legal e = cc
sub-known p w f i s (Own n) k u test st none h legal e = cc
sub-known p w f i s (Lent n) k u test st none h legal e = cc
sub-known p w f i s (Sub v) k u test st none h legal e = absurd h

success-known : (state : Known) (o : Option End) → cause.is_known_success state ≡ true → is_known state o ≡ true → misuse.has_succeeded o ≡ true
success-known known.Success o a b = b
success-known known.Unknown o a b = cc
success-known known.Failed o a b = cc

failed-known : (state : Known) (o : Option End) → cause.is_known_failed state ≡ true → is_known state o ≡ true → misuse.has_failed o ≡ true
failed-known known.Failed o a b = b
failed-known known.Unknown o a b = cc
failed-known known.Success o a b = cc

-- if the typestate doesn't have a scope as opened, it isn't opened
unopened-phase : (b : Bool) (k : TypedPhase) (ph : Phase) (e : Bool) → cause.is_opened_phase k ≡ false → fits_phase b k ph e ≡ true → misuse.is_opened ph ≡ false
unopened-phase b Opened ph e a h = cc
unopened-phase b Attempted phase.Opened e a h = cc
unopened-phase b Joined phase.Opened e a h = cc
unopened-phase b Late phase.Opened e a h = cc
unopened-phase b k ph e a h = refl

-- the scope of the innermost entry
innermost-scope : (rs : List TypedEntry) (x : ℕ) → cause.innermost (cause.is_scope_in x) rs ≡ true → (r : TypedScope) × (scope_in rs x ≡ Some r)
innermost-scope [] x e = cc
innermost-scope (typed.Binding j ∷ rs) x e = cc
innermost-scope (typed.Scope r ∷ rs) x e = (r, rw e refl)

innermost-own : (p : Program) (w : World) (f : Frame) (s : TypeState) (x n : ℕ) → Stands p w f (Close x) s → slot f x ≡ Own n → cause.innermost (cause.is_scope_in x) s.entries ≡ true
innermost-own p w f s x n st own =
    not-false (cause.innermost (cause.is_scope_in x) s.entries)
    (or_parts (not (cause.innermost (cause.is_scope_in x) s.entries)) (cause.is_held s) (other_false (cause.is_own (kind s x)) (not (cause.innermost (cause.is_scope_in x) s.entries) || cause.is_held s) st.clear.structure (kind-own w f (slot f x) (kind s x) n (st.fits.slots x) own))).0

fine-close : (p : Program) (w : World) (f : Frame) (s : TypeState) (x n : ℕ) → Stands p w f (Close x) s → slot f x ≡ Own n → misuse.is_opened (scope_at w n).phase ≡ false
fine-close p w f s x n st own =
    let k = kind-own w f (slot f x) (kind s x) n (st.fits.slots x) own in
    let r = innermost-scope s.entries x (innermost-own p w f s x n st own) in
    let h = in-slot p w f f.entries s.entries x n r.0 st.fits.entries r.1 own in
    unopened-phase (closes (instr_at p f) r.0.slot) r.0.phase (scope_at w n).phase (scope_at w n).expired (passes-not s x r.0 cause.is_opened k r.1 st.clear.legal) h.fits.scope.phase

fine-legal : (p : Program) (w : World) (f : Frame) (i : Instr) (s : TypeState) → Stands p w f i s → misuse.is_illegal p w f i ≡ false
fine-legal p w f (Fork x g q) s st =
    at_own-fails w (slot f x) (λ _ scope. not (misuse.is_opened scope.phase))
    (λ n own.
    let r = own-scope p w f s x n cause.is_opened st.fits own st.clear.legal in
    not_from_true _ (opened-phase r.0.phase (scope_at w n).phase (scope_at w n).expired r.1.1 (not-at-close p w f (Fork x g q) x n r.0 st.at (λ y. refl) r.1.2)))
fine-legal p w f (Join x failed timeout interrupted) s st =
    at_own-fails w (slot f x) (λ _ scope. not (misuse.can_join scope.phase))
    (λ n own.
    let r = own-scope p w f s x n cause.can_join st.fits own st.clear.legal in
    not_from_true _ (joining-phase r.0.phase (scope_at w n).phase (scope_at w n).expired r.1.1 (not-at-close p w f (Join x failed timeout interrupted) x n r.0 st.at (λ y. refl) r.1.2)))
fine-legal p w f (Close x) s st =
    at_own-fails w (slot f x) (λ n scope. misuse.is_opened scope.phase && nat_lt 0 (subtask_count w n))
    (λ n own. not-both (misuse.is_opened (scope_at w n).phase) (nat_lt 0 (subtask_count w n)) (λ opened. let never = fine-close p w f s x n st own in cc))
fine-legal p w f (Tally x k) s st = at_own-fails w (slot f x) (λ _ scope. not (misuse.is_readable p.profile scope)) (λ n own. not_from_true _ (fine-readable p w f (Tally x k) x n s st (λ y. refl) st.clear.legal own))
fine-legal p w f (Total x) s st = at_own-fails w (slot f x) (λ _ scope. not (misuse.is_readable p.profile scope)) (λ n own. not_from_true _ (fine-readable p w f (Total x) x n s st (λ y. refl) st.clear.legal own))
fine-legal p w f (Get x) s st =
    at_sub-fails w (slot f x) (λ u scope. not (misuse.is_readable p.profile scope && misuse.has_succeeded (sub_state w u)))
    (λ u e.
    let h = sub-known p w f (Get x) s (slot f x) (kind s x) u cause.is_known_success st (λ y. refl) (st.fits.slots x) st.clear.legal e in
    not_from_true _ (and_from _ _ h.1.2 (success-known h.0 (sub_state w u) h.1.0 h.1.1)))
fine-legal p w f (Except x) s st =
    at_sub-fails w (slot f x) (λ u scope. not (misuse.is_readable p.profile scope && misuse.has_failed (sub_state w u)))
    (λ u e.
    let h = sub-known p w f (Except x) s (slot f x) (kind s x) u cause.is_known_failed st (λ y. refl) (st.fits.slots x) st.clear.legal e in
    not_from_true _ (and_from _ _ h.1.2 (failed-known h.0 (sub_state w u) h.1.0 h.1.1)))
fine-legal p w f i s st = refl

-- ---- the structure list

same-after : (p : Program) (w : World) (f : Frame) (es : List Entry) (rs : List TypedEntry) (x n : ℕ) → ((y z j : ℕ) → slot f y ≡ Own j → slot f z ≡ Own j → y ≡ z) → slot f x ≡ Own n → Zips (FitsEntry p w f) es rs → cause.binds_after x rs ≡ false → misuse.binds_after n es ≡ false
same-after p w f [] [] x n apart own z e = refl
same-after p w f (entry.Binding j v ∷ es) (typed.Binding i ∷ rs) x n apart own z e = cc
same-after p w f (entry.Scope m ∷ es) (typed.Scope r ∷ rs) x n apart own z e = by (m == n) (r.slot == x) refl refl e (same-after p w f es rs x n apart own z.1)
  where
    by : (b c : Bool) → (m == n) ≡ b → (r.slot == x) ≡ c → cond c false (cause.binds_after x rs) ≡ false → (cause.binds_after x rs ≡ false → misuse.binds_after n es ≡ false) → cond b false (misuse.binds_after n es) ≡ false
    by true c d q e next = refl
    by false false d q e next = next e
    by false true d q e next =
        let same : r.slot ≡ x = grind (arith, nat_tests) in
        let mine : Own m ≡ Own n = sym z.0.own ∙ rw same own in
        let one : m ≡ n = cc in
        let yes : (m == n) ≡ true = grind (arith, nat_tests) in
        cc
same-after p w f [] (r ∷ rs) x n apart own z e = absurd z
same-after p w f (e' ∷ es) [] x n apart own z e = absurd z
same-after p w f (entry.Binding j v ∷ es) (typed.Scope r ∷ rs) x n apart own z e = absurd z.0
same-after p w f (entry.Scope m ∷ es) (typed.Binding i ∷ rs) x n apart own z e = absurd z.0

same-innermost : (p : Program) (w : World) (f : Frame) (es : List Entry) (rs : List TypedEntry) (x n : ℕ) → slot f x ≡ Own n → Zips (FitsEntry p w f) es rs → cause.innermost (cause.is_scope_in x) rs ≡ true → misuse.innermost (misuse.is_entry_of n) es ≡ true
same-innermost p w f es [] x n own z e = cc
same-innermost p w f es (typed.Binding j ∷ rs) x n own z e = cc
same-innermost p w f [] (typed.Scope r ∷ rs) x n own z e = absurd z
same-innermost p w f (entry.Binding j v ∷ es) (typed.Scope r ∷ rs) x n own z e = absurd z.0
same-innermost p w f (entry.Scope m ∷ es) (typed.Scope r ∷ rs) x n own z e =
    let same : r.slot ≡ x = grind (arith, nat_tests) in
    let mine : Own m ≡ Own n = sym z.0.own ∙ rw same own in
    let one : m ≡ n = cc in
    grind (arith, nat_tests)

same-binding : (p : Program) (w : World) (f : Frame) (es : List Entry) (rs : List TypedEntry) → Zips (FitsEntry p w f) es rs → misuse.innermost misuse.is_binding es ≡ cause.innermost cause.is_binding rs
same-binding p w f [] [] z = refl
same-binding p w f (entry.Binding j v ∷ es) (typed.Binding i ∷ rs) z = refl
same-binding p w f (entry.Scope m ∷ es) (typed.Scope r ∷ rs) z = refl
same-binding p w f [] (r ∷ rs) z = absurd z
same-binding p w f (e ∷ es) [] z = absurd z
same-binding p w f (entry.Binding j v ∷ es) (typed.Scope r ∷ rs) z = absurd z.0
same-binding p w f (entry.Scope m ∷ es) (typed.Binding i ∷ rs) z = absurd z.0

fine-structure : (p : Program) (w : World) (f : Frame) (i : Instr) (s : TypeState) → Stands p w f i s → misuse.breaks_structure w f i ≡ false
fine-structure p w f (Fork x g q) s st =
    at_own-fails w (slot f x) (λ n _. misuse.binds_after n f.entries)
    (λ n own. same-after p w f f.entries s.entries x n st.fits.apart own st.fits.entries (other_false (cause.is_own (kind s x)) (cause.binds_after x s.entries) st.clear.structure (kind-own w f (slot f x) (kind s x) n (st.fits.slots x) own)))
fine-structure p w f (Close x) s st =
    at_own-fails w (slot f x) (λ n _. not (misuse.innermost (misuse.is_entry_of n) f.entries))
    (λ n own. not_from_true _ (same-innermost p w f f.entries s.entries x n own st.fits.entries (innermost-own p w f s x n st own)))
fine-structure p w f Unbind s st = ap not (same-binding p w f f.entries s.entries st.fits.entries) ∙ (or_parts (not (cause.innermost cause.is_binding s.entries)) (cause.is_held s) st.clear.structure).0
fine-structure p w f Ret s st = rw (zips-length (FitsEntry p w f) f.entries s.entries st.fits.entries) st.clear.structure
fine-structure p w f Fail s st = rw (zips-length (FitsEntry p w f) f.entries s.entries st.fits.entries) st.clear.structure
fine-structure p w f i s st = refl

-- ---- keys

some-is-there : {X : Type 0} (o : Option X) → is_some o ≡ true → is_none o ≡ false
some-is-there None e = cc
some-is-there (Some x) e = refl

fine-bound : (p : Program) (w : World) (t : ℕ) (i : Instr) (s : TypeState) → program_fault p.routines ≡ None → Stands p w (task_at w t).frame i s → Covers p (task_at w t).frame.function [] (parent w (task_at w t).scope).environment → misuse.is_unbound w t i ≡ false
fine-bound p w t (Read k) s checked st bound =
    let range = (instr_checked p (task_at w t).frame (Read k) checked st.inside st.at).1 in
    some-is-there (read (environment_of (task_at w t) w) k) (covers-environment p w t s (Read k) st bound k (grind (arith, nat_tests, range)) (not-false (is_due p (task_at w t).frame.function s.entries k) st.clear.bound))
fine-bound p w t i s checked st bound = refl

-- ---- all rows

-- a typed task that forks uses a scope of its own
forks-own : (p : Program) (w : World) (f : Frame) (x g : ℕ) (h : Option ℕ) (s : TypeState) → Stands p w f (Fork x g h) s → slot f x ≡ Own (named (slot f x))
forks-own p w f x g h s st = own_slot (slot f x) (first_no _ _ (first_no _ _ (fine-slots p w f (Fork x g h) s st))) (fine-own p w f (Fork x g h) s st)

fine-births : (p : Program) (w : World) (f : Frame) (i : Instr) (s : TypeState) → Stands p w f i s → crowds w f (Some i) ≡ false → misuse.has_no_room w f i ≡ false
fine-births p w f (Open x timed joiner) s st room = or_from (nat_le 16 (length f.entries)) _ (rw (zips-length (FitsEntry p w f) f.entries s.entries st.fits.entries) st.clear.nesting) room
fine-births p w f (Bind k) s st room = rw (zips-length (FitsEntry p w f) f.entries s.entries st.fits.entries) st.clear.nesting
fine-births p w f (Fork x g h) s st room =
    sym (at_own-is w (slot f x) (λ r scope. misuse.is_crowded (standing_tasks w) (length w.tasks)) (forks-own p w f x g h s st)) ∙ room
fine-births p w f i s st room = refl

pub is-fine : (p : Program) (w : World) (t : ℕ) (i : Instr) (s : TypeState) → program_fault p.routines ≡ None → Stands p w (task_at w t).frame i s → Covers p (task_at w t).frame.function [] (parent w (task_at w t).scope).environment → crowds w (task_at w t).frame (Some i) ≡ false → IsFine p w t (task_at w t).frame i
is-fine p w t i s checked st bound room =
    let f : Frame = (task_at w t).frame in
    record {
      operands = fine-operands p w f i s st;
      room = fine-room p w f i s st;
      loops = fine-loops p w f i s st;
      slots = fine-slots p w f i s st;
      joins = fine-joins p w f i s st;
      births = fine-births p w f i s st room;
      own = fine-own p w f i s st;
      legal = fine-legal p w f i s st;
      structure = fine-structure p w f i s st;
      bound = fine-bound p w t i s checked st bound;
    }
