-- The place after `close`, at its first step and at its last.
use Rattle.std.proofs.Common.{◌≡◌, ℕ, ◌<◌, inl, List, [], ◌∷◌, length, map, drop, Bool, true, false, Some, refl, sym, ◌∙◌, ap, subst, cond, get_or, arith, not}
use Rattle.std.proofs.Common.{◌||◌, length-set, get_or-set_same, get_or-set_other}
use Rattle.std.specs.Prelude.{◌==◌}
use Rattle.std.specs.List.{list_any}
use Rattle.std.proofs.lemmas.Bool.{cond_both, or_parts, not-false}
use Rattle.std.proofs.lemmas.Bool.Decides.{nat_tests}
use Rattle.std.proofs.lemmas.List.{length-map}
use Rattle.std.proofs.Math.ListN.{get_or-map}
use Rattle.laws_words.proofs.BoolLemmas.{other_false}
use Rattle.sts_code.specs.Program.{Program}
use Rattle.sts_code.specs.declared.instr.Instr.TheVariants.{Close}
use Rattle.sts_model.specs.declared.event.Phase.{Phase}
use Rattle.sts_model.specs.declared.event.Phase.TheVariants as phase
use Rattle.sts_model.specs.declared.record.Entry.{Entry}
use Rattle.sts_model.specs.declared.record.Entry.TheVariants as entry
use Rattle.sts_model.specs.declared.record.Frame.{Frame}
use Rattle.sts_model.specs.declared.record.Scope.{Scope}
use Rattle.sts_model.specs.declared.record.Task.{Task}
use Rattle.sts_model.specs.declared.record.Slot.{Slot}
use Rattle.sts_model.specs.declared.record.Slot.TheVariants.{Empty, Own, Lent, Sub}
use Rattle.sts_rules.specs.declared.typing.SlotKind.{SlotKind}
use Rattle.sts_rules.specs.declared.typing.SlotKind.TheVariants as kind_of
use Rattle.sts_rules.specs.declared.typing.TypedPhase.{TypedPhase}
use Rattle.sts_rules.specs.declared.typing.TypedPhase.TheVariants.{Opened}
use Rattle.sts_rules.specs.declared.typing.TypedEntry.{TypedEntry}
use Rattle.sts_rules.specs.declared.typing.TypedEntry.TheVariants as typed
use Rattle.sts_model.specs.World.{World, task_at, scope_at, no_task, no_scope, instr_at}
use Rattle.sts_model.specs.Local.{steps}
use Rattle.sts_model.specs.Living.{any_lives, is_in}
use Rattle.sts_model.specs.Cancelling.{marked, cancel}
use Rattle.sts_model.specs.Misuse.{slot, is_scope}
use Rattle.sts_rules.specs.TypeState.{TypeState, kind}
use Rattle.sts_rules.specs.Causes as cause
use Rattle.sts_rules.specs.Edges as edges
use Rattle.sts_rules.specs.Edges.{is_sub_of}
use Rattle.sts_model.specs.Effect.{with_phase, is_of, cleared, closed, close_scope}
use Rattle.laws_runs.proofs.ListLemmas.{within, at_put}
use Rattle.laws_runs.specs.Later.{Later}
use Rattle.laws_runs.proofs.KeptLemmas.{kept-cancel}
use Rattle.laws_runs.proofs.EffectLemmas.{frame-cancel}
use Rattle.laws_accepted.specs.Typed.{closes, fits_phase, FitsOpen, FitsEntry, FitsSlot, Zips}
use Rattle.laws_accepted.proofs.Zips.{zips-map, zips-without, zips-drop}
use Rattle.laws_accepted.proofs.Same.{Knows, scope-on, slot-same}
use Rattle.laws_accepted.proofs.Others.{knows-later}
use Rattle.laws_accepted.proofs.Stands.{Stands, Lands, lands-forward}
use Rattle.laws_accepted.proofs.FrameRows.{kind-own}
use Rattle.laws_accepted.proofs.JoinRows.{Landed}

-- ---- the other scopes

-- a cancel and a phase of scope n leave the other scopes alone
other-scope : (w : World) (n m : ℕ) (ph : Phase) → (m ≡ n → ⊥) → scope_at (with_phase (cancel w n) n ph) m ≡ scope_at w m
other-scope w n m ph never =
    get_or-set_other (cancel w n).scopes n m (record (scope_at (cancel w n) n) { phase = ph }) no_scope never
    ∙ cond_both (scope_at w n).cancelled w (marked w n) (λ (v : World). scope_at v m ≡ scope_at w m)
    (λ e. refl)
    (λ e. get_or-set_other w.scopes n m (record (scope_at w n) { cancelled = true }) no_scope never)

-- ---- what is known where a task closes the scope n of slot x

pub record AtClose (p : Program) (w : World) (t x n : ℕ) (s : TypeState) : Type 0 where
  pub stands : Stands p w (task_at w t).frame (Close x) s
  pub own : slot (task_at w t).frame x ≡ Own n
  pub born : n < length w.scopes
  pub alive : t < length w.tasks

-- ---- the first step

closing-fits : (k : TypedPhase) (expired closing : Bool) → closing ≡ true → fits_phase closing k phase.Closing expired ≡ true
closing-fits Opened expired closing e = e
closing-fits _ expired closing e = e

-- the frame is at the close of this slot
at_this_close : (p : Program) (f : Frame) (x y : ℕ) → instr_at p f ≡ Some (Close x) → y ≡ x → closes (instr_at p f) y ≡ true
at_this_close p f x y at same = rw (at, same) (grind (arith, nat_tests))

entry-closing : (p : Program) (w : World) (t x n : ℕ) (s : TypeState) → AtClose p w t x n s → Later w (with_phase (cancel w n) n phase.Closing) → (e : Entry) (r : TypedEntry) (behind : List TypedEntry) → FitsEntry p w (task_at w t).frame e r behind → FitsEntry p (with_phase (cancel w n) n phase.Closing) (task_at w t).frame e r behind
entry-closing p w t x n s h later (entry.Scope m) (typed.Scope r) behind o = by (m == n) refl
  where
    f : Frame
    f = (task_at w t).frame

    v : World
    v = with_phase (cancel w n) n phase.Closing

    now : (scope_at (with_phase (cancel w n) n phase.Closing) n).phase ≡ phase.Closing
    now = ap (λ (y : Scope). y.phase) (get_or-set_same (cancel w n).scopes n (record (scope_at (cancel w n) n) { phase = phase.Closing }) no_scope (rw ((kept-cancel w n).scopes) h.born))

    by : (b : Bool) → (m == n) ≡ b → FitsOpen p (with_phase (cancel w n) n phase.Closing) (task_at w t).frame m r behind
    by true e =
        let one : m ≡ n = grind (arith, nat_tests) in
        let k = (later.scope n h.born).same in
        let slot_x : r.slot ≡ x = h.stands.fits.apart r.slot x n (rw one at o.own) h.own in
        let old = subst (λ (i : ℕ). FitsOpen p w (task_at w t).frame i r behind) one o in
        subst (λ (i : ℕ). FitsOpen p (with_phase (cancel w n) n phase.Closing) (task_at w t).frame i r behind) (sym one)
        (record {
          own = old.own;
          scope =
              record {
                joiner = k.joiner ∙ old.scope.joiner;
                timed = k.timed ∙ old.scope.timed;
                phase = rw now (closing-fits r.phase _ (closes (instr_at p (task_at w t).frame) r.slot) (at_this_close p (task_at w t).frame x r.slot h.stands.at slot_x));
              };
          covers = rw (k.environment) old.covers;
          single = old.single;
        })
    by false e =
        let never : m ≡ n → ⊥ = λ d. let yes : (m == n) ≡ true = grind (arith, nat_tests) in cc in
        let same = other-scope w n m phase.Closing never in
        record { own = o.own; scope = rw same o.scope; covers = rw same o.covers; single = o.single }
entry-closing p w t x n s h later e r behind o = o

lands-closing : (p : Program) (w : World) (t x n : ℕ) (s : TypeState) → AtClose p w t x n s → Landed p w t (with_phase (cancel w n) n phase.Closing)
lands-closing p w t x n s h later =
    let f : Frame = (task_at w t).frame in
    let v : World = with_phase (cancel w n) n phase.Closing in
    let st = h.stands in
    subst (λ (g : Frame). Lands p v f g) (sym (frame-cancel w n t))
    (record {
      function = refl;
      state = s;
      reached = st.reached;
      fits =
          record {
            height = st.fits.height;
            loops = st.fits.loops;
            entries = zips-map (FitsEntry p w f) (FitsEntry p v f) f.entries s.entries (entry-closing p w t x n s h later) st.fits.entries;
            slots = λ y. slot-same w v f (knows-later w v later) (slot f y) (kind s y) (st.fits.slots y);
            apart = st.fits.apart;
            wide = st.fits.wide;
            typed_wide = st.fits.typed_wide;
          };
    })

-- ---- the last step

-- the slot after the scope and its subtasks were cleared from it
abbrev pub clear_slot : World → ℕ → Slot → Slot
clear_slot m n q = cond (is_of m n q) Empty q

abbrev pub clear_kind : ℕ → SlotKind → SlotKind
clear_kind x k = cond (is_sub_of x k) kind_of.Empty k

still-own : (m : World) (n : ℕ) (q : Slot) (j : ℕ) → q ≡ Own j → (j ≡ n → ⊥) → clear_slot m n q ≡ Own j
still-own m n q j e never = rw e (cond_both (j == n) Empty (Own j) (λ (y : Slot). y ≡ Own j) (λ d. let same : j ≡ n = grind (arith, nat_tests) in absurd (never same)) (λ d. refl))

was-own : (m : World) (n : ℕ) (q : Slot) (j : ℕ) → clear_slot m n q ≡ Own j → q ≡ Own j
was-own m n q j = cond_both (is_of m n q) Empty q (λ (y : Slot). y ≡ Own j → q ≡ Own j) (λ d e. cc) (λ d e. e)

slot-cleared : (w m v : World) (f g : Frame) (x n : ℕ) (q : Slot) (k : SlotKind) → ((u i : ℕ) → (task_at w u).scope ≡ Some i → (task_at m u).scope ≡ Some i) → Knows w v → slot f x ≡ Own n → ((y z j : ℕ) → slot f y ≡ Own j → slot f z ≡ Own j → y ≡ z) → ((y j : ℕ) → slot f y ≡ Own j → (j ≡ n → ⊥) → slot g y ≡ Own j) → ((j : ℕ) → q ≡ Own j → j ≡ n → ⊥) → FitsSlot w f q k → FitsSlot v g (clear_slot m n q) (clear_kind x k)
slot-cleared w m v f g x n Empty kind_of.Empty in_m in_v own apart keeps other h = tt
slot-cleared w m v f g x n (Own j) kind_of.Own in_m in_v own apart keeps other h =
    cond_both (j == n) Empty (Own j) (λ (y : Slot). FitsSlot v g y kind_of.Own)
    (λ e. let same : j ≡ n = grind (arith, nat_tests) in absurd (other j refl same))
    (λ e. tt)
slot-cleared w m v f g x n (Lent j) kind_of.Lent in_m in_v own apart keeps other h = tt
slot-cleared w m v f g x n (Sub u) (kind_of.Sub z state) in_m in_v own apart keeps other h = by (h.scope == n) (z == x) refl refl (ap (is_in n) (in_m u h.scope h.inside))
  where
    by : (b c : Bool) → (h.scope == n) ≡ b → (z == x) ≡ c → is_in n (task_at m u).scope ≡ (h.scope == n) → FitsSlot v g (cond (is_in n (task_at m u).scope) Empty (Sub u)) (cond (z == x) kind_of.Empty (kind_of.Sub z state))
    by true true d e i = rw (i, d, e) tt
    by false false d e i =
        let never : h.scope ≡ n → ⊥ = λ same. let yes : (h.scope == n) ≡ true = grind (arith, nat_tests) in cc in
        let old = slot-same w v f in_v (Sub u) (kind_of.Sub z state) h in
        rw (i, d, e) (record { scope = h.scope; own = keeps z h.scope h.own never; inside = in_v.task u h.scope h.inside; known = old.known })
    by true false d e i =
        let one : h.scope ≡ n = grind (arith, nat_tests) in
        let same : z ≡ x = apart z x n (rw one at h.own) own in
        let yes : (z == x) ≡ true = grind (arith, nat_tests) in
        cc
    by false true d e i =
        let same : z ≡ x = grind (arith, nat_tests) in
        let mine : Own h.scope ≡ Own n = sym h.own ∙ rw same own in
        let one : h.scope ≡ n = cc in
        let yes : (h.scope == n) ≡ true = grind (arith, nat_tests) in
        cc
slot-cleared w m v f g x n q k in_m in_v own apart keeps other h = absurd h

-- the innermost entry is that of slot x, and no other one is
only-first : (p : Program) (w : World) (f : Frame) (es : List Entry) (rs : List TypedEntry) (x : ℕ) → Zips (FitsEntry p w f) es rs → cause.innermost (cause.is_scope_in x) rs ≡ true → list_any (cause.is_scope_in x) (drop 1 rs) ≡ false
only-first p w f es [] x z first = cc
only-first p w f es (typed.Binding i ∷ rs) x z first = cc
only-first p w f [] (typed.Scope r ∷ rs) x z first = absurd z
only-first p w f (entry.Binding j v ∷ es) (typed.Scope r ∷ rs) x z first = absurd z.0
only-first p w f (entry.Scope m ∷ es) (typed.Scope r ∷ rs) x z first = let same : r.slot ≡ x = grind (arith, nat_tests) in rw (← same) z.0.single

entry-closed : (p : Program) (w v : World) (f g : Frame) (x n : ℕ) → instr_at p f ≡ Some (Close x) → slot f x ≡ Own n → ((y z j : ℕ) → slot f y ≡ Own j → slot f z ≡ Own j → y ≡ z) → ((y j : ℕ) → slot f y ≡ Own j → (j ≡ n → ⊥) → slot g y ≡ Own j) → g.function ≡ f.function → ((m : ℕ) → (m ≡ n → ⊥) → scope_at v m ≡ scope_at w m) → (e : Entry) (r : TypedEntry) (behind : List TypedEntry) → cause.is_scope_in x r ≡ false → FitsEntry p w f e r behind → FitsEntry p v g e r behind
entry-closed p w v f g x n at own apart keeps function others (entry.Scope m) (typed.Scope r) behind none o =
    let never : m ≡ n → ⊥ = λ d. let same : r.slot ≡ x = apart r.slot x n (rw d at o.own) own in let yes : (r.slot == x) ≡ true = grind (arith, nat_tests) in cc in
    let still : closes (instr_at p f) r.slot ≡ false = rw at (grind (arith, nat_tests)) in
    record {
      own = keeps r.slot m o.own never;
      scope = rw (others m never) (scope-on (closes (instr_at p f) r.slot) (closes (instr_at p g) r.slot) (scope_at w m) r still o.scope);
      covers = rw (others m never, function) o.covers;
      single = o.single;
    }
entry-closed p w v f g x n at own apart keeps function others e r behind none o = o

lands-closed : (p : Program) (w : World) (t x n : ℕ) (s : TypeState) → AtClose p w t x n s → Landed p w t (closed (cancel w n) t (task_at w t).frame n)
lands-closed p w t x n s h later =
    subst (λ (y : Frame). Lands p v f y) (sym frame)
    (lands-forward p w v f g (Close x) s after st refl refl (inl (refl, refl))
    (record {
      height = st.fits.height;
      loops = st.fits.loops;
      entries = zips-without (cause.is_scope_in x) (FitsEntry p w f) (FitsEntry p v g) (drop 1 f.entries) (drop 1 s.entries) (only-first p w f f.entries s.entries x st.fits.entries first) (entry-closed p w v f g x n st.at h.own st.fits.apart keeps refl (λ m never. other-scope w n m phase.Closed never)) (zips-drop (FitsEntry p w f) f.entries s.entries st.fits.entries);
      slots = slots;
      apart = λ y z j d e. st.fits.apart y z j (was y j d) (was z j e);
      wide = length-map f.slots _ ∙ st.fits.wide;
      typed_wide = length-set (map (clear_kind x) s.slots) x kind_of.Empty ∙ length-map s.slots _ ∙ st.fits.typed_wide;
    }))
  where
    f : Frame
    f = (task_at w t).frame

    g : Frame
    g = record (steps (task_at w t).frame 0 []) { entries = drop 1 (task_at w t).frame.entries; slots = cleared (cancel w n) n (task_at w t).frame.slots }

    v : World
    v = closed (cancel w n) t (task_at w t).frame n

    st : Stands p w (task_at w t).frame (Close x) s
    st = h.stands

    after : TypeState
    after = record s { entries = drop 1 s.entries; slots = edges.cleared x s.slots }

    frame : (task_at (closed (cancel w n) t (task_at w t).frame n) t).frame ≡ record (steps (task_at w t).frame 0 []) { entries = drop 1 (task_at w t).frame.entries; slots = cleared (cancel w n) n (task_at w t).frame.slots }
    frame = ap (λ (y : Task). y.frame) (get_or-set_same (cancel w n).tasks t _ no_task (rw ((kept-cancel w n).tasks) h.alive))

    first : cause.innermost (cause.is_scope_in x) s.entries ≡ true
    first = not-false (cause.innermost (cause.is_scope_in x) s.entries) (or_parts (not (cause.innermost (cause.is_scope_in x) s.entries)) (cause.is_held s) (other_false (cause.is_own (kind s x)) (not (cause.innermost (cause.is_scope_in x) s.entries) || cause.is_held s) h.stands.clear.structure (kind-own w (task_at w t).frame (slot (task_at w t).frame x) (kind s x) n (h.stands.fits.slots x) h.own))).0

    cleared_at : (y : ℕ) → get_or (cleared (cancel w n) n (task_at w t).frame.slots) y Empty ≡ clear_slot (cancel w n) n (slot (task_at w t).frame y)
    cleared_at y = get_or-map (clear_slot (cancel w n) n) (task_at w t).frame.slots y Empty

    keeps : (y j : ℕ) → slot (task_at w t).frame y ≡ Own j → (j ≡ n → ⊥) → get_or (cleared (cancel w n) n (task_at w t).frame.slots) y Empty ≡ Own j
    keeps y j e never = cleared_at y ∙ still-own (cancel w n) n (slot (task_at w t).frame y) j e never

    was : (y j : ℕ) → get_or (cleared (cancel w n) n (task_at w t).frame.slots) y Empty ≡ Own j → slot (task_at w t).frame y ≡ Own j
    was y j e = was-own (cancel w n) n (slot (task_at w t).frame y) j (sym (cleared_at y) ∙ e)

    slots : (y : ℕ) → FitsSlot (closed (cancel w n) t (task_at w t).frame n) g (get_or (cleared (cancel w n) n (task_at w t).frame.slots) y Empty) (get_or (edges.cleared x s.slots) y kind_of.Empty)
    slots y =
        at_put (λ (k : SlotKind). FitsSlot v g (get_or (cleared (cancel w n) n f.slots) y Empty) k) (map (clear_kind x) s.slots) x y kind_of.Empty kind_of.Empty wide
        (λ e. rw (e, cleared_at x, h.own) gone)
        (λ other.
        subst (λ (q : Slot). FitsSlot v g q (get_or (map (clear_kind x) s.slots) y kind_of.Empty)) (sym (cleared_at y))
        (subst (λ (k : SlotKind). FitsSlot v g (clear_slot (cancel w n) n (slot f y)) k) (sym (get_or-map (clear_kind x) s.slots y kind_of.Empty))
        (slot-cleared w (cancel w n) v f g x n (slot f y) (kind s y) (λ u i e. ((kept-cancel w n).task u).same.scope ∙ e) (knows-later w v later) h.own st.fits.apart keeps (λ j e same. other (st.fits.apart y x n (rw same at e) h.own)) (st.fits.slots y))))
      where
        wide : x < length (map (clear_kind x) s.slots)
        wide =
            let a = within is_scope f.slots x Empty refl (rw (h.own) refl) in
            let b = length-map s.slots (clear_kind x) in
            let c = st.fits.wide in
            let d = st.fits.typed_wide in
            omega (arith, a, b, c, d)

        gone : FitsSlot v g (clear_slot (cancel w n) n (Own n)) kind_of.Empty
        gone = cond_both (n == n) Empty (Own n) (λ (q : Slot). FitsSlot v g q kind_of.Empty) (λ d. tt) (λ d. let yes : (n == n) ≡ true = grind (arith, nat_tests) in cc)

pub lands-close : (p : Program) (w : World) (t x n : ℕ) (s : TypeState) → AtClose p w t x n s → Landed p w t (close_scope w t (task_at w t).frame n)
unfolding close_scope
lands-close p w t x n s h =
    cond_both (any_lives (cancel w n) n) _ _ (λ (v : World). Landed p w t v)
    (λ e. lands-closing p w t x n s h)
    (λ e. lands-closed p w t x n s h)
