-- The places after instructions that only change the frame.
use Rattle.std.proofs.Common.{◌≡◌, ℕ, ◌+◌, ◌-◌, inl, inr, List, [], ◌∷◌, drop, true, false, Option, Some, None, refl, sym, ◌∙◌, not, arith, get_or, set}
use Rattle.std.proofs.Common.{length-set}
use Rattle.std.specs.Prelude.{ℤ, slice_set}
use Rattle.sts_code.specs.Program.{Program, routine, instr_at}
use Rattle.sts_code.specs.declared.instr.Instr.{Instr}
use Rattle.sts_code.specs.declared.instr.Instr.TheVariants.{Case, Forget, Bind, Unbind, OrElse}
use Rattle.sts_model.specs.declared.event.End.{End}
use Rattle.sts_model.specs.declared.event.End.TheVariants.{Success, Failed}
use Rattle.sts_model.specs.declared.record.Entry.TheVariants as entry
use Rattle.sts_model.specs.declared.record.Frame.{Frame}
use Rattle.sts_model.specs.declared.record.Slot.{Slot}
use Rattle.sts_model.specs.declared.record.Slot.TheVariants.{Empty, Own, Lent, Sub}
use Rattle.sts_rules.specs.declared.budget.Budgets.{Budgets}
use Rattle.sts_rules.specs.declared.typing.Known.{Known}
use Rattle.sts_rules.specs.declared.typing.Known.TheVariants as known
use Rattle.sts_rules.specs.declared.typing.SlotKind.{SlotKind}
use Rattle.sts_rules.specs.declared.typing.SlotKind.TheVariants as kind_of
use Rattle.sts_rules.specs.declared.typing.TypedEntry.TheVariants as typed
use Rattle.sts_model.specs.World.{World, code}
use Rattle.sts_model.specs.Local.{local, emptied_slot, stays_in_frame, goes, steps, operand}
use Rattle.sts_model.specs.Living.{sub_state}
use Rattle.sts_model.specs.Misuse.{slot, is_sub, has_wrong_slot, breaks_loop}
use Rattle.sts_rules.specs.TypeState.{TypeState, kind}
use Rattle.sts_rules.specs.Causes as cause
use Rattle.sts_rules.specs.Edges.{follows, moved, known_as, with_known}
use Rattle.sts_model.specs.Effect.{named, case_target}
use Rattle.sts_rules.specs.Flow.{Leads}
use Rattle.laws_runs.proofs.ListLemmas.{at_set}
use Rattle.std.proofs.lemmas.Bool.{or_parts, not-false}
use Rattle.laws_runs.proofs.FrameLemmas.{owns-set}
use Rattle.laws_accepted.specs.Points.{loops_of}
use Rattle.laws_accepted.specs.Typed.{closes, is_known, FitsEntry, FitsSlot}
use Rattle.laws_accepted.proofs.Flow.{GoesOn, Positive, goes_to, local_goes}
use Rattle.laws_accepted.proofs.Zips.{zips-map, zips-drop, both-set}
use Rattle.laws_accepted.proofs.Same.{Onward, entry-on, slot-on}
use Rattle.laws_accepted.proofs.Stands.{Stands, Lands, lands-forward, not_closing, onward-slots}
use Rattle.laws_accepted.proofs.LocalRows.{height-moved, lands-local}

-- ---- what a slot of a kind holds

pub kind-own : (w : World) (f : Frame) (x : Slot) (k : SlotKind) (n : ℕ) → FitsSlot w f x k → x ≡ Own n → cause.is_own k ≡ true
kind-own w f (Own m) kind_of.Own n h e = refl
kind-own w f (Own m) kind_of.Empty n h e = absurd h
kind-own w f (Own m) kind_of.Lent n h e = absurd h
kind-own w f (Own m) (kind_of.Sub y state) n h e = absurd h
kind-own w f Empty k n h e = cc
kind-own w f (Lent m) k n h e = cc
kind-own w f (Sub u) k n h e = cc

sub-owns_nothing : (k : SlotKind) → cause.is_sub k ≡ true → cause.is_own k ≡ true → ⊥
sub-owns_nothing kind_of.Own d e = cc
sub-owns_nothing _ d e = cc

pub empty-owns_nothing : (k : SlotKind) → cause.is_empty k ≡ true → cause.is_own k ≡ true → ⊥
empty-owns_nothing kind_of.Own d e = cc
empty-owns_nothing _ d e = cc

-- a write to a slot that owns nothing leaves the others
pub own-set : (xs : List Slot) (h : ℕ) (new : Slot) → ((n : ℕ) → get_or xs h Empty ≡ Own n → ⊥) → (x n : ℕ) → get_or xs x Empty ≡ Own n → get_or (set xs h new) x Empty ≡ Own n
own-set xs h new never x n = at_set (λ (y : Slot). get_or xs x Empty ≡ Own n → y ≡ Own n) xs h x new Empty (λ e q. absurd (never n (rw e at q))) (λ q. q)

-- ---- readings

pub lands-reading : (p : Program) (w : World) (f : Frame) (i : Instr) (s : TypeState) (x : ℤ) → Stands p w f i s → ((y : ℕ) → closes (Some i) y ≡ false) → Leads (follows p (routine p f.function).code f.pc i s) (f.pc + 1) (record s { height = s.height - 0 + 1 }) → Lands p w f (steps f 0 (x ∷ []))
lands-reading p w f i s x h none leads =
    record {
      function = refl;
      state = record s { height = s.height - 0 + 1 };
      reached = h.leads (f.pc + 1) (record s { height = s.height - 0 + 1 }) leads;
      fits =
          record {
            height = height-moved f.operands (x ∷ []) 0 s.height h.fits.height;
            loops = h.fits.loops;
            entries = zips-map (FitsEntry p w f) (FitsEntry p w (steps f 0 (x ∷ []))) f.entries s.entries (entry-on p w f (steps f 0 (x ∷ [])) on) h.fits.entries;
            slots = λ y. slot-on p w f (steps f 0 (x ∷ [])) on (slot f y) (kind s y) (h.fits.slots y);
            apart = h.fits.apart;
            wide = h.fits.wide;
            typed_wide = h.fits.typed_wide;
          };
    }
  where
    on : Onward p f (steps f 0 (x ∷ []))
    on = onward-slots p f (steps f 0 (x ∷ [])) refl refl (not_closing p f i h.at none)

-- ---- case

slot-known : (w : World) (f : Frame) (x : Slot) (k : SlotKind) (state : Known) → FitsSlot w f x k → is_known state (sub_state w (named x)) ≡ true → FitsSlot w f x (known_as state k)
slot-known w f (Sub u) (kind_of.Sub y before) state h is = record { scope = h.scope; own = h.own; inside = h.inside; known = is }
slot-known w f Empty (kind_of.Sub y before) state h is = absurd h
slot-known w f (Own n) (kind_of.Sub y before) state h is = absurd h
slot-known w f (Lent n) (kind_of.Sub y before) state h is = absurd h
slot-known w f x k state h is = h

lands-known : (p : Program) (w : World) (f : Frame) (i : Instr) (h to : ℕ) (state : Known) (s : TypeState) → Stands p w f i s → ((y : ℕ) → closes (Some i) y ≡ false) → is_known state (sub_state w (named (slot f h))) ≡ true → Leads (follows p (routine p f.function).code f.pc i s) to (with_known h state s) → Lands p w f (goes f to 0 [])
lands-known p w f i h to state s st none is leads =
    record {
      function = refl;
      state = with_known h state s;
      reached = st.leads to (with_known h state s) leads;
      fits =
          record {
            height = st.fits.height;
            loops = st.fits.loops;
            entries = zips-map (FitsEntry p w f) (FitsEntry p w (goes f to 0 [])) f.entries s.entries (entry-on p w f (goes f to 0 []) on) st.fits.entries;
            slots = λ y.
                at_set (λ (k : SlotKind). FitsSlot w (goes f to 0 []) (slot f y) k) s.slots h y (known_as state (kind s h)) kind_of.Empty
                (λ e. rw e (slot-known w (goes f to 0 []) (slot f h) (kind s h) state (old h) is))
                (old y);
            apart = st.fits.apart;
            wide = st.fits.wide;
            typed_wide = length-set s.slots h (known_as state (kind s h)) ∙ st.fits.typed_wide;
          };
    }
  where
    on : Onward p f (goes f to 0 [])
    on = onward-slots p f (goes f to 0 []) refl refl (not_closing p f i st.at none)

    old : (y : ℕ) → FitsSlot w (goes f to 0 []) (slot f y) (kind s y)
    old y = slot-on p w f (goes f to 0 []) on (slot f y) (kind s y) (st.fits.slots y)

pub lands-case : (p : Program) (w : World) (f : Frame) (h success failed : ℕ) (s : TypeState) → Stands p w f (Case h success failed) s → (o : Option End) → sub_state w (named (slot f h)) ≡ o → Lands p w f (goes f (case_target o success failed (f.pc + 1)) 0 [])
lands-case p w f h success failed s st None e = lands-known p w f (Case h success failed) h (f.pc + 1) known.Unknown s st (λ y. refl) refl (inl (refl, refl))
lands-case p w f h success failed s st (Some (Success v)) e = lands-known p w f (Case h success failed) h success known.Success s st (λ y. refl) (rw e refl) (inr (inl (refl, refl)))
lands-case p w f h success failed s st (Some (Failed c)) e = lands-known p w f (Case h success failed) h failed known.Failed s st (λ y. refl) (rw e refl) (inr (inr (inl (refl, refl))))

-- ---- forget

pub lands-forget : (p : Program) (w : World) (f : Frame) (h : ℕ) (s : TypeState) → Stands p w f (Forget h) s → Lands p w f (record (steps f 0 []) { slots = slice_set f.slots h Empty })
lands-forget p w f h s st =
    lands-forward p w _ _ _ (Forget h) s (record s { slots = slice_set s.slots h kind_of.Empty }) st refl refl (inl (refl, refl))
    (record {
      height = st.fits.height;
      loops = st.fits.loops;
      entries = zips-map (FitsEntry p w f) (FitsEntry p w g) f.entries s.entries (entry-on p w f g on) st.fits.entries;
      slots = λ y.
          both-set (FitsSlot w g) f.slots s.slots h y Empty Empty kind_of.Empty kind_of.Empty (st.fits.wide ∙ sym st.fits.typed_wide) tt
          (λ j. slot-on p w f g on (slot f j) (kind s j) (st.fits.slots j));
      apart = λ x y n d e. st.fits.apart x y n (owns-set f.slots h Empty (λ r q. cc) x n d) (owns-set f.slots h Empty (λ r q. cc) y n e);
      wide = length-set f.slots h Empty ∙ st.fits.wide;
      typed_wide = length-set s.slots h kind_of.Empty ∙ st.fits.typed_wide;
    })
  where
    g : Frame
    g = record (steps f 0 []) { slots = slice_set f.slots h Empty }

    never : (n : ℕ) → slot f h ≡ Own n → ⊥
    never n e =
        let sub : cause.is_sub (kind s h) ≡ true = not-false (cause.is_sub (kind s h)) (or_parts false (not (cause.is_sub (kind s h))) st.clear.slots).1 in
        sub-owns_nothing (kind s h) sub (kind-own w f (slot f h) (kind s h) n (st.fits.slots h) e)

    on : Onward p f (record (steps f 0 []) { slots = slice_set f.slots h Empty })
    on = record { function = refl; own = own-set f.slots h Empty never; still = not_closing p f (Forget h) st.at (λ y. refl) }

-- ---- all instructions that stay in the frame

pub lands-in_frame : (p : Program) (w : World) (f : Frame) (i : Instr) (s : TypeState) → Stands p w f i s → stays_in_frame i ≡ true → Lands p w f (local (code p f) i f)
lands-in_frame p w f (Forget h) s st is = lands-forget p w f h s st
lands-in_frame p w f i s st is = lands-local p w f i s st is

-- the control path goes on, too
pub in_frame_goes : (p : Program) (budgets : List Budgets) (f : Frame) (i : Instr) → stays_in_frame i ≡ true → instr_at (code p f) f.pc ≡ i → breaks_loop p f i ≡ false → Positive (loops_of f.loops) → GoesOn p budgets f (local (code p f) i f)
in_frame_goes p budgets f (Forget h) is at fine some = goes_to p budgets f (Forget h) ((f.pc + 1) ∷ []) (f.pc + 1) at refl (inl refl)
in_frame_goes p budgets f i is at fine some = local_goes p budgets f i is at fine some

-- a slot that is emptied held a subtask
pub emptied-sub : (f : Frame) (i : Instr) (h : ℕ) → has_wrong_slot f i ≡ false → emptied_slot i ≡ Some h → is_sub (slot f h) ≡ true
emptied-sub f (Forget x) h fine e = let same : x ≡ h = cc in rw (← same) (not-false (is_sub (slot f x)) (or_parts (not (is_sub (slot f x))) false fine).0)
emptied-sub f _ h fine e = cc

-- ---- bindings

pub lands-bind : (p : Program) (w : World) (f : Frame) (k : ℕ) (s : TypeState) → Stands p w f (Bind k) s → Lands p w f (record (steps f 1 []) { entries = entry.Binding k (operand f 0) ∷ f.entries })
lands-bind p w f k s st =
    let g : Frame = record (steps f 1 []) { entries = entry.Binding k (operand f 0) ∷ f.entries } in
    let x : TypeState = record (moved p (Bind k) s) { entries = typed.Binding k ∷ s.entries } in
    let on = onward-slots p f g refl refl (not_closing p f (Bind k) st.at (λ y. refl)) in
    lands-forward p w _ _ _ (Bind k) s x st refl refl (inl (refl, refl))
    (record {
      height = let n = height-moved f.operands [] 1 s.height st.fits.height in omega (arith, n);
      loops = st.fits.loops;
      entries = (refl, zips-map (FitsEntry p w f) (FitsEntry p w g) f.entries s.entries (entry-on p w f g on) st.fits.entries);
      slots = λ y. slot-on p w f g on (slot f y) (kind s y) (st.fits.slots y);
      apart = st.fits.apart;
      wide = st.fits.wide;
      typed_wide = st.fits.typed_wide;
    })

pub lands-unbind : (p : Program) (w : World) (f : Frame) (s : TypeState) → Stands p w f Unbind s → Lands p w f (record (steps f 0 []) { entries = drop 1 f.entries })
lands-unbind p w f s st =
    let g : Frame = record (steps f 0 []) { entries = drop 1 f.entries } in
    let x : TypeState = record s { entries = drop 1 s.entries } in
    let on = onward-slots p f g refl refl (not_closing p f Unbind st.at (λ y. refl)) in
    lands-forward p w _ _ _ Unbind s x st refl refl (inl (refl, refl))
    (record {
      height = st.fits.height;
      loops = st.fits.loops;
      entries = zips-drop (FitsEntry p w g) f.entries s.entries (zips-map (FitsEntry p w f) (FitsEntry p w g) f.entries s.entries (entry-on p w f g on) st.fits.entries);
      slots = λ y. slot-on p w f g on (slot f y) (kind s y) (st.fits.slots y);
      apart = st.fits.apart;
      wide = st.fits.wide;
      typed_wide = st.fits.typed_wide;
    })

pub lands-orelse : (p : Program) (w : World) (f : Frame) (k : ℕ) (s : TypeState) (x : ℤ) → Stands p w f (OrElse k) s → Lands p w f (steps f 1 (x ∷ []))
lands-orelse p w f k s x h =
    let g : Frame = steps f 1 (x ∷ []) in
    let y : TypeState = moved p (OrElse k) s in
    let on = onward-slots p f g refl refl (not_closing p f (OrElse k) h.at (λ z. refl)) in
    lands-forward p w _ _ _ (OrElse k) s y h refl refl (inl (refl, refl))
    (record {
      height = height-moved f.operands (x ∷ []) 1 s.height h.fits.height;
      loops = h.fits.loops;
      entries = zips-map (FitsEntry p w f) (FitsEntry p w g) f.entries s.entries (entry-on p w f g on) h.fits.entries;
      slots = λ z. slot-on p w f g on (slot f z) (kind s z) (h.fits.slots z);
      apart = h.fits.apart;
      wide = h.fits.wide;
      typed_wide = h.fits.typed_wide;
    })
