-- The places after `open` and `fork`, and how a task begins.
use Rattle.std.proofs.Common.{◌≡◌, ℕ, zero, suc, ◌+◌, ◌<◌, ◌⊎◌, inl, inr, List, [], ◌∷◌, length, replicate, Bool, true, false, Option, Some, None, refl, sym}
use Rattle.std.proofs.Common.{◌∙◌, not, arith, get_or, set, length-set, get_or-set_same, subst, ◌||◌}
use Rattle.std.specs.Prelude.{ℤ, slice_set, ◌==◌}
use Rattle.std.specs.List.{list_any}
use Rattle.std.proofs.Math.Seq.{get_or-append_seam}
use Rattle.std.proofs.lemmas.Bool.Decides.{nat_tests}
use Rattle.std.proofs.lemmas.Bool.{not-false}
use Rattle.sts_code.specs.Program.{Program, routine}
use Rattle.sts_code.specs.declared.instr.Instr.TheVariants.{Open, Fork}
use Rattle.sts_code.specs.declared.instr.Joiner.{Joiner}
use Rattle.sts_model.specs.declared.record.Entry.{Entry}
use Rattle.sts_model.specs.declared.record.Entry.TheVariants as entry
use Rattle.sts_model.specs.declared.record.Frame.{Frame}
use Rattle.sts_model.specs.declared.record.Slot.{Slot}
use Rattle.sts_model.specs.declared.record.Slot.TheVariants.{Empty, Own, Sub}
use Rattle.sts_rules.specs.declared.typing.Known.TheVariants as known
use Rattle.sts_budget.proofs.TypedLemmas.{slot_loops}
use Rattle.sts_rules.specs.declared.typing.SlotKind.{SlotKind}
use Rattle.sts_rules.specs.declared.typing.SlotKind.TheVariants as kind_of
use Rattle.sts_rules.specs.declared.typing.TypedEntry.{TypedEntry}
use Rattle.sts_rules.specs.declared.typing.TypedEntry.TheVariants as typed
use Rattle.sts_rules.specs.declared.typing.TypedPhase.TheVariants.{Opened}
use Rattle.sts_rules.specs.declared.typing.TypedScope.{TypedScope}
use Rattle.sts_model.specs.World.{World, task_at, scope_at, no_scope, entry_frame}
use Rattle.sts_model.specs.Environment.{environment_of}
use Rattle.sts_model.specs.Misuse.{slot}
use Rattle.sts_rules.specs.TypeState as state
use Rattle.sts_rules.specs.TypeState.{TypeState, kind, first_slot}
use Rattle.sts_rules.specs.Causes as cause
use Rattle.sts_rules.specs.Edges as edges
use Rattle.sts_model.specs.Effect.{forked, with_slot}
use Rattle.laws_runs.proofs.ListLemmas.{at_set}
use Rattle.laws_runs.proofs.FrameLemmas.{owns-with_slot}
use Rattle.laws_runs.proofs.BirthLemmas.{more_scopes, new_scope, opener, new-owns_nothing}
use Rattle.laws_accepted.specs.Typed.{FitsOpen, FitsEntry, FitsSlot, Fits, Zips, Covers}
use Rattle.laws_accepted.proofs.Zips.{zips-map, both-set}
use Rattle.laws_accepted.proofs.Same.{Same, Onward, entry-on, slot-on, fits-same}
use Rattle.laws_accepted.proofs.Stands.{Stands, Lands, lands-forward, not_closing}
use Rattle.laws_accepted.proofs.LocalRows.{height-moved}
use Rattle.laws_accepted.proofs.FrameRows.{kind-own, empty-owns_nothing, own-set}

-- a slot that is to be filled owns nothing
free-owns_nothing : (w : World) (f : Frame) (s : TypeState) (x : ℕ) (slots : (y : ℕ) → FitsSlot w f (slot f y) (kind s y)) → cause.is_empty (kind s x) ≡ true → (n : ℕ) → slot f x ≡ Own n → ⊥
free-owns_nothing w f s x slots free n e = empty-owns_nothing (kind s x) free (kind-own w f (slot f x) (kind s x) n (slots x) e)

-- ---- open

-- if a slot owns nothing, no entry is a scope of that slot
not-entered : (p : Program) (w : World) (f : Frame) (es : List Entry) (rs : List TypedEntry) (x : ℕ) → Zips (FitsEntry p w f) es rs → ((n : ℕ) → slot f x ≡ Own n → ⊥) → list_any (cause.is_scope_in x) rs ≡ false
not-entered p w f [] [] x z never = refl
not-entered p w f (entry.Binding j v ∷ es) (typed.Binding i ∷ rs) x z never = not-entered p w f es rs x z.1 never
not-entered p w f (entry.Scope m ∷ es) (typed.Scope r ∷ rs) x z never = by (r.slot == x) refl (not-entered p w f es rs x z.1 never)
  where
    by : (b : Bool) → (r.slot == x) ≡ b → list_any (cause.is_scope_in x) rs ≡ false → (b || list_any (cause.is_scope_in x) rs) ≡ false
    by true e next = let same : r.slot ≡ x = grind (arith, nat_tests) in absurd (never m (rw (← same) z.0.own))
    by false e next = next
not-entered p w f [] (r ∷ rs) x z never = absurd z
not-entered p w f (e ∷ es) [] x z never = absurd z
not-entered p w f (entry.Binding j v ∷ es) (typed.Scope r ∷ rs) x z never = absurd z.0
not-entered p w f (entry.Scope m ∷ es) (typed.Binding i ∷ rs) x z never = absurd z.0

-- a scope that is owned after a write is the written one, or was owned before
owned-set : (xs : List Slot) (x m y n : ℕ) → get_or (set xs x (Own m)) y Empty ≡ Own n → ((y ≡ x) × (m ≡ n)) ⊎ (get_or xs y Empty ≡ Own n)
owned-set xs x m y n = at_set (λ (q : Slot). q ≡ Own n → ((y ≡ x) × (m ≡ n)) ⊎ (get_or xs y Empty ≡ Own n)) xs x y (Own m) Empty (λ e q. inl (e, cc)) (λ q. inr q)

apart-set : (xs : List Slot) (x m : ℕ) → ((y z n : ℕ) → get_or xs y Empty ≡ Own n → get_or xs z Empty ≡ Own n → y ≡ z) → ((y n : ℕ) → get_or xs y Empty ≡ Own n → n < m) → (y z n : ℕ) → get_or (set xs x (Own m)) y Empty ≡ Own n → get_or (set xs x (Own m)) z Empty ≡ Own n → y ≡ z
apart-set xs x m old below y z n d e = by (owned-set xs x m y n d) (owned-set xs x m z n e)
  where
    by : ((y ≡ x) × (m ≡ n)) ⊎ (get_or xs y Empty ≡ Own n) → ((z ≡ x) × (m ≡ n)) ⊎ (get_or xs z Empty ≡ Own n) → y ≡ z
    by (inl a) (inl b) = a.0 ∙ sym b.0
    by (inl a) (inr b) = let h = below z n b in let k = a.1 in absurd (omega (arith, h, k))
    by (inr a) (inl b) = let h = below y n a in let k = b.1 in absurd (omega (arith, h, k))
    by (inr a) (inr b) = old y z n a b

pub lands-open : (p : Program) (w : World) (t x : ℕ) (joiner : Joiner) (timed : Bool) (s : TypeState) → Stands p w (task_at w t).frame (Open x timed joiner) s → Same w (more_scopes w (new_scope w t joiner timed)) (task_at w t).frame → Covers p (task_at w t).frame.function s.entries (environment_of (task_at w t) w) → x < 16 → ((y n : ℕ) → slot (task_at w t).frame y ≡ Own n → n < length w.scopes) → Lands p (more_scopes w (new_scope w t joiner timed)) (task_at w t).frame (opener w (task_at w t).frame x)
lands-open p w t x joiner timed s st same covers less below =
    lands-forward p w _ _ _ (Open x timed joiner) s after st refl refl (inl (refl, refl))
    (record {
      height = st.fits.height;
      loops = st.fits.loops;
      entries = (opened, zips-map (FitsEntry p m f) (FitsEntry p m g) f.entries s.entries (entry-on p m f g on) old.entries);
      slots = λ y.
          both-set (FitsSlot m g) f.slots s.slots x y (Own (length w.scopes)) Empty kind_of.Own kind_of.Empty (st.fits.wide ∙ sym st.fits.typed_wide) tt
          (λ j. slot-on p m f g on (slot f j) (kind s j) (old.slots j));
      apart = apart-set f.slots x (length w.scopes) st.fits.apart below;
      wide = length-set f.slots x (Own (length w.scopes)) ∙ st.fits.wide;
      typed_wide = length-set s.slots x kind_of.Own ∙ st.fits.typed_wide;
    })
  where
    f : Frame
    f = (task_at w t).frame

    g : Frame
    g = opener w (task_at w t).frame x

    m : World
    m = more_scopes w (new_scope w t joiner timed)

    r : TypedScope
    r = record { slot = x; joiner = joiner; timed = timed; phase = Opened }

    after : TypeState
    after = record s { entries = typed.Scope (record { slot = x; joiner = joiner; timed = timed; phase = Opened }) ∷ s.entries; slots = slice_set s.slots x kind_of.Own }

    old : Fits p (more_scopes w (new_scope w t joiner timed)) (task_at w t).frame s
    old = fits-same p w (more_scopes w (new_scope w t joiner timed)) (task_at w t).frame s same st.fits

    never : (n : ℕ) → slot (task_at w t).frame x ≡ Own n → ⊥
    never = free-owns_nothing w (task_at w t).frame s x st.fits.slots (not-false (cause.is_empty (kind s x)) st.clear.free)

    on : Onward p (task_at w t).frame (opener w (task_at w t).frame x)
    on = record { function = refl; own = own-set (task_at w t).frame.slots x (Own (length w.scopes)) never; still = not_closing p (task_at w t).frame (Open x timed joiner) st.at (λ y. refl) }

    now : scope_at (more_scopes w (new_scope w t joiner timed)) (length w.scopes) ≡ new_scope w t joiner timed
    now = get_or-append_seam w.scopes (new_scope w t joiner timed) [] no_scope

    opened : FitsOpen p (more_scopes w (new_scope w t joiner timed)) (opener w (task_at w t).frame x) (length w.scopes) (record { slot = x; joiner = joiner; timed = timed; phase = Opened }) s.entries
    opened =
        record {
          own = get_or-set_same (task_at w t).frame.slots x (Own (length w.scopes)) Empty (rw (st.fits.wide) less);
          scope = rw now (record { joiner = refl; timed = refl; phase = refl });
          covers = rw now covers;
          single = not-entered p w (task_at w t).frame (task_at w t).frame.entries s.entries x st.fits.entries never;
        }

-- ---- fork, of the forker

filled : (w : World) (f g : Frame) (xs : List Slot) (ks : List SlotKind) (h : Option ℕ) (x n u : ℕ) → length xs ≡ length ks → ((y : ℕ) → FitsSlot w g (get_or xs y Empty) (get_or ks y kind_of.Empty)) → slot g x ≡ Own n → (task_at w u).scope ≡ Some n → (s : TypeState) → s.slots ≡ ks → (y : ℕ) → FitsSlot w g (get_or (with_slot xs h (Sub u)) y Empty) (kind (edges.with_slot h (kind_of.Sub x known.Unknown) s) y)
filled w f g xs ks None x n u same old own inside s is y = rw is (old y)
filled w f g xs ks (Some h) x n u same old own inside s is y =
    rw is
    (both-set (FitsSlot w g) xs ks h y (Sub u) Empty (kind_of.Sub x known.Unknown) kind_of.Empty same (record { scope = n; own = own; inside = inside; known = refl }) old)

length-slot : (xs : List Slot) (h : Option ℕ) (x : Slot) → length (with_slot xs h x) ≡ length xs
length-slot xs None x = refl
length-slot xs (Some h) x = length-set xs h x

length-kind : (s : TypeState) (h : Option ℕ) (k : SlotKind) → length (edges.with_slot h k s).slots ≡ length s.slots
length-kind s None k = refl
length-kind s (Some h) k = length-set s.slots h k

-- what else the typestate says stays
height-slot : (s : TypeState) (h : Option ℕ) (k : SlotKind) → (edges.with_slot h k s).height ≡ s.height
height-slot s None k = refl
height-slot s (Some h) k = refl

entries-slot : (s : TypeState) (h : Option ℕ) (k : SlotKind) → (edges.with_slot h k s).entries ≡ s.entries
entries-slot s None k = refl
entries-slot s (Some h) k = refl

own-with_slot : (xs : List Slot) (h : Option ℕ) (new : Slot) → ((y : ℕ) → h ≡ Some y → (n : ℕ) → get_or xs y Empty ≡ Own n → ⊥) → (x n : ℕ) → get_or xs x Empty ≡ Own n → get_or (with_slot xs h new) x Empty ≡ Own n
own-with_slot xs None new never x n e = e
own-with_slot xs (Some h) new never x n e = own-set xs h new (never h refl) x n e

pub lands-fork : (p : Program) (w m : World) (f : Frame) (x a n u : ℕ) (h : Option ℕ) (s : TypeState) → Stands p w f (Fork x a h) s → Same w m f → slot f x ≡ Own n → (task_at m u).scope ≡ Some n → Lands p m f (forked f (routine p a).args h u)
lands-fork p w m f x a n u h s st same own inside =
    record {
      function = refl;
      state = edges.with_slot h (kind_of.Sub x known.Unknown) (edges.moved p (Fork x a h) s);
      reached = st.leads (f.pc + 1) (edges.with_slot h (kind_of.Sub x known.Unknown) (edges.moved p (Fork x a h) s)) (inl (refl, refl));
      fits =
          record {
            height = height-moved f.operands [] (routine p a).args s.height st.fits.height ∙ sym (height-slot (edges.moved p (Fork x a h) s) h (kind_of.Sub x known.Unknown));
            loops = rw (slot_loops h (kind_of.Sub x known.Unknown) (edges.moved p (Fork x a h) s)) st.fits.loops;
            entries =
                subst (λ (rs : List TypedEntry). Zips (FitsEntry p m g) f.entries rs) (sym (entries-slot (edges.moved p (Fork x a h) s) h (kind_of.Sub x known.Unknown)))
                (zips-map (FitsEntry p m f) (FitsEntry p m g) f.entries s.entries (entry-on p m f g on) old.entries);
            slots = filled m f g f.slots s.slots h x n u (st.fits.wide ∙ sym st.fits.typed_wide) (λ j. slot-on p m f g on (slot f j) (kind s j) (old.slots j)) (on.own x n own) inside (edges.moved p (Fork x a h) s) refl;
            apart = λ y z r d e. st.fits.apart y z r (owns-with_slot f.slots h u y r d) (owns-with_slot f.slots h u z r e);
            wide = length-slot f.slots h (Sub u) ∙ st.fits.wide;
            typed_wide = length-kind (edges.moved p (Fork x a h) s) h (kind_of.Sub x known.Unknown) ∙ st.fits.typed_wide;
          };
    }
  where
    g : Frame
    g = forked f (routine p a).args h u

    old : Fits p m f s
    old = fits-same p w m f s same st.fits

    free : (o : Option ℕ) → cause.at_slot s o (λ k. not (cause.is_empty k)) ≡ false → (y : ℕ) → o ≡ Some y → cause.is_empty (kind s y) ≡ true
    free None e y d = cc
    free (Some z) e y d = let i : z ≡ y = cc in rw (← i) (not-false (cause.is_empty (kind s z)) e)

    on : Onward p f (forked f (routine p a).args h u)
    on =
        record {
          function = refl;
          own = own-with_slot f.slots h (Sub u) (λ y e r. free-owns_nothing w f s y st.fits.slots (free h st.clear.free y e) r);
          still = not_closing p f (Fork x a h) st.at (λ y. refl);
        }

-- ---- the beginning of a task

fits-empties : (w : World) (f : Frame) (n x : ℕ) → FitsSlot w f (get_or (replicate n Empty) x Empty) (get_or (replicate n kind_of.Empty) x kind_of.Empty)
fits-empties w f zero x = tt
fits-empties w f (suc n) zero = tt
fits-empties w f (suc n) (suc x) = fits-empties w f n x

begins-slot : (p : Program) (w : World) (f : Frame) (g : ℕ) (x : Slot) → FitsSlot w f x (first_slot p g) → (y : ℕ) → FitsSlot w f (get_or (x ∷ replicate 15 Empty) y Empty) (kind (state.entry p g) y)
begins-slot p w f g x first zero = first
begins-slot p w f g x first (suc y) = fits-empties w f 15 y

pub fits-beginning : (p : Program) (w : World) (g : ℕ) (args : List ℤ) (x : Slot) → FitsSlot w (entry_frame g args x) x (first_slot p g) → ((r : ℕ) → x ≡ Own r → ⊥) → Fits p w (entry_frame g args x) (state.entry p g)
fits-beginning p w g args x first never =
    record {
      height = refl;
      loops = refl;
      entries = tt;
      slots = begins-slot p w (entry_frame g args x) g x first;
      apart = λ y z n e d. absurd (new-owns_nothing g args x never y n e);
      wide = refl;
      typed_wide = refl;
    }
