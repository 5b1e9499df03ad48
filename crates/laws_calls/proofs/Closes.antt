-- A scope is closed.
use Rattle.std.proofs.Common.{◌≡◌, ℕ, ◌<◌, inr, List, [], ◌∷◌, Bool, true, false, Some, refl, sym, ◌∙◌, ap, subst, length, arith, cond, nat_eq, drop, not}
use Rattle.std.specs.Prelude.{◌==◌, slice_get}
use Rattle.std.proofs.lemmas.Bool.Decides.{nat_tests}
use Rattle.sts_code.specs.Program.{Program}
use Rattle.sts_code.specs.declared.instr.Instr.TheVariants.{Close}
use Rattle.sts_model.specs.declared.event.Phase.TheVariants.{Closing, Closed}
use Rattle.sts_model.specs.declared.record.Entry.{Entry}
use Rattle.sts_model.specs.declared.record.Entry.TheVariants as entry
use Rattle.sts_model.specs.declared.record.Frame.{Frame}
use Rattle.sts_model.specs.declared.record.Scope.{Scope}
use Rattle.sts_model.specs.declared.record.Slot.{Slot}
use Rattle.sts_model.specs.declared.record.Slot.TheVariants as slots
use Rattle.sts_model.specs.World.{World, task_at, scope_at}
use Rattle.sts_model.specs.Local.{steps}
use Rattle.sts_model.specs.Living.{lives, is_in, any_lives}
use Rattle.sts_model.specs.Cancelling.{cancel}
use Rattle.sts_model.specs.Misuse.{slot, innermost, is_entry_of}
use Rattle.sts_model.specs.Effect.{named, with_phase, cleared, is_of, close_scope}
use Rattle.sts_model.specs.Effect as effects
use Rattle.laws_runs.specs.Runs.{Does}
use Rattle.laws_runs.proofs.EffectLemmas.{first_no}
use Rattle.laws_runs.proofs.EffectLemmas as effect_lemmas
use Rattle.laws_runs.proofs.StillLemmas.{still-cancel}
use Rattle.laws_runs.proofs.SoundLemmas.{alive_before}
use Rattle.laws_runs.proofs.EventLemmas.{Next}
use Rattle.laws_runs.proofs.FrameLemmas.{own_slot, at_own-is}
use Rattle.laws_runs.proofs.BirthLemmas.{born_alive}
use Rattle.laws_calls.specs.Outside.{Outside}
use Rattle.laws_calls.specs.Held.{Held}
use Rattle.laws_calls.specs.Held as held
use Rattle.laws_calls.specs.Tasks.{Among, AllTwo, Seen, Own, Knowledge, Unseen, ByJoiner, Heard, bare, births_in, Late}
use Rattle.laws_calls.specs.Steps.{Row, Table, IsTable, closed, clear, close_step}
use Rattle.laws_calls.specs.Covers.{subs, PartFits, ScopeFits, SeenFits, HeldFits, TaskFits, IsRight, Covers, alive_in}
use Rattle.laws_calls.proofs.Lists.{all_map, all_mapped, all_tail, all_length, Apart, is_first, get_among, no}
use Rattle.laws_calls.proofs.Turns.{Facts, FlagsHaveCause, seen_same, held_same, apart_births, listed_inside}
use Rattle.laws_calls.proofs.Moves.{GoesOn, goes_by, covers_turned, turned_subs}
use Rattle.laws_calls.proofs.Phases.{Rescoped, rescoped_close, rescoped_frame}
use Rattle.laws_calls.proofs.Frames.{blank_drop}
use Rattle.laws_calls.proofs.Early.{order_same}
use Rattle.laws_calls.proofs.Possible.{are_possible}
use Rattle.laws_calls.proofs.Alone.{instr_of}

-- the innermost entry is that of the scope
entries_first : (es : List Entry) (s : ℕ) → not (innermost (is_entry_of s) es) ≡ false → es ≡ entry.Scope s ∷ drop 1 es
entries_first [] s e = cc
entries_first (entry.Binding k v ∷ es) s e = cc
entries_first (entry.Scope r ∷ es) s e = by (r == s) refl e
  where
    by : (b : Bool) → (r == s) ≡ b → not b ≡ false → entry.Scope r ∷ es ≡ entry.Scope s ∷ es
    by true d k = let same : r ≡ s = grind (arith, nat_tests) in ap (λ i. entry.Scope i ∷ es) same
    by false d k = cc

module _ (p : Program) (outside : Outside) (t : Table) (root : Row) (is : IsTable p outside t root) (w : World) (h : Facts w) (u x : ℕ) (d : Does p w u (Close x)) where
  abbrev f : Frame
  f = (task_at w u).frame

  abbrev s : ℕ
  s = named (slot f x)

  abbrev rest : List ℕ
  rest = births_in (drop 1 f.entries)

  mine : slot f x ≡ slots.Own s
  mine = own_slot (slot f x) (first_no _ _ (first_no _ _ d.fine.slots)) d.fine.own

  order : not (innermost (is_entry_of s) f.entries) ≡ false
  order = sym (at_own-is w (slot f x) (λ n scope. not (innermost (is_entry_of n) f.entries)) mine) ∙ d.fine.structure

  born_s : s < length w.scopes
  born_s = (h.right.sound.own u x s mine).born

  owner : (scope_at w s).owner ≡ u
  owner = (h.right.sound.own u x s mine).owner

  opened : births_in f.entries ≡ s ∷ rest
  opened = ap births_in (entries_first f.entries s order)

  apart : Apart (s ∷ rest)
  apart = subst Apart opened (apart_births f.entries (λ r has. (h.entered u r d.alive has).once))

  -- ---- a step that waits

  abbrev waits : World
  waits = with_phase (cancel w s) s Closing

  abbrev leaving : Scope
  leaving = record (scope_at w s) { cancelled = true; phase = Closing }

  waiting : Rescoped w waits u s f leaving
  waiting = rescoped_close w u s born_s owner Closing

  -- a scope all of whose subtasks have ended doesn't wait
  never_heard : any_lives (cancel w s) s ≡ true → IsRight Heard (scope_at w s) → ⊥
  never_heard some r =
      let one = effect_lemmas.alive_in (cancel w s) s some in
      let k = still-cancel w s in
      let inside : (task_at w one.0).scope ≡ Some s = sym (k.kept.task one.0).same.scope ∙ one.1 in
      let alive : lives (task_at w one.0) ≡ true = alive_before w (cancel w s) one.0 k.kept one.2 in
      let dead = h.settled s one.0 r.1 r.0 inside in
      no (sym alive ∙ dead)

  still_right : any_lives (cancel w s) s ≡ true → (q : Knowledge) → IsRight q (scope_at w s) → IsRight q leaving
  still_right some Unseen r = tt
  still_right some ByJoiner r = refl
  still_right some Late r = (refl, r.1)
  still_right some Heard r = absurd (never_heard some r)

  waiting_seen : any_lives (cancel w s) s ≡ true → (rows : ℕ → Row) (y : Seen) → SeenFits rows w s y → SeenFits rows waits s y
  waiting_seen some rows y k =
      subst (λ (z : Scope). ScopeFits rows (alive_in waits) z (subs waits s) y) (sym waiting.here)
      (subst (λ us. ScopeFits rows (alive_in waits) leaving us y) (sym (turned_subs waiting.turned s))
      (record {
        joiner = k.joiner;
        timed = k.timed;
        environment = k.environment;
        phase = inr refl;
        known = still_right some y.knowledge k.known;
        on_time = k.on_time;
        counts = k.counts;
        asked = k.asked;
        order = λ e. order_same y.has_failure (scope_at w s) leaving (subs w s) y.parts refl (k.order e);
        parts = all_map (PartFits rows (alive_in w) (scope_at w s)) (PartFits rows (alive_in waits) leaving) (subs w s) y.parts
            (λ i part at e. record { may = e.may; whole = λ alive free. absurd (no free) }) k.parts;
      }))

  waits_on : any_lives (cancel w s) s ≡ true → Next w waits → (rows : ℕ → Row) (own : Own) → TaskFits outside rows w u own → GoesOn rows waits u f own 0
  waits_on some nx rows own k =
      record {
        own = own;
        less = omega arith;
        there = k.there;
        fits = record {
          frame = k.fits.frame;
          held = all_map (HeldFits w (births_in f.entries)) (HeldFits waits (births_in f.entries)) f.slots own.held
              (λ a b at e. held_same w waits h nx (births_in f.entries) (λ r i c at2 e2. subst (λ us. slice_get us i ≡ Some c) (sym (turned_subs waiting.turned r)) e2) a b e) k.fits.held;
          scopes = all_map (SeenFits rows w) (SeenFits rows waits) (births_in f.entries) own.scopes (λ r y at e. each r y e (nat_eq r s) refl) k.fits.scopes;
        };
      }
    where
      each : (r : ℕ) (y : Seen) → SeenFits rows w r y → (b : Bool) → nat_eq r s ≡ b → SeenFits rows waits r y
      each r y e true is2 = let same : r ≡ s = grind (arith, nat_tests) in subst (λ i. SeenFits rows waits i y) (sym same) (waiting_seen some rows y (subst (λ i. SeenFits rows w i y) same e))
      each r y e false is2 =
          let other : r ≡ s → ⊥ = grind (arith, nat_tests) in
          seen_same w waits h nx rows rows r y (waiting.others r other) (turned_subs waiting.turned r) (λ i less. refl) e

  -- ---- the last step

  abbrev g : Frame
  g = record (steps f 0 []) { entries = drop 1 f.entries; slots = cleared (cancel w s) s f.slots }

  abbrev shut : World
  shut = effects.closed (cancel w s) u f s

  shutting : Rescoped w shut u s g (record (scope_at w s) { cancelled = true; phase = Closed })
  shutting = rescoped_frame w (with_phase (cancel w s) s Closed) u s f g (record (scope_at w s) { cancelled = true; phase = Closed }) (born_alive w u d.alive) (rescoped_close w u s born_s owner Closed)

  both_clear : (a : Slot) (b : Held) (i j : Bool) → i ≡ j → (i ≡ false → HeldFits shut rest a b) → HeldFits shut rest (cond i slots.Empty a) (cond j held.Empty b)
  both_clear a b true true e k = tt
  both_clear a b false false e k = k refl
  both_clear a b true false e k = cc
  both_clear a b false true e k = cc

  -- the slots of that place are those that are cleared
  clears : (m : ℕ) → length rest ≡ m → (a : Slot) (b : Held) → HeldFits w (s ∷ rest) a b → HeldFits shut rest (cond (is_of (cancel w s) s a) slots.Empty a) (clear m b)
  clears m long slots.Empty held.Empty e = tt
  clears m long (slots.Own r) (held.Own place) e =
      let k = is_first s rest place r apart e in
      both_clear (slots.Own r) (held.Own place) (r == s) (place == m) (k.same ∙ ap (λ i. place == i) long) (λ other. k.later other)
  clears m long (slots.Lent r) held.Lent e = tt
  clears m long (slots.Sub c) (held.Sub place i) e =
      let r : ℕ = e.0 in
      let k = is_first s rest place r apart e.1.0 in
      let inside : (task_at w c).scope ≡ Some r = listed_inside w r c (get_among (subs w r) i c e.1.1) in
      let scope : is_in s (task_at (cancel w s) c).scope ≡ (r == s) = ap (is_in s) (((still-cancel w s).kept.task c).same.scope ∙ inside) in
      both_clear (slots.Sub c) (held.Sub place i) (is_in s (task_at (cancel w s) c).scope) (place == m) (scope ∙ k.same ∙ ap (λ j. place == j) long)
      (λ other. (r, (k.later (sym scope ∙ other), subst (λ us. slice_get us i ≡ Some c) (sym (turned_subs shutting.turned r)) e.1.1)))
  clears m long a b e = absurd e

  shuts : Next w shut → (c : Covers p outside t root w) (own : Own) → TaskFits outside c.rows w u own → GoesOn c.rows shut u g own 0
  shuts nx c own k =
      let scopes : AllTwo (SeenFits c.rows w) (s ∷ rest) own.scopes = subst (λ bs. AllTwo (SeenFits c.rows w) bs own.scopes) opened k.fits.scopes in
      let tail : AllTwo (SeenFits c.rows w) rest (drop 1 own.scopes) = all_tail (SeenFits c.rows w) s rest own.scopes scopes in
      let slots_w : AllTwo (HeldFits w (s ∷ rest)) f.slots own.held = subst (λ bs. AllTwo (HeldFits w bs) f.slots own.held) opened k.fits.held in
      let m : ℕ = length (drop 1 own.scopes) in
      let scopes_after : AllTwo (SeenFits c.rows shut) rest (drop 1 own.scopes) =
      all_map (SeenFits c.rows w) (SeenFits c.rows shut) rest (drop 1 own.scopes)
      (λ r y at e. seen_same w shut h nx c.rows c.rows r y (shutting.others r (λ same. apart.0 (subst (λ i. Among rest i) same at))) (turned_subs shutting.turned r) (λ i less. refl) e) tail
      in
      goes_by c.rows shut u g own (closed own) 0 0 (omega arith) refl
      (is.closed (c.rows u) own (closed own) (Close x) (c.listed u) k.there (instr_of p f own (Close x) k.fits.frame d.at) close_step)
      (are_possible c.rows shut nx.right rest (drop 1 own.scopes) scopes_after)
      (record {
        frame = ap (λ es. record (steps (bare f) 0 []) { entries = es }) (blank_drop f.entries) ∙ ap (λ (z : Frame). record (steps z 0 []) { entries = drop 1 z.entries }) k.fits.frame;
        held = all_mapped (HeldFits w (s ∷ rest)) (HeldFits shut rest) (λ a. cond (is_of (cancel w s) s a) slots.Empty a) (clear m) f.slots own.held
            (clears m (all_length (SeenFits c.rows w) rest (drop 1 own.scopes) tail)) slots_w;
        scopes = scopes_after;
      })

  -- ---- either

  pub close_covered : (c : Covers p outside t root w) → Next w (close_scope w u f s) → FlagsHaveCause outside w (close_scope w u f s) → Covers p outside t root (close_scope w u f s)
  unfolding close_scope
  close_covered c nx flags = by (any_lives (cancel w s) s) refl nx flags
    where
      by : (b : Bool) → any_lives (cancel w s) s ≡ b → Next w (cond b waits shut) → FlagsHaveCause outside w (cond b waits shut) → Covers p outside t root (cond b waits shut)
      by true some n2 flags2 = covers_turned p outside t root w waits h n2 flags2 c u f 0 0 waiting.turned (λ wide. refl) d.alive (λ owed own k. waits_on some n2 c.rows own k)
      by false none n2 flags2 = covers_turned p outside t root w shut h n2 flags2 c u g 0 0 shutting.turned (λ wide. refl) d.alive (λ owed own k. shuts n2 c own k)
