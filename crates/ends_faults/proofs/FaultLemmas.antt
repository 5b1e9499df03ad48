-- A task in a safe state takes no step that is a fault.
use Rattle.std.proofs.Common.{◌≡◌, ℕ, ◌⊎◌, inl, inr, List, [], ◌∷◌, ◌++◌, Bool, true, false, Option, Some, None}
use Rattle.std.proofs.Common.{refl, sym, ◌∙◌, ap, subst, length, arith, cond, not, map, ◌||◌, ◌&&◌, get_or}
use Rattle.std.specs.Prelude.{◌==◌, filter_map, nat_lt, nat_le, is_some, is_none, slice_get}
use Rattle.std.proofs.lemmas.Bool.{and_parts, and_from, not_from_true, or_from}
use Rattle.std.proofs.lemmas.Bool.Decides.{nat_tests}
use Rattle.std.proofs.lemmas.Option.{same_Some}
use Rattle.sts_code.specs.Program.{Program}
use Rattle.sts_code.specs.declared.instr.Instr.{Instr}
use Rattle.sts_code.specs.declared.instr.Instr.TheVariants.{Open, Fork, Join, Close, Cancelled, Case, Get, Except, Tally, Total, Bind, Unbind, Read, Ret, Fail}
use Rattle.sts_code.specs.declared.instr.Instr.TheVariants.{Times, Next}
use Rattle.sts_code.specs.declared.limits.TheConstants.{MAX_ENTRIES}
use Rattle.sts_code.specs.Facts.{can_fail, is_await_all, is_two, same}
use Rattle.sts_model.specs.declared.event.End.{End}
use Rattle.sts_model.specs.declared.event.Phase.TheVariants.{Closing}
use Rattle.sts_model.specs.declared.record.Entry.{Entry}
use Rattle.sts_model.specs.declared.record.Entry.TheVariants as entry
use Rattle.sts_model.specs.declared.record.Frame.{Frame}
use Rattle.sts_model.specs.declared.record.Scope.{Scope}
use Rattle.sts_model.specs.declared.record.Slot.{Slot}
use Rattle.sts_model.specs.declared.record.Slot.TheVariants as slots
use Rattle.sts_model.specs.Local.{emptied_slot}
use Rattle.sts_model.specs.World.{World, State, Running, Faulted, task_at, scope_at, instr_at}
use Rattle.sts_model.specs.Living.{ends, completion_of, parent, scope_of, sub_state, subtask_count}
use Rattle.sts_model.specs.Environment.{environment_of, bound_of, read}
use Rattle.sts_model.specs.Misuse as misuse
use Rattle.sts_model.specs.Misuse.{slot, IsFine, fault_at, is_joined, has_succeeded, has_failed}
use Rattle.sts_model.specs.Run.{after}
use Rattle.laws_runs.specs.Runs.{In}
use Rattle.laws_runs.specs.Scopes.{HasCause, IsEntered}
use Rattle.laws_calls.specs.declared.table.Held.{Held}
use Rattle.laws_calls.specs.Tasks.{at_place, blank, bare, births_in, bindings, held_at}
use Rattle.laws_calls.specs.declared.table.Call.{Call}
use Rattle.laws_calls.specs.declared.table.Own.{Own}
use Rattle.laws_calls.specs.declared.table.Seen.{Seen}
use Rattle.laws_calls.specs.declared.table.Part.{Part}
use Rattle.laws_calls.specs.declared.table.Row.{Row}
use Rattle.laws_calls.specs.declared.table.Knowledge.{Knowledge}
use Rattle.laws_calls.specs.declared.table.Knowledge.TheVariants.{Unseen, ByJoiner, Late, Heard}
use Rattle.laws_calls.specs.Fitting.{MayCount}
use Rattle.laws_calls.specs.Steps.{Owns, Knows}
use Rattle.laws_calls.specs.Triggers.{triggers}
use Rattle.laws_calls.specs.Covers.{subs, PartFits, SeenFits, HeldFits, IsRight, alive_in}
use Rattle.laws_calls.proofs.FittingLemmas.{Facts, all_place, all_length, at_among, get_among, births_has, listed_inside, held_slot}
use Rattle.laws_calls.proofs.FittingLemmas.{states_in, subs_count, pick_fits, never_unseen, blank_bounds, facts_after, no}
use Rattle.ends_faults.specs.Closing.{ClosesAreWaitedFor}
use Rattle.ends_faults.specs.Safe as safe
use Rattle.ends_faults.specs.Safe.{KnowsOne, CanRead, IsAllowed, IsSafe}
use Rattle.ends_faults.specs.Faults.{lacks_births, HasPlace, IsIn, SafeIsFine}
use Rattle.ends_faults.proofs.HeldLemmas.{empty_slot, scope_slot, sub_slot, own_held, sub_held, get_map}
use Rattle.ends_faults.proofs.ClosingLemmas.{is_close, closing_is_at_close}
use Rattle.sts_model.proofs.FineLemmas.{fine_no_fault}

-- ---- small tests

-- ---- the structure list

-- the births of a frame are as many as those of the bare one
count_blank : (es : List Entry) → length (births_in (map blank es)) ≡ length (births_in es)
count_blank [] = refl
count_blank (entry.Scope s ∷ es) = let rest = count_blank es in omega (arith, rest)
count_blank (entry.Binding k v ∷ es) = count_blank es

length_blank : (es : List Entry) → length (map blank es) ≡ length es
length_blank [] = refl
length_blank (e ∷ es) = let rest = length_blank es in omega (arith, rest)

none_blank : (es : List Entry) → map blank es ≡ [] → es ≡ []
none_blank [] e = refl
none_blank (x ∷ es) e = cc

innermost_blank : (es : List Entry) → misuse.innermost misuse.is_binding (map blank es) ≡ misuse.innermost misuse.is_binding es
innermost_blank [] = refl
innermost_blank (entry.Scope s ∷ es) = refl
innermost_blank (entry.Binding k v ∷ es) = refl

-- the innermost entry is that of the scope at the last place
innermost_is : (es : List Entry) (place s : ℕ) → safe.is_innermost place (map blank es) ≡ true → at_place (births_in es) place ≡ Some s → misuse.innermost (misuse.is_entry_of s) es ≡ true
innermost_is [] place s e at = cc
innermost_is (entry.Binding k v ∷ es) place s e at = cc
innermost_is (entry.Scope r ∷ es) place s e at = by (place == length (births_in es)) (ap (λ n. place == n) (sym (count_blank es)) ∙ e) at
  where
    by : (b : Bool) → b ≡ true → cond b (Some r) (at_place (births_in es) place) ≡ Some s → (r == s) ≡ true
    by true d k = let one : r ≡ s = same_Some r s k in grind (arith, nat_tests)
    by false d k = cc

-- no binding comes after the scope at the place
binds_blank : (es : List Entry) (place s : ℕ) → safe.binds_after place (map blank es) ≡ false → at_place (births_in es) place ≡ Some s → misuse.binds_after s es ≡ false
binds_blank [] place s e at = refl
binds_blank (entry.Binding k v ∷ es) place s e at = cc
binds_blank (entry.Scope r ∷ es) place s e at = by (place == length (births_in es)) (r == s) refl (ap (λ n. cond (place == n) false (safe.binds_after place (map blank es))) (sym (count_blank es)) ∙ e) at (λ d k. binds_blank es place s d k)
  where
    by : (b c : Bool) → (r == s) ≡ c → cond b false (safe.binds_after place (map blank es)) ≡ false → cond b (Some r) (at_place (births_in es) place) ≡ Some s → (safe.binds_after place (map blank es) ≡ false → at_place (births_in es) place ≡ Some s → misuse.binds_after s es ≡ false) → cond c false (misuse.binds_after s es) ≡ false
    by b true is d k rest = refl
    by true false is d k rest = let one : r ≡ s = same_Some r s k in let yes : (r == s) ≡ true = grind (arith, nat_tests) in cc
    by false false is d k rest = rest d k

-- ---- scopes

-- a scope that its owner may read has not expired in profile one
on_time : (rows : ℕ → Row) (w : World) (s : ℕ) (x : Seen) → HasCause (scope_at w s) → SeenFits rows w s x → is_joined x.phase ≡ true → not (safe.is_late x.knowledge) ≡ true → (scope_at w s).expired ≡ false
on_time rows w s x cause k joined e = by x.knowledge refl
  where
    unexpired : (scope_at w s).cancelled ≡ false → (b : Bool) → (scope_at w s).expired ≡ b → b ≡ false
    unexpired free false is = refl
    unexpired free true is = let gone = cause.expired is in absurd (no (sym gone ∙ free))

    by : (q : Knowledge) → x.knowledge ≡ q → (scope_at w s).expired ≡ false
    by Unseen is = absurd (never_unseen x.phase x.joiner (triggers x.joiner (ends (scope_at w s))) joined (subst (λ (q : Knowledge). MayCount q x.phase x.joiner (triggers x.joiner (ends (scope_at w s)))) is k.counts))
    by ByJoiner is = k.on_time is joined
    by Late is = let late : not (safe.is_late x.knowledge) ≡ false = ap (λ q. not (safe.is_late q)) is in absurd (no (sym e ∙ late))
    by Heard is =
        let right = subst (λ (q : Knowledge). IsRight q (scope_at w s)) is k.known in
        unexpired right.0 (scope_at w s).expired refl

expired_two : (two expired : Bool) → (two ≡ false → expired ≡ false) → (two || not expired) ≡ true
expired_two true expired e = refl
expired_two false expired e = ap not (e refl)

on_time_one : (two late : Bool) → (two || not late) ≡ true → two ≡ false → not late ≡ true
on_time_one true late e d = cc
on_time_one false late e d = e

-- ---- one state

module _ (p : Program) (rows : ℕ → Row) (w : World) (h : Facts w) (closes : ClosesAreWaitedFor p w) (u : ℕ) (c : Call) (own : Own) (k : IsIn rows w u c own) where
  abbrev f : Frame
  f = (task_at w u).frame

  abbrev opened : List ℕ
  opened = births_in f.entries

  held_in : (x : ℕ) → HeldFits w opened (slot f x) (held_at own x)
  held_in x = held_slot rows w f own x k.fits

  -- the open scope at a place
  record Scoped (place s : ℕ) (seen : Seen) : Type 0 where
    at : at_place opened place ≡ Some s
    fits : SeenFits rows w s seen
    entered : IsEntered w u s

  scoped : (place s : ℕ) (seen : Seen) → at_place opened place ≡ Some s → at_place own.scopes place ≡ Some seen → Scoped place s seen
  scoped place s seen at there =
      let r = all_place (SeenFits rows w) opened own.scopes place s k.fits.scopes at in
      let same : r.0 ≡ seen = same_Some r.0 seen (sym r.1.0 ∙ there) in
      record {
        at = at;
        fits = subst (λ (z : Seen). SeenFits rows w s z) same r.1.1;
        entered = h.entered u s k.alive (births_has f.entries s (at_among opened place s at));
      }

  -- the scope that a slot owns
  record Owned (x place : ℕ) (seen : Seen) : Type 0 where
    s : ℕ
    scope : Scoped place s seen
    mine : slot f x ≡ slots.Own s

  owned : (x place : ℕ) (seen : Seen) → Owns own x place seen → Owned x place seen
  owned x place seen o =
      let r = own_held w opened (slot f x) place (subst (λ (y : Held). HeldFits w opened (slot f x) y) o.holds (held_in x)) in
      record { s = r.0; scope = scoped place r.0 seen r.1.1 o.there; mine = r.1.0 }

  -- the subtask that a slot holds
  record Known (x place : ℕ) (seen : Seen) (i : ℕ) : Type 0 where
    child : ℕ
    s : ℕ
    scope : Scoped place s seen
    mine : slot f x ≡ slots.Sub child
    sub : slice_get (subs w s) i ≡ Some child

  known : (x place : ℕ) (seen : Seen) (i : ℕ) (part : Part) → Knows own x place seen i part → Known x place seen i
  known x place seen i part o =
      let r = sub_held w opened (slot f x) place i (subst (λ (y : Held). HeldFits w opened (slot f x) y) o.holds (held_in x)) in
      let s : ℕ = r.1.1.0 in
      let in_place : at_place opened place ≡ Some s = r.1.1.1.0 in
      let sub : slice_get (subs w s) i ≡ Some r.0 = r.1.1.1.1 in
      record { child = r.0; s = s; scope = scoped place s seen in_place o.there; mine = r.1.0; sub = sub }

  module _ (i : Instr) (at : instr_at p f ≡ Some i) where
    -- a scope whose owner isn't at a `close` is in the phase that was seen
    phase_is : is_close i ≡ false → (place s : ℕ) (seen : Seen) (a : Scoped place s seen) → (scope_at w s).phase ≡ seen.phase
    phase_is other place s seen a = by a.fits.phase
      where
        by : ((scope_at w s).phase ≡ seen.phase) ⊎ ((scope_at w s).phase ≡ Closing) → (scope_at w s).phase ≡ seen.phase
        by (inl e) = e
        by (inr e) =
            let q = closes s e in
            let one : Some (Close q.x) ≡ Some i = sym q.at ∙ ap (λ n. instr_at p (task_at w n).frame) a.entered.owner ∙ at in
            let is : Close q.x ≡ i = same_Some (Close q.x) i one in
            absurd (no (ap is_close is ∙ other))

    readable : is_close i ≡ false → (place s : ℕ) (seen : Seen) (a : Scoped place s seen) → safe.is_readable p.profile seen ≡ true → misuse.is_readable p.profile (scope_at w s) ≡ true
    readable other place s seen a e =
        let both = and_parts (is_joined seen.phase) _ e in
        and_from _ _ (ap is_joined (phase_is other place s seen a) ∙ both.0)
        (expired_two (is_two p.profile) (scope_at w s).expired
        (λ one. on_time rows w s seen (h.caused s a.entered.born) a.fits both.0 (on_time_one (is_two p.profile) (safe.is_late seen.knowledge) both.1 one)))

  -- the state of the subtask passes the test
  state_passes : (test : Option End → Bool) (x place : ℕ) (seen : Seen) (n : ℕ) (a : Known x place seen n) → safe.Always test seen n → test (sub_state w a.child) ≡ true
  state_passes test x place seen n a always =
      let inside : (task_at w a.child).scope ≡ Some a.s = listed_inside w a.s a.child (get_among (subs w a.s) n a.child a.sub) in
      let state : sub_state w a.child ≡ completion_of (scope_at w a.s).completions a.child = ap (λ q. completion_of (parent w q).completions a.child) inside in
      let there : get_or (states_in w a.s) n None ≡ completion_of (scope_at w a.s).completions a.child = get_map (completion_of (scope_at w a.s).completions) (subs w a.s) n a.child None a.sub in
      ap test (state ∙ sym there) ∙ always (states_in w a.s) (pick_fits rows w h.right a.s seen a.scope.fits)

  -- ---- slots

  free : (q : Option ℕ) → safe.is_free own q ≡ true → misuse.at_slot f q (λ x. not (misuse.is_empty x)) ≡ false
  free None e = refl
  free (Some x) e = empty_slot w opened (slot f x) (held_at own x) (held_in x) e

  emptied : (q : Option ℕ) → safe.holds_subtask own q ≡ true → misuse.at_slot f q (λ x. not (misuse.is_sub x)) ≡ false
  emptied None e = refl
  emptied (Some x) e = sub_slot w opened (slot f x) (held_at own x) (held_in x) e

  -- a test of a scope or a subtask that fails
  own_fails : (q : Slot) (s : ℕ) (test : ℕ → Scope → Bool) → q ≡ slots.Own s → test s (scope_at w s) ≡ false → misuse.at_own w q test ≡ false
  own_fails q s test e fails = ap (λ y. misuse.at_own w y test) e ∙ fails

  sub_fails : (q : Slot) (child : ℕ) (test : ℕ → Scope → Bool) → q ≡ slots.Sub child → test child (scope_of w child) ≡ false → misuse.at_sub w q test ≡ false
  sub_fails q child test e fails = ap (λ y. misuse.at_sub w y test) e ∙ fails

  slots_fine : (i : Instr) → IsAllowed p c own i → misuse.has_wrong_slot f i ≡ false
  slots_fine (Open x timed joiner) a = empty_slot w opened (slot f x) (held_at own x) (held_in x) a.0
  slots_fine (Fork x g q) a =
      let o = owned x a.0.place a.0.seen a.0.owns in
      or_from _ _ (or_from _ _ (ap (λ y. not (misuse.is_scope y)) o.mine) refl) (free q a.1)
  slots_fine (Join x failed timeout to_i) a =
      let o = owned x a.place a.seen a.owns in
      or_from _ _ (or_from _ _ (ap (λ y. not (misuse.is_scope y)) o.mine) refl) refl
  slots_fine (Close x) a =
      let o = owned x a.place a.seen a.owns in
      or_from _ _ (or_from _ _ (ap (λ y. not (misuse.is_scope y)) o.mine) refl) refl
  slots_fine (Cancelled x) a = scope_slot w opened (slot f x) (held_at own x) (held_in x) a
  slots_fine (Case x success failed) a = or_from _ _ (sub_slot w opened (slot f x) (held_at own x) (held_in x) a) refl
  slots_fine (Get x) a =
      let o = known x a.place a.seen a.i a.part a.knows in
      or_from _ _ (ap (λ y. not (misuse.is_sub y)) o.mine) refl
  slots_fine (Except x) a =
      let o = known x a.place a.seen a.i a.part a.knows in
      or_from _ _ (ap (λ y. not (misuse.is_sub y)) o.mine) refl
  slots_fine (Tally x kind) a =
      let o = owned x a.place a.seen a.owns in
      or_from _ _ (or_from _ _ (ap (λ y. not (misuse.is_scope y)) o.mine) refl) refl
  slots_fine (Total x) a =
      let o = owned x a.place a.seen a.owns in
      or_from _ _ (or_from _ _ (ap (λ y. not (misuse.is_scope y)) o.mine) refl) refl
  slots_fine (Bind x) a = refl
  slots_fine Unbind a = refl
  slots_fine (Read x) a = refl
  slots_fine Ret a = refl
  slots_fine Fail a = refl
  slots_fine i a = or_from (misuse.at_slot f (emptied_slot i) (λ x. not (misuse.is_sub x))) false (emptied (emptied_slot i) a) refl

  own_legal : (i : Instr) → IsAllowed p c own i → misuse.is_strangers f i ≡ false
  own_legal (Fork x g q) a = ap misuse.is_lent (owned x a.0.place a.0.seen a.0.owns).mine
  own_legal (Join x failed timeout to_i) a = ap misuse.is_lent (owned x a.place a.seen a.owns).mine
  own_legal (Close x) a = ap misuse.is_lent (owned x a.place a.seen a.owns).mine
  own_legal (Tally x kind) a = ap misuse.is_lent (owned x a.place a.seen a.owns).mine
  own_legal (Total x) a = ap misuse.is_lent (owned x a.place a.seen a.owns).mine
  own_legal i a = refl

  joins_fine : (i : Instr) → IsAllowed p c own i → misuse.misjoins w f i ≡ false
  joins_fine (Join x failed timeout to_i) a =
      let o = owned x a.place a.seen a.owns in
      let s = o.s in
      own_fails (slot f x) s (λ _ scope. misuse.joins_wrongly f failed timeout scope) o.mine
      (ap (λ (z : Frame). (nat_le 32 (length z.operands) && not (is_await_all (scope_at w s).joiner)) || not (same (is_some failed) (can_fail (scope_at w s).joiner)) || not (same (is_some timeout) (scope_at w s).timed)) k.fits.frame
      ∙ ap (λ j. (nat_le 32 (length own.frame.operands) && not (is_await_all j)) || not (same (is_some failed) (can_fail j)) || not (same (is_some timeout) (scope_at w s).timed)) (sym o.scope.fits.joiner)
      ∙ ap (λ t. (nat_le 32 (length own.frame.operands) && not (is_await_all a.seen.joiner)) || not (same (is_some failed) (can_fail a.seen.joiner)) || not (same (is_some timeout) t)) (sym o.scope.fits.timed)
      ∙ a.holds.form)
  joins_fine i a = refl

  -- the number of entries
  entries_same : nat_le MAX_ENTRIES (length f.entries) ≡ safe.is_full own.frame
  entries_same = ap (λ n. nat_le MAX_ENTRIES n) (sym (length_blank f.entries)) ∙ ap safe.is_full k.fits.frame

  room_fine : (i : Instr) → IsAllowed p c own i → lacks_births w i ≡ false → misuse.has_no_room w f i ≡ false
  room_fine (Open x timed joiner) a few = or_from _ _ (entries_same ∙ a.1) few
  room_fine (Fork x g q) a few = few
  room_fine (Bind x) a few = entries_same ∙ a
  room_fine i a few = refl

  -- a scope with no parts has no subtasks
  none_counted : (place s : ℕ) (seen : Seen) (a : Scoped place s seen) → seen.parts ≡ [] → nat_lt 0 (subtask_count w s) ≡ false
  none_counted place s seen a none =
      let count = subs_count w h s in
      let long = all_length (PartFits rows (alive_in w) (scope_at w s)) (subs w s) seen.parts a.fits.parts in
      let zero_long : length seen.parts ≡ 0 = ap length none in
      let zero_count : subtask_count w s ≡ 0 = omega (arith, count, long, zero_long) in
      ap (nat_lt 0) zero_count

  close_legal : (place s : ℕ) (seen : Seen) (a : Scoped place s seen) → (misuse.is_opened seen.phase ≡ true → seen.parts ≡ []) → (misuse.is_opened (scope_at w s).phase && nat_lt 0 (subtask_count w s)) ≡ false
  close_legal place s seen a empty = by (misuse.is_opened (scope_at w s).phase) refl a.fits.phase
    where
      by : (b : Bool) → misuse.is_opened (scope_at w s).phase ≡ b → ((scope_at w s).phase ≡ seen.phase) ⊎ ((scope_at w s).phase ≡ Closing) → (b && nat_lt 0 (subtask_count w s)) ≡ false
      by false e phase = refl
      by true e (inl phase) = none_counted place s seen a (empty (ap misuse.is_opened (sym phase) ∙ e))
      by true e (inr phase) = let never : misuse.is_opened (scope_at w s).phase ≡ false = ap misuse.is_opened phase in absurd (no (sym e ∙ never))

  -- a `get` or an `except`
  read_legal : (i : Instr) → instr_at p f ≡ Some i → is_close i ≡ false → (test : Option End → Bool) (x : ℕ) → KnowsOne own x (CanRead p.profile test) → misuse.at_sub w (slot f x) (λ t scope. not (misuse.is_readable p.profile scope && test (sub_state w t))) ≡ false
  read_legal i at other test x a =
      let o = known x a.place a.seen a.i a.part a.knows in
      let inside : (task_at w o.child).scope ≡ Some o.s = listed_inside w o.s o.child (get_among (subs w o.s) a.i o.child o.sub) in
      let may : misuse.is_readable p.profile (scope_of w o.child) ≡ true = ap (λ q. misuse.is_readable p.profile (parent w q)) inside ∙ readable i at other a.place o.s a.seen o.scope a.holds.readable in
      sub_fails (slot f x) o.child (λ t scope. not (misuse.is_readable p.profile scope && test (sub_state w t))) o.mine
      (not_from_true _ (and_from _ _ may (state_passes test x a.place a.seen a.i o a.holds.always)))

  legal : (i : Instr) → instr_at p f ≡ Some i → IsAllowed p c own i → misuse.is_illegal p w f i ≡ false
  legal (Fork x g q) at a =
      let o = owned x a.0.place a.0.seen a.0.owns in
      own_fails (slot f x) o.s (λ _ scope. not (misuse.is_opened scope.phase)) o.mine
      (not_from_true _ (ap misuse.is_opened (phase_is (Fork x g q) at refl a.0.place o.s a.0.seen o.scope) ∙ a.0.holds.phase))
  legal (Join x failed timeout to_i) at a =
      let o = owned x a.place a.seen a.owns in
      own_fails (slot f x) o.s (λ _ scope. not (misuse.can_join scope.phase)) o.mine
      (not_from_true _ (ap misuse.can_join (phase_is (Join x failed timeout to_i) at refl a.place o.s a.seen o.scope) ∙ a.holds.phase))
  legal (Close x) at a =
      let o = owned x a.place a.seen a.owns in
      own_fails (slot f x) o.s (λ n scope. misuse.is_opened scope.phase && nat_lt 0 (subtask_count w n)) o.mine (close_legal a.place o.s a.seen o.scope a.holds.phase)
  legal (Tally x kind) at a =
      let o = owned x a.place a.seen a.owns in
      own_fails (slot f x) o.s (λ _ scope. not (misuse.is_readable p.profile scope)) o.mine (not_from_true _ (readable (Tally x kind) at refl a.place o.s a.seen o.scope a.holds))
  legal (Total x) at a =
      let o = owned x a.place a.seen a.owns in
      own_fails (slot f x) o.s (λ _ scope. not (misuse.is_readable p.profile scope)) o.mine (not_from_true _ (readable (Total x) at refl a.place o.s a.seen o.scope a.holds))
  legal (Get x) at a = read_legal (Get x) at refl has_succeeded x a
  legal (Except x) at a = read_legal (Except x) at refl has_failed x a
  legal i at a = refl

  -- the entries of the bare frame
  entries_of : {X : Type 0} (read : List Entry → X) → read (map blank f.entries) ≡ read own.frame.entries
  entries_of read = ap (λ (z : Frame). read z.entries) k.fits.frame

  no_entries : own.frame.entries ≡ [] → nat_lt 0 (length f.entries) ≡ false
  no_entries e = ap (λ (es : List Entry). nat_lt 0 (length es)) (none_blank f.entries (entries_of (λ es. es) ∙ e))

  structure : (i : Instr) → IsAllowed p c own i → misuse.breaks_structure w f i ≡ false
  structure (Fork x g q) a =
      let o = owned x a.0.place a.0.seen a.0.owns in
      own_fails (slot f x) o.s (λ n _. misuse.binds_after n f.entries) o.mine (binds_blank f.entries a.0.place o.s (entries_of (safe.binds_after a.0.place) ∙ a.0.holds.order) o.scope.at)
  structure (Close x) a =
      let o = owned x a.place a.seen a.owns in
      own_fails (slot f x) o.s (λ n _. not (misuse.innermost (misuse.is_entry_of n) f.entries)) o.mine
      (not_from_true _ (innermost_is f.entries a.place o.s (entries_of (safe.is_innermost a.place) ∙ a.holds.order) o.scope.at))
  structure Unbind a = not_from_true _ (sym (innermost_blank f.entries) ∙ entries_of (misuse.innermost misuse.is_binding) ∙ a)
  structure Ret a = no_entries a
  structure Fail a = no_entries a
  structure i a = refl

  bound : (i : Instr) → IsAllowed p c own i → misuse.is_unbound w u i ≡ false
  bound (Read x) a =
      let same : environment_of (task_at w u) w ≡ bindings c own = bindings_are in
      ap (λ bs. is_none (read bs x)) same ∙ a
    where
      bindings_are : environment_of (task_at w u) w ≡ bindings c own
      bindings_are =
          ap (λ bs. bs ++ (scope_of w u).environment) (sym (blank_bounds f.entries) ∙ entries_of (filter_map bound_of))
          ∙ ap (λ e. filter_map bound_of own.frame.entries ++ e) k.environment
  bound i a = refl

  fine : (s : IsSafe p c own) → HasPlace p w u → IsFine p w u f s.instr
  fine s few =
      let at : instr_at p f ≡ Some s.instr = subst (λ (z : Frame). instr_at p z ≡ Some s.instr) (sym k.fits.frame) s.at in
      record {
        operands = subst (λ (z : Frame). misuse.lacks_operands p z s.instr ≡ false) (sym k.fits.frame) s.operands;
        room = subst (λ (z : Frame). misuse.overflows p z s.instr ≡ false) (sym k.fits.frame) s.room;
        loops = bare_loops s.instr (subst (λ (z : Frame). misuse.breaks_loop p z s.instr ≡ false) (sym k.fits.frame) s.loops);
        slots = slots_fine s.instr s.allowed;
        joins = joins_fine s.instr s.allowed;
        births = room_fine s.instr s.allowed (few s.instr at);
        own = own_legal s.instr s.allowed;
        legal = legal s.instr at s.allowed;
        structure = structure s.instr s.allowed;
        bound = bound s.instr s.allowed;
      }
    where
      -- loops read no slots and no entries
      bare_loops : (i : Instr) → misuse.breaks_loop p (bare f) i ≡ false → misuse.breaks_loop p f i ≡ false
      bare_loops Next e = e
      bare_loops (Times n) e = e
      bare_loops i e = refl

  misuses_nothing : IsSafe p c own → HasPlace p w u → misuse.misuse p w u ≡ None
  misuses_nothing s few =
      let at : instr_at p f ≡ Some s.instr = subst (λ (z : Frame). instr_at p z ≡ Some s.instr) (sym k.fits.frame) s.at in
      ap (fault_at p w u f) at ∙ fine_no_fault p w u f s.instr (fine s few)

-- ---- runs

pub safe_is_fine : SafeIsFine
safe_is_fine p events = by (after p events) (facts_after p events) (closing_is_at_close p events)
  where
    by : (state : State) → In Facts state → In (ClosesAreWaitedFor p) state → In (λ w. (rows : ℕ → Row) (u : ℕ) (c : Call) (own : Own) → IsIn rows w u c own → IsSafe p c own → HasPlace p w u → misuse.misuse p w u ≡ None) state
    by (Running w) h closes = λ rows u c own k s few. misuses_nothing p rows w h closes u c own k s few
    by (Faulted kind t g pc) h closes = tt
