-- What a step of one task leaves of the states of the others.
use Rattle.std.proofs.Common.{◌≡◌, ℕ, zero, suc, ◌+◌, ◌<◌, ◌≤◌, ◌⊎◌, inl, inr, List, [], ◌∷◌, Bool, true, false, Option, Some, None, refl, sym, ◌∙◌, ap, subst}
use Rattle.std.proofs.Common.{length, arith, cond, get_or, nat_eq, ◌||◌}
use Rattle.std.specs.Prelude.{◌==◌, slice_get, count_by, nat_lt, map}
use Rattle.std.specs.List.{list_any}
use Rattle.std.proofs.lemmas.Bool.Decides.{nat_tests}
use Rattle.std.proofs.lemmas.Bool.{or_right}
use Rattle.std.proofs.lemmas.List.FromFn.{get_or-range_with_len, length-range_with_len}
use Rattle.std.proofs.lemmas.Option.{slice_get-get_or}
use Rattle.laws_words.proofs.ListLemmas.{count-cons}
use Rattle.sts_model.specs.declared.record.Entry.{Entry}
use Rattle.sts_model.specs.declared.record.Entry.TheVariants as entry
use Rattle.sts_model.specs.declared.record.Frame.{Frame}
use Rattle.sts_model.specs.declared.record.Scope.{Scope}
use Rattle.sts_model.specs.declared.record.Slot.{Slot}
use Rattle.sts_model.specs.declared.record.Slot.TheVariants as slots
use Rattle.sts_model.specs.declared.record.Task.{Task}
use Rattle.sts_model.specs.World.{World, task_at, scope_at, no_task}
use Rattle.sts_model.specs.Living.{lives, is_in, is_subtask, parent, scope_of, sub_state, completion_of, ends}
use Rattle.sts_model.specs.Misuse.{is_entry_of, is_joined}
use Rattle.laws_runs.specs.Flags.{IsCancelled}
use Rattle.laws_runs.specs.Later.{LaterTask}
use Rattle.laws_runs.specs.Scopes.{HasCause, IsEntered}
use Rattle.laws_runs.specs.Slots.{NamesStanding}
use Rattle.laws_runs.specs.Tallies.{births, IsTallied}
use Rattle.laws_runs.proofs.EffectLemmas.{is_in-some, some-is_in}
use Rattle.laws_runs.proofs.EventLemmas.{Right, Next}
use Rattle.laws_runs.proofs.ListLemmas.{within}
use Rattle.laws_runs.proofs.KeptLemmas.{dead_later}
use Rattle.laws_runs.proofs.BirthLemmas.{born_alive}
use Rattle.laws_calls.specs.Outside.{Outside, may_flag}
use Rattle.laws_calls.specs.Held.{Held}
use Rattle.laws_calls.specs.Held as held
use Rattle.laws_calls.specs.Tasks.{AllTwo, Among, HasWay, Part, Seen, Own, births_in, Asked, Knowledge, ByJoiner}
use Rattle.laws_calls.specs.Fitting.{MayCount}
use Rattle.laws_calls.specs.Triggers.{triggers}
use Rattle.laws_calls.specs.Steps.{Row}
use Rattle.laws_calls.specs.Covers.{subs, PartFits, ScopeFits, SeenFits, HeldFits, FrameFits, TaskFits}
use Rattle.laws_calls.specs.Covers.{FlagMayBe, IsCovered, Watched, watched_root, watched_sub, alive_in, IsRight, IsAsked, InOrder}
use Rattle.laws_calls.proofs.Lists.{all_map, among_filter, filter_among, get_among, range_among, Apart, at_among, no}
use Rattle.laws_calls.proofs.WatchedLemmas.{watched_before, never}

-- what is known of every state of a run
pub record Facts (w : World) : Type 0 where
  pub right : Right w
  pub caused : (s : ℕ) → s < length w.scopes → HasCause (scope_at w s)
  pub left_out : (s u : ℕ) → (task_at w u).scope ≡ Some s → lives (task_at w u) ≡ false → sub_state w u ≡ None → (scope_at w s).cancelled ≡ true
  pub settled : (s u : ℕ) → is_joined (scope_at w s).phase ≡ true → (scope_at w s).cancelled ≡ false → (task_at w u).scope ≡ Some s → lives (task_at w u) ≡ false
  pub entered : (t s : ℕ) → lives (task_at w t) ≡ true → list_any (is_entry_of s) (task_at w t).frame.entries ≡ true → IsEntered w t s
  pub names : (t x : ℕ) → lives (task_at w t) ≡ true → NamesStanding w t x
  pub tallied : (s : ℕ) → IsTallied w s

-- a flag is set only by the cancel of the task's scope, or if it may be
abbrev pub FlagsHaveCause : Outside → World → World → Type 0
FlagsHaveCause outside w v = (u : ℕ) → (task_at w u).flag ≡ false → (task_at v u).flag ≡ true → (may_flag outside ≡ true) ⊎ ((s : ℕ) × ((task_at w u).scope ≡ Some s) × IsCancelled w v s)

-- ---- entries

pub births_has : (es : List Entry) (s : ℕ) → Among (births_in es) s → list_any (is_entry_of s) es ≡ true
births_has [] s h = absurd h
births_has (entry.Binding k v ∷ es) s h = births_has es s h
births_has (entry.Scope r ∷ es) s (inl same) = by (r == s) (grind (arith, nat_tests))
  where
    by : (b : Bool) → b ≡ true → (b || list_any (is_entry_of s) es) ≡ true
    by true e = refl
    by false e = cc
births_has (entry.Scope r ∷ es) s (inr h) = by (r == s) (births_has es s h)
  where
    by : (b : Bool) → list_any (is_entry_of s) es ≡ true → (b || list_any (is_entry_of s) es) ≡ true
    by true e = refl
    by false e = e

has_counted : (s : ℕ) (es : List Entry) → list_any (is_entry_of s) es ≡ true → 0 < count_by (is_entry_of s) es
has_counted s [] e = cc
has_counted s (x ∷ es) e = by (is_entry_of s x) (count-cons (is_entry_of s) x es) e (λ d. has_counted s es d)
  where
    by : (b : Bool) → count_by (is_entry_of s) (x ∷ es) ≡ cond b 1 0 + count_by (is_entry_of s) es → (b || list_any (is_entry_of s) es) ≡ true → (list_any (is_entry_of s) es ≡ true → 0 < count_by (is_entry_of s) es) → 0 < count_by (is_entry_of s) (x ∷ es)
    by true k d rest = omega (arith, k)
    by false k d rest = let r = rest d in omega (arith, k, r)

pub apart_births : (es : List Entry) → ((s : ℕ) → list_any (is_entry_of s) es ≡ true → count_by (is_entry_of s) es ≤ 1) → Apart (births_in es)
apart_births [] once = tt
apart_births (entry.Binding k v ∷ es) once =
    apart_births es (λ s has. (let c : count_by (is_entry_of s) (entry.Binding k v ∷ es) ≡ 0 + count_by (is_entry_of s) es = count-cons (is_entry_of s) (entry.Binding k v) es in let o = once s has in omega (arith, c, o)))
apart_births (entry.Scope r ∷ es) once = (never, apart_births es (λ s has. rest s has))
  where
    self : (r == r) ≡ true
    self = grind (arith, nat_tests)

    here : list_any (is_entry_of r) (entry.Scope r ∷ es) ≡ true
    here = ap (λ b. b || list_any (is_entry_of r) es) self

    never : Among (births_in es) r → ⊥
    never at =
        let c = count-cons (is_entry_of r) (entry.Scope r) es in
        let one : cond {A = ℕ} (r == r) 1 0 ≡ 1 = ap (λ b. cond b 1 0) self in
        let o = once r here in
        let more = has_counted r es (births_has es r at) in
        omega (arith, c, one, o, more)

    rest : (s : ℕ) → list_any (is_entry_of s) es ≡ true → count_by (is_entry_of s) es ≤ 1
    rest s has =
        let c : count_by (is_entry_of s) (entry.Scope r ∷ es) ≡ cond {A = ℕ} (r == s) 1 0 + count_by (is_entry_of s) es = count-cons (is_entry_of s) (entry.Scope r) es in
        let o = once s (or_right (r == s) (list_any (is_entry_of s) es) has) in
        omega (arith, c, o)

-- the subtasks of a scope were born
pub sub_born : (w : World) (s u : ℕ) → Among (subs w s) u → u < length w.tasks
sub_born w s u at =
    let less = range_among 0 (length w.tasks) u (among_filter (λ q. is_subtask s (task_at w q)) (births w) u at).1 in
    omega (arith, less)

-- each subtask of a scope is listed
pub sub_listed : (w : World) (s u : ℕ) → (task_at w u).scope ≡ Some s → Among (subs w s) u
sub_listed w s u inside =
    let born : u < length w.tasks = within (λ (y : Task). is_in s y.scope) w.tasks u no_task refl (is_in-some s (task_at w u).scope inside) in
    let long : length (births w) ≡ length w.tasks = length-range_with_len 0 (length w.tasks) in
    let place = get_or-range_with_len 0 (length w.tasks) u 0 born in
    let here : get_or (births w) u 0 ≡ u = omega (arith, place) in
    let at : slice_get (births w) u ≡ Some u = slice_get-get_or (births w) u 0 (omega (arith, long, born)) ∙ ap Some here in
    let listed : Among (births w) u = get_among (births w) u u at in
    filter_among (λ q. is_subtask s (task_at w q)) (births w) u listed (is_in-some s (task_at w u).scope inside)

-- a subtask that is listed is in the scope
pub listed_inside : (w : World) (s u : ℕ) → Among (subs w s) u → (task_at w u).scope ≡ Some s
listed_inside w s u at = some-is_in s (task_at w u).scope (among_filter (λ q. is_subtask s (task_at w q)) (births w) u at).0

-- ---- watched tasks

module _ (w : World) (o : Right w) where
  -- the scope of a task that is watched is not cancelled
  pub free_around : (u s : ℕ) → (task_at w u).scope ≡ Some s → Watched w u → (scope_at w s).cancelled ≡ false
  free_around u s inside watched_root = let less = (o.sound.born u s inside).1 in absurd (omega (arith, less))
  free_around u s inside (watched_sub r inside2 free owner) =
      let both : Some r ≡ Some s = sym inside2 ∙ inside in
      let one : r ≡ s = cc in
      subst (λ k. (scope_at w k).cancelled ≡ false) one free

  -- its owner is watched
  pub owner_watched : (u s : ℕ) → (task_at w u).scope ≡ Some s → Watched w u → Watched w (scope_at w s).owner
  owner_watched u s inside watched_root = let less = (o.sound.born u s inside).1 in absurd (omega (arith, less))
  owner_watched u s inside (watched_sub r inside2 free owner) =
      let both : Some r ≡ Some s = sym inside2 ∙ inside in
      let one : r ≡ s = cc in
      subst (λ k. Watched w (scope_at w k).owner) one owner

  only_root : (u : ℕ) → (task_at w u).scope ≡ None → (u ≡ 0 → ⊥) → Watched w u → ⊥
  only_root u none other watched_root = other refl
  only_root u none other (watched_sub s inside free owner) = let both : None ≡ Some s = sym none ∙ inside in cc

  pub watched_or_not : (n u : ℕ) → u < n → Watched w u ⊎ (Watched w u → ⊥)
  watched_or_not zero u less = absurd (omega (arith, less))
  watched_or_not (suc n) u less = by (nat_eq u 0) refl (λ q below. watched_or_not n q below)
    where
      by_owner : (s : ℕ) → (task_at w u).scope ≡ Some s → (scope_at w s).cancelled ≡ false → Watched w (scope_at w s).owner ⊎ (Watched w (scope_at w s).owner → ⊥) → Watched w u ⊎ (Watched w u → ⊥)
      by_owner s inside free (inl owner) = inl (watched_sub s inside free owner)
      by_owner s inside free (inr never) = inr (λ watched. never (owner_watched u s inside watched))

      by_scope : (s : ℕ) → (task_at w u).scope ≡ Some s → (b : Bool) → (scope_at w s).cancelled ≡ b → ((q : ℕ) → q < n → Watched w q ⊎ (Watched w q → ⊥)) → Watched w u ⊎ (Watched w u → ⊥)
      by_scope s inside true e rest = inr (λ watched. no (sym e ∙ free_around u s inside watched))
      by_scope s inside false e rest = let before = (o.sound.born u s inside).1 in by_owner s inside e (rest (scope_at w s).owner (omega (arith, before, less)))

      around : (q : Option ℕ) → (task_at w u).scope ≡ q → (u ≡ 0 → ⊥) → ((q : ℕ) → q < n → Watched w q ⊎ (Watched w q → ⊥)) → Watched w u ⊎ (Watched w u → ⊥)
      around None e other rest = inr (λ watched. only_root u e other watched)
      around (Some s) e other rest = by_scope s e (scope_at w s).cancelled refl rest

      by : (b : Bool) → nat_eq u 0 ≡ b → ((q : ℕ) → q < n → Watched w q ⊎ (Watched w q → ⊥)) → Watched w u ⊎ (Watched w u → ⊥)
      by true e rest = let same : u ≡ 0 = grind (arith, nat_tests) in inl (subst (λ k. Watched w k) (sym same) watched_root)
      by false e rest = let other : u ≡ 0 → ⊥ = grind (arith, nat_tests) in around (task_at w u).scope refl other rest

-- ---- tasks that a table has to cover

-- if a cancel may come, any flag may be set
pub any_flag : (outside : Outside) → outside.cancels ≡ true → may_flag outside ≡ true
any_flag outside wide = ap (λ b. b || nat_lt 0 outside.interrupts) wide

-- and also if an interrupt may come
pub some_flag : (outside : Outside) → 0 < outside.interrupts → may_flag outside ≡ true
some_flag outside some = or_right outside.cancels (nat_lt 0 outside.interrupts) (grind (arith, nat_tests))

module _ (outside : Outside) (w : World) (o : Right w) where
  pub owner_covered : (u s : ℕ) → (task_at w u).scope ≡ Some s → IsCovered outside w u → IsCovered outside w (scope_at w s).owner
  owner_covered u s inside (inl wide) = inl wide
  owner_covered u s inside (inr watched) = inr (owner_watched w o u s inside watched)

  pub covered_or_not : (u : ℕ) → u < length w.tasks → IsCovered outside w u ⊎ (IsCovered outside w u → ⊥)
  covered_or_not u born = by outside.cancels refl
    where
      narrow : outside.cancels ≡ false → Watched w u ⊎ (Watched w u → ⊥) → IsCovered outside w u ⊎ (IsCovered outside w u → ⊥)
      narrow e (inl watched) = inl (inr watched)
      narrow e (inr never) = inr never_covered
        where
          never_covered : IsCovered outside w u → ⊥
          never_covered (inl wide) = no (sym wide ∙ e)
          never_covered (inr watched) = never watched

      by : (b : Bool) → outside.cancels ≡ b → IsCovered outside w u ⊎ (IsCovered outside w u → ⊥)
      by true e = inl (inl e)
      by false e = narrow e (watched_or_not w o (length w.tasks) u born)

-- ---- one step, from w to v

-- A scope fits after its owner has learned something, if what it then knows is right. The scope itself stays
learned : {rows later : ℕ → Row} {a b : ℕ → Bool} {scope : Scope} {us vs : List ℕ} (x : Seen) → ScopeFits rows a scope us x → (q : Knowledge) (parts : List Part) (asked : Asked) (has_failure : Bool)
    → IsRight q scope → (q ≡ ByJoiner → is_joined x.phase ≡ true → scope.expired ≡ false) → MayCount q x.phase x.joiner (triggers x.joiner (ends scope))
    → AllTwo (PartFits later b scope) vs parts → (is_joined x.phase ≡ false → InOrder has_failure scope vs parts) → IsAsked (record x { asked = asked }) (map (completion_of scope.completions) vs)
    → ScopeFits later b scope vs (record x { knowledge = q; parts = parts; asked = asked; has_failure = has_failure })
learned x k q parts asked has_failure right timely few fit order answers =
    record { joiner = k.joiner; timed = k.timed; environment = k.environment; phase = k.phase; known = right; on_time = timely; parts = fit; counts = few; order = order; asked = answers }

-- what it knows of a cancel changes
pub known_as : {rows : ℕ → Row} {a : ℕ → Bool} {scope : Scope} {us : List ℕ} (x : Seen) → ScopeFits rows a scope us x → (q : Knowledge) → IsRight q scope → (q ≡ ByJoiner → is_joined x.phase ≡ true → scope.expired ≡ false) → MayCount q x.phase x.joiner (triggers x.joiner (ends scope)) → ScopeFits rows a scope us (record x { knowledge = q })
known_as x k q right timely few = learned x k q x.parts x.asked x.has_failure right timely few k.parts k.order k.asked

-- what it knows of its subtasks changes
pub parts_as : {rows later : ℕ → Row} {a b : ℕ → Bool} {scope : Scope} {us vs : List ℕ} (x : Seen) → ScopeFits rows a scope us x → (parts : List Part) (asked : Asked) (has_failure : Bool)
    → AllTwo (PartFits later b scope) vs parts → (is_joined x.phase ≡ false → InOrder has_failure scope vs parts) → IsAsked (record x { asked = asked }) (map (completion_of scope.completions) vs)
    → ScopeFits later b scope vs (record x { parts = parts; asked = asked; has_failure = has_failure })
parts_as x k parts asked has_failure fit order answers = learned x k x.knowledge parts asked has_failure k.known k.on_time k.counts fit order answers

-- a scope fits with other rows if its parts do
pub refitted : (rows later : ℕ → Row) (a b : ℕ → Bool) (scope : Scope) (us : List ℕ) (x : Seen) → ScopeFits rows a scope us x → AllTwo (PartFits later b scope) us x.parts → ScopeFits later b scope us x
refitted rows later a b scope us x k parts = parts_as x k x.parts x.asked x.has_failure parts k.order k.asked

pub alive_later : (x y : Task) → LaterTask x y → lives y ≡ true → lives x ≡ true
alive_later x y later e = by (lives x) refl
  where
    by : (b : Bool) → lives x ≡ b → b ≡ true
    by true h = refl
    by false h = let d = dead_later x y later h in cc

module _ (w v : World) (h : Facts w) (n : Next w v) where
  pub covered_before : (outside : Outside) (u : ℕ) → u < length w.tasks → IsCovered outside v u → IsCovered outside w u
  covered_before outside u born (inl wide) = inl wide
  covered_before outside u born (inr watched) = inr (watched_before w v h.right n u born watched)

  pub flag_stays : (outside : Outside) → FlagsHaveCause outside w v → (u : ℕ) → u < length w.tasks → IsCovered outside v u → FlagMayBe outside (task_at w u).flag → FlagMayBe outside (task_at v u).flag
  flag_stays outside flags u born (inl wide) before set = any_flag outside wide
  flag_stays outside flags u born (inr watched) before set = by (task_at w u).flag refl
    where
      caused : (may_flag outside ≡ true) ⊎ ((s : ℕ) × ((task_at w u).scope ≡ Some s) × IsCancelled w v s) → may_flag outside ≡ true
      caused (inl may) = may
      caused (inr c) = absurd (never w v h.right n u c.0 born c.1 c.2.after watched)

      by : (b : Bool) → (task_at w u).flag ≡ b → may_flag outside ≡ true
      by true e = before e
      by false e = caused (flags u e set)

  pub environment_stays : (u : ℕ) → u < length w.tasks → (scope_of v u).environment ≡ (scope_of w u).environment
  environment_stays u born = ap (λ q. (parent v q).environment) (n.later.task u born).same.scope ∙ by (task_at w u).scope refl
    where
      by : (q : Option ℕ) → (task_at w u).scope ≡ q → (parent v q).environment ≡ (parent w q).environment
      by None e = refl
      by (Some s) e = (n.later.scope s (h.right.sound.born u s e).0).same.environment

  -- the part of a subtask that was born
  pub part_same : (rows later : ℕ → Row) (scope : Scope) (u : ℕ) (part : Part) → u < length w.tasks → later u ≡ rows u → PartFits rows (alive_in w) scope u part → PartFits later (alive_in v) scope u part
  part_same rows later scope u part born agree f =
      record {
        may = f.may;
        whole = λ alive free e way.
            f.whole (alive_later (task_at w u) (task_at v u) (n.later.task u born) alive) free e
            (subst (λ (row : Row). HasWay row.ways e) agree way);
      }

  -- a scope that the step doesn't change
  pub seen_same : (rows later : ℕ → Row) (s : ℕ) (x : Seen) → scope_at v s ≡ scope_at w s → subs v s ≡ subs w s → ((u : ℕ) → u < length w.tasks → later u ≡ rows u) → SeenFits rows w s x → SeenFits later v s x
  seen_same rows later s x same subtasks agree k =
      subst (λ (scope : Scope). ScopeFits later (alive_in v) scope (subs v s) x) (sym same)
      (subst (λ us. ScopeFits later (alive_in v) (scope_at w s) us x) (sym subtasks)
      (refitted rows later (alive_in w) (alive_in v) (scope_at w s) (subs w s) x k
      (all_map (PartFits rows (alive_in w) (scope_at w s)) (PartFits later (alive_in v) (scope_at w s)) (subs w s) x.parts
      (λ u part at f. part_same rows later (scope_at w s) u part (sub_born w s u at) (agree u (sub_born w s u at)) f) k.parts)))

  -- the slots, if the subtasks of the open scopes keep their places
  pub held_same : (opened : List ℕ) → ((s i u : ℕ) → Among opened s → slice_get (subs w s) i ≡ Some u → slice_get (subs v s) i ≡ Some u) → (x : Slot) (y : Held) → HeldFits w opened x y → HeldFits v opened x y
  held_same opened keeps slots.Empty held.Empty f = tt
  held_same opened keeps (slots.Own s) (held.Own place) f = f
  held_same opened keeps (slots.Lent s) held.Lent f = tt
  held_same opened keeps (slots.Sub u) (held.Sub place i) f = (f.0, (f.1.0, keeps f.0 i u (at_among opened place f.0 f.1.0) f.1.1))
  held_same opened keeps x y f = absurd f

  -- a task whose frame the step doesn't change
  pub task_same : (outside : Outside) → FlagsHaveCause outside w v → (rows later : ℕ → Row) (u : ℕ) (own : Own)
      → lives (task_at w u) ≡ true → IsCovered outside v u → (task_at v u).frame ≡ (task_at w u).frame
      → ((q : ℕ) → q < length w.tasks → later q ≡ rows q)
      → ((s : ℕ) (x : Seen) → s < length w.scopes → (scope_at w s).owner ≡ u → SeenFits rows w s x → SeenFits later v s x)
      → ((s i q : ℕ) → s < length w.scopes → (scope_at w s).owner ≡ u → slice_get (subs w s) i ≡ Some q → slice_get (subs v s) i ≡ Some q)
      → TaskFits outside rows w u own → TaskFits outside later v u own
  task_same outside flags rows later u own alive owed same agree keeps stays k =
      let born : u < length w.tasks = born_alive w u alive in
      let row : later u ≡ rows u = agree u born in
      record {
        there = subst (λ (r : Row). Among r.states own) (sym row) k.there;
        fits = subst (λ (f : Frame). FrameFits later v f own) (sym same) (record {
          frame = k.fits.frame;
          held = all_map (HeldFits w (births_in (task_at w u).frame.entries)) (HeldFits v (births_in (task_at w u).frame.entries)) (task_at w u).frame.slots own.held (λ x y at f. held_same (births_in (task_at w u).frame.entries) (λ s i q at2 e. let m = mine s at2 in stays s i q m.born m.owner e) x y f) k.fits.held;
          scopes = all_map (SeenFits rows w) (SeenFits later v) (births_in (task_at w u).frame.entries) own.scopes (λ s x at f. let m = mine s at in keeps s x m.born m.owner f) k.fits.scopes;
        });
        flag = flag_stays outside flags u born owed k.flag;
        environment = environment_stays u born ∙ k.environment ∙ ap (λ (r : Row). r.call.environment) (sym row);
      }
    where
      mine : (s : ℕ) → Among (births_in (task_at w u).frame.entries) s → IsEntered w u s
      mine s at = h.entered u s alive (births_has (task_at w u).frame.entries s at)
