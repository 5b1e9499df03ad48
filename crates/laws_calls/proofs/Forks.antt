-- A subtask is forked.
use Rattle.std.proofs.Common.{◌≡◌, ℕ, zero, suc, ◌+◌, ◌<◌, ◌≤◌, ◌⊎◌, inl, inr, List, [], ◌∷◌, ◌++◌, Bool, true, false, Option, Some, None, refl, sym, ◌∙◌, ap}
use Rattle.std.proofs.Common.{subst, length, arith, get_or, set, cond, nat_eq, length-set, length-append, get_or-set_same, get_or-set_other, not, ◌&&◌}
use Rattle.std.proofs.Common.{replicate, take, append-nil}
use Rattle.std.specs.Prelude.{◌==◌, slice_get, reverse}
use Rattle.std.specs.List.{filter, range_with_len}
use Rattle.std.proofs.lemmas.Bool.Decides.{nat_tests}
use Rattle.std.proofs.lemmas.List.{get_or_append_left}
use Rattle.std.proofs.lemmas.List.Elements.{filter-append}
use Rattle.std.proofs.Math.Seq.{get_or-append_seam}
use Rattle.sts_code.proofs.ListLemmas.{got_last}
use Rattle.sts_code.specs.Program.{Program, routine}
use Rattle.sts_code.specs.declared.instr.Instr.TheVariants.{Fork}
use Rattle.sts_model.specs.declared.event.End.{End}
use Rattle.sts_model.specs.declared.event.Phase.{Phase}
use Rattle.sts_model.specs.declared.event.Phase.TheVariants.{Opened, Closing}
use Rattle.sts_model.specs.declared.record.Frame.{Frame}
use Rattle.sts_model.specs.declared.record.Scope.{Scope}
use Rattle.sts_model.specs.declared.record.Slot.TheVariants as slots
use Rattle.sts_model.specs.declared.record.Task.{Task}
use Rattle.sts_model.specs.World.{World, task_at, scope_at, no_task, no_scope, entry_frame}
use Rattle.sts_model.specs.Local.{steps}
use Rattle.sts_model.specs.Living.{lives, is_subtask, completion_of, parent}
use Rattle.sts_model.specs.Misuse.{slot, is_opened, is_joined}
use Rattle.sts_model.specs.Effect.{named, fork_task, subtask_of, with_slot}
use Rattle.sts_model.specs.Effect as effects
use Rattle.laws_runs.specs.Runs.{Does}
use Rattle.laws_runs.specs.Tallies.{births}
use Rattle.laws_runs.proofs.ListLemmas.{past}
use Rattle.laws_runs.proofs.EffectLemmas.{first_no}
use Rattle.laws_runs.proofs.EventLemmas.{Right, Next}
use Rattle.laws_runs.proofs.FrameLemmas.{own_slot, at_own-is}
use Rattle.laws_runs.proofs.BirthLemmas.{born_alive}
use Rattle.laws_calls.specs.Outside.{Outside, per_birth}
use Rattle.laws_calls.specs.Held as held
use Rattle.laws_calls.specs.Tasks.{Among, AllTwo, Call, HasWay, Part, May, Seen, Own, bare, begin, births_in, Way, Knowledge, Unseen, ByJoiner, Heard, nothing, Late}
use Rattle.laws_calls.specs.Steps.{Row, Table, IsTable, IsRowOf, LeadsBy, Forks, call_of, with_handle, forked, is_cancelled, unstarted_step, new_part}
use Rattle.laws_calls.specs.Covers.{subs, PartFits, ScopeFits, SeenFits, HeldFits, FrameFits, TaskFits}
use Rattle.laws_calls.specs.Covers.{IsCovered, Covers, HasState, alive_in, IsRight, IsTimely, sum_to}
use Rattle.laws_calls.proofs.Lists.{all_map, all_set, all_length, all_append, all_put_place, Apart, filter_agree, range_last, range_among, get_front, no}
use Rattle.laws_calls.proofs.Turns.{Facts, FlagsHaveCause, alive_later, covered_before, flag_stays, environment_stays}
use Rattle.laws_calls.proofs.Turns.{part_same, seen_same, held_same, task_same, apart_births, sub_born, owner_covered, covered_or_not, parts_as}
use Rattle.laws_calls.proofs.Births.{cut, cut_here, cut_other, sum_cut, sum_agrees}
use Rattle.laws_calls.proofs.Moves.{GoesOn, goes_by, OwnScope, own_scope}
use Rattle.laws_calls.proofs.Early.{order_more}
use Rattle.laws_calls.proofs.Possible.{are_possible}
use Rattle.laws_calls.proofs.Alone.{instr_of}

-- the empty slots of a new task
pub empties : (v : World) (opened : List ℕ) (m : ℕ) → AllTwo (HeldFits v opened) (replicate m slots.Empty) (replicate m held.Empty)
empties v opened zero = tt
empties v opened (suc m) = (tt, empties v opened m)

-- a new task has no end yet
pub unborn : (w : World) (s : ℕ) → Right w → completion_of (scope_at w s).completions (length w.tasks) ≡ None
unborn w s o = by (completion_of (scope_at w s).completions (length w.tasks)) refl
  where
    by : (q : Option End) → completion_of (scope_at w s).completions (length w.tasks) ≡ q → q ≡ None
    by None e = refl
    by (Some end) e =
        let a : (task_at w (length w.tasks)).outcome ≡ Some end = (o.told s).ended (length w.tasks) end e in
        let b : (task_at w (length w.tasks)).outcome ≡ None = ap (λ (y : Task). y.outcome) (past w.tasks (length w.tasks) no_task (omega arith)) in
        let both : None ≡ Some end = sym b ∙ a in
        cc

-- what is known of a forker that is covered
record Forker (p : Program) (outside : Outside) (t : Table) (w : World) (u x g : ℕ) (q : Option ℕ) (rows : ℕ → Row) (row : Row) (births most : ℕ) : Type 0 where
  pub own : Own
  pub old : TaskFits outside rows w u own
  pub few : own.left ≤ most
  pub scope : OwnScope rows w (task_at w u).frame own x (named (slot (task_at w u).frame x))
  pub ways : List Way
  pub leads : LeadsBy (per_birth outside + births) (rows u).states (forked p own scope.place scope.seen ways g q)
  pub unasked : scope.seen.asked ≡ nothing
  -- If the new task runs, the row is that of its call, and at least the births of the row are left to
  -- it. Each way of the row is one of the new part.
  pub is_row : (scope_at w (named (slot (task_at w u).frame x))).cancelled ≡ false → IsRowOf t row (call_of p own scope.seen g)
  pub enough : (scope_at w (named (slot (task_at w u).frame x))).cancelled ≡ false → row.births ≤ births
  pub told : (scope_at w (named (slot (task_at w u).frame x))).cancelled ≡ false → (e : End) → HasWay row.ways e → HasWay ways e

module _ (p : Program) (w : World) (h : Facts w) (u x g : ℕ) (q : Option ℕ) where
  abbrev f : Frame
  f = (task_at w u).frame

  abbrev s : ℕ
  s = named (slot f x)

  abbrev n : ℕ
  n = length w.tasks

  abbrev args : ℕ
  args = (routine p g).args

  abbrev child : Task
  child = subtask_of p w f s g

  abbrev after : World
  after = fork_task p w u f s g q

  abbrev next : Frame
  next = effects.forked f args q n

  abbrev more : List Task
  more = w.tasks ++ child ∷ []

  abbrev task : Task
  task = record (get_or more u no_task) { frame = next }

  tasks_after : after.tasks ≡ set more u task
  unfolding fork_task
  tasks_after = refl

  scopes_after : after.scopes ≡ w.scopes
  unfolding fork_task
  scopes_after = refl

  scope_same : (r : ℕ) → scope_at after r ≡ scope_at w r
  scope_same r = ap (λ xs. get_or xs r no_scope) scopes_after

  count : length after.tasks ≡ suc n
  count =
      let a : length after.tasks ≡ length more = ap (λ (xs : List Task). length xs) tasks_after ∙ length-set more u task in
      let b = length-append w.tasks (child ∷ []) in
      omega (arith, a, b)

  task_old : (k : ℕ) → k < n → (k ≡ u → ⊥) → task_at after k ≡ task_at w k
  task_old k less other = ap (λ xs. get_or xs k no_task) tasks_after ∙ get_or-set_other more u k task no_task other ∙ get_or_append_left w.tasks (child ∷ []) no_task k less

  task_forker : u < n → task_at after u ≡ record (task_at w u) { frame = next }
  task_forker born =
      let b = length-append w.tasks (child ∷ []) in
      ap (λ xs. get_or xs u no_task) tasks_after ∙ get_or-set_same more u task no_task (omega (arith, b, born))
      ∙ ap (λ (y : Task). record y { frame = next }) (get_or_append_left w.tasks (child ∷ []) no_task u born)

  task_new : u < n → task_at after n ≡ child
  task_new born = ap (λ xs. get_or xs n no_task) tasks_after ∙ get_or-set_other more u n task no_task (λ e. omega (arith, e, born)) ∙ get_or-append_seam w.tasks child [] no_task

  -- a fact on a task that was born, whether it is the forker or another
  of_old : (P : Task → Type 0) (k : ℕ) → k < n → u < n → P (task_at w k) → P (record (task_at w k) { frame = next }) → P (task_at after k)
  of_old P k less born other same = by (nat_eq k u) refl
    where
      by : (b : Bool) → nat_eq k u ≡ b → P (task_at after k)
      by true e =
          let is : k ≡ u = grind (arith, nat_tests) in
          subst (λ i. P (task_at after i)) (sym is) (subst (λ (y : Task). P y) (sym (task_forker born)) (subst (λ i. P (record (task_at w i) { frame = next })) is same))
      by false e = let never : k ≡ u → ⊥ = grind (arith, nat_tests) in subst (λ (y : Task). P y) (sym (task_old k less never)) other

  -- ---- the subtasks of each scope

  subs_more : u < n → (r : ℕ) → subs after r ≡ subs w r ++ cond (s == r) (n ∷ []) []
  subs_more born r =
      ap (λ m. filter (λ k. is_subtask r (task_at after k)) (range_with_len 0 m)) count
      ∙ ap (λ ks. filter (λ k. is_subtask r (task_at after k)) ks) (range_last 0 n n (omega arith))
      ∙ filter-append (λ k. is_subtask r (task_at after k)) (births w) (n ∷ [])
      ∙ ap (λ ks. ks ++ filter (λ k. is_subtask r (task_at after k)) (n ∷ []))
      (filter_agree (λ k. is_subtask r (task_at after k)) (λ k. is_subtask r (task_at w k)) (births w)
      (λ k at. (let less = range_among 0 n k at in of_old (λ (y : Task). is_subtask r y ≡ is_subtask r (task_at w k)) k (omega (arith, less)) born refl refl)))
      ∙ ap (λ (y : Task). subs w r ++ cond (is_subtask r y) (n ∷ []) []) (task_new born)

  subs_other : u < n → (r : ℕ) → (r ≡ s → ⊥) → subs after r ≡ subs w r
  subs_other born r other =
      let e : (s == r) ≡ false = grind (arith, nat_tests) in
      subs_more born r ∙ ap (λ b. subs w r ++ cond b (n ∷ []) []) e ∙ append-nil (subs w r)

  subs_here : u < n → subs after s ≡ subs w s ++ n ∷ []
  subs_here born = let e : (s == s) ≡ true = grind (arith, nat_tests) in subs_more born s ∙ ap (λ b. subs w s ++ cond b (n ∷ []) []) e

  -- ---- the new task and the forker

  module _ (nx : Next w after) (born : u < n) (alive : lives (task_at w u) ≡ true) (outside : Outside) (t : Table) (rows later : ℕ → Row) (row : Row) (births most : ℕ) (agree : (k : ℕ) → k < n → later k ≡ rows k) (new : later n ≡ row) (k : Forker p outside t w u x g q rows row births most) where
    abbrev opened : List ℕ
    opened = births_in f.entries

    abbrev call : Call
    call = call_of p k.own k.scope.seen g

    child_fits : (scope_at w s).cancelled ≡ false → TaskFits outside later after n (begin held.Lent call row.births)
    child_fits free =
        record {
          there = subst (λ (r : Row). Among r.states (begin held.Lent call row.births)) (sym new) (k.is_row free).begins;
          fits = subst (λ (y : Task). FrameFits later after y.frame (begin held.Lent call row.births)) (sym (task_new born)) (record {
            frame = ap (λ (z : Frame). bare (entry_frame g (reverse (take args z.operands)) slots.Empty)) k.old.fits.frame;
            held = (tt, empties after [] 15);
            scopes = tt;
          });
          flag = λ set. absurd (no (sym set ∙ ap (λ (y : Task). y.flag) (task_new born)));
          environment =
              ap (λ (y : Task). (parent after y.scope).environment) (task_new born) ∙ ap (λ (z : Scope). z.environment) (scope_same s) ∙ sym k.scope.fits.environment
              ∙ sym (ap (λ (r : Row). r.call.environment) new ∙ ap (λ (c : Call). c.environment) (k.is_row free).call);
        }

    abbrev part : Part
    part = new_part k.ways k.scope.seen

    part_fits : PartFits later (alive_in after) (scope_at w s) n part
    part_fits =
        record {
          may = subst (λ o. May part o) (sym (unborn w s h.right)) refl;
          whole = λ lives_n free e way. k.told free e (subst (λ (r : Row). HasWay r.ways e) new way);
        }

    abbrev seen : Seen
    seen = record k.scope.seen { parts = k.scope.seen.parts ++ part ∷ [] }

    seen_fits : SeenFits later after s seen
    seen_fits =
        subst (λ (z : Scope). ScopeFits later (alive_in after) z (subs after s) seen) (sym (scope_same s))
        (subst (λ us. ScopeFits later (alive_in after) (scope_at w s) us seen) (sym (subs_here born))
        (parts_as k.scope.seen k.scope.fits (k.scope.seen.parts ++ part ∷ []) k.scope.seen.asked k.scope.seen.has_failure
        (all_append (PartFits later (alive_in after) (scope_at w s)) (subs w s) k.scope.seen.parts (n ∷ []) (part ∷ [])
        (all_map (PartFits rows (alive_in w) (scope_at w s)) (PartFits later (alive_in after) (scope_at w s)) (subs w s) k.scope.seen.parts
        (λ i y at e. part_same w after h nx rows later (scope_at w s) i y (sub_born w s i at) (agree i (sub_born w s i at)) e) k.scope.fits.parts)
        (part_fits, tt))
        (λ e. order_more k.scope.seen.has_failure (scope_at w s) (subs w s) k.scope.seen.parts n part refl (k.scope.fits.order e)) (inl k.unasked)))

    -- a subtask keeps its place
    place_stays : (r i c : ℕ) → slice_get (subs w r) i ≡ Some c → slice_get (subs after r) i ≡ Some c
    place_stays r i c e = subst (λ us. slice_get us i ≡ Some c) (sym (subs_more born r)) (get_front (subs w r) (cond (s == r) (n ∷ []) []) i c e)

    slots_before : AllTwo (HeldFits after opened) f.slots k.own.held
    slots_before = all_map (HeldFits w opened) (HeldFits after opened) f.slots k.own.held (λ a b at e. held_same w after h nx opened (λ r i c at2 e2. place_stays r i c e2) a b e) k.old.fits.held

    sub_last : slice_get (subs after s) (length k.scope.seen.parts) ≡ Some n
    sub_last =
        let long : length (subs w s) ≡ length k.scope.seen.parts = all_length (PartFits rows (alive_in w) (scope_at w s)) (subs w s) k.scope.seen.parts k.scope.fits.parts in
        subst (λ us. slice_get us (length k.scope.seen.parts) ≡ Some n) (sym (subs_here born)) (subst (λ m. slice_get (subs w s ++ n ∷ []) m ≡ Some n) long (got_last (subs w s) n))

    slots_after : (y : Option ℕ) → AllTwo (HeldFits after opened) (with_slot f.slots y (slots.Sub n)) (with_handle k.own.held y (held.Sub k.scope.place (length k.scope.seen.parts)))
    slots_after None = slots_before
    slots_after (Some y) = all_set (HeldFits after opened) f.slots k.own.held y (slots.Sub n) (held.Sub k.scope.place (length k.scope.seen.parts)) slots_before (s, (k.scope.at, sub_last))

    apart : Apart opened
    apart = apart_births f.entries (λ r has. (h.entered u r alive has).once)

    forker_fits : FrameFits later after next (forked p k.own k.scope.place k.scope.seen k.ways g q)
    forker_fits =
        record {
          frame = ap (λ (z : Frame). steps z args []) k.old.fits.frame;
          held = slots_after q;
          scopes = all_put_place (SeenFits rows w) (SeenFits later after) opened k.own.scopes k.scope.place s seen k.old.fits.scopes apart k.scope.at seen_fits
              (λ r y at other e. seen_same w after h nx rows later r y (scope_same r) (subs_other born r other) agree e);
        }

opened_only : (a : Phase) → not (is_opened a) ≡ false → is_joined a ≡ true → ⊥
opened_only Opened e k = cc
opened_only _ e k = cc

not_asked : {A B : Type 0} (a b : Phase) → not (is_opened a) ≡ false → (a ≡ b) ⊎ (a ≡ Closing) → A ⊎ ((is_joined b ≡ true) × B) → A
not_asked a b e same (inl k) = k
not_asked a b e (inl same) (inr k) = absurd (opened_only a e (ap is_joined same ∙ k.0))
not_asked a b e (inr same) (inr k) = absurd (no (sym (ap (λ z. not (is_opened z)) same) ∙ e))

known_gone : (q : Knowledge) (scope : Scope) → is_cancelled q ≡ true → IsRight q scope → scope.cancelled ≡ true
known_gone ByJoiner scope e r = r
known_gone Late scope e r = r.0
known_gone Unseen scope e r = cc
known_gone Heard scope e r = cc

-- a subtask that starts is in a scope that is not cancelled
starts : (cancelled : Bool) → (not cancelled && true) ≡ true → cancelled ≡ false
starts false e = refl
starts true e = cc

-- nothing is left to a subtask that never starts
no_more : (born : ℕ) (states : List Own) (next : Own) → LeadsBy born states next → LeadsBy (born + 0) states next
no_more born states next leads possible = let r = leads possible in let less = r.1 in (r.0, omega (arith, less), r.2)

-- ---- a row for the new task

abbrev with_row : (ℕ → Row) → ℕ → Row → ℕ → Row
with_row rows n row k = cond (k == n) row (rows k)

row_old : (rows : ℕ → Row) (n : ℕ) (row : Row) (k : ℕ) → k < n → with_row rows n row k ≡ rows k
row_old rows n row k less = let other : (k == n) ≡ false = grind (arith, nat_tests) in ap (λ b. cond b row (rows k)) other

row_new : (rows : ℕ → Row) (n : ℕ) (row : Row) → with_row rows n row n ≡ row
row_new rows n row = let same : (n == n) ≡ true = grind (arith, nat_tests) in ap (λ b. cond b row (rows n)) same

row_listed : (t : Table) (rows : ℕ → Row) (n : ℕ) (row : Row) → ((k : ℕ) → Among t (rows k)) → Among t row → (k : ℕ) → Among t (with_row rows n row k)
row_listed t rows n row old new k = by (k == n)
  where
    by : (b : Bool) → Among t (cond b row (rows k))
    by true = new
    by false = old k

-- the row, how many births are left to the new task, and what is known if the forker is covered
record Chosen (p : Program) (outside : Outside) (t : Table) (w : World) (u x g : ℕ) (q : Option ℕ) (rows : ℕ → Row) (most : ℕ) : Type 0 where
  pub row : Row
  pub births : ℕ
  pub listed : Among t row
  pub forker : IsCovered outside w u → Forker p outside t w u x g q rows row births most

module _ (p : Program) (outside : Outside) (t : Table) (root : Row) (is : IsTable p outside t root) (w : World) (h : Facts w) (u x g : ℕ) (q : Option ℕ) (d : Does p w u (Fork x g q)) where
  mine : slot (f p w h u x g q) x ≡ slots.Own (s p w h u x g q)
  mine = own_slot (slot (task_at w u).frame x) (first_no _ _ (first_no _ _ d.fine.slots)) d.fine.own

  legal : not (is_opened (scope_at w (s p w h u x g q)).phase) ≡ false
  legal = sym (at_own-is w (slot (task_at w u).frame x) (λ n z. not (is_opened z.phase)) mine) ∙ d.fine.legal

  -- before a `join` nothing was asked
  unasked : (rows : ℕ → Row) (own : Own) (o : OwnScope rows w (task_at w u).frame own x (s p w h u x g q)) → o.seen.asked ≡ nothing
  unasked rows own o = not_asked (scope_at w (s p w h u x g q)).phase o.seen.phase legal o.fits.phase o.fits.asked

  -- whether the owner has seen that the scope is cancelled
  by_knowledge : (c : Covers p outside t root w) → IsCovered outside w u → (own : Own) → TaskFits outside c.rows w u own → own.left ≤ c.left u → (o : OwnScope c.rows w (task_at w u).frame own x (s p w h u x g q)) → (b : Bool) → is_cancelled o.seen.knowledge ≡ b → Chosen p outside t w u x g q c.rows (c.left u)
  by_knowledge c owed own k few o false e =
      let r : Forks p outside t (c.rows u).states own x g q o.place o.seen =
      is.forks (c.rows u) own x g o.place q o.seen (c.listed u) k.there (instr_of p (task_at w u).frame own (Fork x g q) k.fits.frame d.at) o.owns e
      in
      record {
        row = r.row;
        births = r.row.births;
        listed = r.is_row.there;
        forker = λ seen. record { own = own; old = k; few = few; scope = o; ways = r.row.ways; leads = r.leads; unasked = unasked c.rows own o; is_row = λ free. r.is_row; enough = λ free. omega arith; told = λ free end way. way };
      }
  by_knowledge c owed own k few o true e =
      let gone : (scope_at w (s p w h u x g q)).cancelled ≡ true = known_gone o.seen.knowledge (scope_at w (s p w h u x g q)) e o.fits.known in
      record {
        row = root;
        births = 0;
        listed = is.listed;
        forker = λ seen. record {
          own = own;
          old = k;
          few = few;
          scope = o;
          ways = [];
          leads = no_more (per_birth outside) (c.rows u).states (forked p own o.place o.seen [] g q)
              (is.closed (c.rows u) own (forked p own o.place o.seen [] g q) (Fork x g q) (c.listed u) k.there (instr_of p (task_at w u).frame own (Fork x g q) k.fits.frame d.at) (unstarted_step o.place o.seen o.owns e));
          unasked = unasked c.rows own o;
          is_row = λ free. absurd (no (sym gone ∙ free));
          enough = λ free. absurd (no (sym gone ∙ free));
          told = λ free. absurd (no (sym gone ∙ free));
        };
      }

  choose : (c : Covers p outside t root w) → IsCovered outside w u ⊎ (IsCovered outside w u → ⊥) → Chosen p outside t w u x g q c.rows (c.left u)
  choose c (inl owed) =
      let old : HasState outside c.rows c.left w u = c.tasks u d.alive owed in
      let o : OwnScope c.rows w (task_at w u).frame old.0 x (s p w h u x g q) = own_scope c.rows w (task_at w u).frame old.0 x (s p w h u x g q) old.1.fits mine in
      by_knowledge c owed old.0 old.1 old.2 o (is_cancelled o.seen.knowledge) refl
  choose c (inr never) = record { row = root; births = 0; listed = is.listed; forker = λ owed. absurd (never owed) }

  module _ (c : Covers p outside t root w) (nx : Next w (after p w h u x g q)) (flags : FlagsHaveCause outside w (after p w h u x g q)) (o : Chosen p outside t w u x g q c.rows (c.left u)) where
    abbrev v : World
    v = after p w h u x g q

    abbrev m : ℕ
    m = length w.tasks

    abbrev later : ℕ → Row
    later = with_row c.rows m o.row

    born : u < m
    born = born_alive w u d.alive

    -- what the fork takes of the births that are left to the forker
    abbrev cost : ℕ
    cost = per_birth outside + o.births

    abbrev left : ℕ → ℕ
    left k = cond (k == m) o.births (cut c.left u cost k)

    left_old : (k : ℕ) → k < m → left k ≡ cut c.left u cost k
    left_old k less = let other : (k == m) ≡ false = grind (arith, nat_tests) in ap (λ b. cond b o.births (cut c.left u cost k)) other

    left_new : left m ≡ o.births
    left_new = let same : (m == m) ≡ true = grind (arith, nat_tests) in ap (λ b. cond b o.births (cut c.left u cost m)) same

    agree : (k : ℕ) → k < m → later k ≡ c.rows k
    agree k less = row_old c.rows m o.row k less

    owner : (scope_at w (s p w h u x g q)).owner ≡ u
    owner = (h.right.sound.own u x (s p w h u x g q) mine).owner

    -- where the forker goes on
    forker_led : Forker p outside t w u x g q c.rows o.row o.births (c.left u) → (old : Own) × GoesOn later v u (next p w h u x g q) old cost × (old.left ≤ c.left u) × TaskFits outside c.rows w u old
    forker_led k =
        let next_own : Own = forked p k.own k.scope.place k.scope.seen k.ways g q in
        let fits : FrameFits later v (next p w h u x g q) next_own = forker_fits p w h u x g q nx born d.alive outside t c.rows later o.row o.births (c.left u) agree (row_new c.rows m o.row) k in (
          k.own,
          goes_by later v u (next p w h u x g q) k.own next_own cost cost (omega arith) refl
              (subst (λ (r : Row). LeadsBy cost r.states next_own) (sym (agree u born)) k.leads)
              (are_possible later v nx.right (births_in (task_at w u).frame.entries) next_own.scopes fits.scopes) fits,
          k.few,
          k.old,
        )

    forker_covered : IsCovered outside v u → HasState outside later left v u
    forker_covered owed =
        let k = forker_led (o.forker (covered_before w v h nx outside u born owed)) in
        let less = k.1.less in
        let most = k.2 in
        let here = left_old u born ∙ cut_here c.left u cost in (
          k.1.own,
          record {
            there = k.1.there;
            fits = subst (λ (y : Task). FrameFits later v y.frame k.1.own) (sym (task_forker p w h u x g q born)) k.1.fits;
            flag = flag_stays w v h nx outside flags u born owed k.3.flag;
            environment = environment_stays w v h nx u born ∙ k.3.environment ∙ ap (λ (r : Row). r.call.environment) (sym (agree u born));
          },
          omega (arith, less, most, here),
        )

    fewer : outside.cancels ≡ true → length v.tasks + length v.scopes + sum_to left (length v.tasks) ≤ 1 + root.births
    fewer wide =
        let k = forker_led (o.forker (inl wide)) in
        let less = k.1.less in
        let most = k.2 in
        let before = c.births wide in
        let n1 = count p w h u x g q in
        let opened : length v.scopes ≡ length w.scopes = ap (λ (xs : List Scope). length xs) (scopes_after p w h u x g q) in
        let all : sum_to left (length v.tasks) ≡ sum_to left m + left m = ap (sum_to left) n1 in
        let cuts = sum_cut c.left u cost m born (omega (arith, less, most)) in
        let same = sum_agrees left (cut c.left u cost) m left_old in
        let last = left_new in
        let one : per_birth outside ≡ 1 = ap (λ b. cond b 1 0) wide in
        omega (arith, before, n1, opened, all, cuts, same, last, one)

    child_covered : lives (task_at v m) ≡ true → IsCovered outside v m → HasState outside later left v m
    child_covered alive owed =
        let inside : (task_at v m).scope ≡ Some (s p w h u x g q) = ap (λ (y : Task). y.scope) (task_new p w h u x g q born) in
        let by_owner = owner_covered outside v nx.right m (s p w h u x g q) inside owed in
        let same : (scope_at v (s p w h u x g q)).owner ≡ u = ap (λ (z : Scope). z.owner) (scope_same p w h u x g q (s p w h u x g q)) ∙ owner in
        let before : IsCovered outside w u = covered_before w v h nx outside u born (subst (λ k. IsCovered outside v k) same by_owner) in
        let k = o.forker before in
        let free : (scope_at w (s p w h u x g q)).cancelled ≡ false = starts (scope_at w (s p w h u x g q)).cancelled (subst (λ (y : Task). lives y ≡ true) (task_new p w h u x g q born) alive) in
        let few = k.enough free in
        let last = left_new in
        (begin held.Lent (call_of p k.own k.scope.seen g) o.row.births, child_fits p w h u x g q nx born d.alive outside t c.rows later o.row o.births (c.left u) agree (row_new c.rows m o.row) k free, omega (arith, few, last))

    other_covered : (k : ℕ) → k < m → (k ≡ u → ⊥) → lives (task_at v k) ≡ true → IsCovered outside v k → HasState outside later left v k
    other_covered k less other alive owed =
        let before : lives (task_at w k) ≡ true = alive_later (task_at w k) (task_at v k) (nx.later.task k less) alive in
        let old : HasState outside c.rows c.left w k = c.tasks k before (covered_before w v h nx outside k less owed) in
        let most = old.2 in
        let same = left_old k less ∙ cut_other c.left u cost k other in
        let apart : (r : ℕ) → (scope_at w r).owner ≡ k → r ≡ s p w h u x g q → ⊥ = λ r by_k e. other (sym by_k ∙ ap (λ i. (scope_at w i).owner) e ∙ owner) in (
          old.0,
          task_same w v h nx outside flags c.rows later k old.0 before owed (ap (λ (y : Task). y.frame) (task_old p w h u x g q k less other)) agree
              (λ r y less2 by_k e. seen_same w v h nx c.rows later r y (scope_same p w h u x g q r) (subs_other p w h u x g q born r (apart r by_k)) agree e)
              (λ r i z less2 by_k e. subst (λ us. slice_get us i ≡ Some z) (sym (subs_other p w h u x g q born r (apart r by_k))) e)
              old.1,
          omega (arith, most, same),
        )

    covered : (k : ℕ) → lives (task_at v k) ≡ true → IsCovered outside v k → HasState outside later left v k
    covered k alive owed = by (nat_eq k u) refl (nat_eq k m) refl
      where
        by : (a : Bool) → nat_eq k u ≡ a → (b : Bool) → nat_eq k m ≡ b → HasState outside later left v k
        by true e b e2 =
            let same : k ≡ u = grind (arith, nat_tests) in
            subst (λ i. HasState outside later left v i) (sym same) (forker_covered (subst (λ i. IsCovered outside v i) same owed))
        by false e true e2 =
            let same : k ≡ m = grind (arith, nat_tests) in
            subst (λ i. HasState outside later left v i) (sym same) (child_covered (subst (λ i. lives (task_at v i) ≡ true) same alive) (subst (λ i. IsCovered outside v i) same owed))
        by false e false e2 =
            let other : k ≡ u → ⊥ = grind (arith, nat_tests) in
            let old : k ≡ m → ⊥ = grind (arith, nat_tests) in
            let less = born_alive v k alive in
            let n1 = count p w h u x g q in
            other_covered k (omega (arith, less, n1, old)) other alive owed

    covers_chosen : Covers p outside t root v
    covers_chosen =
        record {
          rows = later;
          listed = row_listed t c.rows m o.row c.listed o.listed;
          first = agree 0 (omega (arith, born)) ∙ c.first;
          left = left;
          births = fewer;
          timely = λ r. subst (λ (z : Scope). IsTimely z) (sym (scope_same p w h u x g q r)) (c.timely r);
          tasks = covered;
          ended = λ e is2.
              c.ended e (sym (of_old p w h u x g q (λ (y : Task). y.outcome ≡ (task_at w 0).outcome) 0 (omega (arith, born)) born refl refl) ∙ is2);
        }

  pub fork_covered : (c : Covers p outside t root w) → Next w (after p w h u x g q) → FlagsHaveCause outside w (after p w h u x g q) → Covers p outside t root (after p w h u x g q)
  fork_covered c nx flags = covers_chosen c nx flags (choose c (covered_or_not outside w h.right u (born_alive w u d.alive)))
