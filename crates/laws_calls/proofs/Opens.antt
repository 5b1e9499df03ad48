-- A scope is opened.
use Rattle.std.proofs.Common.{◌≡◌, ℕ, ◌<◌, inl, List, [], ◌∷◌, ◌++◌, Bool, true, false, Some, refl, sym, ◌∙◌, ap, subst, length, arith, get_or, set, cond}
use Rattle.std.proofs.Common.{length-set, length-append, get_or-set_same, get_or-set_other}
use Rattle.std.specs.Prelude.{slice_get}
use Rattle.std.specs.List.{filter}
use Rattle.std.proofs.lemmas.List.{get_or_append_left}
use Rattle.std.proofs.Math.Seq.{get_or-append_seam}
use Rattle.sts_code.specs.Program.{Program}
use Rattle.sts_code.specs.declared.instr.Joiner.{Joiner}
use Rattle.sts_code.specs.declared.instr.Instr.TheVariants.{Open}
use Rattle.sts_model.specs.declared.event.Phase.TheVariants.{Opened}
use Rattle.sts_model.specs.declared.record.Entry.TheVariants as entry
use Rattle.sts_model.specs.declared.record.Frame.{Frame}
use Rattle.sts_model.specs.declared.record.Scope.{Scope}
use Rattle.sts_model.specs.declared.record.Slot.{Slot}
use Rattle.sts_model.specs.declared.record.Slot.TheVariants as slots
use Rattle.sts_model.specs.declared.record.Task.{Task}
use Rattle.sts_model.specs.World.{World, task_at, scope_at, no_task, no_scope}
use Rattle.sts_model.specs.Living.{is_subtask}
use Rattle.sts_model.specs.Local.{steps}
use Rattle.sts_model.specs.Effect.{open_scope}
use Rattle.laws_runs.specs.Runs.{Does}
use Rattle.laws_runs.specs.Tallies.{births}
use Rattle.laws_runs.proofs.ListLemmas.{at_set, at_more}
use Rattle.laws_runs.proofs.EffectLemmas.{some-is_in}
use Rattle.laws_runs.proofs.EventLemmas.{Next}
use Rattle.laws_runs.proofs.BirthLemmas.{born_alive, new_scope, opener}
use Rattle.laws_calls.specs.Outside.{Outside, per_birth}
use Rattle.laws_calls.specs.Held.{Held}
use Rattle.laws_calls.specs.Held as held
use Rattle.laws_calls.specs.Tasks.{AllTwo, at_place, Seen, Own, births_in, bindings, Unseen, nothing}
use Rattle.laws_calls.specs.Steps.{Row, Table, IsTable, opened, open_step}
use Rattle.laws_calls.specs.Covers.{subs, ScopeFits, SeenFits, HeldFits, TaskFits, IsTimely, Covers, alive_in}
use Rattle.laws_calls.proofs.Lists.{all_map, all_set, all_length, at_first}
use Rattle.laws_calls.proofs.Lists as lists
use Rattle.laws_calls.proofs.Turns.{Facts, FlagsHaveCause, seen_same, births_has}
use Rattle.laws_calls.proofs.Moves.{Turned, GoesOn, goes_by, covers_turned, turned_subs}
use Rattle.laws_calls.proofs.Possible.{are_possible, no_trigger}
use Rattle.laws_calls.proofs.Alone.{instr_of, bindings_same}

filter_none : (test : ℕ → Bool) (us : List ℕ) → ((u : ℕ) → test u ≡ false) → filter test us ≡ []
filter_none test [] none = refl
filter_none test (u ∷ us) none = ap (λ b. cond b (u ∷ filter test us) (filter test us)) (none u) ∙ filter_none test us none

module _ (p : Program) (outside : Outside) (t : Table) (root : Row) (is : IsTable p outside t root) (w : World) (h : Facts w) (u x : ℕ) (joiner : Joiner) (timed : Bool) where
  abbrev f : Frame
  f = (task_at w u).frame

  abbrev n : ℕ
  n = length w.scopes

  abbrev new : Scope
  new = new_scope w u joiner timed

  abbrev after : World
  after = open_scope w u f x joiner timed

  abbrev g : Frame
  g = opener w f x

  abbrev task : Task
  task = record (task_at w u) { frame = g }

  tasks_after : after.tasks ≡ set w.tasks u task
  unfolding open_scope
  tasks_after = refl

  scopes_after : after.scopes ≡ w.scopes ++ new ∷ []
  unfolding open_scope
  scopes_after = refl

  scope_old : (s : ℕ) → s < length w.scopes → scope_at after s ≡ scope_at w s
  scope_old s born = ap (λ xs. get_or xs s no_scope) scopes_after ∙ get_or_append_left w.scopes (new ∷ []) no_scope s born

  scope_new : scope_at after n ≡ new
  scope_new = ap (λ xs. get_or xs n no_scope) scopes_after ∙ get_or-append_seam w.scopes new [] no_scope

  turned : u < length w.tasks → Turned w after u g 1
  turned born =
      record {
        count = ap (λ (xs : List Task). length xs) tasks_after ∙ length-set w.tasks u task;
        opened = ap (λ (xs : List Scope). length xs) scopes_after ∙ length-append w.scopes (new ∷ []);
        here = ap (λ (xs : List Task). (get_or xs u no_task).frame) tasks_after ∙ ap (λ (y : Task). y.frame) (get_or-set_same w.tasks u task no_task born);
        there = λ q other. ap (λ (xs : List Task). (get_or xs q no_task).frame) tasks_after ∙ ap (λ (y : Task). y.frame) (get_or-set_other w.tasks u q task no_task other);
        scope = λ q. ap (λ (xs : List Task). (get_or xs q no_task).scope) tasks_after ∙ at_set (λ (y : Task). y.scope ≡ (task_at w q).scope) w.tasks u q task no_task (λ e. rw e refl) refl;
        scopes = λ s less other. scope_old s less;
        outcome = λ q. ap (λ (xs : List Task). (get_or xs q no_task).outcome) tasks_after ∙ at_set (λ (y : Task). y.outcome ≡ (task_at w q).outcome) w.tasks u q task no_task (λ e. rw e refl) refl;
        timely = λ k s. subst (λ (xs : List Scope). IsTimely (get_or xs s no_scope)) (sym scopes_after) (at_more (λ (scope : Scope). IsTimely scope) w.scopes new s no_scope (λ e late. cc) (k s));
      }

  abbrev old : List ℕ
  old = births_in f.entries

  -- no task is in the new scope
  none_inside : u < length w.tasks → subs after n ≡ []
  none_inside born = filter_none (λ q. is_subtask n (task_at after q)) (births after) (λ q. by q (is_subtask n (task_at after q)) refl)
    where
      by : (q : ℕ) (b : Bool) → is_subtask n (task_at after q) ≡ b → b ≡ false
      by q false e = refl
      by q true e =
          let inside = sym ((turned born).scope q) ∙ some-is_in n (task_at after q).scope e in
          let less = (h.right.sound.born q n inside).0 in
          absurd (omega (arith, less))

  held_more : u < length w.tasks → (a : Slot) (b : Held) → HeldFits w old a b → HeldFits after (n ∷ old) a b
  held_more born slots.Empty held.Empty e = tt
  held_more born (slots.Own s) (held.Own place) e = lists.at_more n old place s e
  held_more born (slots.Lent s) held.Lent e = tt
  held_more born (slots.Sub q) (held.Sub place i) e = (e.0, (lists.at_more n old place e.0 e.1.0, subst (λ us. slice_get us i ≡ Some q) (sym (turned_subs (turned born) e.0)) e.1.1))
  held_more born a b e = absurd e

  fresh : (rows : ℕ → Row) (own : Own) → u < length w.tasks → TaskFits outside rows w u own → SeenFits rows after n (record { joiner = joiner; timed = timed; environment = bindings (rows u).call own; phase = Opened; knowledge = Unseen; asked = nothing; has_failure = false; parts = [] })
  fresh rows own born k =
      let y : Seen = record { joiner = joiner; timed = timed; environment = bindings (rows u).call own; phase = Opened; knowledge = Unseen; asked = nothing; has_failure = false; parts = [] } in
      subst (λ (scope : Scope). ScopeFits rows (alive_in after) scope (subs after n) y) (sym scope_new)
      (subst (λ us. ScopeFits rows (alive_in after) new us y) (sym (none_inside born))
      (record {
        joiner = refl;
        timed = refl;
        environment = sym (bindings_same p outside t root is w h rows u own k);
        phase = inl refl;
        known = tt;
        on_time = λ is joined. cc;
        counts = no_trigger joiner;
        asked = inl refl;
        order = λ e. tt;
        parts = tt;
      }))

  scopes : (c : Covers p outside t root w) → Next w after → Does p w u (Open x timed joiner) → u < length w.tasks → (own : Own) → TaskFits outside c.rows w u own → AllTwo (SeenFits c.rows after) (n ∷ old) (opened (c.rows u).call own x joiner timed).scopes
  scopes c next d born own k = (
    fresh c.rows own born k,
    all_map (SeenFits c.rows w) (SeenFits c.rows after) old own.scopes (λ s y at e. seen_same w after h next c.rows c.rows s y (scope_old s (h.entered u s d.alive (births_has f.entries s at)).born) (turned_subs (turned born) s) (λ q less. refl) e) k.fits.scopes,
  )

  goes_on : (c : Covers p outside t root w) → Next w after → Does p w u (Open x timed joiner) → u < length w.tasks → (own : Own) → TaskFits outside c.rows w u own → GoesOn c.rows after u g own (per_birth outside)
  goes_on c next d born own k =
      let then : Own = opened (c.rows u).call own x joiner timed in
      goes_by c.rows after u g own then (per_birth outside) (per_birth outside) (omega arith) refl
      (is.closed (c.rows u) own then (Open x timed joiner) (c.listed u) k.there (instr_of p f own (Open x timed joiner) k.fits.frame d.at) open_step)
      (are_possible c.rows after next.right (n ∷ old) then.scopes (scopes c next d born own k))
      (record {
        frame = ap (λ (z : Frame). record (steps z 0 []) { entries = entry.Scope 0 ∷ z.entries }) k.fits.frame;
        held = all_set (HeldFits after (n ∷ old)) f.slots own.held x (slots.Own n) (held.Own (length own.scopes))
            (all_map (HeldFits w old) (HeldFits after (n ∷ old)) f.slots own.held (λ a b at e. held_more born a b e) k.fits.held)
            (subst (λ m. at_place (n ∷ old) m ≡ Some n) (all_length (SeenFits c.rows w) old own.scopes k.fits.scopes) (at_first n old));
        scopes = scopes c next d born own k;
      })

  pub open_covered : (c : Covers p outside t root w) → Next w after → FlagsHaveCause outside w after → Does p w u (Open x timed joiner) → Covers p outside t root after
  open_covered c next flags d =
      let born : u < length w.tasks = born_alive w u d.alive in
      covers_turned p outside t root w after h next flags c u g 1 (per_birth outside) (turned born) (λ wide. ap (λ b. cond b 1 0) wide) d.alive (λ owed own k. goes_on c next d born own k)
