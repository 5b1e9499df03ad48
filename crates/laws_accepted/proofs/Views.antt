-- The view has what counts in its world, so the laws of costs hold for the view.
use Rattle.std.proofs.Common.{◌≡◌, ℕ, zero, suc, ◌<◌, ◌≤◌, List, [], ◌∷◌, Bool, true, false, Some, None, refl, sym, ◌∙◌, ap, subst, length, arith, get_or, cond}
use Rattle.std.specs.Prelude.{filter_map, count_by, sum_by}
use Rattle.std.proofs.lemmas.List.Sums.{sum_by-cons}
use Rattle.sts_code.specs.Program.{Program}
use Rattle.sts_code.specs.declared.instr.Instr.{Instr}
use Rattle.sts_code.specs.declared.instr.Instr.TheVariants.{Open, Fork, Bind}
use Rattle.sts_rules.specs.declared.budget.Budgets.{Budgets}
use Rattle.sts_model.specs.declared.event.Event.{Event}
use Rattle.sts_model.specs.declared.record.Entry.{Entry}
use Rattle.sts_model.specs.declared.record.Entry.TheVariants as entry
use Rattle.sts_model.specs.declared.record.Frame.{Frame}
use Rattle.sts_model.specs.declared.record.Task.{Task}
use Rattle.sts_model.specs.World.{World, State, Running, Faulted, task_at, no_task, instr_at}
use Rattle.sts_model.specs.Living.{lives}
use Rattle.sts_model.specs.Environment.{bound_of, own_bindings}
use Rattle.sts_model.specs.Standing.{stands_in, standing_tasks, standing_scopes, standing_bindings}
use Rattle.sts_model.specs.Misuse.{is_binding}
use Rattle.sts_model.specs.Run.{after}
use Rattle.sts_model.specs.Live.{Live, live}
use Rattle.laws_runs.specs.Runs.{In}
use Rattle.laws_runs.proofs.SoundLemmas.{Sound, dead_around}
use Rattle.laws_live.specs.Seen.{StandingIsSeen}
use Rattle.laws_live.proofs.EffectLemmas.{Facts}
use Rattle.laws_live.proofs.ViewLemmas.{had, shown, seen, task_here, tasks_born, lives_is}
use Rattle.laws_live.proofs.WaitingLemmas.{frame_is}
use Rattle.laws_live.proofs.LawLemmas.{facts-after}
use Rattle.laws_accepted.specs.Costs.{HasRoomFor, HasRoom}
use Rattle.laws_accepted.specs.Points.{NoneIdlesWithEntries}
use Rattle.laws_accepted.specs.Accepted.{RoomIsLeft, WithMain}
use Rattle.laws_accepted.specs.Views.{live_tasks, live_scopes, open_bindings, bindings_in, live_bindings, BindingsAreSeen, ViewsWithMain, ViewsAreWithin}
use Rattle.laws_accepted.specs.Views.{LiveHasRoomFor, LiveHasRoom, ViewsHaveRoom}
use Rattle.laws_accepted.proofs.Faults.{holds-in}

-- ---- bindings

-- lists with the same summands
sum_alike : {X Y : Type 0} (a : X → ℕ) (b : Y → ℕ) (xs : List X) (ys : List Y) (d : X) (e : Y) → length xs ≡ length ys → ((i : ℕ) → i < length xs → a (get_or xs i d) ≡ b (get_or ys i e)) → sum_by a xs ≡ sum_by b ys
sum_alike a b [] [] d e len same = refl
sum_alike a b [] (y ∷ ys) d e len same = absurd (omega (arith, len))
sum_alike a b (x ∷ xs) [] d e len same = absurd (omega (arith, len))
sum_alike a b (x ∷ xs) (y ∷ ys) d e len same =
    let one = sum_by-cons a x xs in
    let two = sum_by-cons b y ys in
    let head : a x ≡ b y = same zero (omega arith) in
    let tail : sum_by a xs ≡ sum_by b ys = sum_alike a b xs ys d e (omega (arith, len)) (λ i less. same (suc i) (omega (arith, less))) in
    omega (arith, one, two, head, tail)

-- the open bindings of a structure list, counted
bindings_counted : (es : List Entry) → count_by is_binding es ≡ length (filter_map bound_of es)
bindings_counted [] = refl
bindings_counted (entry.Scope s ∷ es) = let h = bindings_counted es in let k = sum_by-cons (λ (x : Entry). cond (is_binding x) 1 0) (entry.Scope s) es in omega (arith, h, k)
bindings_counted (entry.Binding key value ∷ es) = let h = bindings_counted es in let k = sum_by-cons (λ (x : Entry). cond (is_binding x) 1 0) (entry.Binding key value) es in omega (arith, h, k)

bindings_at : (w : World) (u : ℕ) → Sound w → NoneIdlesWithEntries w → bindings_in (seen w u (task_at w u)) ≡ length (own_bindings (task_at w u))
bindings_at w u o idle = by (stands_in w (task_at w u).scope) refl
  where
    none : lives (task_at w u) ≡ false → 0 ≡ length (own_bindings (task_at w u))
    none e = ap (λ es. length (filter_map bound_of es)) (sym (idle u e))

    living : (b : Bool) → lives (task_at w u) ≡ b → open_bindings (cond b (Some (had w (task_at w u).scope (task_at w u))) None) ≡ length (own_bindings (task_at w u))
    living true e = bindings_counted (task_at w u).frame.entries
    living false e = none e

    by : (b : Bool) → stands_in w (task_at w u).scope ≡ b → bindings_in (cond b (Some (shown w (task_at w u).scope u (task_at w u))) None) ≡ length (own_bindings (task_at w u))
    by true e = living (lives (task_at w u)) refl
    by false e = none (dead_around w u o e)

bindings_seen : (w : World) → Sound w → NoneIdlesWithEntries w → live_bindings (live w) ≡ standing_bindings w
bindings_seen w o idle =
    sum_alike bindings_in (λ (task : Task). length (own_bindings task)) (live w).tasks w.tasks None no_task (tasks_born w)
    (λ u less. let n = tasks_born w in ap bindings_in (task_here w u (omega (arith, n, less))) ∙ bindings_at w u o idle)

pub bindings_are_seen : (p : Program) → ((events : List Event) → In NoneIdlesWithEntries (after p events)) → BindingsAreSeen p
bindings_are_seen p idle events = by (after p events) (facts-after p events) (idle events)
  where
    by : (state : State) → In Facts state → In NoneIdlesWithEntries state → In (λ w. live_bindings (live w) ≡ standing_bindings w) state
    by (Running w) o none = bindings_seen w o.sound none
    by (Faulted kind t f pc) o none = tt

-- ---- what stands in a view

-- a fact of the worlds after a list of events is a fact of the views after it
of_views : (p : Program) (P : Budgets → List Event → World → Type 0) (Q : Budgets → Live → Type 0) → WithMain p P → ((b : Budgets) (events : List Event) (w : World) → after p events ≡ Running w → P b events w → Q b (live w)) → ViewsWithMain p Q
of_views p P Q law step b is events v n h = subst (Q b) h.view (step b events h.world h.runs (holds-in (P b events) (after p events) h.world h.runs (law b is events)))

-- ---- room

-- the view of a state that events lead to
record Stood (w : World) : Type 0 where
  pub facts : Facts w
  pub tasks : live_tasks (live w) ≡ standing_tasks w
  pub scopes : live_scopes (live w) ≡ standing_scopes w
  pub binds : live_bindings (live w) ≡ standing_bindings w

stood : (p : Program) (events : List Event) (w : World) → StandingIsSeen → BindingsAreSeen p → after p events ≡ Running w → Stood w
stood p events w counts bindings runs =
    record {
      facts = holds-in Facts (after p events) w runs (facts-after p events);
      tasks = (counts w).tasks;
      scopes = (counts w).scopes;
      binds = holds-in (λ x. live_bindings (live x) ≡ standing_bindings x) (after p events) w runs (bindings events);
    }

room_for : (b : Budgets) (w : World) (f : Frame) (i : Instr) → Stood w → HasRoomFor b w f i → LiveHasRoomFor b (live w) f i
room_for b w f (Open x timed joiner) k h = subst (λ n. n < b.scopes) (sym k.scopes) h
room_for b w f (Bind key) k h = subst (λ n. n < b.binds) (sym k.binds) h
room_for b w f (Fork x g s) k h = λ r own. subst (λ n. n < b.tasks) (sym k.tasks) (h r own)
room_for b w f i k h = tt

room_at : (p : Program) (b : Budgets) (w : World) → Stood w → HasRoom p b w → LiveHasRoom p b (live w)
room_at p b w k h t i alive at =
    let lives_w : lives (task_at w t) ≡ true = sym (lives_is w t k.facts.sound) ∙ alive in
    let same = frame_is w t k.facts lives_w in
    subst (λ (f : Frame). LiveHasRoomFor b (live w) f i) (sym same)
    (room_for b w (task_at w t).frame i k (h t i lives_w (ap (instr_at p) (sym same) ∙ at)))

pub views_have_room : (p : Program) → StandingIsSeen → BindingsAreSeen p → RoomIsLeft p → ViewsHaveRoom p
views_have_room p counts bindings room =
    of_views p (λ b events w. HasRoom p b w) (LiveHasRoom p) room
    (λ b events w runs h. room_at p b w (stood p events w counts bindings runs) h)

-- ---- no more than the budgets

pub views_are_within : (p : Program) → StandingIsSeen → BindingsAreSeen p → WithMain p (λ b events w. standing_tasks w ≤ b.tasks) → WithMain p (λ b events w. standing_scopes w ≤ b.scopes) → WithMain p (λ b events w. standing_bindings w ≤ b.binds) → ViewsAreWithin p
views_are_within p counts bindings tasks scopes binds b is events v n h =
    record {
      tasks = of_views p (λ b events w. standing_tasks w ≤ b.tasks) (λ b v. live_tasks v ≤ b.tasks) tasks
          (λ b es w runs k. subst (λ n. n ≤ b.tasks) (sym (stood p es w counts bindings runs).tasks) k)
          b is events v n h;
      scopes = of_views p (λ b events w. standing_scopes w ≤ b.scopes) (λ b v. live_scopes v ≤ b.scopes) scopes
          (λ b es w runs k. subst (λ n. n ≤ b.scopes) (sym (stood p es w counts bindings runs).scopes) k)
          b is events v n h;
      binds = of_views p (λ b events w. standing_bindings w ≤ b.binds) (λ b v. live_bindings v ≤ b.binds) binds
          (λ b es w runs k. subst (λ n. n ≤ b.binds) (sym (stood p es w counts bindings runs).binds) k)
          b is events v n h;
    }
