-- A step that moves one task, and leaves the frames of the others and the scopes of the others.
use Rattle.std.proofs.Common.{◌≡◌, ℕ, ◌+◌, ◌<◌, ◌≤◌, inl, List, Bool, true, false, Some, refl, sym, ◌∙◌, ap, subst, length, arith, set, nat_eq, length-set}
use Rattle.std.proofs.Common.{get_or-set_same, get_or-set_other}
use Rattle.std.specs.Prelude.{slice_get}
use Rattle.std.specs.List.{filter, range_with_len}
use Rattle.std.proofs.lemmas.Bool.Decides.{nat_tests}
use Rattle.sts_code.specs.Program.{Program}
use Rattle.sts_model.specs.declared.event.End.{End}
use Rattle.sts_model.specs.declared.record.Frame.{Frame}
use Rattle.sts_model.specs.declared.record.Slot.TheVariants as slots
use Rattle.sts_model.specs.declared.record.Task.{Task}
use Rattle.sts_model.specs.World.{World, task_at, scope_at, no_task, with_frame, with_task}
use Rattle.sts_model.specs.Living.{lives, is_in, is_subtask}
use Rattle.sts_model.specs.Misuse.{slot, is_joined}
use Rattle.laws_runs.specs.Tallies.{births}
use Rattle.laws_runs.proofs.ListLemmas.{at_set}
use Rattle.laws_runs.proofs.EventLemmas.{Next}
use Rattle.laws_runs.proofs.BirthLemmas.{born_alive}
use Rattle.laws_calls.specs.Outside.{Outside}
use Rattle.laws_calls.specs.Held.{Held}
use Rattle.laws_calls.specs.Held as held
use Rattle.laws_calls.specs.Tasks.{Among, AllTwo, HasWay, at_place, put_place, Part, Seen, Own, births_in, held_at}
use Rattle.laws_calls.specs.Fitting.{ArePossible}
use Rattle.laws_calls.specs.Steps.{Row, Table, Owns, Knows, LeadsBy}
use Rattle.laws_calls.specs.Covers.{subs, PartFits, SeenFits, HeldFits, FrameFits, TaskFits, IsTimely, InOrder, IsCovered, Covers, HasState, alive_in, sum_to}
use Rattle.laws_calls.proofs.Births.{cut, cut_here, cut_other, same_births, sum_cut}
use Rattle.laws_calls.proofs.Lists.{all_map, all_get, all_at, all_put, all_place, all_put_place, filter_same, Apart, get_among}
use Rattle.laws_calls.proofs.Turns.{Facts, FlagsHaveCause, alive_later, covered_before, flag_stays}
use Rattle.laws_calls.proofs.Turns.{environment_stays, seen_same, held_same, task_same, listed_inside, parts_as}

-- the task t has the frame g, and this number of scopes was born
pub record Turned (w v : World) (t : ℕ) (g : Frame) (born : ℕ) : Type 0 where
  pub count : length v.tasks ≡ length w.tasks
  pub opened : length v.scopes ≡ length w.scopes + born
  pub here : (task_at v t).frame ≡ g
  pub there : (u : ℕ) → (u ≡ t → ⊥) → (task_at v u).frame ≡ (task_at w u).frame
  pub scope : (u : ℕ) → (task_at v u).scope ≡ (task_at w u).scope
  pub scopes : (s : ℕ) → s < length w.scopes → ((scope_at w s).owner ≡ t → ⊥) → scope_at v s ≡ scope_at w s
  pub outcome : (u : ℕ) → (task_at v u).outcome ≡ (task_at w u).outcome
  pub timely : ((s : ℕ) → IsTimely (scope_at w s)) → (s : ℕ) → IsTimely (scope_at v s)

pub subs_same : (w v : World) (s : ℕ) → length v.tasks ≡ length w.tasks → ((u : ℕ) → (task_at v u).scope ≡ (task_at w u).scope) → subs v s ≡ subs w s
subs_same w v s count scope =
    filter_same (λ u. is_subtask s (task_at v u)) (λ u. is_subtask s (task_at w u)) (births v) (λ u. ap (is_in s) (scope u))
    ∙ ap (λ n. filter (λ u. is_subtask s (task_at w u)) (range_with_len 0 n)) count

pub turned_subs : {w v : World} {t : ℕ} {g : Frame} {born : ℕ} → Turned w v t g born → (s : ℕ) → subs v s ≡ subs w s
turned_subs {w} {v} turned s = subs_same w v s turned.count turned.scope

-- where the task goes on from a state: a state of its row, which fits its new frame; `born` of the
-- births that were left are taken
pub record GoesOn (rows : ℕ → Row) (v : World) (t : ℕ) (g : Frame) (old : Own) (born : ℕ) : Type 0 where
  pub own : Own
  pub less : born + own.left ≤ old.left
  pub there : Among (rows t).states own
  pub fits : FrameFits rows v g own

-- a step of the table leads there
pub goes_by : (rows : ℕ → Row) (v : World) (t : ℕ) (g : Frame) (old next : Own) (born many : ℕ) → born ≤ many → next.left ≡ old.left → LeadsBy many (rows t).states next → ArePossible next.scopes → FrameFits rows v g next → GoesOn rows v t g old born
goes_by rows v t g old next born many few same leads possible fits =
    let r : (k : ℕ) × (many + k ≤ next.left) × Among (rows t).states (record next { left = k }) = leads possible in
    let less = r.1 in
    record {
      own = record next { left = r.0 };
      less = omega (arith, few, same, less);
      there = r.2;
      fits = record { frame = fits.frame; held = fits.held; scopes = fits.scopes };
    }

module _ (p : Program) (outside : Outside) (t : Table) (root : Row) (w v : World) (h : Facts w) (n : Next w v) (flags : FlagsHaveCause outside w v) where
  -- the task u goes on with the frame g; `many` of its births count
  pub covers_turned : (c : Covers p outside t root w) (u : ℕ) (g : Frame) (opens many : ℕ) → Turned w v u g opens → (outside.cancels ≡ true → many ≡ opens) → lives (task_at w u) ≡ true
      → (IsCovered outside w u → (own : Own) → TaskFits outside c.rows w u own → GoesOn c.rows v u g own many) → Covers p outside t root v
  covers_turned c u g opens many turned counts alive moves =
      record {
        rows = c.rows;
        listed = c.listed;
        first = c.first;
        left = cut c.left u many;
        births = fewer;
        timely = turned.timely c.timely;
        tasks = λ q lives_v owed. each q lives_v owed (nat_eq q u) refl;
        ended = λ e is. c.ended e (sym (turned.outcome 0) ∙ is);
      }
    where
      -- as many births are left to the task before
      enough : IsCovered outside w u → many ≤ c.left u
      enough owed =
          let old : HasState outside c.rows c.left w u = c.tasks u alive owed in
          let less = (moves owed old.0 old.1).less in
          let most = old.2 in
          omega (arith, less, most)

      fewer : outside.cancels ≡ true → length v.tasks + length v.scopes + sum_to (cut c.left u many) (length v.tasks) ≤ 1 + root.births
      fewer wide =
          let before = c.births wide in
          let one = counts wide in
          let count = turned.count in
          let opened = turned.opened in
          let cuts = sum_cut c.left u many (length w.tasks) (born_alive w u alive) (enough (inl wide)) in
          let same : sum_to (cut c.left u many) (length v.tasks) ≡ sum_to (cut c.left u many) (length w.tasks) = ap (sum_to (cut c.left u many)) count in
          omega (arith, before, one, count, opened, cuts, same)

      born : (q : ℕ) → lives (task_at v q) ≡ true → q < length w.tasks
      born q e = let b = born_alive v q e in let s = turned.count in omega (arith, b, s)

      before : (q : ℕ) → lives (task_at v q) ≡ true → lives (task_at w q) ≡ true
      before q e = alive_later (task_at w q) (task_at v q) (n.later.task q (born q e)) e

      keeps : (q s : ℕ) (x : Seen) → (q ≡ u → ⊥) → s < length w.scopes → (scope_at w s).owner ≡ q → SeenFits c.rows w s x → SeenFits c.rows v s x
      keeps q s x other born_s owner f = seen_same w v h n c.rows c.rows s x (turned.scopes s born_s (λ e. other (sym owner ∙ e))) (turned_subs turned s) (λ k less. refl) f

      each : (q : ℕ) → lives (task_at v q) ≡ true → IsCovered outside v q → (b : Bool) → nat_eq q u ≡ b → HasState outside c.rows (cut c.left u many) v q
      each q e owed true is =
          let same : q ≡ u = grind (arith, nat_tests) in
          let by_owner : IsCovered outside w u = subst (λ k. IsCovered outside w k) same (covered_before w v h n outside q (born q e) owed) in
          let old : HasState outside c.rows c.left w u = c.tasks u alive by_owner in
          let m : GoesOn c.rows v u g old.0 many = moves by_owner old.0 old.1 in
          let less = m.less in
          let most = old.2 in
          let here = cut_here c.left u many in
          let born_u : u < length w.tasks = subst (λ k. k < length w.tasks) same (born q e) in
          let seen : IsCovered outside v u = subst (λ k. IsCovered outside v k) same owed in
          subst (λ k. HasState outside c.rows (cut c.left u many) v k) (sym same)
          ((
            m.own,
            record {
              there = m.there;
              fits = subst (λ (f : Frame). FrameFits c.rows v f m.own) (sym turned.here) m.fits;
              flag = flag_stays w v h n outside flags u born_u seen old.1.flag;
              environment = environment_stays w v h n u born_u ∙ old.1.environment;
            },
            omega (arith, less, most, here),
          ))
      each q e owed false is =
          let other : q ≡ u → ⊥ = grind (arith, nat_tests) in
          let old : HasState outside c.rows c.left w q = c.tasks q (before q e) (covered_before w v h n outside q (born q e) owed) in
          let most = old.2 in
          let same = cut_other c.left u many q other in (
            old.0,
            task_same w v h n outside flags c.rows c.rows q old.0 (before q e) owed (turned.there q other) (λ k less. refl)
                (λ s x less owner f. keeps q s x other less owner f)
                (λ s i k less owner is2. subst (λ us. slice_get us i ≡ Some k) (sym (turned_subs turned s)) is2)
                old.1,
            omega (arith, most, same),
          )

-- ---- the frame alone

-- another frame, and perhaps another flag
pub turned_flag : (w : World) (t : ℕ) (g : Frame) (flag : Bool) → t < length w.tasks → Turned w (with_task w t (record (task_at w t) { frame = g; flag = flag })) t g 0
turned_flag w t g flag born =
    let x : Task = record (task_at w t) { frame = g; flag = flag } in
    record {
      count = length-set w.tasks t x;
      opened = omega arith;
      here = ap (λ (task : Task). task.frame) (get_or-set_same w.tasks t x no_task born);
      there = λ u other. ap (λ (task : Task). task.frame) (get_or-set_other w.tasks t u x no_task other);
      scope = λ u. at_set (λ (task : Task). task.scope ≡ (task_at w u).scope) w.tasks t u x no_task (λ e. rw e refl) refl;
      scopes = λ s less other. refl;
      outcome = λ u. at_set (λ (task : Task). task.outcome ≡ (task_at w u).outcome) w.tasks t u x no_task (λ e. rw e refl) refl;
      timely = λ k s. k s;
    }

pub turned_frame : (w : World) (t : ℕ) (g : Frame) → t < length w.tasks → Turned w (with_frame w t g) t g 0
turned_frame w t g born = turned_flag w t g (task_at w t).flag born

-- a frame that fits before fits after a step that changes no scope
pub fits_later : (w v : World) → Facts w → Next w v → (rows : ℕ → Row) (g : Frame) (own : Own) → ((s : ℕ) → scope_at v s ≡ scope_at w s) → ((s : ℕ) → subs v s ≡ subs w s) → FrameFits rows w g own → FrameFits rows v g own
fits_later w v h n rows g own scopes subtasks f =
    record {
      frame = f.frame;
      held = all_map (HeldFits w (births_in g.entries)) (HeldFits v (births_in g.entries)) g.slots own.held (λ x y at k. held_same w v h n (births_in g.entries) (λ s i u at2 e. subst (λ us. slice_get us i ≡ Some u) (sym (subtasks s)) e) x y k) f.held;
      scopes = all_map (SeenFits rows w) (SeenFits rows v) (births_in g.entries) own.scopes (λ s x at k. seen_same w v h n rows rows s x (scopes s) (subtasks s) (λ u less. refl) k) f.scopes;
    }

-- ---- what a slot holds

-- the scope that a slot owns, as the state has it
pub record OwnScope (rows : ℕ → Row) (w : World) (f : Frame) (own : Own) (x s : ℕ) : Type 0 where
  pub place : ℕ
  pub seen : Seen
  pub owns : Owns own x place seen
  pub at : at_place (births_in f.entries) place ≡ Some s
  pub fits : SeenFits rows w s seen

held_own : (w : World) (opened : List ℕ) (s : ℕ) (y : Held) → HeldFits w opened (slots.Own s) y → (place : ℕ) × ((y ≡ held.Own place) × (at_place opened place ≡ Some s))
held_own w opened s (held.Own place) k = (place, (refl, k))
held_own w opened s y k = absurd k

held_sub : (w : World) (opened : List ℕ) (u : ℕ) (y : Held) → HeldFits w opened (slots.Sub u) y → (place : ℕ) × ((i : ℕ) × ((y ≡ held.Sub place i) × HeldFits w opened (slots.Sub u) (held.Sub place i)))
held_sub w opened u (held.Sub place i) k = (place, (i, (refl, k)))
held_sub w opened u y k = absurd k

pub held_lent : (w : World) (opened : List ℕ) (s : ℕ) (y : Held) → HeldFits w opened (slots.Lent s) y → y ≡ held.Lent
held_lent w opened s held.Lent k = refl
held_lent w opened s y k = absurd k

pub held_slot : (rows : ℕ → Row) (w : World) (f : Frame) (own : Own) (x : ℕ) → FrameFits rows w f own → HeldFits w (births_in f.entries) (slot f x) (held_at own x)
held_slot rows w f own x k = all_get (HeldFits w (births_in f.entries)) f.slots own.held x slots.Empty held.Empty k.held tt

pub own_scope : (rows : ℕ → Row) (w : World) (f : Frame) (own : Own) (x s : ℕ) → FrameFits rows w f own → slot f x ≡ slots.Own s → OwnScope rows w f own x s
own_scope rows w f own x s k is =
    let y = held_own w (births_in f.entries) s (held_at own x) (subst (λ z. HeldFits w (births_in f.entries) z (held_at own x)) is (held_slot rows w f own x k)) in
    let r = all_place (SeenFits rows w) (births_in f.entries) own.scopes y.0 s k.scopes y.1.1 in
    record { place = y.0; seen = r.0; owns = record { holds = y.1.0; there = r.1.0 }; at = y.1.1; fits = r.1.1 }

-- the subtask that a slot names, as the state has it
pub record OwnSub (rows : ℕ → Row) (w : World) (f : Frame) (own : Own) (x u : ℕ) : Type 0 where
  pub scope : ℕ
  pub place : ℕ
  pub seen : Seen
  pub i : ℕ
  pub part : Part
  pub knows : Knows own x place seen i part
  pub at : at_place (births_in f.entries) place ≡ Some scope
  pub fits : SeenFits rows w scope seen
  pub sub : slice_get (subs w scope) i ≡ Some u
  pub inside : (task_at w u).scope ≡ Some scope
  pub may : PartFits rows (alive_in w) (scope_at w scope) u part

pub own_sub : (rows : ℕ → Row) (w : World) (f : Frame) (own : Own) (x u : ℕ) → FrameFits rows w f own → slot f x ≡ slots.Sub u → OwnSub rows w f own x u
own_sub rows w f own x u k is =
    let y = held_sub w (births_in f.entries) u (held_at own x) (subst (λ z. HeldFits w (births_in f.entries) z (held_at own x)) is (held_slot rows w f own x k)) in
    let place : ℕ = y.0 in
    let i : ℕ = y.1.0 in
    let s : ℕ = y.1.1.1.0 in
    let at : at_place (births_in f.entries) place ≡ Some s = y.1.1.1.1.0 in
    let sub : slice_get (subs w s) i ≡ Some u = y.1.1.1.1.1 in
    let r = all_place (SeenFits rows w) (births_in f.entries) own.scopes place s k.scopes at in
    let q = all_at (PartFits rows (alive_in w) (scope_at w s)) (subs w s) r.0.parts i u r.1.1.parts sub in
    record {
      scope = s;
      place = place;
      seen = r.0;
      i = i;
      part = q.0;
      knows = record { holds = y.1.1.0; there = r.1.0; known = q.1.0 };
      at = at;
      fits = r.1.1;
      sub = sub;
      inside = listed_inside w s u (get_among (subs w s) i u sub);
      may = q.1.1;
    }

-- ---- a scope of the state is replaced

pub put_seen : (rows : ℕ → Row) (w : World) (opened : List ℕ) (scopes : List Seen) (place s : ℕ) (x : Seen) → AllTwo (SeenFits rows w) opened scopes → Apart opened → at_place opened place ≡ Some s → SeenFits rows w s x → AllTwo (SeenFits rows w) opened (put_place scopes place x)
put_seen rows w opened scopes place s x k apart at new = all_put_place (SeenFits rows w) (SeenFits rows w) opened scopes place s x k apart at new (λ z b among other f. f)

pub put_part : (rows : ℕ → Row) (w : World) (s : ℕ) (x : Seen) (i u : ℕ) (part : Part) → (is_joined x.phase ≡ false → InOrder x.has_failure (scope_at w s) (subs w s) (set x.parts i part)) → SeenFits rows w s x → slice_get (subs w s) i ≡ Some u → PartFits rows (alive_in w) (scope_at w s) u part → SeenFits rows w s (record x { parts = set x.parts i part })
put_part rows w s x i u part order f at new =
    parts_as x f (set x.parts i part) x.asked x.has_failure (all_put (PartFits rows (alive_in w) (scope_at w s)) (subs w s) x.parts i u part f.parts at new) order f.asked

-- ---- no more is born

-- a table covers a later state if its tasks are in states of their rows
pub covers_on : {p : Program} {outside : Outside} {t : Table} {root : Row} {w : World} (c : Covers p outside t root w) (v : World) → length v.tasks ≡ length w.tasks → length v.scopes ≡ length w.scopes → ((s : ℕ) → IsTimely (scope_at v s))
    → ((u : ℕ) → lives (task_at v u) ≡ true → IsCovered outside v u → HasState outside c.rows c.left v u) → ((e : End) → (task_at v 0).outcome ≡ Some e → HasWay root.ways e) → Covers p outside t root v
covers_on {p} {outside} {t} {root} {w} c v count opened timely covered ended =
    record {
      rows = c.rows;
      listed = c.listed;
      first = c.first;
      left = c.left;
      births = λ wide. same_births c.left root w v count opened (c.births wide);
      timely = timely;
      tasks = covered;
      ended = ended;
    }
