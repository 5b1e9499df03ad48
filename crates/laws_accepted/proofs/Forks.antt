-- A fork: one task more, at the beginning of a control path, and the forker at the next point of
-- its own.
use Rattle.std.proofs.Common.{◌≡◌, ℕ, ◌+◌, ◌-◌, ◌<◌, ◌≤◌, inl, List, [], ◌∷◌, ◌++◌, Bool, true, false, Option, Some, None, refl, sym, ◌∙◌, ap, subst, length}
use Rattle.std.proofs.Common.{arith, cond, get_or, set, take, nat_eq, nat_lt, length-set, length-append, get_or-set_same, get_or-set_other}
use Rattle.std.specs.Prelude.{◌==◌, reverse}
use Rattle.std.proofs.lemmas.Bool.Decides.{nat_tests}
use Rattle.std.proofs.lemmas.List.{get_or_append_left, get_or-take}
use Rattle.std.proofs.lemmas.List.Sums.{sum_by-set, sum_by_push}
use Rattle.std.proofs.Math.Seq.{get_or-append_seam}
use Rattle.sts_code.specs.Program.{Program, routine, instr_at}
use Rattle.sts_code.specs.declared.instr.Instr.TheVariants.{Fork}
use Rattle.sts_rules.specs.declared.budget.Budgets.{Budgets}
use Rattle.sts_model.specs.declared.record.Slot.{Slot}
use Rattle.sts_model.specs.declared.record.Slot.TheVariants as slots
use Rattle.sts_model.specs.declared.record.Frame.{Frame}
use Rattle.sts_model.specs.declared.record.Task.{Task}
use Rattle.sts_model.specs.World.{World, task_at, scope_at, no_task, code, with_frame}
use Rattle.sts_model.specs.World as world
use Rattle.sts_model.specs.Living.{lives}
use Rattle.sts_model.specs.Misuse.{slot, is_empty}
use Rattle.sts_model.specs.Effect.{subtask_of, forked, with_slot}
use Rattle.sts_model.specs.Waiting.{stand_at}
use Rattle.sts_rules.specs.ControlPaths.{start}
use Rattle.sts_rules.specs.Budget as budget
use Rattle.sts_rules.specs.Budget.{budget_at, no_budget, steps_of}
use Rattle.laws_runs.proofs.ListLemmas.{at_set, past}
use Rattle.laws_runs.proofs.BirthLemmas.{more_tasks, born_alive, new-owns_nothing}
use Rattle.laws_runs.proofs.FrameLemmas.{owns-with_slot}
use Rattle.laws_runs.proofs.SoundLemmas.{Owner}
use Rattle.laws_runs.proofs.EnteredLemmas.{Entered}
use Rattle.laws_accepted.specs.Points.{Point, Zips}
use Rattle.laws_accepted.specs.Costs.{Peak, share_in, subtask_shares, steps_begun}
use Rattle.laws_accepted.proofs.Flow.{goes_to}
use Rattle.laws_accepted.proofs.Points.{zips_map, zips_forked, opens_forked}
use Rattle.laws_accepted.proofs.Turns.{lent-same, each-task, waits-fork}
use Rattle.laws_accepted.proofs.Good.{IsCosted, Placed, Good, point_next, placed_map, steps_left}

-- a property of every task after a fork
each-forked : (P : ℕ → Type 0) (t n : ℕ) → P t → ((u : ℕ) → (u ≡ t → ⊥) → u < n → P u) → P n → ((u : ℕ) → n < u → P u) → (u : ℕ) → P u
each-forked P t n here there new beyond = each-task P t here (λ u other. by u other (nat_lt u n) refl)
  where
    later : (u : ℕ) → (b : Bool) → nat_eq u n ≡ b → (u < n → ⊥) → P u
    later u true e never = let same : u ≡ n = grind (arith, nat_tests) in rw same new
    later u false e never = let other : u ≡ n → ⊥ = grind (arith, nat_tests) in beyond u (omega (arith, never, other))

    by : (u : ℕ) → (u ≡ t → ⊥) → (b : Bool) → nat_lt u n ≡ b → P u
    by u other true e = let low : u < n = grind (arith, nat_tests) in there u other low
    by u other false e = let high : n ≤ u = grind (arith, nat_tests) in later u (nat_eq u n) refl (λ low. absurd (omega (arith, low, high)))

-- ---- the slots of the forker

owns_still : (xs : List Slot) (h : Option ℕ) (u x s : ℕ) → ((y : ℕ) → h ≡ Some y → is_empty (get_or xs y slots.Empty) ≡ true) → get_or xs x slots.Empty ≡ slots.Own s → get_or (with_slot xs h (slots.Sub u)) x slots.Empty ≡ slots.Own s
owns_still xs None u x s empty mine = mine
owns_still xs (Some y) u x s empty mine = at_set (λ (q : Slot). q ≡ slots.Own s) xs y x (slots.Sub u) slots.Empty (λ e. absurd (not_empty (get_or xs y slots.Empty) (empty y refl) (rw e at mine))) mine
  where
    not_empty : (q : Slot) → is_empty q ≡ true → q ≡ slots.Own s → ⊥
    not_empty slots.Empty e d = cc
    not_empty _ e d = cc

length-with_slot : (xs : List Slot) (h : Option ℕ) (u : ℕ) → length (with_slot xs h (slots.Sub u)) ≡ length xs
length-with_slot xs None u = refl
length-with_slot xs (Some y) u = length-set xs y (slots.Sub u)

module _ (Typed : Type 0) (p : Program) (budgets : List Budgets) (w : World) (n t x s g : ℕ) (h : Option ℕ) (is : IsCosted Typed p budgets) (o : Good Typed p budgets w n) (alive : lives (task_at w t) ≡ true) (at : instr_at (code p (task_at w t).frame) (task_at w t).frame.pc ≡ Fork x g h) (mine : slot (task_at w t).frame x ≡ slots.Own s) (entered : Entered w) (owner : Owner w.scopes s t) (empty : (y : ℕ) → h ≡ Some y → is_empty (slot (task_at w t).frame y) ≡ true) (earlier : g < (task_at w t).frame.function) (next_is : world.instr_at p (task_at w t).frame ≡ Some (Fork x g h)) where
  -- the forker's frame
  abbrev next : Frame
  next = forked (task_at w t).frame (routine p g).args h (length w.tasks)

  abbrev v : World
  v = with_frame (more_tasks w (subtask_of p w (task_at w t).frame s g)) t (forked (task_at w t).frame (routine p g).args h (length w.tasks))

  many : length (w.tasks ++ subtask_of p w (task_at w t).frame s g ∷ []) ≡ length w.tasks + 1
  many = let a = length-append w.tasks (subtask_of p w (task_at w t).frame s g ∷ []) in omega (arith, a)

  at_forker : task_at v t ≡ record (task_at w t) { frame = next }
  at_forker =
      let born = born_alive w t alive in
      let same : task_at (more_tasks w (subtask_of p w (task_at w t).frame s g)) t ≡ task_at w t = get_or_append_left w.tasks (subtask_of p w (task_at w t).frame s g ∷ []) no_task t born in
      let count = many in
      get_or-set_same (w.tasks ++ subtask_of p w (task_at w t).frame s g ∷ []) t (record (task_at (more_tasks w (subtask_of p w (task_at w t).frame s g)) t) { frame = next }) no_task (omega (arith, count, born))
      ∙ ap (λ (y : Task). record y { frame = next }) same

  at_old : (u : ℕ) → (u ≡ t → ⊥) → u < length w.tasks → task_at v u ≡ task_at w u
  at_old u other low =
      get_or-set_other (w.tasks ++ subtask_of p w (task_at w t).frame s g ∷ []) t u (record (task_at (more_tasks w (subtask_of p w (task_at w t).frame s g)) t) { frame = next }) no_task other
      ∙ get_or_append_left w.tasks (subtask_of p w (task_at w t).frame s g ∷ []) no_task u low

  at_new : task_at v (length w.tasks) ≡ subtask_of p w (task_at w t).frame s g
  at_new =
      let born = born_alive w t alive in
      get_or-set_other (w.tasks ++ subtask_of p w (task_at w t).frame s g ∷ []) t (length w.tasks) (record (task_at (more_tasks w (subtask_of p w (task_at w t).frame s g)) t) { frame = next }) no_task (λ e. absurd (omega (arith, e, born)))
      ∙ get_or-append_seam w.tasks (subtask_of p w (task_at w t).frame s g) [] no_task

  count_v : length v.tasks ≡ length w.tasks + 1
  count_v = length-set (w.tasks ++ subtask_of p w (task_at w t).frame s g ∷ []) t (record (task_at (more_tasks w (subtask_of p w (task_at w t).frame s g)) t) { frame = next }) ∙ many

  at_beyond : (u : ℕ) → length w.tasks < u → task_at v u ≡ no_task
  at_beyond u high = let count = count_v in past v.tasks u no_task (omega (arith, count, high))

  -- ---- what subtasks were given

  lent_v : (k : Peak) (r : ℕ) → subtask_shares k budgets v.tasks r ≡ subtask_shares k budgets w.tasks r + share_in k budgets r (subtask_of p w (task_at w t).frame s g)
  lent_v k r =
      let born = born_alive w t alive in
      let w1 : World = more_tasks w (subtask_of p w (task_at w t).frame s g) in
      let same : task_at w1 t ≡ task_at w t = get_or_append_left w.tasks (subtask_of p w (task_at w t).frame s g ∷ []) no_task t born in
      lent-same k budgets w1 v r (count_v ∙ sym many)
      (λ u. at_set (λ (y : Task). y.scope ≡ (task_at w1 u).scope) w1.tasks t u (record (task_at w1 t) { frame = next }) no_task (λ e. rw e refl) refl)
      (λ u. at_set (λ (y : Task). y.frame.function ≡ (task_at w1 u).frame.function) w1.tasks t u (record (task_at w1 t) { frame = next }) no_task (λ e. rw (e, same) refl) refl)
      ∙ sum_by_push (share_in k budgets r) w.tasks (subtask_of p w (task_at w t).frame s g)

  lent_mine : (k : Peak) → subtask_shares k budgets v.tasks s ≡ subtask_shares k budgets w.tasks s + k.part (budget_at (take (task_at w t).frame.function budgets) g)
  lent_mine k =
      let a = lent_v k s in
      let here : (s == s) ≡ true = grind (arith, nat_tests) in
      let b : share_in k budgets s (subtask_of p w (task_at w t).frame s g) ≡ k.part (budget_at budgets g) = ap (λ c. cond c (k.part (budget_at budgets g)) 0) here in
      let c : k.part (budget_at (take (task_at w t).frame.function budgets) g) ≡ k.part (budget_at budgets g) = ap k.part (get_or-take (task_at w t).frame.function budgets g no_budget earlier) in
      omega (arith, a, b, c)

  lent_others : (k : Peak) (r : ℕ) → (r ≡ s → ⊥) → subtask_shares k budgets v.tasks r ≡ subtask_shares k budgets w.tasks r
  lent_others k r other =
      let a = lent_v k r in
      let out : (s == r) ≡ false = grind (arith, nat_tests) in
      let b : share_in k budgets r (subtask_of p w (task_at w t).frame s g) ≡ 0 = ap (λ c. cond c (k.part (budget_at budgets g)) 0) out in
      omega (arith, a, b)

  -- ---- points

  forker_point : (before : ℕ) → Point p budgets w.tasks (task_at w t).frame before → Point p budgets v.tasks next (before + steps_of (take (task_at w t).frame.function budgets) (Fork x g h))
  forker_point before q =
      let z : Zips budgets (take (task_at w t).frame.function budgets) v.tasks (slot (task_at w t).frame) (task_at w t).frame.entries (budget.forked x g q.opened) =
      zips_forked budgets (take (task_at w t).frame.function budgets) w.tasks v.tasks (slot (task_at w t).frame) x s g mine lent_mine lent_others (task_at w t).frame.entries q.opened (entered.once t s) (q.slots x s mine) q.zips
      in
      point_next p budgets w.tasks v.tasks (task_at w t).frame next (Fork x g h) before at
      (goes_to p budgets (task_at w t).frame (Fork x g h) (((task_at w t).frame.pc + 1) ∷ []) ((task_at w t).frame.pc + 1) at refl (inl refl))
      refl
      (length-with_slot (task_at w t).frame.slots h (length w.tasks))
      q
      (zips_map budgets (take (task_at w t).frame.function budgets) v.tasks v.tasks (slot (task_at w t).frame) (slot next) (task_at w t).frame.entries (budget.forked x g q.opened) (λ y r has own. owns_still (task_at w t).frame.slots h (length w.tasks) y r empty own) (λ k r has. refl) z)
      (λ y r own. opens_forked x y g q.opened (q.slots y r (owns-with_slot (task_at w t).frame.slots h (length w.tasks) y r own)))

  child_point : Point p budgets v.tasks (subtask_of p w (task_at w t).frame s g).frame 0
  child_point =
      record {
        opened = [];
        comes = start;
        zips = tt;
        slots = λ y r own. absurd (new-owns_nothing g (reverse (take (routine p g).args (task_at w t).frame.operands)) (slots.Lent s) (λ q e. cc) y r own);
        size = refl;
      }

  -- ---- steps

  -- the steps left to each task: the subtask has those of its function; the forker loses these and
  -- one more
  abbrev left_v : List ℕ
  left_v = set o.left t (get_or o.left t 0 - (1 + (budget_at budgets g).steps)) ++ (budget_at budgets g).steps ∷ []

  long_left : length (set o.left t (get_or o.left t 0 - (1 + (budget_at budgets g).steps))) ≡ length w.tasks
  long_left = length-set o.left t (get_or o.left t 0 - (1 + (budget_at budgets g).steps)) ∙ o.same

  left_forker : get_or left_v t 0 ≡ get_or o.left t 0 - (1 + (budget_at budgets g).steps)
  left_forker =
      let born = born_alive w t alive in
      let same = o.same in
      let long = long_left in
      get_or_append_left (set o.left t (get_or o.left t 0 - (1 + (budget_at budgets g).steps))) ((budget_at budgets g).steps ∷ []) 0 t (omega (arith, long, born))
      ∙ get_or-set_same o.left t (get_or o.left t 0 - (1 + (budget_at budgets g).steps)) 0 (omega (arith, same, born))

  left_old : (u : ℕ) → (u ≡ t → ⊥) → u < length w.tasks → get_or left_v u 0 ≡ get_or o.left u 0
  left_old u other low =
      let long = long_left in
      get_or_append_left (set o.left t (get_or o.left t 0 - (1 + (budget_at budgets g).steps))) ((budget_at budgets g).steps ∷ []) 0 u (omega (arith, long, low))
      ∙ get_or-set_other o.left t u (get_or o.left t 0 - (1 + (budget_at budgets g).steps)) 0 other

  left_new : get_or left_v (length w.tasks) 0 ≡ (budget_at budgets g).steps
  left_new = ap (λ u. get_or left_v u 0) (sym long_left) ∙ get_or-append_seam (set o.left t (get_or o.left t 0 - (1 + (budget_at budgets g).steps))) ((budget_at budgets g).steps) [] 0

  -- the step of the fork and those of the subtask are left to the forker
  enough : Typed → 1 + (budget_at budgets g).steps ≤ get_or o.left t 0
  enough y =
      let within = o.function t (born_alive w t alive) in
      let a = steps_left Typed p budgets w.tasks (task_at w t).frame (Fork x g h) (steps_begun (stand_at p w t)) (get_or o.left t 0) is within at (o.placed t alive) y in
      let c : (budget_at (take (task_at w t).frame.function budgets) g).steps ≡ (budget_at budgets g).steps = ap (λ (b : Budgets). b.steps) (get_or-take (task_at w t).frame.function budgets g no_budget earlier) in
      let q = waits-fork p w t x g h next_is in
      omega (arith, a, c, q)

  forker_placed : Placed Typed p budgets w.tasks (task_at w t).frame (steps_begun (stand_at p w t)) (get_or o.left t 0) → Placed Typed p budgets v.tasks next (steps_begun (stand_at p v t)) (get_or o.left t 0 - (1 + (budget_at budgets g).steps))
  forker_placed q =
      let c : (budget_at (take (task_at w t).frame.function budgets) g).steps ≡ (budget_at budgets g).steps = ap (λ (b : Budgets). b.steps) (get_or-take (task_at w t).frame.function budgets g no_budget earlier) in
      let k = waits-fork p w t x g h next_is in
      record {
        before = q.before + steps_of (take (task_at w t).frame.function budgets) (Fork x g h);
        point = forker_point q.before q.point;
        steps = λ y. (let e = enough y in let s = q.steps y in omega (arith, c, e, k, s));
      }

  pub good_fork : ((u : ℕ) → (u ≡ t → ⊥) → u < length w.tasks → lives (task_at v u) ≡ true → steps_begun (stand_at p w u) ≤ steps_begun (stand_at p v u)) → Good Typed p budgets v (n + 1)
  good_fork patient =
      let born = born_alive w t alive in
      let same = o.same in
      let sum = o.sum in
      let less = sum_by-set (λ m. m) o.left t (get_or o.left t 0 - (1 + (budget_at budgets g).steps)) 0 (omega (arith, same, born)) in
      let more = sum_by_push (λ m. m) (set o.left t (get_or o.left t 0 - (1 + (budget_at budgets g).steps))) (budget_at budgets g).steps in
      let long = long_left in
      let count = count_v in
      let low_t = o.function t born in
      record {
        left = left_v;
        same = let a = length-append (set o.left t (get_or o.left t 0 - (1 + (budget_at budgets g).steps))) ((budget_at budgets g).steps ∷ []) in omega (arith, a, long, count);
        sum = λ y. (let e = enough y in let a = sum y in omega (arith, a, less, more, e));
        placed = each-forked (λ u. lives (task_at v u) ≡ true → Placed Typed p budgets v.tasks (task_at v u).frame (steps_begun (stand_at p v u)) (get_or left_v u 0)) t (length w.tasks)
            (λ lives_v.
            subst (λ m. Placed Typed p budgets v.tasks (task_at v t).frame (steps_begun (stand_at p v t)) m) (sym left_forker)
            (subst (λ (f : Frame). Placed Typed p budgets v.tasks f (steps_begun (stand_at p v t)) (get_or o.left t 0 - (1 + (budget_at budgets g).steps))) (sym (ap (λ (y : Task). y.frame) at_forker)) (forker_placed (o.placed t alive))))
            (λ u other low lives_v.
            let is_same = at_old u other low in
            let alive_u : lives (task_at w u) ≡ true = ap lives (sym is_same) ∙ lives_v in
            subst (λ m. Placed Typed p budgets v.tasks (task_at v u).frame (steps_begun (stand_at p v u)) m) (sym (left_old u other low))
            (placed_map Typed p budgets w.tasks v.tasks (task_at w u).frame (task_at v u).frame _ _ (get_or o.left u 0)
            (λ k r has. lent_others k r (λ d. other (sym (entered.opens u r alive_u has).owner.owner ∙ ap (λ q. (scope_at w q).owner) d ∙ owner.owner)))
            (ap (λ (y : Task). y.frame) is_same) (patient u other low lives_v) (o.placed u alive_u)))
            (λ lives_v.
            subst (λ m. Placed Typed p budgets v.tasks (task_at v (length w.tasks)).frame (steps_begun (stand_at p v (length w.tasks))) m) (sym left_new)
            (subst (λ (f : Frame). Placed Typed p budgets v.tasks f (steps_begun (stand_at p v (length w.tasks))) (budget_at budgets g).steps) (sym (ap (λ (y : Task). y.frame) at_new))
            (record { before = 0; point = child_point; steps = λ y. (omega arith) })))
            (λ u high lives_v. let d : lives no_task ≡ true = ap lives (sym (at_beyond u high)) ∙ lives_v in cc);
        function = each-forked (λ u. u < length v.tasks → (task_at v u).frame.function < length p.routines) t (length w.tasks)
            (λ low. rw at_forker low_t)
            (λ u other low_u low. rw (at_old u other low_u) (o.function u low_u))
            (λ low. rw at_new (omega (arith, low_t, earlier)))
            (λ u high low. absurd (omega (arith, high, low, count)));
        idle = each-forked (λ u. lives (task_at v u) ≡ false → (task_at v u).frame.entries ≡ []) t (length w.tasks)
            (λ dead. let d : lives (record (task_at w t) { frame = next }) ≡ false = ap lives (sym at_forker) ∙ dead in cc)
            (λ u other low dead. ap (λ (y : Task). y.frame.entries) (at_old u other low) ∙ o.idle u (ap lives (sym (at_old u other low)) ∙ dead))
            (λ dead. ap (λ (y : Task). y.frame.entries) at_new)
            (λ u high dead. ap (λ (y : Task). y.frame.entries) (at_beyond u high));
        rooted =
            record {
              some = omega (arith, count);
              root = each-forked (λ u. u ≡ 0 → (task_at v u).scope ≡ None) t (length w.tasks)
                  (λ z. ap (λ (y : Task). y.scope) at_forker ∙ ap (λ u. (task_at w u).scope) z ∙ o.rooted.root)
                  (λ u other low z. ap (λ (y : Task). y.scope) (at_old u other low) ∙ ap (λ u. (task_at w u).scope) z ∙ o.rooted.root)
                  (λ z. absurd (omega (arith, z, born)))
                  (λ u high z. absurd (omega (arith, z, high)))
                  0 refl;
              main = each-forked (λ u. u ≡ 0 → (task_at v u).frame.function ≡ length p.routines - 1) t (length w.tasks)
                  (λ z. ap (λ (y : Task). y.frame.function) at_forker ∙ ap (λ u. (task_at w u).frame.function) z ∙ o.rooted.main)
                  (λ u other low z. ap (λ (y : Task). y.frame.function) (at_old u other low) ∙ ap (λ u. (task_at w u).frame.function) z ∙ o.rooted.main)
                  (λ z. absurd (omega (arith, z, born)))
                  (λ u high z. absurd (omega (arith, z, high)))
                  0 refl;
              others = each-forked (λ u. u < length v.tasks → (task_at v u).scope ≡ None → u ≡ 0) t (length w.tasks)
                  (λ low none. o.rooted.others t born (ap (λ (y : Task). y.scope) (sym at_forker) ∙ none))
                  (λ u other low_u low none. o.rooted.others u low_u (ap (λ (y : Task). y.scope) (sym (at_old u other low_u)) ∙ none))
                  (λ low none. let d : Some s ≡ None = ap (λ (y : Task). y.scope) (sym at_new) ∙ none in cc)
                  (λ u high low. absurd (omega (arith, high, low, count)));
            };
      }
