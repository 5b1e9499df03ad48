-- Facts of every state of a run of a program with budgets. Each living task is at a point of a
-- control path. The steps that are left to all tasks together are part of the root's.
use Rattle.std.proofs.Common.{◌≡◌, ℕ, ◌+◌, ◌-◌, ◌<◌, ◌≤◌, List, [], true, false, None, sym, ◌∙◌, ap, subst, length, arith, get_or, set, take, length-set}
use Rattle.std.proofs.Common.{get_or-set_same, get_or-set_other}
use Rattle.std.specs.Prelude.{sum_by}
use Rattle.std.proofs.lemmas.List.Sums.{sum_by-set}
use Rattle.sts_code.specs.Program.{Program, routine, instr_at}
use Rattle.sts_code.specs.declared.instr.Instr.{Instr}
use Rattle.sts_rules.specs.declared.budget.Budgets.{Budgets}
use Rattle.sts_model.specs.declared.record.Slot.TheVariants.{Own}
use Rattle.sts_model.specs.declared.record.Frame.{Frame}
use Rattle.sts_model.specs.declared.record.Task.{Task}
use Rattle.sts_model.specs.World.{World, task_at, code}
use Rattle.sts_model.specs.Living.{lives}
use Rattle.sts_model.specs.Misuse.{slot}
use Rattle.sts_model.specs.Waiting.{stand_at}
use Rattle.sts_rules.specs.ControlPaths.{Comes, OpenEntry, Skeleton, step}
use Rattle.sts_rules.specs.Budget.{budget_at, skeleton, steps_of, entries_of}
use Rattle.laws_runs.proofs.BirthLemmas.{born_alive}
use Rattle.laws_runs.proofs.EntryLemmas.{Has}
use Rattle.sts_budget.specs.Laws.{PointsAreWithin}
use Rattle.sts_code.specs.Checks.{program_fault}
use Rattle.laws_accepted.specs.Points.{Opens, Point, Zips, loops_of, skeleton_of}
use Rattle.laws_accepted.specs.Costs.{Peak, subtask_shares, steps_begun, main_budget}
use Rattle.laws_accepted.proofs.Balance.{Rooted, Idle}
use Rattle.laws_accepted.proofs.Flow.{GoesOn}
use Rattle.laws_accepted.proofs.Points.{zips_map}
use Rattle.laws_accepted.proofs.Turns.{Alike, Turned, like-lives, lent-same, each-task}

-- A program that passed its checks, with budgets that no point of a control path of its functions
-- exceeds. The steps are bounded only if the program is well typed, since only then each point is
-- on a whole path.
pub record IsCosted (Typed : Type 0) (p : Program) (budgets : List Budgets) : Type 0 where
  pub checked : program_fault p.routines ≡ None
  pub within : Typed → (f : ℕ) → f < length p.routines → PointsAreWithin (take f budgets) (routine p f).code (budget_at budgets f)

-- a task at a point, with enough steps left; `waiting` of them were taken of a close
pub record Placed (Typed : Type 0) (p : Program) (budgets : List Budgets) (tasks : List Task) (f : Frame) (waiting left : ℕ) : Type 0 where
  pub before : ℕ
  pub point : Point p budgets tasks f before
  pub steps : Typed → (budget_at budgets f.function).steps ≤ before + waiting + left

pub record Good (Typed : Type 0) (p : Program) (budgets : List Budgets) (w : World) (n : ℕ) : Type 0 where
  -- the steps left to each task; those of a task that doesn't live don't matter
  pub left : List ℕ
  pub same : length left ≡ length w.tasks
  pub sum : Typed → n + sum_by (λ l. l) left ≤ (main_budget p budgets).steps
  pub placed : (u : ℕ) → lives (task_at w u) ≡ true → Placed Typed p budgets w.tasks (task_at w u).frame (steps_begun (stand_at p w u)) (get_or left u 0)
  pub function : (u : ℕ) → u < length w.tasks → (task_at w u).frame.function < length p.routines
  pub idle : Idle w
  pub rooted : Rooted p w.tasks

-- ---- other tasks

pub point_map : (p : Program) (budgets : List Budgets) (tasks later : List Task) (f : Frame) (before : ℕ) → ((k : Peak) (s : ℕ) → Has s f.entries → subtask_shares k budgets later s ≡ subtask_shares k budgets tasks s) → Point p budgets tasks f before → Point p budgets later f before
point_map p budgets tasks later f before sums o =
    record {
      opened = o.opened;
      comes = o.comes;
      zips = zips_map budgets (take f.function budgets) tasks later (slot f) (slot f) f.entries o.opened (λ x s h e. e) sums o.zips;
      slots = o.slots;
      size = o.size;
    }

pub placed_map : (Typed : Type 0) (p : Program) (budgets : List Budgets) (tasks later : List Task) (f g : Frame) (a b left : ℕ) → ((k : Peak) (s : ℕ) → Has s f.entries → subtask_shares k budgets later s ≡ subtask_shares k budgets tasks s) → g ≡ f → a ≤ b → Placed Typed p budgets tasks f a left → Placed Typed p budgets later g b left
placed_map Typed p budgets tasks later f g a b left sums same le o =
    subst (λ (h : Frame). Placed Typed p budgets later h b left) (sym same)
    (record { before = o.before; point = point_map p budgets tasks later f o.before sums o.point; steps = λ y. (let s = o.steps y in omega (arith, s, le)) })

-- ---- a turn

-- the skeleton is that of the function
same_skeleton : (p : Program) (budgets : List Budgets) (f g : Frame) → g.function ≡ f.function → skeleton_of p budgets f ≡ skeleton_of p budgets g
same_skeleton p budgets f g e = ap (λ n. skeleton (take n budgets) (routine p n).code) (sym e)

-- the entries, and the slots that own a scope, after the instruction
abbrev pub Entering : List Budgets → List Task → Frame → Instr → Frame → Type 0
Entering budgets tasks f i g =
    (os : List OpenEntry) → Zips budgets (take f.function budgets) tasks (slot f) f.entries os → ((x s : ℕ) → slot f x ≡ Own s → Opens x os)
    → Zips budgets (take f.function budgets) tasks (slot g) g.entries (entries_of i os) × ((x s : ℕ) → slot g x ≡ Own s → Opens x (entries_of i os))

-- the next point of the path
pub point_next : (p : Program) (budgets : List Budgets) (tasks later : List Task) (f g : Frame) (i : Instr) (before : ℕ) → instr_at (code p f) f.pc ≡ i → GoesOn p budgets f g → g.function ≡ f.function → length g.slots ≡ length f.slots
    → (o : Point p budgets tasks f before)
    → Zips budgets (take f.function budgets) later (slot g) g.entries (entries_of i o.opened)
    → ((x s : ℕ) → slot g x ≡ Own s → Opens x (entries_of i o.opened))
    → Point p budgets later g (before + steps_of (take f.function budgets) i)
point_next p budgets tasks later f g i before at goes function size o zips slots =
    let next : Comes (skeleton_of p budgets f) g.pc (loops_of g.loops) (before + steps_of (take f.function budgets) (instr_at (code p f) f.pc)) (entries_of (instr_at (code p f) f.pc) o.opened) = step o.comes goes in
    let named : Comes (skeleton_of p budgets f) g.pc (loops_of g.loops) (before + steps_of (take f.function budgets) i) (entries_of i o.opened) =
    subst (λ (j : Instr). Comes (skeleton_of p budgets f) g.pc (loops_of g.loops) (before + steps_of (take f.function budgets) j) (entries_of j o.opened)) at next
    in
    record {
      opened = entries_of i o.opened;
      comes = subst (λ (c : Skeleton). Comes c g.pc (loops_of g.loops) (before + steps_of (take f.function budgets) i) (entries_of i o.opened)) (same_skeleton p budgets f g function) named;
      zips = subst (λ n. Zips budgets (take n budgets) later (slot g) g.entries (entries_of i o.opened)) (sym function) zips;
      slots = slots;
      size = size ∙ o.size;
    }

-- enough steps are left for an instruction, less the first one of a close that waits
pub steps_left : (Typed : Type 0) (p : Program) (budgets : List Budgets) (tasks : List Task) (f : Frame) (i : Instr) (waiting left : ℕ) → IsCosted Typed p budgets → f.function < length p.routines → instr_at (code p f) f.pc ≡ i → Placed Typed p budgets tasks f waiting left → Typed → steps_of (take f.function budgets) i ≤ waiting + left
steps_left Typed p budgets tasks f i waiting left is within at o y =
    let b = is.within y f.function within f.pc (loops_of f.loops) o.before o.point.opened o.point.comes in
    let e : steps_of (take f.function budgets) (instr_at (code p f) f.pc) ≡ steps_of (take f.function budgets) i = ap (steps_of (take f.function budgets)) at in
    let s = o.steps y in
    let first = b.0 in
    omega (arith, first, e, s)

module _ (Typed : Type 0) (p : Program) (budgets : List Budgets) (w v : World) (n t : ℕ) (x : Task) where
  -- the scopes and the functions of all tasks haven't changed
  turned_scope : Turned w v t x → x.scope ≡ (task_at w t).scope → (u : ℕ) → (task_at v u).scope ≡ (task_at w u).scope
  turned_scope h scope = each-task (λ u. (task_at v u).scope ≡ (task_at w u).scope) t (h.here.scope ∙ scope) (λ u other. (h.there u other).scope)

  turned_function : Turned w v t x → x.frame.function ≡ (task_at w t).frame.function → (u : ℕ) → (task_at v u).frame.function ≡ (task_at w u).frame.function
  turned_function h function = each-task (λ u. (task_at v u).frame.function ≡ (task_at w u).frame.function) t (ap (λ (f : Frame). f.function) h.here.frame ∙ function) (λ u other. ap (λ (f : Frame). f.function) (h.there u other).frame)

  pub turned_lent : Turned w v t x → x.scope ≡ (task_at w t).scope → x.frame.function ≡ (task_at w t).frame.function → (k : Peak) (s : ℕ) → subtask_shares k budgets v.tasks s ≡ subtask_shares k budgets w.tasks s
  turned_lent h scope function k s = lent-same k budgets w v s h.count (turned_scope h scope) (turned_function h function)

  -- a step was taken: one less is left to the task t
  pub good_turn : Good Typed p budgets w n → Turned w v t x → lives (task_at w t) ≡ true → x.scope ≡ (task_at w t).scope → x.frame.function ≡ (task_at w t).frame.function
      → ((left : ℕ) → Placed Typed p budgets w.tasks (task_at w t).frame (steps_begun (stand_at p w t)) left → (Typed → 0 < left) × (lives x ≡ true → Placed Typed p budgets v.tasks x.frame (steps_begun (stand_at p v t)) (left - 1)))
      → (lives x ≡ false → x.frame.entries ≡ [])
      → ((u : ℕ) → (u ≡ t → ⊥) → lives (task_at v u) ≡ true → steps_begun (stand_at p w u) ≤ steps_begun (stand_at p v u))
      → Good Typed p budgets v (n + 1)
  good_turn o h alive scope function mine ended patient =
      let born = born_alive w t alive in
      let l : ℕ = get_or o.left t 0 in
      let one = mine l (o.placed t alive) in
      let some = one.0 in
      let left : List ℕ = set o.left t (l - 1) in
      let same = o.same in
      let count = h.count in
      let long : t < length o.left = omega (arith, same, born) in
      let sum = o.sum in
      let less = sum_by-set (λ m. m) o.left t (l - 1) 0 long in
      record {
        left = left;
        same = length-set o.left t (l - 1) ∙ o.same ∙ sym h.count;
        sum = λ y. (let a = sum y in let b = some y in omega (arith, a, less, b));
        placed = each-task (λ u. lives (task_at v u) ≡ true → Placed Typed p budgets v.tasks (task_at v u).frame (steps_begun (stand_at p v u)) (get_or left u 0)) t
            (λ lives_v.
            let here : get_or left t 0 ≡ l - 1 = get_or-set_same o.left t (l - 1) 0 long in
            subst (λ m. Placed Typed p budgets v.tasks (task_at v t).frame (steps_begun (stand_at p v t)) m) (sym here)
            (subst (λ (f : Frame). Placed Typed p budgets v.tasks f (steps_begun (stand_at p v t)) (l - 1)) (sym h.here.frame) (one.1 (sym (like-lives x (task_at v t) h.here) ∙ lives_v))))
            (λ u other lives_v.
            let there : get_or left u 0 ≡ get_or o.left u 0 = get_or-set_other o.left t u (l - 1) 0 other in
            let alive_u : lives (task_at w u) ≡ true = sym (like-lives (task_at w u) (task_at v u) (h.there u other)) ∙ lives_v in
            subst (λ m. Placed Typed p budgets v.tasks (task_at v u).frame (steps_begun (stand_at p v u)) m) (sym there)
            (placed_map Typed p budgets w.tasks v.tasks (task_at w u).frame (task_at v u).frame _ _ (get_or o.left u 0) (λ k s has. turned_lent h scope function k s) (h.there u other).frame (patient u other lives_v) (o.placed u alive_u)));
        function = λ u low. rw (turned_function h function u) (o.function u (omega (arith, count, low)));
        idle = each-task (λ u. lives (task_at v u) ≡ false → (task_at v u).frame.entries ≡ []) t
            (λ dead. ap (λ (f : Frame). f.entries) h.here.frame ∙ ended (sym (like-lives x (task_at v t) h.here) ∙ dead))
            (λ u other dead. ap (λ (f : Frame). f.entries) (h.there u other).frame ∙ o.idle u (sym (like-lives (task_at w u) (task_at v u) (h.there u other)) ∙ dead));
        rooted =
            record {
              some = let s = o.rooted.some in omega (arith, s, count);
              root = turned_scope h scope 0 ∙ o.rooted.root;
              main = turned_function h function 0 ∙ o.rooted.main;
              others = λ u low none. o.rooted.others u (omega (arith, low, count)) (sym (turned_scope h scope u) ∙ none);
            };
      }

-- only flags and scopes changed
pub good_alike : (Typed : Type 0) (p : Program) (budgets : List Budgets) (w v : World) (n : ℕ) → Good Typed p budgets w n → Alike w v → ((u : ℕ) → lives (task_at v u) ≡ true → steps_begun (stand_at p w u) ≤ steps_begun (stand_at p v u)) → Good Typed p budgets v n
good_alike Typed p budgets w v n o h patient =
    let count = h.count in
    let scope : (u : ℕ) → (task_at v u).scope ≡ (task_at w u).scope = λ u. (h.each u).scope in
    let function : (u : ℕ) → (task_at v u).frame.function ≡ (task_at w u).frame.function = λ u. ap (λ (f : Frame). f.function) (h.each u).frame in
    record {
      left = o.left;
      same = o.same ∙ sym h.count;
      sum = o.sum;
      placed = λ u lives_v.
          let alive : lives (task_at w u) ≡ true = sym (like-lives (task_at w u) (task_at v u) (h.each u)) ∙ lives_v in
          placed_map Typed p budgets w.tasks v.tasks (task_at w u).frame (task_at v u).frame _ _ (get_or o.left u 0) (λ k s has. lent-same k budgets w v s h.count scope function) (h.each u).frame (patient u lives_v) (o.placed u alive);
      function = λ u low. rw (function u) (o.function u (omega (arith, count, low)));
      idle = λ u dead. ap (λ (f : Frame). f.entries) (h.each u).frame ∙ o.idle u (sym (like-lives (task_at w u) (task_at v u) (h.each u)) ∙ dead);
      rooted =
          record {
            some = let s = o.rooted.some in omega (arith, s, count);
            root = scope 0 ∙ o.rooted.root;
            main = function 0 ∙ o.rooted.main;
            others = λ u low none. o.rooted.others u (omega (arith, low, count)) (sym (scope u) ∙ none);
          };
    }
