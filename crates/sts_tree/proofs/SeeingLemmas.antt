-- The parts that don't depend on the ready list.
use Rattle.std.proofs.Common.{◌≡◌, ◌≢◌, ℕ, suc, List, [], ◌∷◌, ◌++◌, arith, map, Bool, true, false, ◌&&◌, Option, Some, None, refl, sym, ◌∙◌, ap, get_or, set, nat_eq}
use Rattle.std.proofs.lemmas.Bool.Decides.{nat_tests}
use Rattle.std.specs.Prelude.{option_map}
use Rattle.sts_model.specs.declared.event.Stand.{Stand}
use Rattle.sts_model.specs.declared.event.Stand.TheVariants.{Free, AtJoin, AtClose}
use Rattle.sts_tree.specs.Births.{births, has, without}
use Rattle.sts_tree.specs.Forest.{Forest, any_lives, lives_in}
use Rattle.sts_tree.specs.declared.record.TaskNode.{TaskNode}
use Rattle.sts_tree.specs.declared.record.ScopeNode.{ScopeNode}
use Rattle.sts_tree.proofs.KeyLemmas.{has_new, has_old, without_other}
use Rattle.sts_tree.proofs.HoldingLemmas.{map_at, unseen}
use Rattle.sts_tree.specs.Steps.{can_go, can_step, unmarked, seen}

pub births_unmarked : (s n : ℕ) (xs : List (Option TaskNode)) → births (lives_in s) n (map (option_map unmarked) xs) ≡ births (lives_in s) n xs
births_unmarked s n [] = refl
births_unmarked s n (None ∷ xs) = births_unmarked s (suc n) xs
births_unmarked s n (Some x ∷ xs) = rw (births_unmarked s (suc n) xs) refl

any_unmarked : (s : ℕ) (xs : List (Option TaskNode)) → any_lives (map (option_map unmarked) xs) s ≡ any_lives xs s
any_unmarked s xs = rw (births_unmarked s 0 xs) refl

pub some_task : (o : Option TaskNode) → o ≢ None → (x : TaskNode) × (o ≡ Some x)
some_task None h = absurd (h refl)
some_task (Some x) h = (x, refl)

pub some_scope : {E : Type 0} → (o : Option (ScopeNode E)) → o ≢ None → (c : ScopeNode E) × (o ≡ Some c)
some_scope None h = absurd (h refl)
some_scope (Some c) h = (c, refl)

module _ {E : Type 0} where
  go_seen : (f : Forest E) (flag : Bool) (stand : Stand) → can_go (seen f) flag stand ≡ can_go f flag stand
  go_seen f flag Free = refl
  go_seen f flag (AtJoin s) = rw (any_unmarked s f.tasks) refl
  go_seen f flag (AtClose s) = rw (any_unmarked s f.tasks) refl

  -- by what is read of the task
  abbrev pub step_of : (f : Forest E) → Option TaskNode → Bool
  step_of f o = elim o [ None ↦ false | Some x ↦ x.lives && can_go f x.flag x.stand ]

  pub step_seen : (f : Forest E) (t : ℕ) → can_step (seen f) t ≡ can_step f t
  step_seen f t = ap (step_of (seen f)) (map_at unmarked f.tasks t) ∙ by (get_or f.tasks t None)
    where
      by : (o : Option TaskNode) → step_of (seen f) (option_map unmarked o) ≡ step_of f o
      by None = refl
      by (Some x) = ap (λ b. x.lives && b) (go_seen f x.flag x.stand)

  pub same_steps : (f g : Forest E) → seen f ≡ seen g → (t : ℕ) → can_step f t ≡ can_step g t
  same_steps f g e t = sym (step_seen f t) ∙ ap (λ h. can_step h t) e ∙ step_seen g t

  -- a task is added, under a key that settling doesn't change
  pub added_seen : (f mid new : Forest E) (tasks : List (Option TaskNode)) (room : ℕ) → seen new ≡ seen mid → mid ≡ record f { tasks = tasks; task_keys = mid.task_keys; task_room = room } → seen new ≡ seen (record f { tasks = tasks; task_keys = new.task_keys; task_room = room })
  added_seen f mid new tasks room e h =
      e ∙ ap (λ (g : Forest E). seen g) h
      ∙ ap (λ k. seen (record f { tasks = tasks; task_keys = k; task_room = room })) (sym (ap (λ (g : Forest E). g.task_keys) e))

  -- a mark is set or cleared
  pub marked_seen : (f : Forest E) (t : ℕ) (x : TaskNode) (mark : Bool) (ready : List ℕ) → get_or f.tasks t None ≡ Some x → seen (record f { tasks = set f.tasks t (Some (record x { ready = mark })); ready = ready }) ≡ seen f
  marked_seen f t x mark ready is = rw (unseen unmarked f.tasks t x (record x { ready = mark }) is refl) refl

  pub stepping : (f : Forest E) (t : ℕ) → can_step f t ≡ true → (x : TaskNode) × (get_or f.tasks t None ≡ Some x)
  stepping f t e = by (get_or f.tasks t None) refl e
    where
      by : (o : Option TaskNode) → get_or f.tasks t None ≡ o → step_of f o ≡ true → (x : TaskNode) × (get_or f.tasks t None ≡ Some x)
      by None q r = cc
      by (Some x) q r = (x, q)

  -- the ready list after one task was settled
  pub pushed_ready : (f g : Forest E) (t : ℕ) → seen g ≡ seen f → g.ready ≡ f.ready ++ t ∷ [] → can_step f t ≡ true → (u : ℕ) → (u ≢ t → has u f.ready ≡ can_step f u) → has u g.ready ≡ can_step g u
  pushed_ready f g t same list can u before = by (nat_eq u t) refl
    where
      by : (b : Bool) → nat_eq u t ≡ b → has u g.ready ≡ can_step g u
      by true q = let s : u ≡ t = grind (arith, nat_tests) in rw (same_steps g f same u, list, s, has_new t f.ready, can) refl
      by false q = let s : u ≢ t = grind (arith, nat_tests) in rw (same_steps g f same u, list, has_old u t f.ready s) (before s)

  pub dropped_ready : (f g : Forest E) (t : ℕ) → seen g ≡ seen f → g.ready ≡ without t f.ready → has t (without t f.ready) ≡ false → can_step f t ≡ false → (u : ℕ) → (u ≢ t → has u f.ready ≡ can_step f u) → has u g.ready ≡ can_step g u
  dropped_ready f g t same list gone can u before = by (nat_eq u t) refl
    where
      by : (b : Bool) → nat_eq u t ≡ b → has u g.ready ≡ can_step g u
      by true q = let s : u ≡ t = grind (arith, nat_tests) in rw (same_steps g f same u, list, s, gone, can) refl
      by false q = let s : u ≢ t = grind (arith, nat_tests) in rw (same_steps g f same u, list, without_other u t f.ready s) (before s)
