-- After one change, which tasks can step, and which own which scopes.
use Rattle.std.proofs.Common.{◌≡◌, ◌≢◌, ℕ, zero, suc, List, [], ◌∷◌, ◌++◌, Bool, true, false, ◌&&◌, ◌||◌, not, Option, Some, None, refl, sym, ◌∙◌, ap, arith, get_or, set, get_or-set_same, get_or-set_other, is_some, nat_eq, length}
use Rattle.std.proofs.lemmas.Bool.Decides.{nat_tests}
use Rattle.std.proofs.lemmas.List.{get_or_append_left, get_or_past, set-get_or}
use Rattle.std.specs.Prelude.{option_map}
use Rattle.std.proofs.lemmas.Option.{same_Some}
use Rattle.sts_model.specs.declared.event.Stand.{Stand}
use Rattle.sts_model.specs.declared.event.Stand.TheVariants.{Free, AtJoin, AtClose}
use Rattle.sts_links.specs.Lists.{first_or}
use Rattle.laws_words.proofs.ListLemmas.{old_at, read_within}
use Rattle.sts_tree.specs.Births.{births, has}
use Rattle.sts_tree.specs.Forest.{Forest, any_lives, lives_in, is_of, root, subtask}
use Rattle.sts_tree.specs.declared.record.TaskNode.{TaskNode}
use Rattle.sts_tree.specs.declared.record.ScopeNode.{ScopeNode}
use Rattle.sts_tree.proofs.BirthLemmas.{births_kept}
use Rattle.sts_tree.proofs.HoldingLemmas.{map_at, inside_of}
use Rattle.sts_tree.proofs.KeyLemmas.{not_has}
use Rattle.sts_tree.proofs.SeeingLemmas.{step_of}
use Rattle.sts_tree.proofs.ForkLemmas.{own_scope, one_scope, not_lives_of}
use Rattle.sts_tree.proofs.StepLemmas.{same_living, at_set, at_more, one_of, no_more}
use Rattle.sts_tree.specs.Steps.{is_over, can_go, can_step, unmarked, seen, stands_at, Owned, IsTree, with_task, with_scope}

lives_same : (tasks : List (Option TaskNode)) (t s : ℕ) (x y : TaskNode) → get_or tasks t None ≡ Some x → y.scope ≡ x.scope → y.lives ≡ x.lives → any_lives (set tasks t (Some y)) s ≡ any_lives tasks s
lives_same tasks t s x y is scope lives = ap (λ l. is_some (first_or l None)) (births_kept (lives_in s) 0 tasks t x y is (same_living s x y scope lives))

pub own_stand : (s : ℕ) → stands_at s (AtJoin s) ≡ true
own_stand s = grind (arith, nat_tests)

lives_more : (tasks : List (Option TaskNode)) (r s : ℕ) (y : TaskNode) → y.scope ≡ Some s → r ≢ s → any_lives (tasks ++ Some y ∷ []) r ≡ any_lives tasks r
lives_more tasks r s y scope ne =
    let own : is_of s y ≡ true = rw scope (own_scope s) in
    ap (λ l. is_some (first_or l None)) (one_of (lives_in r) tasks y ∙ no_more (births (lives_in r) 0 tasks) (lives_in r y) (length tasks) (not_lives_of r y (one_scope r s y ne own)))

last_is : (tasks : List (Option TaskNode)) (y : TaskNode) → get_or (tasks ++ Some y ∷ []) (length tasks) None ≡ Some y
last_is [] y = refl
last_is (x ∷ tasks) y = last_is tasks y

module _ {E : Type 0} where
  -- a task is written that keeps its scope and whether it lives
  go_task : (f : Forest E) (t : ℕ) (x y : TaskNode) (flag : Bool) (stand : Stand) → get_or f.tasks t None ≡ Some x → y.scope ≡ x.scope → y.lives ≡ x.lives → can_go (with_task f t y) flag stand ≡ can_go f flag stand
  go_task f t x y flag Free is scope lives = refl
  go_task f t x y flag (AtJoin s) is scope lives = rw (lives_same f.tasks t s x y is scope lives) refl
  go_task f t x y flag (AtClose s) is scope lives = rw (lives_same f.tasks t s x y is scope lives) refl

  pub steps_task : (f : Forest E) (t u : ℕ) (x y : TaskNode) → get_or f.tasks t None ≡ Some x → y.scope ≡ x.scope → y.lives ≡ x.lives → u ≢ t → can_step (with_task f t y) u ≡ can_step f u
  steps_task f t u x y is scope lives ne =
      ap (step_of (with_task f t y)) (get_or-set_other f.tasks t u (Some y) None ne) ∙ by (get_or f.tasks u None)
    where
      by : (o : Option TaskNode) → step_of (with_task f t y) o ≡ step_of f o
      by None = refl
      by (Some z) = ap (λ b. z.lives && b) (go_task f t x y z.flag z.stand is scope lives)

  -- the step of the task that is written
  pub steps_own : (f : Forest E) (t : ℕ) (x y : TaskNode) → get_or f.tasks t None ≡ Some x → can_step (with_task f t y) t ≡ (y.lives && can_go (with_task f t y) y.flag y.stand)
  steps_own f t x y is =
      ap (step_of (with_task f t y)) (get_or-set_same f.tasks t (Some y) None (inside_of f.tasks t (λ n. let q : Some x ≡ None = sym is ∙ n in cc)))

  -- a task is written as it was
  pub same_task : (f : Forest E) (t : ℕ) (x : TaskNode) → get_or f.tasks t None ≡ Some x → with_task f t x ≡ f
  same_task f t x is =
      ap (λ o. record f { tasks = set f.tasks t o }) (sym is)
      ∙ ap (λ ts. record f { tasks = ts }) (set-get_or f.tasks t None)

  pub owned_task : (f : Forest E) (t : ℕ) (x y : TaskNode) → Owned f → get_or f.tasks t None ≡ Some x → ((s : ℕ) → y.lives ≡ true → stands_at s y.stand ≡ true → (c : ScopeNode E) × (get_or f.scopes s None ≡ Some c) × (c.owner ≡ t)) → Owned (with_task f t y)
  owned_task f t x y owned is here u s z at lives stands =
      at_set f.tasks t x y (λ v w. w.lives ≡ true → stands_at s w.stand ≡ true → (c : ScopeNode E) × (get_or f.scopes s None ≡ Some c) × (c.owner ≡ v)) is
      (λ l st. here s l st) (λ v w ne q l st. owned v s w q l st) u z at lives stands

  -- a task that waits at a scope owns it
  not_owner : (f : Forest E) (s u : ℕ) (c : ScopeNode E) → Owned f → get_or f.scopes s None ≡ Some c → u ≢ c.owner → (z : TaskNode) → get_or f.tasks u None ≡ Some z → z.lives ≡ true → stands_at s z.stand ≡ true → ⊥
  not_owner f s u c owned is ne z at lives st = let o = owned u s z at lives st in let e = o.1 in let q : o.0 ≡ c = cc in ne (rw (← q) (sym o.2))

  -- a scope is written that keeps its owner
  go_scope : (f : Forest E) (s : ℕ) (d : ScopeNode E) (flag : Bool) (stand : Stand) → stands_at s stand ≡ false → can_go (with_scope f s d) flag stand ≡ can_go f flag stand
  go_scope f s d flag Free away = refl
  go_scope f s d flag (AtJoin r) away =
      let ne : r ≢ s = grind (arith, nat_tests) in
      ap (λ o. (elim o [ None ↦ false | Some c ↦ c.expired || c.cancelled ]) || not (any_lives f.tasks r) || flag) (get_or-set_other f.scopes s r (Some d) None ne)
  go_scope f s d flag (AtClose r) away = refl

  pub steps_scope : (f : Forest E) (s u : ℕ) (c d : ScopeNode E) → Owned f → get_or f.scopes s None ≡ Some c → u ≢ c.owner → can_step (with_scope f s d) u ≡ can_step f u
  steps_scope f s u c d owned is ne = by (get_or f.tasks u None) refl
    where
      by3 : (z : TaskNode) → get_or f.tasks u None ≡ Some z → (a b : Bool) → z.lives ≡ a → stands_at s z.stand ≡ b → step_of (with_scope f s d) (Some z) ≡ step_of f (Some z)
      by3 z at false b p q = rw p refl
      by3 z at true false p q = ap (λ b. z.lives && b) (go_scope f s d z.flag z.stand q)
      by3 z at true true p q = absurd (not_owner f s u c owned is ne z at p q)

      by : (o : Option TaskNode) → get_or f.tasks u None ≡ o → step_of (with_scope f s d) o ≡ step_of f o
      by None at = refl
      by (Some z) at = by3 z at z.lives (stands_at s z.stand) refl refl

  pub owned_scope : (f : Forest E) (s : ℕ) (c d : ScopeNode E) → Owned f → get_or f.scopes s None ≡ Some c → d.owner ≡ c.owner → Owned (with_scope f s d)
  owned_scope f s c d owned is same u r z at lives stands = by (nat_eq r s) refl (owned u r z at lives stands)
    where
      by : (b : Bool) → nat_eq r s ≡ b → (e : ScopeNode E) × (get_or f.scopes r None ≡ Some e) × (e.owner ≡ u) → (e : ScopeNode E) × (get_or (set f.scopes s (Some d)) r None ≡ Some e) × (e.owner ≡ u)
      by true q o =
          let k : r ≡ s = grind (arith, nat_tests) in
          let at_s : get_or f.scopes s None ≡ Some o.0 = rw (← k) o.1 in
          let e : c ≡ o.0 = same_Some c o.0 (sym is ∙ at_s) in
          (d, rw k (get_or-set_same f.scopes s (Some d) None (read_within f.scopes s c is)), same ∙ ap (λ (v : ScopeNode E). v.owner) e ∙ o.2)
      by false q o = (o.0, get_or-set_other f.scopes s r (Some d) None (grind (arith, nat_tests)) ∙ o.1, o.2)

  -- a scope is written with the same marks of its end: no task's step depends on the rest of it
  abbrev over_of : Option (ScopeNode E) → Bool
  over_of o = elim o [ None ↦ false | Some c ↦ c.expired || c.cancelled ]

  over_same : (f : Forest E) (s r : ℕ) (c d : ScopeNode E) → get_or f.scopes s None ≡ Some c → d.expired ≡ c.expired → d.cancelled ≡ c.cancelled → over_of (get_or (set f.scopes s (Some d)) r None) ≡ over_of (get_or f.scopes r None)
  over_same f s r c d is expired cancelled = by (nat_eq r s) refl
    where
      over : over_of (Some d) ≡ over_of (Some c)
      over = rw (expired, cancelled) refl

      by : (b : Bool) → nat_eq r s ≡ b → over_of (get_or (set f.scopes s (Some d)) r None) ≡ over_of (get_or f.scopes r None)
      by true q =
          let k : r ≡ s = grind (arith, nat_tests) in
          rw k (ap over_of (get_or-set_same f.scopes s (Some d) None (read_within f.scopes s c is)) ∙ over ∙ ap over_of (sym is))
      by false q = ap over_of (get_or-set_other f.scopes s r (Some d) None (grind (arith, nat_tests)))

  pub steps_marks : (f : Forest E) (s u : ℕ) (c d : ScopeNode E) → get_or f.scopes s None ≡ Some c → d.expired ≡ c.expired → d.cancelled ≡ c.cancelled → can_step (with_scope f s d) u ≡ can_step f u
  steps_marks f s u c d at expired cancelled = by (get_or f.tasks u None)
    where
      go : (flag : Bool) (stand : Stand) → can_go (with_scope f s d) flag stand ≡ can_go f flag stand
      go flag Free = refl
      go flag (AtJoin r) = ap (λ b. b || not (any_lives f.tasks r) || flag) (over_same f s r c d at expired cancelled)
      go flag (AtClose r) = refl

      by : (o : Option TaskNode) → step_of (with_scope f s d) o ≡ step_of f o
      by None = refl
      by (Some z) = ap (λ b. z.lives && b) (go z.flag z.stand)

  pub phase_tree : (f : Forest E) (s : ℕ) (c d : ScopeNode E) → IsTree f → get_or f.scopes s None ≡ Some c → d.owner ≡ c.owner → d.expired ≡ c.expired → d.cancelled ≡ c.cancelled → IsTree (with_scope f s d)
  phase_tree f s c d is at owner expired cancelled =
      record {
        ready = λ u. is.ready u ∙ sym (steps_marks f s u c d at expired cancelled);
        owned = owned_scope f s c d is.owned at owner;
      }

  -- the ready list doesn't change who owns what
  pub owned_seen : (f g : Forest E) → seen g ≡ seen f → Owned f → Owned g
  owned_seen f g same owned u s z at lives stands = by (get_or f.tasks u None) refl (sym (map_at unmarked f.tasks u) ∙ ap (λ (h : Forest E). get_or h.tasks u None) (sym same) ∙ map_at unmarked g.tasks u ∙ ap (option_map unmarked) at)
    where
      scopes : g.scopes ≡ f.scopes
      scopes = ap (λ (h : Forest E). h.scopes) same

      by : (o : Option TaskNode) → get_or f.tasks u None ≡ o → option_map unmarked o ≡ Some (unmarked z) → (c : ScopeNode E) × (get_or g.scopes s None ≡ Some c) × (c.owner ≡ u)
      by None q e = cc
      by (Some x) q e =
          let m = same_Some (unmarked x) (unmarked z) e in
          let l : x.lives ≡ true = ap (λ (y : TaskNode). y.lives) m ∙ lives in
          let st : stands_at s x.stand ≡ true = ap (λ (y : TaskNode). stands_at s y.stand) m ∙ stands in
          let o = owned u s x q l st in
          (o.0, (rw scopes o.1), o.2)

  -- after one task was settled
  pub settled : (f one new : Forest E) (t : ℕ) → IsTree f → one.ready ≡ f.ready → ((u : ℕ) → u ≢ t → can_step one u ≡ can_step f u) → Owned one → seen new ≡ seen one → ((u : ℕ) → (u ≢ t → has u one.ready ≡ can_step one u) → has u new.ready ≡ can_step new u) → IsTree new
  settled f one new t is list same owned e ready =
      record {
        ready = λ u. ready u (λ ne. ap (has u) list ∙ is.ready u ∙ sym (same u ne));
        owned = owned_seen one new e owned;
      }

  -- a scope's marks are written, and its owner is settled
  pub marked_tree : (f one two : Forest E) (s owner : ℕ) (c d : ScopeNode E) → IsTree f → get_or f.scopes s None ≡ Some c → d.owner ≡ c.owner → owner ≡ c.owner → one ≡ with_scope f s d → seen two ≡ seen one → ((u : ℕ) → (u ≢ owner → has u one.ready ≡ can_step one u) → has u two.ready ≡ can_step two u) → IsTree two
  marked_tree f one two s owner c d is at same own one_is e ready =
      settled f one two owner is (ap (λ h. h.ready) one_is) (λ u ne. rw one_is (steps_scope f s u c d is.owned at (rw (← own) ne))) (rw one_is (owned_scope f s c d is.owned at same)) e ready

  -- a task's flag is written, and the task is settled
  pub flagged_tree : (f one two : Forest E) (t : ℕ) (x : TaskNode) (flag : Bool) → IsTree f → get_or f.tasks t None ≡ Some x → one ≡ with_task f t (record x { flag = flag }) → seen two ≡ seen one → ((u : ℕ) → (u ≢ t → has u one.ready ≡ can_step one u) → has u two.ready ≡ can_step two u) → IsTree two
  flagged_tree f one two t x flag is at one_is e ready =
      let y : TaskNode = record x { flag = flag } in
      settled f one two t is (ap (λ h. h.ready) one_is) (λ u ne. rw one_is (steps_task f t u x y at refl refl ne)) (rw one_is (owned_task f t x y is.owned at (λ s l st. is.owned t s x at l st))) e ready

  -- after two tasks were settled
  pub settled_two : (f mid one two : Forest E) (t owner : ℕ) → IsTree f → mid.ready ≡ f.ready → ((u : ℕ) → u ≢ t → u ≢ owner → can_step mid u ≡ can_step f u) → Owned mid → seen one ≡ seen mid → ((u : ℕ) → (u ≢ t → has u mid.ready ≡ can_step mid u) → has u one.ready ≡ can_step one u) → seen two ≡ seen one → ((u : ℕ) → (u ≢ owner → has u one.ready ≡ can_step one u) → has u two.ready ≡ can_step two u) → IsTree two
  settled_two f mid one two t owner is list same owned seen1 ready1 seen2 ready2 =
      record {
        ready = λ u. ready2 u (λ ne2. ready1 u (λ ne1. ap (has u) list ∙ is.ready u ∙ sym (same u ne1 ne2)));
        owned = owned_seen one two seen2 (owned_seen mid one seen1 owned);
      }

  -- a new scope changes no task's step
  over_more : (f : Forest E) (c : ScopeNode E) (keys : List ℕ) (r s : ℕ) → get_or f.scopes s None ≢ None → is_over (record f { scopes = f.scopes ++ Some c ∷ []; scope_keys = keys; scope_room = r }) s ≡ is_over f s
  over_more f c keys r s there =
      ap (λ o. elim o [ None ↦ false | Some d ↦ d.expired || d.cancelled ]) (get_or_append_left f.scopes (Some c ∷ []) None s (inside_of f.scopes s there))

  pub opened_tree : (f : Forest E) (c : ScopeNode E) (keys : List ℕ) (r : ℕ) → IsTree f → IsTree (record f { scopes = f.scopes ++ Some c ∷ []; scope_keys = keys; scope_room = r })
  opened_tree f c keys r is =
      record {
        ready = λ u. is.ready u ∙ sym (by u (get_or f.tasks u None) refl);
        owned = λ u s z at lives stands.
            let o = is.owned u s z at lives stands in
            let l = inside_of f.scopes s (λ n. let e = o.1 in cc) in
            (o.0, get_or_append_left f.scopes (Some c ∷ []) None s l ∙ o.1, o.2);
      }
    where
      by2 : (u : ℕ) (z : TaskNode) → get_or f.tasks u None ≡ Some z → (a : Bool) (st : Stand) → z.lives ≡ a → z.stand ≡ st → step_of (record f { scopes = f.scopes ++ Some c ∷ []; scope_keys = keys; scope_room = r }) (Some z) ≡ step_of f (Some z)
      by2 u z at false st p q = rw p refl
      by2 u z at true Free p q = rw q refl
      by2 u z at true (AtClose s) p q = rw q refl
      by2 u z at true (AtJoin s) p q =
          let o = is.owned u s z at p (rw q (own_stand s)) in
          let there : get_or f.scopes s None ≢ None = λ n. let e = o.1 in cc in
          rw q (ap (λ b. z.lives && (b || not (any_lives f.tasks s) || z.flag)) (over_more f c keys r s there))

      by : (u : ℕ) (o : Option TaskNode) → get_or f.tasks u None ≡ o → step_of (record f { scopes = f.scopes ++ Some c ∷ []; scope_keys = keys; scope_room = r }) o ≡ step_of f o
      by u None at = refl
      by u (Some z) at = by2 u z at z.lives z.stand refl refl

  -- the root alone
  pub root_tree : (keys : List ℕ) (a b : ℕ) → IsTree {E = E} (record { tasks = Some root ∷ []; scopes = []; ready = 0 ∷ []; task_keys = keys; scope_keys = []; task_room = a; scope_room = b })
  root_tree keys a b =
      record {
        ready = λ t. step t;
        owned = λ t s z at lives stands. absurd (by t s z at stands);
      }
    where
      step : (t : ℕ) → has t (0 ∷ []) ≡ can_step {E = E} (record { tasks = Some root ∷ []; scopes = []; ready = 0 ∷ []; task_keys = keys; scope_keys = []; task_room = a; scope_room = b }) t
      step zero = refl
      step (suc k) = not_has (suc k) (0 ∷ []) ((λ e. absurd (omega (arith, e))), tt)

      some_root : (z : TaskNode) → Some root ≡ Some z → z.stand ≡ Free
      some_root z e = let q : root ≡ z = cc in rw (← q) refl

      by : (t s : ℕ) (z : TaskNode) → get_or (Some root ∷ []) t None ≡ Some z → stands_at s z.stand ≡ true → ⊥
      by zero s z e st = let q = some_root z e in let w : stands_at s Free ≡ true = rw q at st in cc
      by (suc k) s z e st = cc

  -- a new subtask of s: only it and the owner of s need settling
  abbrev with_more : Forest E → TaskNode → List ℕ → ℕ → Forest E
  with_more f y keys room = record f { tasks = f.tasks ++ Some y ∷ []; task_keys = keys; task_room = room }

  go_more : (f : Forest E) (keys : List ℕ) (s room : ℕ) (y : TaskNode) (flag : Bool) (stand : Stand) → y.scope ≡ Some s → stands_at s stand ≡ false → can_go (with_more f y keys room) flag stand ≡ can_go f flag stand
  go_more f keys s room y flag Free scope away = refl
  go_more f keys s room y flag (AtJoin r) scope away = rw (lives_more f.tasks r s y scope (grind (arith, nat_tests))) refl
  go_more f keys s room y flag (AtClose r) scope away = rw (lives_more f.tasks r s y scope (grind (arith, nat_tests))) refl

  steps_more : (f : Forest E) (keys : List ℕ) (s room u : ℕ) (c : ScopeNode E) (y : TaskNode) → Owned f → get_or f.scopes s None ≡ Some c → y.scope ≡ Some s → u ≢ length f.tasks → u ≢ c.owner → can_step (with_more f y keys room) u ≡ can_step f u
  steps_more f keys s room u c y owned is scope new ne = ap (step_of (with_more f y keys room)) (old_at f.tasks y u new) ∙ by (get_or f.tasks u None) refl
    where
      by3 : (z : TaskNode) → get_or f.tasks u None ≡ Some z → (a b : Bool) → z.lives ≡ a → stands_at s z.stand ≡ b → step_of (with_more f y keys room) (Some z) ≡ step_of f (Some z)
      by3 z at false b p q = rw p refl
      by3 z at true false p q = ap (λ b. z.lives && b) (go_more f keys s room y z.flag z.stand scope q)
      by3 z at true true p q = absurd (not_owner f s u c owned is ne z at p q)

      by : (o : Option TaskNode) → get_or f.tasks u None ≡ o → step_of (with_more f y keys room) o ≡ step_of f o
      by None at = refl
      by (Some z) at = by3 z at z.lives (stands_at s z.stand) refl refl

  owned_more : (f : Forest E) (keys : List ℕ) (room : ℕ) (y : TaskNode) → Owned f → y.stand ≡ Free → Owned (with_more f y keys room)
  owned_more f keys room y owned free u s z at lives stands =
      at_more f.tasks y (λ v w. w.lives ≡ true → stands_at s w.stand ≡ true → (c : ScopeNode E) × (get_or f.scopes s None ≡ Some c) × (c.owner ≡ v))
      (λ l st. let n : stands_at s Free ≡ true = rw free at st in cc) (λ v w q l st. owned v s w q l st) u z at lives stands

  pub added_tree : (f mid one two : Forest E) (keys : List ℕ) (s room n owner : ℕ) (c : ScopeNode E) (y : TaskNode) → IsTree f → get_or f.scopes s None ≡ Some c → y.scope ≡ Some s → y.stand ≡ Free → mid ≡ with_more f y keys room → n ≡ length f.tasks → owner ≡ c.owner → seen one ≡ seen mid → ((u : ℕ) → (u ≢ n → has u mid.ready ≡ can_step mid u) → has u one.ready ≡ can_step one u) → seen two ≡ seen one → ((u : ℕ) → (u ≢ owner → has u one.ready ≡ can_step one u) → has u two.ready ≡ can_step two u) → IsTree two
  added_tree f mid one two keys s room n owner c y is at scope free e size own seen1 ready1 seen2 ready2 =
      record {
        ready = λ u.
            ready2 u (λ ne2.
            ready1 u (λ ne1.
            ap (λ (h : Forest E). has u h.ready) e ∙ is.ready u
            ∙ sym (steps_more f keys s room u c y is.owned at scope (λ q. ne1 (q ∙ sym size)) (λ q. ne2 (q ∙ sym own)))
            ∙ sym (ap (λ (h : Forest E). can_step h u) e)));
        owned = owned_seen one two seen2 (owned_seen (with_more f y keys room) one (seen1 ∙ ap (λ (h : Forest E). seen h) e) (owned_more f keys room y is.owned free));
      }

  at_none : (f g : Forest E) (x : TaskNode) → x.stand ≡ Free → step_of f (Some x) ≡ step_of g (Some x)
  at_none f g x free = rw free refl

  -- a task at no scope is where it belongs after another one was added and settled
  pub added_free : (f mid one : Forest E) (keys : List ℕ) (room n owner : ℕ) (x y : TaskNode) → IsTree f → mid ≡ with_more f y keys room → n ≡ length f.tasks → seen one ≡ seen mid → ((u : ℕ) → (u ≢ n → has u mid.ready ≡ can_step mid u) → has u one.ready ≡ can_step one u) → get_or one.tasks owner None ≡ Some x → x.stand ≡ Free → has owner one.ready ≡ can_step one owner
  added_free f mid one keys room n owner x y is e size seen1 ready1 at free =
      ready1 owner (λ ne.
      ap (λ (h : Forest E). has owner h.ready) e ∙ is.ready owner ∙ sym (same ne)
      ∙ sym (ap (λ (h : Forest E). can_step h owner) e))
    where
      more : Forest E
      more = with_more f y keys room

      there : option_map unmarked (get_or more.tasks owner None) ≡ Some (unmarked x)
      there =
          sym (map_at unmarked more.tasks owner)
          ∙ ap (λ (h : Forest E). get_or h.tasks owner None) (sym (seen1 ∙ ap (λ (h : Forest E). seen h) e))
          ∙ map_at unmarked one.tasks owner ∙ ap (option_map unmarked) at

      by : (o : Option TaskNode) → option_map unmarked o ≡ Some (unmarked x) → step_of more o ≡ step_of f o
      by None q = refl
      by (Some z) q = at_none more f z (ap (λ (w : TaskNode). w.stand) (same_Some (unmarked z) (unmarked x) q) ∙ free)

      same : owner ≢ n → can_step more owner ≡ can_step f owner
      same ne =
          let r = old_at f.tasks y owner (λ q. ne (q ∙ sym size)) in
          ap (step_of more) r ∙ by (get_or f.tasks owner None) (ap (option_map unmarked) (sym r) ∙ there)

  -- a new subtask can step if it lives
  pub fresh_step : (f mid : Forest E) (lives : Bool) (s t : ℕ) (keys : List ℕ) (room : ℕ) → mid ≡ with_more f (subtask s lives) keys room → t ≡ length f.tasks → lives ≡ can_step mid t
  fresh_step f mid lives s t keys room is birth =
      let e : can_step (with_more f (subtask s lives) keys room) (length f.tasks) ≡ lives = ap (step_of (with_more f (subtask s lives) keys room)) (last_is f.tasks (subtask s lives)) ∙ same lives in
      sym (ap (λ (h : Forest E). can_step h t) is ∙ ap (can_step (with_more f (subtask s lives) keys room)) birth ∙ e)
    where
      same : (b : Bool) → (b && true) ≡ b
      same true = refl
      same false = refl

  pub unborn_waits : (f : Forest E) → IsTree f → has (length f.tasks) f.ready ≡ false
  unborn_waits f is = is.ready (length f.tasks) ∙ ap (step_of f) (get_or_past f.tasks (length f.tasks) None (omega arith))
