-- Changes that keep the parts in order.
use Rattle.std.proofs.Common.{◌≡◌, ℕ, zero, suc, List, [], ◌∷◌, map, length, Option, Some, None, refl, sym, ◌∙◌, ap, get_or, set}
use Rattle.std.proofs.lemmas.List.{length-set}
use Rattle.std.specs.Prelude.{option_map, is_some}
use Rattle.sts_env.specs.Environments.{Records}
use Rattle.sts_env.specs.declared.env.Env.{Env}
use Rattle.sts_tree.specs.Forest.{Forest}
use Rattle.sts_tree.specs.declared.record.TaskNode.{TaskNode}
use Rattle.sts_tree.proofs.HoldingLemmas.{unseen, map_at}
use Rattle.sts_tree.specs.Steps.{unmarked, seen, with_task}
use Rattle.sts_tree.specs.Reading.{lives_at}
use Rattle.sts_store.proofs.ViewingLemmas.{same_view}
use Rattle.sts_store.specs.Parts.{Parts, live_of, beside, stand_of, unseen_of}
use Rattle.sts_store.specs.Sharing.{AreShared, holder_of, home_of, holders, keepers, homes}
use Rattle.sts_store.specs.Stored.{IsStore}
use Rattle.sts_store.specs.declared.running.Running.{Running}
use Rattle.sts_store.proofs.Views.{Lived, with_running, lives_of}

-- a record written over one that is there
pub still_some : {X : Type 0} (xs : List (Option X)) (t u : ℕ) (x y : X) → get_or xs t None ≡ Some x → is_some (get_or (set xs t (Some y)) u None) ≡ is_some (get_or xs u None)
still_some [] t u x y e = refl
still_some (o ∷ xs) zero zero x y e = rw e refl
still_some (o ∷ xs) zero (suc u) x y e = refl
still_some (o ∷ xs) (suc t) zero x y e = refl
still_some (o ∷ xs) (suc t) (suc u) x y e = still_some xs t u x y e

-- what a living task has is written
pub kept_running : (m : Parts) (t : ℕ) (r q : Running) (c : Records) → IsStore m → get_or m.frames.slots t None ≡ Some r → AreShared c (holders (with_running m t q c)) (keepers m) (homes m) → IsStore (with_running m t q c)
kept_running m t r q c is at shared =
    record {
      born = length-set m.frames.slots t (Some q) ∙ is.born;
      alive = λ u. still_some m.frames.slots t u r q at ∙ is.alive u;
      shared = shared;
    }

-- a frame is written, with the same environment and structure list
pub kept_frame : (m : Parts) (t : ℕ) (r q : Running) → IsStore m → get_or m.frames.slots t None ≡ Some r → holder_of q ≡ holder_of r → IsStore (with_running m t q m.chains)
kept_frame m t r q is at same = kept_running m t r q m.chains is at (rw (unseen holder_of m.frames.slots t r q at same) is.shared)

-- ---- marks are not seen

pub live_seen : (m : Parts) (f g : Forest Env) → seen f ≡ seen g → live_of (record m { tree = f }) ≡ live_of (record m { tree = g })
live_seen m f g e = same_view (beside m) f g e

-- a part that no mark changes is the same before and after
by_marks : {X Y : Type 0} (p : X → Y) (mark : X → X) → ((x : X) → p (mark x) ≡ p x) → (xs : List (Option X)) → map (option_map p) (map (option_map mark) xs) ≡ map (option_map p) xs
by_marks p mark same [] = refl
by_marks p mark same (None ∷ xs) = ap (λ l. None ∷ l) (by_marks p mark same xs)
by_marks p mark same (Some x ∷ xs) = ap (λ z. Some z ∷ map (option_map p) (map (option_map mark) xs)) (same x) ∙ ap (λ l. Some (p x) ∷ l) (by_marks p mark same xs)

-- the reading of each task, whatever its mark
read_seen : {Y : Type 0} (p : TaskNode → Y) → ((x : TaskNode) → p (unmarked x) ≡ p x) → (f g : Forest Env) → seen f ≡ seen g → map (option_map p) f.tasks ≡ map (option_map p) g.tasks
read_seen p same f g e = sym (by_marks p unmarked same f.tasks) ∙ ap (λ (h : Forest Env). map (option_map p) h.tasks) e ∙ by_marks p unmarked same g.tasks

born_unmarked : (xs : List (Option TaskNode)) → length (map (option_map unmarked) xs) ≡ length xs
born_unmarked [] = refl
born_unmarked (x ∷ xs) = ap suc (born_unmarked xs)

lives_unmarked : (f : Forest Env) (t : ℕ) → lives_at (seen f) t ≡ lives_at f t
lives_unmarked f t = ap lives_of (map_at unmarked f.tasks t) ∙ by (get_or f.tasks t None)
  where
    by : (o : Option TaskNode) → lives_of (option_map unmarked o) ≡ lives_of o
    by None = refl
    by (Some x) = refl

-- the part of a tree that the store's order depends on
pub record SameOrder (f g : Forest Env) : Type 0 where
  pub born : length f.tasks ≡ length g.tasks
  pub alive : (t : ℕ) → lives_at f t ≡ lives_at g t
  pub homes : map (option_map home_of) f.tasks ≡ map (option_map home_of) g.tasks
  pub scopes : f.scopes ≡ g.scopes

pub order_seen : (f g : Forest Env) → seen f ≡ seen g → SameOrder f g
order_seen f g e =
    record {
      born = sym (born_unmarked f.tasks) ∙ ap (λ (h : Forest Env). length h.tasks) e ∙ born_unmarked g.tasks;
      alive = λ t. sym (lives_unmarked f t) ∙ ap (λ (h : Forest Env). lives_at h t) e ∙ lives_unmarked g t;
      homes = read_seen home_of (λ x. refl) f g e;
      scopes = ap (λ (h : Forest Env). h.scopes) e;
    }

pub same_order : (m : Parts) (f g : Forest Env) → SameOrder f g → IsStore (record m { tree = g }) → IsStore (record m { tree = f })
same_order m f g o is =
    record { born = is.born ∙ sym o.born; alive = λ t. is.alive t ∙ sym (o.alive t); shared = rw (o.homes, o.scopes) is.shared }

pub store_seen : (m : Parts) (f g : Forest Env) → seen f ≡ seen g → IsStore (record m { tree = g }) → IsStore (record m { tree = f })
store_seen m f g e is = same_order m f g (order_seen f g e) is

-- the recorded scopes of tasks, the keys and the room
pub rest_seen : (m : Parts) (f g : Forest Env) → seen f ≡ seen g → unseen_of (record m { tree = f }) ≡ unseen_of (record m { tree = g })
rest_seen m f g e =
    ap (λ l. record (unseen_of (record m { tree = f })) { stands = l }) (read_seen stand_of (λ x. refl) f g e)
    ∙ ap (λ (h : Forest Env). record (unseen_of (record m { tree = h })) { stands = map (option_map stand_of) g.tasks }) e

-- ---- a task's record in the tree

-- a living task's record is written, with the same scope, and it lives or not as before
pub kept_task : {m : Parts} {t : ℕ} → IsStore m → (l : Lived m t) (y : TaskNode) (f : Forest Env) → seen f ≡ seen (with_task m.tree t y) → y.scope ≡ l.task.scope → y.lives ≡ l.task.lives → IsStore (record m { tree = f })
kept_task {m} {t} is l y f same home lives = store_seen m f (with_task m.tree t y) same written
  where
    still : (xs : List (Option TaskNode)) (k u : ℕ) → get_or xs k None ≡ Some l.task → lives_of (get_or (set xs k (Some y)) u None) ≡ lives_of (get_or xs u None)
    still [] k u e = refl
    still (o ∷ xs) zero zero e = lives ∙ sym (ap lives_of e)
    still (o ∷ xs) zero (suc u) e = refl
    still (o ∷ xs) (suc k) zero e = refl
    still (o ∷ xs) (suc k) (suc u) e = still xs k u e

    written : IsStore (record m { tree = with_task m.tree t y })
    written =
        record {
          born = is.born ∙ sym (length-set m.tree.tasks t (Some y));
          alive = λ u. is.alive u ∙ sym (still m.tree.tasks t u l.stands);
          shared = rw (unseen home_of m.tree.tasks t l.task y l.stands home) is.shared;
        }

-- the same scope is recorded for it
pub same_stand : (m : Parts) (t : ℕ) (x y : TaskNode) → get_or m.tree.tasks t None ≡ Some x → y.stand ≡ x.stand → unseen_of (record m { tree = with_task m.tree t y }) ≡ unseen_of m
same_stand m t x y at same = ap (λ l. record (unseen_of m) { stands = l }) (unseen stand_of m.tree.tasks t x y at same)
