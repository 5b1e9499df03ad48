-- A scope and its subtasks are taken out: the view after it, and the facts that keep the parts in
-- order.
use Rattle.std.proofs.Common.{◌≡◌, ◌≢◌, ℕ, suc, ◌+◌, List, [], ◌∷◌, drop, length, map, Bool, true, false, Option, Some, None, refl, sym, ◌∙◌, ap, subst, get_or, arith, cond}
use Rattle.std.proofs.lemmas.Bool.Decides.{nat_tests}
use Rattle.std.proofs.lemmas.List.{length-map, map-set, length-set}
use Rattle.std.proofs.lemmas.List.Sums.{sum_by-cons}
use Rattle.std.specs.Prelude.{option_map, is_some, unwrap_or, count_by}
use Rattle.sts_env.specs.declared.env.Env.{Env}
use Rattle.sts_tree.specs.Births.{births, drop_if}
use Rattle.sts_tree.specs.Forest.{Forest, any_lives, closed, is_of}
use Rattle.sts_tree.specs.declared.record.TaskNode.{TaskNode}
use Rattle.sts_tree.specs.declared.record.ScopeNode.{ScopeNode}
use Rattle.sts_tree.proofs.ClosedLemmas.{drop_at}
use Rattle.sts_tree.proofs.HoldingLemmas.{map_at}
use Rattle.sts_model.specs.Living.{is_in}
use Rattle.sts_model.specs.Misuse.{innermost, is_binding, is_entry_of}
use Rattle.sts_model.specs.Live.{LiveScope}
use Rattle.sts_model.specs.declared.event.Stand.TheVariants.{Free}
use Rattle.sts_model.specs.declared.record.Entry.{Entry}
use Rattle.sts_model.specs.declared.record.Entry.TheVariants as entry
use Rattle.sts_model.specs.declared.record.Frame.{Frame}
use Rattle.laws_live.specs.Effect.{live_cleared, live_closed, live_gone}
use Rattle.laws_live.specs.Reading.{lives_in, live_any_lives, no_live_task, with_live_frame}
use Rattle.sts_tree.specs.Reading.{lives_at}
use Rattle.sts_tree.proofs.ClosingLemmas.{none_lives}
use Rattle.laws_live.specs.Order.{InOrder, IsOwned}
use Rattle.sts_store.specs.View.{Beside, tasks_from}
use Rattle.sts_store.proofs.ViewingLemmas.{words, scope_there}
use Rattle.sts_store.specs.Closing.{stands_left, gone_unseen, slots_cleared}
use Rattle.sts_store.specs.declared.running.Running.{Running}
use Rattle.sts_store.specs.Parts.{Parts, live_of, beside, frame_of, stand_of, stand_in, unseen_of}
use Rattle.sts_store.specs.Sharing.{Holder, holder_of, keeper_of, home_of, holders, homes, home_at, behind}
use Rattle.sts_store.specs.Stored.{IsStore}
use Rattle.sts_store.proofs.Views.{Lived, lives_of, lives_is, same_frame, frame_seen, with_running}
use Rattle.sts_store.proofs.Keeping.{still_some}
use Rattle.sts_store.proofs.Seeing.{scope_stands, stand_is}
use Rattle.sts_store.proofs.Housed.{holds, housed}
use Rattle.sts_store.proofs.Writing.{Hand, living, frame_is}
use Rattle.sts_store.proofs.Entering.{behind_there}
use Rattle.sts_store.proofs.Opening.{close_shares}
use Rattle.sts_store.proofs.Clearing.{cleared_seen}
use Rattle.sts_store.proofs.CloseLemmas.{innermost_own, gone_on}
use Rattle.laws_words.proofs.OptionLemmas.{has_some}
use Rattle.sts_tree.proofs.KeyLemmas.{same_key}

-- ---- the structure list

scope_first : (s : ℕ) (es : List Entry) → innermost (is_entry_of s) es ≡ true → es ≡ entry.Scope s ∷ drop 1 es
scope_first s [] e = cc
scope_first s (entry.Binding k v ∷ es) e = cc
scope_first s (entry.Scope r ∷ es) e = let same : r ≡ s = grind (arith, nat_tests) in ap (λ i. entry.Scope i ∷ es) same

-- no binding goes with it
counted : (s : ℕ) (es : List Entry) → es ≡ entry.Scope s ∷ drop 1 es → count_by is_binding (drop 1 es) ≡ count_by is_binding es
counted s es first =
    let one = sum_by-cons (λ (e : Entry). cond (is_binding e) 1 0) (entry.Scope s) (drop 1 es) in
    let all : count_by is_binding es ≡ count_by is_binding (entry.Scope s ∷ drop 1 es) = ap (λ l. count_by is_binding l) first in
    omega (arith, one, all)

-- ---- where the tasks stand that are left

stands_gone : (b : Beside Env) (s n : ℕ) (xs : List (Option TaskNode)) → map (option_map stand_of) (map (drop_if (is_of s)) xs) ≡ stands_left s (tasks_from b n xs) (map (option_map stand_of) xs)
stands_gone b s n [] = refl
stands_gone b s n (None ∷ xs) = ap (λ l. None ∷ l) (stands_gone b s (suc n) xs)
stands_gone b s n (Some x ∷ xs) = by (is_in s x.scope) (stands_gone b s (suc n) xs)
  where
    by : (a : Bool) → map (option_map stand_of) (map (drop_if (is_of s)) xs) ≡ stands_left s (tasks_from b (suc n) xs) (map (option_map stand_of) xs) → (option_map stand_of (cond a None (Some x)) ∷ map (option_map stand_of) (map (drop_if (is_of s)) xs)) ≡ (cond a None (Some x.stand) ∷ stands_left s (tasks_from b (suc n) xs) (map (option_map stand_of) xs))
    by true rest = ap (λ l. None ∷ l) rest
    by false rest = ap (λ l. Some x.stand ∷ l) rest

-- ---- who leaves

-- the scope of a living task's innermost entry, if no subtask of it lives; contracts see the store m
-- as `now`
pub record Leaves (m now : Parts) (t s : ℕ) : Type 0 where
  pub is : IsStore m
  pub same : m ≡ now
  pub order : InOrder (live_of m)
  pub lived : Lived m t
  pub first : innermost (is_entry_of s) (frame_of m t).entries ≡ true
  pub none : live_any_lives (live_of m) s ≡ false

pub leaves : (m now : Parts) → IsStore m → m ≡ now → (t s : ℕ) → lives_in (live_of now) t ≡ true → InOrder (live_of now) → innermost (is_entry_of s) (frame_of now t).entries ≡ true → live_any_lives (live_of now) s ≡ false → Leaves m now t s
leaves m now is same t s lives order first none =
    record {
      is = is;
      same = same;
      order = subst (λ n. InOrder (live_of n)) (sym same) order;
      lived = living m now is same t lives;
      first = subst (λ n. innermost (is_entry_of s) (frame_of n t).entries ≡ true) (sym same) first;
      none = subst (λ n. live_any_lives (live_of n) s ≡ false) (sym same) none;
    }

module _ {m now : Parts} {t s : ℕ} (k : Leaves m now t s) where
  own : IsOwned (live_of m) t s
  own = innermost_own (live_of m) t s k.order (ap (λ o. is_some (unwrap_or o no_live_task).alive) k.lived.seen) k.first

  pub scope : (c : ScopeNode Env) × (get_or m.tree.scopes s None ≡ Some c)
  scope = scope_stands m s own.stands

  pub none_left : any_lives m.tree.tasks s ≡ false
  none_left = sym (words.any_is (beside m) m.tree s) ∙ k.none

  pub free : stand_in (unseen_of m) t ≡ Free → (c : ScopeNode Env) (x : TaskNode) → get_or m.tree.scopes s None ≡ Some c → get_or m.tree.tasks c.owner None ≡ Some x → x.stand ≡ Free
  free stands c x there task =
      let mine : c.owner ≡ t = sym (ap (λ (d : LiveScope). d.owner) (scope_there (beside m) m.tree s c there)) ∙ own.owner in
      sym (stand_is m t x (subst (λ i. get_or m.tree.tasks i None ≡ Some x) mine task)) ∙ stands

  -- ---- what is seen

  gone_live : (r : Running) (f : Frame) → get_or m.frames.slots t None ≡ Some r → live_of (with_running (record m { tree = closed m.tree s }) t (record r { frame = f }) m.chains) ≡ with_live_frame (live_gone (live_of m) s) t f
  gone_live r f at =
      frame_seen (record m { tree = closed m.tree s }) t r (record r { frame = f }) (λ alive. record alive { frame = f }) at (λ flag. refl)
      ∙ ap (λ v. with_live_frame v t f) (words.close_is (beside m) m.tree s)

  gone_rest : (q : Running) → unseen_of (with_running (record m { tree = closed m.tree s }) t q m.chains) ≡ gone_unseen (live_of m) (unseen_of m) s
  gone_rest q =
      ap (λ stands. record (unseen_of m) { stands = stands; task_room = m.tree.task_room + length (births (is_of s) 0 m.tree.tasks); scope_room = m.tree.scope_room + 1 }) (stands_gone (beside m) s 0 m.tree.tasks)
      ∙ ap (λ n. record (unseen_of m) { stands = stands_left s (live_of m).tasks (unseen_of m).stands; task_room = m.tree.task_room + n; scope_room = m.tree.scope_room + 1 }) (sym (words.count_is (beside m) m.tree s))

  -- ---- the order of the parts

  lives_on : (u : ℕ) → lives_at (closed m.tree s) u ≡ lives_at m.tree u
  lives_on u = ap lives_of (drop_at (is_of s) m.tree.tasks u) ∙ by (get_or m.tree.tasks u None) refl
    where
      by2 : (x : TaskNode) → get_or m.tree.tasks u None ≡ Some x → (b : Bool) → is_of s x ≡ b → lives_of (drop_if (is_of s) (Some x)) ≡ lives_of (Some x)
      by2 x at true e = rw e (sym (none_lives m.tree.tasks s u x none_left at e))
      by2 x at false e = rw e refl

      by : (o : Option TaskNode) → get_or m.tree.tasks u None ≡ o → lives_of (drop_if (is_of s) o) ≡ lives_of o
      by None at = refl
      by (Some x) at = by2 x at (is_of s x) refl

  -- the homes of the tasks that are left
  homes_left : List (Option (Option ℕ))
  homes_left = map (option_map home_of) (map (drop_if (is_of s)) m.tree.tasks)

  -- a living task is no subtask of it
  apart : (u : ℕ) (x : TaskNode) → get_or m.tree.tasks u None ≡ Some x → x.lives ≡ true → is_of s x ≡ false
  apart u x at lives = by (is_of s x) refl
    where
      by : (b : Bool) → is_of s x ≡ b → is_of s x ≡ false
      by false e = e
      by true e = let dead = none_lives m.tree.tasks s u x none_left at e in let never : true ≡ false = sym lives ∙ dead in cc

  same_home : (u : ℕ) (h : Holder) → get_or (holders m) u None ≡ Some h → (home_at homes_left u ≡ home_at (homes m) u) × (home_at (homes m) u ≢ Some s)
  unfolding homes_left
  same_home u h e = by (get_or m.tree.tasks u None) refl
    where
      lives : lives_at m.tree u ≡ true
      lives = sym (lives_is m u) ∙ sym (holds m k.is k.order u) ∙ ap (λ (o : Option Holder). is_some o) e

      by : (o : Option TaskNode) → get_or m.tree.tasks u None ≡ o → (home_at homes_left u ≡ home_at (homes m) u) × (home_at (homes m) u ≢ Some s)
      by None at = let no : lives_at m.tree u ≡ false = ap lives_of at in let never : true ≡ false = sym lives ∙ no in cc
      by (Some x) at =
          let other = apart u x at (sym (ap lives_of at) ∙ lives) in
          let kept : drop_if (is_of s) (Some x) ≡ Some x = rw other refl in
          let now : get_or homes_left u None ≡ Some x.scope = map_at home_of (map (drop_if (is_of s)) m.tree.tasks) u ∙ ap (option_map home_of) (drop_at (is_of s) m.tree.tasks u ∙ ap (drop_if (is_of s)) at ∙ kept) in
          let was : get_or (homes m) u None ≡ Some x.scope = map_at home_of m.tree.tasks u ∙ ap (option_map home_of) at in (
            ap (λ (o : Option (Option ℕ)). elim o [ None ↦ None | Some q ↦ q ]) (now ∙ sym was),
            λ q.
                let mine : x.scope ≡ Some s = sym (ap (λ (o : Option (Option ℕ)). elim o [ None ↦ None | Some q ↦ q ]) was) ∙ q in
                let is_own : is_of s x ≡ true = ap (is_in s) mine ∙ same_key s in
                let never : true ≡ false = sym is_own ∙ other in
                cc,
          )

  gone_kept : (r : Running) (f : Frame) → get_or m.frames.slots t None ≡ Some r → f.entries ≡ drop 1 r.frame.entries → IsStore (with_running (record m { tree = closed m.tree s }) t (record r { frame = f }) m.chains)
  unfolding homes_left
  gone_kept r f at left =
      record {
        born = length-set m.frames.slots t (Some q) ∙ k.is.born ∙ sym (length-map m.tree.tasks (drop_if (is_of s)));
        alive = λ u. still_some m.frames.slots t u r q at ∙ k.is.alive u ∙ sym (lives_on u);
        shared = rw (map-set (option_map holder_of) m.frames.slots t (Some q), map-set (option_map keeper_of) m.tree.scopes s None) (record {
          own = k.is.shared.own;
          outside = k.is.shared.outside;
          shares = close_shares k.is.shared.shares t s (holder_of r) (holder_of q) homes_left (map_at holder_of m.frames.slots t ∙ ap (option_map holder_of) at) refl
              (ap (λ es. count_by is_binding es) left ∙ counted s r.frame.entries outer)
              (λ n ne. ap (behind n) left ∙ sym (behind_there s n (drop 1 r.frame.entries) ne) ∙ ap (behind n) (sym outer))
              same_home
              (λ n x ne e. has_some (get_or (holders m) x.owner None) ((housed m k.is k.order).owners n x e));
        });
      }
    where
      q : Running
      q = record r { frame = f }

      outer : r.frame.entries ≡ entry.Scope s ∷ drop 1 r.frame.entries
      outer = scope_first s r.frame.entries (subst (λ (g : Frame). innermost (is_entry_of s) g.entries ≡ true) (same_frame m t r k.lived at) k.first)

  -- ---- what the calls leave: the tree without the scope, and the frame of who goes on

  pub leaver : (r : Running) → get_or m.frames.slots t None ≡ Some r → Hand m now t r
  leaver r at = record { is = k.is; same = k.same; lived = k.lived; at = at }

  module _ (g : Forest Env) (took : g ≡ closed m.tree s) (r : Running) (at : get_or m.frames.slots t None ≡ Some r) where
    pub left_live : (f : Frame) → f ≡ gone_on r.frame (slots_cleared m.tree s r.frame.slots) → live_of (with_running (record m { tree = g }) t (record r { frame = f }) m.chains) ≡ live_closed (live_of now) t (frame_of now t) s
    left_live f is =
        ap (λ (x : Forest Env). live_of (with_running (record m { tree = x }) t (record r { frame = f }) m.chains)) took
        ∙ gone_live r f at
        ∙ ap (with_live_frame (live_gone (live_of m) s) t) (is ∙ ap (gone_on r.frame) (cleared_seen m s r.frame.slots))
        ∙ ap (λ n. with_live_frame (live_gone (live_of n) s) t (gone_on r.frame (live_cleared (live_of n) s r.frame.slots))) k.same
        ∙ ap (λ h. live_closed (live_of now) t h s) (sym (frame_is (leaver r at)))

    pub left_rest : (q : Running) → unseen_of (with_running (record m { tree = g }) t q m.chains) ≡ gone_unseen (live_of now) (unseen_of now) s
    left_rest q =
        ap (λ (x : Forest Env). unseen_of (with_running (record m { tree = x }) t q m.chains)) took
        ∙ gone_rest q
        ∙ ap (λ n. gone_unseen (live_of n) (unseen_of n) s) k.same

    pub left_kept : (f : Frame) → f.entries ≡ drop 1 r.frame.entries → IsStore (with_running (record m { tree = g }) t (record r { frame = f }) m.chains)
    left_kept f entries =
        subst (λ (x : Forest Env). IsStore (with_running (record m { tree = x }) t (record r { frame = f }) m.chains)) (sym took) (gone_kept r f at entries)
