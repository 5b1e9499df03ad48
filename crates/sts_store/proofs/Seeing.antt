-- Readings of tasks and scopes, in the tree and in the view.
use Rattle.std.proofs.Common.{◌≡◌, ◌≢◌, ℕ, ◌+◌, ◌-◌, length, true, false, ◌&&◌, Option, Some, None, refl, sym, ◌∙◌, ap, get_or, List, [], ◌∷◌, cond, nat_eq, arith}
use Rattle.std.proofs.lemmas.Bool.Decides.{nat_tests}
use Rattle.sts_tree.specs.Births.{has, births}
use Rattle.sts_records.specs.Holes.{key_at}
use Rattle.sts_links.specs.Lists.{first_or}
use Rattle.std.specs.Prelude.{option_map, is_some, unwrap_or}
use Rattle.std.proofs.lemmas.Option.{same_Some}
use Rattle.sts_code.specs.declared.instr.Kind.{Kind}
use Rattle.sts_code.specs.declared.instr.Kind.TheVariants.{S, F, U}
use Rattle.sts_env.specs.declared.env.Env.{Env}
use Rattle.sts_tree.specs.declared.record.TaskNode.{TaskNode}
use Rattle.sts_tree.specs.declared.record.ScopeNode.{ScopeNode}
use Rattle.sts_tree.specs.Forest.{is_of}
use Rattle.sts_tree.proofs.HoldingLemmas.{map_at, key_seen}
use Rattle.sts_tree.specs.Reading.{count_of}
use Rattle.sts_tree.specs.Steps.{can_step, can_go}
use Rattle.sts_model.specs.declared.event.Stand.TheVariants.{Free}
use Rattle.sts_model.specs.Live.{LiveTask, LiveScope}
use Rattle.laws_live.specs.Reading.{scope_in, live_scope_at, live_task_at, lives_in, no_live_task, no_live_scope}
use Rattle.laws_live.specs.Effect.{live_state, live_tally}
use Rattle.laws_live.specs.Waiting.{live_can_go}
use Rattle.sts_store.specs.View.{scope_seen, task_seen}
use Rattle.sts_store.proofs.ViewingLemmas.{task_is, scope_is, scope_there, words}
use Rattle.sts_store.specs.Parts.{Parts, live_of, beside, stand_of, stand_in, unseen_of, can_go_on}
use Rattle.sts_store.proofs.Views.{lives_is, lives_of}
use Rattle.laws_words.proofs.OptionLemmas.{not_none}

-- ---- tasks

-- the state of a task, by the record at its birth
pub state_is : (m : Parts) (t : ℕ) (o : Option TaskNode) → get_or m.tree.tasks t None ≡ o → live_state (live_of m) t ≡ (elim o [ None ↦ None | Some x ↦ x.state ])
state_is m t o e = ap (λ y. (unwrap_or y no_live_task).state) (task_is (beside m) m.tree t ∙ ap (option_map (task_seen (beside m) t)) e) ∙ by o
  where
    by : (x : Option TaskNode) → (unwrap_or (option_map (task_seen (beside m) t) x) no_live_task).state ≡ (elim x [ None ↦ None | Some z ↦ z.state ])
    by None = refl
    by (Some x) = refl

-- the scope that a task is a subtask of
abbrev pub scope_of : Option TaskNode → Option ℕ
scope_of o = elim o [ None ↦ None | Some x ↦ x.scope ]

-- the scope of a task, by the record at its birth
pub home_is : (m : Parts) (t : ℕ) (o : Option TaskNode) → get_or m.tree.tasks t None ≡ o → (live_task_at (live_of m) t).scope ≡ scope_of o
home_is m t o e = ap (λ y. (unwrap_or y no_live_task).scope) (task_is (beside m) m.tree t ∙ ap (option_map (task_seen (beside m) t)) e) ∙ by o
  where
    by : (x : Option TaskNode) → (unwrap_or (option_map (task_seen (beside m) t) x) no_live_task).scope ≡ scope_of x
    by None = refl
    by (Some x) = refl

-- the scope that is recorded for a task
pub stand_is : (m : Parts) (t : ℕ) (x : TaskNode) → get_or m.tree.tasks t None ≡ Some x → stand_in (unseen_of m) t ≡ x.stand
stand_is m t x e = ap (λ o. unwrap_or o Free) (map_at stand_of m.tree.tasks t ∙ ap (option_map stand_of) e)

-- a task that can step in the tree can in the view
pub steps_seen : (m : Parts) (t : ℕ) → can_step m.tree t ≡ can_go_on m t
steps_seen m t = by (get_or m.tree.tasks t None) refl
  where
    by : (o : Option TaskNode) → get_or m.tree.tasks t None ≡ o → can_step m.tree t ≡ can_go_on m t
    by None e =
        let dead : lives_in (live_of m) t ≡ false = lives_is m t ∙ ap lives_of e in
        ap (λ (o : Option TaskNode). elim o [ None ↦ false | Some x ↦ x.lives && can_go m.tree x.flag x.stand ]) e
        ∙ sym (ap (λ l. l && live_can_go (live_of m) t (stand_in (unseen_of m) t)) dead)
    by (Some x) e =
        sym (words.step_is (beside m) m.tree t x e)
        ∙ sym (ap (λ s. lives_in (live_of m) t && live_can_go (live_of m) t s) (stand_is m t x e))

-- ---- scopes

-- a scope in the view is in the tree
pub scope_stands : (m : Parts) (s : ℕ) → is_some (scope_in (live_of m) s) ≡ true → (c : ScopeNode Env) × (get_or m.tree.scopes s None ≡ Some c)
scope_stands m s stands = by (get_or m.tree.scopes s None) refl
  where
    by : (o : Option (ScopeNode Env)) → get_or m.tree.scopes s None ≡ o → (c : ScopeNode Env) × (get_or m.tree.scopes s None ≡ Some c)
    by None e =
        let no : is_some (scope_in (live_of m) s) ≡ false = ap (λ (y : Option LiveScope). is_some y) (scope_is (beside m) m.tree s ∙ ap (option_map (scope_seen (beside m))) e) in
        cc
    by (Some c) e = (c, e)

pub scope_is_some : (m : Parts) (s : ℕ) → is_some (scope_in (live_of m) s) ≡ true → get_or m.tree.scopes s None ≢ None
scope_is_some m s stands = let p = scope_stands m s stands in not_none (get_or m.tree.scopes s None) p.0 p.1

-- how many subtasks are in a state
pub tally_is : (m : Parts) (s : ℕ) (c : ScopeNode Env) (kind : Kind) → get_or m.tree.scopes s None ≡ Some c → count_of m.tree s c kind ≡ live_tally (live_of m) s kind
tally_is m s c S e = sym (ap (λ (x : LiveScope). x.told.successes) (scope_there (beside m) m.tree s c e))
tally_is m s c F e = sym (ap (λ (x : LiveScope). x.told.failures) (scope_there (beside m) m.tree s c e))
tally_is m s c U e =
    sym (ap (λ n. n - ((live_scope_at (live_of m) s).told.successes + (live_scope_at (live_of m) s).told.failures)) (words.count_is (beside m) m.tree s)
    ∙ ap (λ (x : LiveScope). length (births (is_of s) 0 m.tree.tasks) - (x.told.successes + x.told.failures)) (scope_there (beside m) m.tree s c e))

-- the scope that was looked up, if there is one
pub scope_found : (m : Parts) (s : ℕ) (o : Option (ScopeNode Env)) → o ≡ get_or m.tree.scopes s None → live_scope_at (live_of m) s ≡ unwrap_or (option_map (scope_seen (beside m)) o) no_live_scope
scope_found m s o e = ap (λ q. unwrap_or q no_live_scope) (scope_is (beside m) m.tree s ∙ ap (option_map (scope_seen (beside m))) (sym e))

pub total_is : (m : Parts) (s : ℕ) (c : ScopeNode Env) → get_or m.tree.scopes s None ≡ Some c → (live_scope_at (live_of m) s).told.total ≡ c.tally.told.total
total_is m s c e = ap (λ (x : LiveScope). x.told.total) (scope_there (beside m) m.tree s c e)

-- ---- the front of the ready list

-- a task can go on if and only if it is in the list of those that can step
pub going_is : (m now : Parts) (t : ℕ) → m ≡ now → has t m.tree.ready ≡ can_step m.tree t → can_go_on now t ≡ has t m.tree.ready
going_is m now t same list = sym (ap (λ (x : Parts). can_go_on x t) same) ∙ sym (steps_seen m t) ∙ sym list

pub front_has : (ks : List ℕ) (t : ℕ) → first_or ks None ≡ Some t → has t ks ≡ true
front_has [] t e = cc
front_has (k ∷ ks) t e = let same : t ≡ k = sym (same_Some k t e) in let is : nat_eq t k ≡ true = grind (arith, nat_tests) in rw is refl

pub none_has : (ks : List ℕ) (t : ℕ) → first_or ks None ≡ None → has t ks ≡ false
none_has [] t e = refl
none_has (k ∷ ks) t e = cc

-- ---- keys

-- a task in the tree is in the view, and has the same key
pub task_key : (m : Parts) (t : ℕ) → key_at m.tree.tasks m.tree.task_keys t ≡ key_at (live_of m).tasks m.tree.task_keys t
task_key m t = sym (ap (λ (o : Option LiveTask). cond (is_some o) (Some (get_or m.tree.task_keys t 0)) None) (task_is (beside m) m.tree t) ∙ by (get_or m.tree.tasks t None))
  where
    by : (o : Option TaskNode) → cond (is_some (option_map (task_seen (beside m) t) o)) (Some (get_or m.tree.task_keys t 0)) None ≡ cond (is_some o) (Some (get_or m.tree.task_keys t 0)) None
    by None = refl
    by (Some x) = refl

pub scope_key : (m : Parts) (s : ℕ) → key_at m.tree.scopes m.tree.scope_keys s ≡ key_at (live_of m).scopes m.tree.scope_keys s
scope_key m s = sym (key_seen (scope_seen (beside m)) m.tree.scopes m.tree.scope_keys s)
