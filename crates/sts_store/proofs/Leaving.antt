-- A task ends: the facts that keep the parts in order, and the view after it.
use Rattle.std.proofs.Common.{◌≡◌, ◌≢◌, ℕ, zero, suc, ◌+◌, arith, List, [], ◌∷◌, map, length, Bool, true, false, Option, Some, None, refl, sym, ◌∙◌, ap, subst, get_or, set, cond, nat_eq, is_some, get_or-set_same, get_or-set_other}
use Rattle.std.proofs.lemmas.Bool.Decides.{nat_tests}
use Rattle.std.proofs.lemmas.List.{length-set, length-map, map-set}
use Rattle.std.specs.Prelude.{option_map, unwrap_or}
use Rattle.sts_env.specs.Environments.{list_of}
use Rattle.sts_env.specs.declared.env.Env.{Env}
use Rattle.sts_tree.specs.Forest.{Forest}
use Rattle.sts_tree.specs.declared.record.TaskNode.{TaskNode}
use Rattle.sts_tree.specs.declared.record.ScopeNode.{ScopeNode}
use Rattle.sts_tree.proofs.HoldingLemmas.{unseen, map_at, inside_of}
use Rattle.sts_records.specs.Holes.{Holes}
use Rattle.sts_model.specs.declared.event.End.{End}
use Rattle.sts_tree.specs.Ending.{gone, told, told_in, ended_in, ended, asks_ended}
use Rattle.sts_tree.specs.Steps.{with_task, with_scope, seen}
use Rattle.sts_tree.specs.Reading.{lives_at}
use Rattle.sts_cancel.specs.Cancelling.{raise, raise_all, cancel}
use Rattle.laws_live.specs.Effect.{live_end, live_ended, live_tell}
use Rattle.sts_store.specs.View.{Beside, view_of}
use Rattle.sts_store.specs.Agreeing.{at_end}
use Rattle.sts_store.proofs.ViewingLemmas.{same_view}
use Rattle.sts_store.specs.declared.running.Running.{Running}
use Rattle.sts_store.specs.Ending.{finished}
use Rattle.sts_store.specs.Parts.{Parts, live_of, beside, stand_of, unseen_of, no_running}
use Rattle.sts_store.specs.Sharing.{keeper_of, home_of, holder_of}
use Rattle.sts_store.specs.Stored.{IsStore}
use Rattle.sts_store.proofs.Views.{Lived, Same, lives_of, tasks_same}
use Rattle.sts_store.proofs.Keeping.{order_seen, rest_seen}
use Rattle.sts_store.proofs.Scoping.{raised_read, raised_lives}
use Rattle.sts_store.proofs.Finishing.{asking, not_asking, root_asks_not, told_scope, finished_seen}
use Rattle.sts_store.proofs.Shared.{end_shares}

-- what the store's order reads of the tasks after t ended
pub record EndsTasks (xs ys : List (Option TaskNode)) (t : ℕ) : Type 0 where
  pub born : length ys ≡ length xs
  pub dead : lives_of (get_or ys t None) ≡ false
  pub others : (u : ℕ) → u ≢ t → lives_of (get_or ys u None) ≡ lives_of (get_or xs u None)
  pub homes : map (option_map home_of) ys ≡ map (option_map home_of) xs
  pub stands : map (option_map stand_of) ys ≡ map (option_map stand_of) xs

-- the keys of tasks and scopes, and the room for them
abbrev keys_and_room : Forest Env → List ℕ × (List ℕ × (ℕ × ℕ))
keys_and_room f = (f.task_keys, (f.scope_keys, (f.task_room, f.scope_room)))

-- the second tree is the first one after t ended, as far as the store's order depends on it
pub record Ends (f g : Forest Env) (t : ℕ) : Type 0 where
  pub tasks : EndsTasks f.tasks g.tasks t
  pub keepers : map (option_map keeper_of) g.scopes ≡ map (option_map keeper_of) f.scopes
  pub rest : keys_and_room g ≡ keys_and_room f

-- its record is written, as that of one which lives no longer
ends_task : (f : Forest Env) (t : ℕ) (x y : TaskNode) → get_or f.tasks t None ≡ Some x → y.lives ≡ false → y.scope ≡ x.scope → y.stand ≡ x.stand → Ends f (with_task f t y) t
ends_task f t x y at dead home stand =
    record {
      tasks = record {
        born = length-set f.tasks t (Some y);
        dead = ap lives_of (get_or-set_same f.tasks t (Some y) None (inside_of f.tasks t (λ none. let never : Some x ≡ None = sym at ∙ none in cc))) ∙ dead;
        others = λ u ne. ap lives_of (get_or-set_other f.tasks t u (Some y) None ne);
        homes = unseen home_of f.tasks t x y at home;
        stands = unseen stand_of f.tasks t x y at stand;
      };
      keepers = refl;
      rest = refl;
    }

-- and then a scope's record, with the same owner and environment
ends_scope : (f g : Forest Env) (t s : ℕ) (c d : ScopeNode Env) → Ends f g t → get_or g.scopes s None ≡ Some c → keeper_of d ≡ keeper_of c → Ends f (with_scope g s d) t
ends_scope f g t s c d e at same =
    record { tasks = e.tasks; keepers = unseen keeper_of g.scopes s c d at same ∙ e.keepers; rest = e.rest }

raised_at : (s u : ℕ) (xs : List (Option TaskNode)) → lives_of (get_or (map (option_map (raise s)) xs) u None) ≡ lives_of (get_or xs u None)
raised_at s u xs = ap lives_of (map_at (raise s) xs u) ∙ raised_lives s (get_or xs u None)

ends_raised : (f g : Forest Env) (t s : ℕ) → Ends f g t → Ends f (raise_all g s) t
ends_raised f g t s e =
    record {
      tasks = record {
        born = length-map g.tasks (option_map (raise s)) ∙ e.tasks.born;
        dead = raised_at s t g.tasks ∙ e.tasks.dead;
        others = λ u ne. raised_at s u g.tasks ∙ e.tasks.others u ne;
        homes = raised_read home_of (λ x. refl) s g.tasks ∙ e.tasks.homes;
        stands = raised_read stand_of (λ x. refl) s g.tasks ∙ e.tasks.stands;
      };
      keepers = e.keepers;
      rest = e.rest;
    }

ends_cancel : (f g : Forest Env) (t s : ℕ) (c : ScopeNode Env) → Ends f g t → get_or g.scopes s None ≡ Some c → Ends f (cancel g s c) t
ends_cancel f g t s c e at = by c.cancelled
  where
    by : (b : Bool) → Ends f (cond b g (raise_all (with_scope g s (record c { cancelled = true })) s)) t
    by true = e
    by false = ends_raised f (with_scope g s (record c { cancelled = true })) t s (ends_scope f g t s c (record c { cancelled = true }) e at refl)

-- what no mark changes
ends_seen : (m : Parts) (g h : Forest Env) (t : ℕ) → seen h ≡ seen g → Ends m.tree g t → Ends m.tree h t
ends_seen m g h t same e =
    let o = order_seen h g same in
    let r = rest_seen m h g same in
    record {
      tasks = record {
        born = o.born ∙ e.tasks.born;
        dead = o.alive t ∙ e.tasks.dead;
        others = λ u ne. o.alive u ∙ e.tasks.others u ne;
        homes = o.homes ∙ e.tasks.homes;
        stands = ap (λ z. z.stands) r ∙ e.tasks.stands;
      };
      keepers = ap (map (option_map keeper_of)) o.scopes ∙ e.keepers;
      rest = ap keys_and_room same ∙ e.rest;
    }

-- ---- the word itself

ends_told : (f : Forest Env) (t : ℕ) (x : TaskNode) (end : End) → get_or f.tasks t None ≡ Some x → Ends f (ended f t x end) t
ends_told f t x end at = by x.scope
  where
    by3 : (s : ℕ) (c : ScopeNode Env) → get_or f.scopes s None ≡ Some c → (b : Bool) → Ends f (cond b (gone f t x) (told f t x end s c)) t
    by3 s c there true = ends_task f t x (record x { lives = false }) at refl refl refl
    by3 s c there false = ends_scope f (with_task f t (record x { lives = false; state = Some end })) t s c (told_scope c end) (ends_task f t x (record x { lives = false; state = Some end }) at refl refl refl) there refl

    by2 : (s : ℕ) (o : Option (ScopeNode Env)) → get_or f.scopes s None ≡ o → Ends f (told_in f t x end s o) t
    by2 s None there = ends_task f t x (record x { lives = false }) at refl refl refl
    by2 s (Some c) there = by3 s c there c.cancelled

    by : (o : Option ℕ) → Ends f (ended_in f t x end o) t
    by None = ends_task f t x (record x { lives = false }) at refl refl refl
    by (Some s) = by2 s (get_or f.scopes s None) refl

pub ends_finished : (f : Forest Env) (t : ℕ) (x : TaskNode) (end : End) → get_or f.tasks t None ≡ Some x → Ends f (finished f t x end) t
ends_finished f t x end at = by x.scope refl (asks_ended f x end) refl
  where
    by : (o : Option ℕ) → x.scope ≡ o → (b : Bool) → asks_ended f x end ≡ b → Ends f (finished f t x end) t
    by o scope false asks = subst (λ (g : Forest Env). Ends f g t) (sym (not_asking f t x end asks)) (ends_told f t x end at)
    by None scope true asks = let never : true ≡ false = sym asks ∙ root_asks_not f t x end scope in cc
    by (Some s) scope true asks =
        let k = asking f t x end s scope asks in
        subst (λ (g : Forest Env). Ends f g t) (sym k.word) (ends_cancel f (ended f t x end) t s (told_scope k.scope end) (ends_told f t x end at) k.now)

-- ---- the parts

-- the parts without the frame of t
abbrev pub with_ended : Parts → ℕ → Forest Env → ℕ → Option End → Parts
with_ended m t g room root_end = record m { tree = g; frames = record m.frames { slots = set m.frames.slots t None; room = room }; root_end = root_end }

pub end_kept : (m : Parts) (t : ℕ) (g : Forest Env) (room : ℕ) (root_end : Option End) → IsStore m → Ends m.tree g t → IsStore (with_ended m t g room root_end)
end_kept m t g room root_end is e =
    record {
      born = length-set m.frames.slots t None ∙ is.born ∙ sym e.tasks.born;
      alive = λ u. by u (nat_eq u t) refl;
      shared = rw (map-set (option_map holder_of) m.frames.slots t None, e.tasks.homes, e.keepers) (record { own = is.shared.own; outside = is.shared.outside; shares = end_shares is.shared.shares t });
    }
  where
    none_at : (xs : List (Option Running)) (k : ℕ) → is_some (get_or (set xs k None) k None) ≡ false
    none_at [] k = refl
    none_at (x ∷ xs) zero = refl
    none_at (x ∷ xs) (suc k) = none_at xs k

    by : (u : ℕ) (b : Bool) → nat_eq u t ≡ b → is_some (get_or (set m.frames.slots t None) u None) ≡ lives_at g u
    by u true q = let same : u ≡ t = grind (arith, nat_tests) in rw same (none_at m.frames.slots t ∙ sym e.tasks.dead)
    by u false q = let ne : u ≢ t = grind (arith, nat_tests) in ap (λ (o : Option Running). is_some o) (get_or-set_other m.frames.slots t u None None ne) ∙ is.alive u ∙ sym (e.tasks.others u ne)

pub end_unseen : (m : Parts) (t : ℕ) (g : Forest Env) (room : ℕ) (root_end : Option End) → Ends m.tree g t → unseen_of (with_ended m t g room root_end) ≡ record (unseen_of m) { frame_room = room }
end_unseen m t g room root_end e =
    ap (λ l. record (unseen_of m) { stands = l; task_keys = g.task_keys; scope_keys = g.scope_keys; task_room = g.task_room; frame_room = room; scope_room = g.scope_room }) e.tasks.stands
    ∙ ap (λ (r : List ℕ × (List ℕ × (ℕ × ℕ))). record (unseen_of m) { task_keys = r.0; scope_keys = r.1.0; task_room = r.1.1.0; frame_room = room; scope_room = r.1.1.1 }) e.rest

-- the view doesn't show the frame of a task that doesn't live
unframed : (m : Parts) (t : ℕ) (g : Forest Env) (room : ℕ) (end : End) → Ends m.tree g t → live_of (with_ended m t g room (at_end (beside m) t end).root_end) ≡ view_of (at_end (beside m) t end) g
unframed m t g room end e = ap (λ l. record { tasks = l; scopes = (view_of b g).scopes; root_end = b.root_end }) (tasks_same b d g same)
  where
    b : Beside Env
    b = at_end (beside m) t end

    d : Beside Env
    d = beside (with_ended m t g room b.root_end)

    same : (u : ℕ) (x : TaskNode) → get_or g.tasks u None ≡ Some x → x.lives ≡ true → Same b d u
    same u x at lives =
        let ne : u ≢ t = λ q. let yes : lives_at g t ≡ true = ap (lives_at g) (sym q) ∙ ap lives_of at ∙ lives in let never : true ≡ false = sym yes ∙ e.tasks.dead in cc in
        let kept = get_or-set_other m.frames.slots t u None None ne in
        record {
          frame = ap (λ o. (unwrap_or o no_running).frame) kept;
          bindings = ap (λ o. list_of m.chains (unwrap_or o no_running).env) kept;
        }

pub end_live : (m : Parts) (t : ℕ) (g : Forest Env) (room : ℕ) (end : End) (l : Lived m t) → seen g ≡ seen (finished m.tree t l.task end) → ((s : ℕ) → l.task.scope ≡ Some s → get_or m.tree.scopes s None ≢ None) → live_of (with_ended m t g room (at_end (beside m) t end).root_end) ≡ live_end (live_of m) t end
unfolding live_end
end_live m t g room end l same home =
    unframed m t g room end (ends_seen m (finished m.tree t l.task end) g t same (ends_finished m.tree t l.task end l.stands))
    ∙ same_view (at_end (beside m) t end) g (finished m.tree t l.task end) same
    ∙ finished_seen m.tree t l.task end (beside m) l.stands home
    ∙ ap (λ o. live_tell (live_ended (live_of m) t end) t o end) (sym l.scope)

pub end_ends : (m : Parts) (t : ℕ) (g : Forest Env) (end : End) (l : Lived m t) → seen g ≡ seen (finished m.tree t l.task end) → Ends m.tree g t
end_ends m t g end l same = ends_seen m (finished m.tree t l.task end) g t same (ends_finished m.tree t l.task end l.stands)

-- ---- what the calls leave

taken_out : (h : Holes Running) (slots : List (Option Running)) (keys : List ℕ) (room : ℕ) → h.slots ≡ slots → h.keys ≡ keys → h.room ≡ room → h ≡ record { slots = slots; keys = keys; room = room }
taken_out h slots keys room a b c =
    ap (λ (s : List (Option Running)). record { slots = s; keys = h.keys; room = h.room }) a
    ∙ ap (λ (k : List ℕ). record { slots = slots; keys = k; room = h.room }) b
    ∙ ap (λ (r : ℕ). record { slots = slots; keys = keys; room = r }) c

-- the parts as the calls leave them
pub as_ended : (m : Parts) (t : ℕ) (g : Forest Env) (h : Holes Running) (root_end : Option End) (end : End) → h.slots ≡ set m.frames.slots t None → h.keys ≡ m.frames.keys → h.room ≡ m.frames.room + 1 → root_end ≡ (at_end (beside m) t end).root_end → record m { tree = g; frames = h; root_end = root_end } ≡ with_ended m t g (m.frames.room + 1) (at_end (beside m) t end).root_end
as_ended m t g h root_end end a b c d =
    ap (λ (k : Holes Running). record m { tree = g; frames = k; root_end = root_end }) (taken_out h (set m.frames.slots t None) m.frames.keys (m.frames.room + 1) a b c)
    ∙ ap (λ (o : Option End). with_ended m t g (m.frames.room + 1) o) d
