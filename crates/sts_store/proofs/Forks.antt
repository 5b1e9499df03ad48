-- A subtask is forked: the view after it, and the facts that keep the parts in order.
use Rattle.std.proofs.Common.{◌≡◌, ◌≢◌, ℕ, ℤ, zero, suc, ◌+◌, ◌-◌, arith, List, [], ◌∷◌, ◌++◌, length, Bool, true, false, Option, Some, None, refl, sym, ◌∙◌, ap, get_or, set, cond, not, nat_eq, is_some, take, length-append}
use Rattle.std.proofs.lemmas.Bool.Decides.{nat_tests}
use Rattle.std.proofs.lemmas.List.{length-map, map-append}
use Rattle.std.specs.Prelude.{option_map, unwrap_or, reverse}
use Rattle.std.proofs.lemmas.Option.{same_Some}
use Rattle.sts_code.specs.Program.{Program, routine}
use Rattle.sts_env.specs.Environments.{Records, list_of}
use Rattle.sts_env.specs.declared.env.Env.{Env}
use Rattle.sts_tree.specs.Forest.{Forest, subtask}
use Rattle.sts_tree.specs.declared.record.TaskNode.{TaskNode}
use Rattle.sts_tree.specs.declared.record.ScopeNode.{ScopeNode}
use Rattle.sts_tree.proofs.HoldingLemmas.{map_at, inside_of}
use Rattle.sts_records.specs.Holes.{Holes}
use Rattle.sts_model.specs.Effect.{forked}
use Rattle.sts_model.specs.World.{entry_frame}
use Rattle.sts_model.specs.Live.{Live, LiveScope, Alive}
use Rattle.sts_model.specs.declared.event.Stand.TheVariants.{Free}
use Rattle.sts_model.specs.declared.record.Frame.{Frame}
use Rattle.sts_model.specs.declared.record.Slot.{Slot}
use Rattle.sts_model.specs.declared.record.Slot.TheVariants.{Lent}
use Rattle.sts_tree.specs.Steps.{seen}
use Rattle.sts_tree.specs.Reading.{lives_at}
use Rattle.laws_live.specs.Effect.{live_fork, live_child}
use Rattle.laws_live.specs.Reading.{live_scope_at, with_live_frame}
use Rattle.laws_live.specs.Order.{InOrder}
use Rattle.sts_store.specs.View.{view_of, scope_seen, alive_of}
use Rattle.sts_store.proofs.ViewingLemmas.{words, scope_there, same_view}
use Rattle.sts_store.specs.declared.running.Running.{Running}
use Rattle.sts_store.specs.Parts.{Parts, live_of, beside, frame_of, running_at, no_running, stand_of, Unseen, unseen_of}
use Rattle.sts_store.specs.Sharing.{Holder, Keeper, holder_of, keeper_of, home_of, holders, keepers}
use Rattle.sts_store.specs.Stored.{IsStore}
use Rattle.sts_store.proofs.Views.{Lived, Same, lives_of, same_frame, frame_seen, with_running, tasks_same, length_from}
use Rattle.sts_store.proofs.Keeping.{kept_frame, store_seen, rest_seen}
use Rattle.sts_store.proofs.Housed.{housed}
use Rattle.sts_store.proofs.Opening.{fork_shares}
use Rattle.sts_store.proofs.Shared.{instead}

-- ---- a list with one more

before : {X : Type 0} (xs : List X) (y d : X) (u : ℕ) → u ≢ length xs → get_or (xs ++ y ∷ []) u d ≡ get_or xs u d
before [] y d zero ne = absurd (ne refl)
before [] y d (suc u) ne = refl
before (x ∷ xs) y d zero ne = refl
before (x ∷ xs) y d (suc u) ne = before xs y d u (λ e. ne (ap suc e))

last : {X : Type 0} (xs : List X) (y d : X) → get_or (xs ++ y ∷ []) (length xs) d ≡ y
last [] y d = refl
last (x ∷ xs) y d = last xs y d

pub set_last : {X : Type 0} (xs : List X) (old new : X) → set (xs ++ old ∷ []) (length xs) new ≡ xs ++ new ∷ []
set_last [] old new = refl
set_last (x ∷ xs) old new = ap (λ l. x ∷ l) (set_last xs old new)

-- the tree with a subtask more
abbrev pub with_subtask : Forest Env → ℕ → Bool → List ℕ → ℕ → Forest Env
with_subtask f s lives keys room = record f { tasks = f.tasks ++ Some (subtask s lives) ∷ []; task_keys = keys; task_room = room }

-- a subtask at place 0, with these locals, this slot 0 and this environment
abbrev pub begun : ℕ → List ℤ → Slot → Env → Running
begun function locals slot env = record { frame = record (entry_frame function [] slot) { locals = locals }; env = env }

-- the record at the next birth
abbrev pub born_if : Bool → Running → Option Running
born_if lives child = cond lives (Some child) None

-- what it has, if it lives
abbrev pub alive_if : Bool → Alive → Option Alive
alive_if lives alive = cond lives (Some alive) None

-- what a subtask begins with
abbrev pub fresh_alive : Records → Running → Alive
fresh_alive c child = record { frame = child.frame; flag = false; environment = list_of c child.env }

module _ (m : Parts) (is : IsStore m) (s : ℕ) (c : ScopeNode Env) (at : get_or m.tree.scopes s None ≡ Some c) (child : Running) (lives : Bool) (keys : List ℕ) (room : ℕ) (h : Holes Running) (slots : h.slots ≡ m.frames.slots ++ born_if lives child ∷ []) where
  -- the parts with a subtask more
  abbrev pub more : Parts
  more = record m { tree = with_subtask m.tree s lives keys room; frames = h }

  -- the slots of the others are as they were
  others : (u : ℕ) → u ≢ length m.frames.slots → get_or h.slots u None ≡ get_or m.frames.slots u None
  others u ne = ap (λ l. get_or l u None) slots ∙ before m.frames.slots (born_if lives child) None u ne

  newest : get_or h.slots (length m.tree.tasks) None ≡ born_if lives child
  newest = ap (λ l. get_or l (length m.tree.tasks) None) slots ∙ ap (λ n. get_or (m.frames.slots ++ born_if lives child ∷ []) n None) (sym is.born) ∙ last m.frames.slots (born_if lives child) None

  -- what is seen of the old tasks is the same
  old_seen : view_of (beside more) m.tree ≡ live_of m
  old_seen = ap (λ l. record { tasks = l; scopes = (live_of m).scopes; root_end = m.root_end }) (tasks_same (beside m) (beside more) m.tree same)
    where
      same : (u : ℕ) (x : TaskNode) → get_or m.tree.tasks u None ≡ Some x → x.lives ≡ true → Same (beside m) (beside more) u
      same u x e l =
          let less = inside_of m.tree.tasks u (λ none. let never : Some x ≡ None = sym e ∙ none in cc) in
          let b = is.born in
          let kept = others u (λ q. absurd (omega (arith, less, b, q))) in
          record {
            frame = ap (λ o. (unwrap_or o no_running).frame) kept;
            bindings = ap (λ o. list_of m.chains (unwrap_or o no_running).env) kept;
          }

  alive_new : alive_of (beside more) (length m.tree.tasks) (subtask s lives) ≡ alive_if lives (fresh_alive m.chains child)
  alive_new = by lives refl
    where
      by : (b : Bool) → lives ≡ b → alive_if b (fresh_alive m.chains (running_at more (length m.tree.tasks))) ≡ alive_if b (fresh_alive m.chains child)
      by true e =
          let r : running_at more (length m.tree.tasks) ≡ child = ap (λ o. unwrap_or o no_running) (newest ∙ ap (λ b. born_if b child) e) in
          ap (λ (q : Running). Some (fresh_alive m.chains q)) r
      by false e = refl

  pub more_seen : live_of more ≡ record (live_of m) { tasks = (live_of m).tasks ++ Some (record { scope = Some s; state = None; alive = alive_if lives (fresh_alive m.chains child) }) ∷ [] }
  more_seen =
      words.fork_is (beside more) m.tree s lives keys room
      ∙ ap (λ a. record (view_of (beside more) m.tree) { tasks = (view_of (beside more) m.tree).tasks ++ Some (record { scope = Some s; state = None; alive = a }) ∷ [] }) alive_new
      ∙ ap (λ (v : Live). record v { tasks = v.tasks ++ Some (record { scope = Some s; state = None; alive = alive_if lives (fresh_alive m.chains child) }) ∷ [] }) old_seen

  -- ---- the order of the parts

  more_alive : (u : ℕ) → is_some (get_or h.slots u None) ≡ lives_at more.tree u
  more_alive u = by (nat_eq u (length m.tree.tasks)) refl
    where
      some_if : (b : Bool) → is_some (born_if b child) ≡ b
      some_if true = refl
      some_if false = refl

      by : (b : Bool) → nat_eq u (length m.tree.tasks) ≡ b → is_some (get_or h.slots u None) ≡ lives_at more.tree u
      by true q =
          let e : u ≡ length m.tree.tasks = grind (arith, nat_tests) in
          rw e (ap (λ (o : Option Running). is_some o) newest ∙ some_if lives ∙ sym (ap lives_of (last m.tree.tasks (Some (subtask s lives)) None)))
      by false q =
          let ne : u ≢ length m.tree.tasks = grind (arith, nat_tests) in
          ap (λ (o : Option Running). is_some o) (others u (λ e. ne (e ∙ is.born))) ∙ is.alive u ∙ sym (ap lives_of (before m.tree.tasks (Some (subtask s lives)) None u ne))

  pub more_kept : InOrder (live_of m) → child.env ≡ c.environment → child.frame.entries ≡ [] → IsStore more
  more_kept order env entries =
      record {
        born = ap (λ (l : List (Option Running)). length l) slots ∙ length-append m.frames.slots (born_if lives child ∷ []) ∙ ap (λ n. n + 1) is.born ∙ sym (length-append m.tree.tasks (Some (subtask s lives) ∷ []));
        alive = more_alive;
        shared = rw (slots, map-append (option_map holder_of) m.frames.slots (born_if lives child ∷ []), map-append (option_map home_of) m.tree.tasks (Some (subtask s lives) ∷ [])) (record {
          own = instead is.shared.own (length (holders m)) [];
          outside = is.shared.outside;
          shares = fork_shares is.shared.shares s (keeper_of c) (option_map holder_of (born_if lives child)) (map_at keeper_of m.tree.scopes s ∙ ap (option_map keeper_of) at)
              (length-map m.tree.tasks (option_map home_of) ∙ sym is.born ∙ sym (length-map m.frames.slots (option_map holder_of)))
              (fresh lives) owners;
        });
      }
    where
      fresh : (b : Bool) → (g : Holder) → option_map holder_of (born_if b child) ≡ Some g → (g.env ≡ (keeper_of c).kept) × (g.entries ≡ [])
      fresh true g e = let is_g : holder_of child ≡ g = cc in (ap (λ (z : Holder). z.env) (sym is_g) ∙ env, ap (λ (z : Holder). z.entries) (sym is_g) ∙ entries)
      fresh false g e = cc

      owners : (r : ℕ) (x : Keeper) → get_or (keepers m) r None ≡ Some x → x.owner ≢ length (holders m)
      owners r x e q =
          let some = (housed m is order).owners r x e in
          let less = inside_of (holders m) x.owner (λ none. let no : is_some (get_or (holders m) x.owner None) ≡ false = ap (λ (o : Option Holder). is_some o) none in let never : true ≡ false = sym some ∙ no in cc) in
          absurd (omega (arith, less, q))

-- ---- the forker goes on

-- the view with a subtask more, and another frame
abbrev forks : Live → ℕ → ℕ → Option Alive → Frame → Live
forks v t s alive f = with_live_frame (record v { tasks = v.tasks ++ Some (record { scope = Some s; state = None; alive = alive }) ∷ [] }) t f

-- what the subtask has in it
abbrev forked_alive : Program → LiveScope → Frame → ℕ → ℕ → Option Alive
forked_alive p scope f s g = cond scope.cancelled None (Some (live_child p scope f s g))

forks_is : (p : Program) (v : Live) (t : ℕ) (f : Frame) (s g : ℕ) (handle : Option ℕ) → live_fork p v t f s g handle ≡ forks v t s (forked_alive p (live_scope_at v s) f s g) (forked f (routine p g).args handle (length v.tasks))
unfolding live_fork
forks_is p v t f s g handle = refl

alive_same : (cancelled : Bool) (a b : Alive) → a ≡ b → alive_if (not cancelled) a ≡ cond cancelled None (Some b)
alive_same true a b e = refl
alive_same false a b e = ap (λ x. Some x) e

-- what the calls give: the scope, its forker, and the tree g and the frames h with the subtask
pub record Forking (m : Parts) (t s : ℕ) (child : Running) (g : Forest Env) (h : Holes Running) : Type 0 where
  pub is : IsStore m
  pub order : InOrder (live_of m)
  pub forker : Lived m t
  pub scope : ScopeNode Env
  pub at : get_or m.tree.scopes s None ≡ Some scope
  pub env : child.env ≡ scope.environment
  pub slots : h.slots ≡ m.frames.slots ++ born_if (not scope.cancelled) child ∷ []
  pub same : seen g ≡ seen (with_subtask m.tree s (not scope.cancelled) g.task_keys (m.tree.task_room - 1))

-- what the view doesn't show, after a fork
abbrev pub unseen_forked : Parts → ℕ → ℕ → Unseen
unseen_forked m s key = record (unseen_of m) { stands = (unseen_of m).stands ++ Some Free ∷ []; task_keys = m.tree.task_keys ++ key ∷ []; task_room = m.tree.task_room - 1; frame_room = cond (live_scope_at (live_of m) s).cancelled m.frames.room (m.frames.room - 1) }

module _ {m : Parts} {t s : ℕ} {child : Running} {g : Forest Env} {h : Holes Running} (k : Forking m t s child g h) where
  abbrev tree : Forest Env
  tree = with_subtask m.tree s (not k.scope.cancelled) g.task_keys (m.tree.task_room - 1)

  -- the parts before the forker goes on
  abbrev with_child : Parts
  with_child = more m k.is s k.scope k.at child (not k.scope.cancelled) g.task_keys (m.tree.task_room - 1) h k.slots

  pub still_there : get_or h.slots t None ≡ Some k.forker.run
  still_there =
      let less = inside_of m.frames.slots t (λ none. let runs = k.forker.runs in let never : Some k.forker.run ≡ None = sym runs ∙ none in cc) in
      others m k.is s k.scope k.at child (not k.scope.cancelled) g.task_keys (m.tree.task_room - 1) h k.slots t (λ q. absurd (omega (arith, less, q)))
      ∙ k.forker.runs

  -- the room for frames afterwards, by the view
  fork_room : h.room ≡ cond (not k.scope.cancelled) (m.frames.room - 1) m.frames.room → h.room ≡ cond (live_scope_at (live_of m) s).cancelled m.frames.room (m.frames.room - 1)
  fork_room is =
      is
      ∙ flip k.scope.cancelled (m.frames.room - 1) m.frames.room
      ∙ sym (ap (λ (x : LiveScope). cond x.cancelled m.frames.room (m.frames.room - 1)) (scope_there (beside m) m.tree s k.scope k.at))
    where
      flip : {X : Type 0} (b : Bool) (x y : X) → cond (not b) x y ≡ cond b y x
      flip true x y = refl
      flip false x y = refl

  -- its frame is written
  module _ (r : Running) (there : get_or h.slots t None ≡ Some r) where
    pub same_run : r ≡ k.forker.run
    same_run = same_Some r k.forker.run (sym there ∙ still_there)

    pub fork_kept : (f : Frame) → child.frame.entries ≡ [] → f.entries ≡ r.frame.entries → IsStore (with_running (record m { tree = g; frames = h }) t (record r { frame = f }) m.chains)
    fork_kept f entries kept =
        store_seen (with_running with_child t (record r { frame = f }) m.chains) g tree k.same
        (kept_frame with_child t r (record r { frame = f })
        (more_kept m k.is s k.scope k.at child (not k.scope.cancelled) g.task_keys (m.tree.task_room - 1) h k.slots k.order k.env entries)
        there (ap (λ es. record { env = r.env; entries = es }) kept))

    pub fork_unseen : (f : Frame) (key : ℕ) → g.task_keys ≡ m.tree.task_keys ++ key ∷ [] → h.room ≡ cond (not k.scope.cancelled) (m.frames.room - 1) m.frames.room → unseen_of (with_running (record m { tree = g; frames = h }) t (record r { frame = f }) m.chains) ≡ unseen_forked m s key
    fork_unseen f key keys room =
        rest_seen (with_running (record m { tree = g; frames = h }) t (record r { frame = f }) m.chains) g tree k.same
        ∙ ap (λ st. record (unseen_of m) { stands = st; task_keys = g.task_keys; task_room = m.tree.task_room - 1; frame_room = h.room }) (map-append (option_map stand_of) m.tree.tasks (Some (subtask s (not k.scope.cancelled)) ∷ []))
        ∙ ap (λ ks. record (unseen_of m) { stands = (unseen_of m).stands ++ Some Free ∷ []; task_keys = ks; task_room = m.tree.task_room - 1; frame_room = h.room }) keys
        ∙ ap (λ n. record (unseen_of m) { stands = (unseen_of m).stands ++ Some Free ∷ []; task_keys = m.tree.task_keys ++ key ∷ []; task_room = m.tree.task_room - 1; frame_room = n }) (fork_room room)

    pub fork_live : (p : Program) (function : ℕ) (handle : Option ℕ) (f : Frame) → child.frame ≡ entry_frame function (reverse (take (routine p function).args k.forker.run.frame.operands)) (Lent s) → f ≡ forked r.frame (routine p function).args handle (length m.tree.tasks) → live_of (with_running (record m { tree = g; frames = h }) t (record r { frame = f }) m.chains) ≡ live_fork p (live_of m) t (frame_of m t) s function handle
    fork_live p function handle f first is =
        frame_seen (record m { tree = g; frames = h }) t r (record r { frame = f }) (λ alive. record alive { frame = f }) there (λ flag. refl)
        ∙ ap (with_live_frame (live_of (record m { tree = g; frames = h })) t) (is ∙ ap (λ (q : Running). forked q.frame (routine p function).args handle (length m.tree.tasks)) same_run)
        ∙ ap (λ v. with_live_frame v t next) (same_view (beside with_child) g tree k.same ∙ more_seen m k.is s k.scope k.at child (not k.scope.cancelled) g.task_keys (m.tree.task_room - 1) h k.slots)
        ∙ ap (λ a. forks (live_of m) t s a next) (alive_same k.scope.cancelled (fresh_alive m.chains child) (live_child p (scope_seen (beside m) k.scope) k.forker.run.frame s function) begins)
        ∙ sym (forks_is p (live_of m) t (frame_of m t) s function handle
        ∙ ap (λ f. forks (live_of m) t s (forked_alive p (live_scope_at (live_of m) s) f s function) (forked f (routine p function).args handle (length (live_of m).tasks))) (same_frame m t k.forker.run k.forker k.forker.runs)
        ∙ ap (λ scope. forks (live_of m) t s (forked_alive p scope k.forker.run.frame s function) (forked k.forker.run.frame (routine p function).args handle (length (live_of m).tasks))) (scope_there (beside m) m.tree s k.scope k.at)
        ∙ ap (λ n. forks (live_of m) t s (forked_alive p (scope_seen (beside m) k.scope) k.forker.run.frame s function) (forked k.forker.run.frame (routine p function).args handle n)) (length_from (beside m) 0 m.tree.tasks))
      where
        next : Frame
        next = forked k.forker.run.frame (routine p function).args handle (length m.tree.tasks)

        begins : fresh_alive m.chains child ≡ live_child p (scope_seen (beside m) k.scope) k.forker.run.frame s function
        begins =
            ap (λ f. record { frame = f; flag = false; environment = list_of m.chains child.env }) first
            ∙ ap (λ e. record { frame = entry_frame function (reverse (take (routine p function).args k.forker.run.frame.operands)) (Lent s); flag = false; environment = list_of m.chains e }) k.env

pub tasks_born : (m : Parts) → length (live_of m).tasks ≡ length m.tree.tasks
tasks_born m = length_from (beside m) 0 m.tree.tasks
