-- The live view of the parts, and how it changes with the parts outside the tree.
use Rattle.std.proofs.Common.{◌≡◌, ◌≢◌, ℕ, zero, suc, ◌<◌, List, [], ◌∷◌, map, length, Bool, true, false, Option, Some, None, refl, sym, ◌∙◌, ap, get_or, set, cond, nat_eq, arith}
use Rattle.std.proofs.lemmas.Bool.Decides.{nat_tests}
use Rattle.std.proofs.lemmas.List.{ext_get_or, length-set, get_or-set_same, get_or-set_other}
use Rattle.std.specs.Prelude.{option_map, is_some, unwrap_or}
use Rattle.std.proofs.lemmas.Option.{same_Some}
use Rattle.sts_env.specs.Environments.{Records, list_of}
use Rattle.sts_env.specs.declared.env.Env.{Env}
use Rattle.sts_tree.specs.Forest.{Forest}
use Rattle.sts_tree.specs.declared.record.TaskNode.{TaskNode}
use Rattle.sts_tree.specs.declared.record.ScopeNode.{ScopeNode}
use Rattle.sts_tree.specs.Reading.{lives_at}
use Rattle.sts_model.specs.Live.{LiveTask, Alive}
use Rattle.sts_model.specs.declared.record.Frame.{Frame}
use Rattle.sts_model.specs.declared.record.Bound.{Bound}
use Rattle.laws_live.specs.Reading.{lives_in, alive_at, with_alive, live_task_at, task_in, no_live_task, no_alive}
use Rattle.sts_store.specs.View.{Beside, task_seen, scope_seen, tasks_from}
use Rattle.sts_store.proofs.ViewingLemmas.{task_is, lives_same}
use Rattle.sts_store.specs.declared.running.Running.{Running}
use Rattle.sts_store.specs.Parts.{Parts, live_of, beside, running_at, no_running}
use Rattle.sts_store.specs.Stored.{IsStore}

-- the change of what a task has, if it lives
abbrev pub changed : (Alive → Alive) → LiveTask → LiveTask
changed change task = record task { alive = option_map change task.alive }

abbrev task_with : TaskNode → Option Alive → LiveTask
task_with x alive = record { scope = x.scope; state = x.state; alive = alive }

abbrev alive_with : Frame → Bool → List Bound → Alive
alive_with frame flag environment = record { frame = frame; flag = flag; environment = environment }

-- ---- two things kept beside one tree

-- what is kept for the task of this birth is the same
pub record Same {E : Type 0} (b d : Beside E) (u : ℕ) : Type 0 where
  pub frame : d.frame u ≡ b.frame u
  pub bindings : d.bindings u ≡ b.bindings u

-- what a task of this birth has if it lives
abbrev pub kept_alive : {E : Type 0} → Beside E → ℕ → Bool → Alive
kept_alive b t flag = record { frame = b.frame t; flag = flag; environment = b.bindings t }

pub length_from : {E : Type 0} (b : Beside E) (n : ℕ) (xs : List (Option TaskNode)) → length (tasks_from b n xs) ≡ length xs
length_from b n [] = refl
length_from b n (x ∷ xs) = ap suc (length_from b (suc n) xs)

module _ {E : Type 0} (b d : Beside E) where
  seen_same : (u : ℕ) (x : TaskNode) → (x.lives ≡ true → Same b d u) → task_seen d u x ≡ task_seen b u x
  seen_same u x same = by x.lives refl
    where
      by : (l : Bool) → x.lives ≡ l → task_seen d u x ≡ task_seen b u x
      by true e =
          let s = same e in
          ap (λ f. task_with x (cond x.lives (Some (alive_with f x.flag (d.bindings u))) None)) s.frame
          ∙ ap (λ l. task_with x (cond x.lives (Some (alive_with (b.frame u) x.flag l)) None)) s.bindings
      by false e =
          ap (λ l. task_with x (cond l (Some (kept_alive d u x.flag)) None)) e
          ∙ sym (ap (λ l. task_with x (cond l (Some (kept_alive b u x.flag)) None)) e)

  seen_changed : (t : ℕ) (x : TaskNode) (change : Alive → Alive) → ((flag : Bool) → kept_alive d t flag ≡ change (kept_alive b t flag)) → task_seen d t x ≡ changed change (task_seen b t x)
  seen_changed t x change same = by x.lives
    where
      by : (l : Bool) → task_with x (cond l (Some (kept_alive d t x.flag)) None) ≡ changed change (task_with x (cond l (Some (kept_alive b t x.flag)) None))
      by true = ap (λ a. task_with x (Some a)) (same x.flag)
      by false = refl

  -- the tasks look the same if no living task differs
  pub tasks_same : (f : Forest E) → ((u : ℕ) (x : TaskNode) → get_or f.tasks u None ≡ Some x → x.lives ≡ true → Same b d u) → tasks_from d 0 f.tasks ≡ tasks_from b 0 f.tasks
  tasks_same f same = ext_get_or None _ _ (length_from d 0 f.tasks ∙ sym (length_from b 0 f.tasks)) (λ u less. task_is d f u ∙ by u (get_or f.tasks u None) refl ∙ sym (task_is b f u))
    where
      by : (u : ℕ) (o : Option TaskNode) → get_or f.tasks u None ≡ o → option_map (task_seen d u) o ≡ option_map (task_seen b u) o
      by u None e = refl
      by u (Some x) e = ap (λ z. Some z) (seen_same u x (same u x e))

  -- one task differs if it lives
  pub tasks_changed : (f : Forest E) (t : ℕ) (change : Alive → Alive) → ((flag : Bool) → kept_alive d t flag ≡ change (kept_alive b t flag)) → ((u : ℕ) → u ≢ t → Same b d u) → tasks_from d 0 f.tasks ≡ set (tasks_from b 0 f.tasks) t (option_map (changed change) (get_or (tasks_from b 0 f.tasks) t None))
  tasks_changed f t change here there = ext_get_or None (tasks_from d 0 f.tasks) (set old t new) (length_from d 0 f.tasks ∙ sym (length-set old t new ∙ length_from b 0 f.tasks)) (λ u less. task_is d f u ∙ by u less (nat_eq u t) refl)
    where
      old : List (Option LiveTask)
      old = tasks_from b 0 f.tasks

      new : Option LiveTask
      new = option_map (changed change) (get_or old t None)

      at_t : (o : Option TaskNode) → option_map (task_seen d t) o ≡ option_map (changed change) (option_map (task_seen b t) o)
      at_t None = refl
      at_t (Some x) = ap (λ z. Some z) (seen_changed t x change here)

      other : (u : ℕ) → u ≢ t → (o : Option TaskNode) → option_map (task_seen d u) o ≡ option_map (task_seen b u) o
      other u ne None = refl
      other u ne (Some x) = ap (λ z. Some z) (seen_same u x (λ e. there u ne))

      by : (u : ℕ) → u < length (tasks_from d 0 f.tasks) → (q : Bool) → nat_eq u t ≡ q → option_map (task_seen d u) (get_or f.tasks u None) ≡ get_or (set old t new) u None
      by u less true q =
          let same : u ≡ t = grind (arith, nat_tests) in
          let far : length (tasks_from d 0 f.tasks) ≡ length old = length_from d 0 f.tasks ∙ sym (length_from b 0 f.tasks) in
          let inside : t < length old = omega (arith, less, far, same) in
          ap (λ i. option_map (task_seen d i) (get_or f.tasks i None)) same ∙ at_t (get_or f.tasks t None) ∙ ap (option_map (changed change)) (sym (task_is b f t)) ∙ sym (get_or-set_same old t new None inside) ∙ ap (λ i. get_or (set old t new) i None) (sym same)
      by u less false q =
          let ne : u ≢ t = grind (arith, nat_tests) in
          other u ne (get_or f.tasks u None) ∙ sym (task_is b f u) ∙ sym (get_or-set_other old t u new None ne)

  -- the scopes look the same if none keeps another environment
  pub scopes_same : (cs : List (Option (ScopeNode E))) → ((s : ℕ) (c : ScopeNode E) → get_or cs s None ≡ Some c → d.kept c.environment ≡ b.kept c.environment) → map (option_map (scope_seen d)) cs ≡ map (option_map (scope_seen b)) cs
  scopes_same [] same = refl
  scopes_same (None ∷ cs) same = ap (λ l. None ∷ l) (scopes_same cs (λ s. same (suc s)))
  scopes_same (Some c ∷ cs) same =
      ap (λ e. Some (record { owner = c.owner; joiner = c.tally.joiner; timed = c.timed; phase = c.phase; cancelled = c.cancelled; expired = c.expired; environment = e; told = c.tally.told }) ∷ map (option_map (scope_seen d)) cs) (same zero c refl)
      ∙ ap (λ l. Some (scope_seen b c) ∷ l) (scopes_same cs (λ s. same (suc s)))

-- ---- a living task

-- what it has
abbrev pub alive_of : Records → Bool → Running → Alive
alive_of c flag r = record { frame = r.frame; flag = flag; environment = list_of c r.env }

-- its records, and what is seen of it
pub record Lived (m : Parts) (t : ℕ) : Type 0 where
  pub run : Running
  pub task : TaskNode
  pub runs : get_or m.frames.slots t None ≡ Some run
  pub stands : get_or m.tree.tasks t None ≡ Some task
  pub lives : task.lives ≡ true
  pub seen : task_in (live_of m) t ≡ Some (record { scope = task.scope; state = task.state; alive = Some (alive_of m.chains task.flag run) })
  pub at : alive_at (live_of m) t ≡ alive_of m.chains task.flag run
  pub scope : (live_task_at (live_of m) t).scope ≡ task.scope

pub running_is : (m : Parts) (t : ℕ) (r : Running) → get_or m.frames.slots t None ≡ Some r → running_at m t ≡ r
running_is m t r e = ap (λ o. unwrap_or o no_running) e

-- what is seen of a task that lives
task_seen_is : (m : Parts) (t : ℕ) (x : TaskNode) (r : Running) → get_or m.tree.tasks t None ≡ Some x → x.lives ≡ true → get_or m.frames.slots t None ≡ Some r → task_in (live_of m) t ≡ Some (task_with x (Some (alive_of m.chains x.flag r)))
task_seen_is m t x r stands lives runs =
    task_is (beside m) m.tree t ∙ ap (option_map (task_seen (beside m) t)) stands
    ∙ ap (λ l. Some (task_with x (cond l (Some (alive_of m.chains x.flag (running_at m t))) None))) lives
    ∙ ap (λ q. Some (task_with x (Some (alive_of m.chains x.flag q)))) (running_is m t r runs)

-- does a task live?
abbrev pub lives_of : Option TaskNode → Bool
lives_of o = elim o [ None ↦ false | Some x ↦ x.lives ]

-- a task lives in the view if and only if it lives in the tree
pub lives_is : (m : Parts) (t : ℕ) → lives_in (live_of m) t ≡ lives_at m.tree t
lives_is m t = lives_same (beside m) m.tree t

pub lived : (m : Parts) → IsStore m → (t : ℕ) → lives_in (live_of m) t ≡ true → Lived m t
lived m is t lives = by (get_or m.tree.tasks t None) refl (get_or m.frames.slots t None) refl
  where
    tree : lives_at m.tree t ≡ true
    tree = sym (lives_is m t) ∙ lives

    by : (x : Option TaskNode) → get_or m.tree.tasks t None ≡ x → (o : Option Running) → get_or m.frames.slots t None ≡ o → Lived m t
    by None e o f = let no : lives_at m.tree t ≡ false = ap lives_of e in let yes : lives_at m.tree t ≡ true = tree in cc
    by (Some x) e None f =
        let no : is_some (get_or m.frames.slots t None) ≡ false = ap (λ (y : Option Running). is_some y) f in
        let yes : is_some (get_or m.frames.slots t None) ≡ true = is.alive t ∙ tree in
        cc
    by (Some x) e (Some r) f =
        let alive : x.lives ≡ true = ap lives_of (sym e) ∙ tree in
        let seen = task_seen_is m t x r e alive f in
        record {
          run = r;
          task = x;
          runs = f;
          stands = e;
          lives = alive;
          seen = seen;
          at = ap (λ o. unwrap_or (unwrap_or o no_live_task).alive no_alive) seen;
          scope = ap (λ o. (unwrap_or o no_live_task).scope) seen;
        }

-- the frame in the record is the frame in the view
pub same_frame : (m : Parts) (t : ℕ) (r : Running) → Lived m t → get_or m.frames.slots t None ≡ Some r → (alive_at (live_of m) t).frame ≡ r.frame
same_frame m t r l e = ap (λ (a : Alive). a.frame) l.at ∙ ap (λ (q : Running). q.frame) (same_Some l.run r (sym l.runs ∙ e))

-- ---- what a living task has is written, and its bindings may change

-- the parts with another frame, environment and bindings at t
abbrev pub with_running : Parts → ℕ → Running → Records → Parts
with_running m t q c = record m { frames = record m.frames { slots = set m.frames.slots t (Some q) }; chains = c }

-- bindings elsewhere stay as they are
pub record Elsewhere (m : Parts) (t : ℕ) (c : Records) : Type 0 where
  pub tasks : (u : ℕ) (l : Running) → u ≢ t → get_or m.frames.slots u None ≡ Some l → list_of c l.env ≡ list_of m.chains l.env
  pub scopes : (s : ℕ) (k : ScopeNode Env) → get_or m.tree.scopes s None ≡ Some k → list_of c k.environment ≡ list_of m.chains k.environment

pub nowhere : (m : Parts) (t : ℕ) → Elsewhere m t m.chains
nowhere m t = record { tasks = λ u l ne e. refl; scopes = λ s k e. refl }

pub running_seen : (m : Parts) (t : ℕ) (r q : Running) (c : Records) (change : Alive → Alive) → get_or m.frames.slots t None ≡ Some r → ((flag : Bool) → alive_of c flag q ≡ change (alive_of m.chains flag r)) → Elsewhere m t c → live_of (with_running m t q c) ≡ with_alive (live_of m) t change
running_seen m t r q c change at same others =
    ap (λ l. record { tasks = l; scopes = map (option_map (scope_seen d)) m.tree.scopes; root_end = m.root_end }) (tasks_changed b d m.tree t change here there)
    ∙ ap (λ l. record { tasks = (with_alive (live_of m) t change).tasks; scopes = l; root_end = m.root_end }) (scopes_same b d m.tree.scopes others.scopes)
  where
    b : Beside Env
    b = beside m

    d : Beside Env
    d = beside (with_running m t q c)

    slots : List (Option Running)
    slots = set m.frames.slots t (Some q)

    written : (xs : List (Option Running)) (k : ℕ) → get_or xs k None ≡ Some r → get_or (set xs k (Some q)) k None ≡ Some q
    written [] k e = cc
    written (o ∷ xs) zero e = refl
    written (o ∷ xs) (suc k) e = written xs k e

    now : running_at (with_running m t q c) t ≡ q
    now = ap (λ o. unwrap_or o no_running) (written m.frames.slots t at)

    here : (flag : Bool) → kept_alive d t flag ≡ change (kept_alive b t flag)
    here flag = ap (alive_of c flag) now ∙ same flag ∙ ap (λ z. change (alive_of m.chains flag z)) (sym (running_is m t r at))

    stays : (u : ℕ) → u ≢ t → (o : Option Running) → get_or m.frames.slots u None ≡ o → list_of c (unwrap_or o no_running).env ≡ list_of m.chains (unwrap_or o no_running).env
    stays u ne None e = refl
    stays u ne (Some l) e = others.tasks u l ne e

    there : (u : ℕ) → u ≢ t → Same b d u
    there u ne =
        let kept : get_or slots u None ≡ get_or m.frames.slots u None = get_or-set_other m.frames.slots t u (Some q) None ne in
        record {
          frame = ap (λ o. (unwrap_or o no_running).frame) kept;
          bindings = ap (λ o. list_of c (unwrap_or o no_running).env) kept ∙ stays u ne (get_or m.frames.slots u None) refl;
        }

-- the frame of a living task is written
pub frame_seen : (m : Parts) (t : ℕ) (r q : Running) (change : Alive → Alive) → get_or m.frames.slots t None ≡ Some r → ((flag : Bool) → alive_of m.chains flag q ≡ change (alive_of m.chains flag r)) → live_of (with_running m t q m.chains) ≡ with_alive (live_of m) t change
frame_seen m t r q change at same = running_seen m t r q m.chains change at same (nowhere m t)
