-- The changes that instructions make to the parts that the view doesn't show.
use Rattle.std.proofs.Common.{◌≡◌, ℕ, ◌+◌, ◌-◌, ◌<◌, ◌≤◌, List, [], ◌∷◌, ◌++◌, length, drop, Bool, true, false, Option, Some, None, refl, sym, ◌∙◌, ap, subst, get_or, set, cond, is_some, arith, nat_lt, get_or-set_same, get_or-set_other}
use Rattle.std.proofs.lemmas.Bool.Decides.{nat_tests}
use Rattle.std.proofs.lemmas.List.{get_or_append_left}
use Rattle.std.proofs.lemmas.List.Sums.{sum_by-cons, sum_by-set, sum_by_push}
use Rattle.std.specs.Prelude.{option_map, unwrap_or, count_by, sum_by, ◌==◌}
use Rattle.sts_code.specs.Program.{Program, routine}
use Rattle.sts_code.specs.declared.instr.Joiner.{Joiner}
use Rattle.sts_model.specs.declared.event.End.{End}
use Rattle.sts_model.specs.declared.event.Stand.{Stand}
use Rattle.sts_model.specs.declared.event.Stand.TheVariants.{Free}
use Rattle.sts_model.specs.declared.record.Entry.{Entry}
use Rattle.sts_model.specs.declared.record.Entry.TheVariants as entry
use Rattle.sts_model.specs.declared.record.Frame.{Frame}
use Rattle.sts_model.specs.Local.{operand}
use Rattle.sts_model.specs.Misuse.{is_binding, innermost}
use Rattle.sts_model.specs.Effect.{forked}
use Rattle.sts_model.specs.Live.{Live, LiveTask, LiveScope, Alive}
use Rattle.laws_runs.proofs.ListLemmas.{at_more, past, within}
use Rattle.laws_live.specs.Reading.{task_in, no_live_task, no_alive, live_task_at, live_scope_at, alive_at, lives_in, with_alive, with_live_frame}
use Rattle.laws_live.specs.Effect.{opened_scope, live_open, live_child, live_fork, live_bind, live_unbind, live_ended, live_end}
use Rattle.laws_accepted.specs.Views.{bindings_in, open_bindings, live_tasks, live_scopes, live_bindings}
use Rattle.sts_store.specs.Parts.{Unseen, stand_in, stood_unseen}
use Rattle.sts_machine.specs.Changing.{Changes}
use Rattle.sts_machine.specs.Room.{is_living, living_tasks}
use Rattle.sts_machine.proofs.Lists.{apart, same_sums}
use Rattle.sts_machine.proofs.LivesLemmas.{lives_changed, lives_written}
use Rattle.sts_machine.proofs.Quiet.{changed, IsQuiet, quiet-frame, quiet-tell}

-- ---- who lives

pub life_is : (o : Option LiveTask) → is_some (unwrap_or o no_live_task).alive ≡ is_living o
life_is None = refl
life_is (Some task) = refl

pub lives_quiet : (v x : Live) (i : ℕ) → IsQuiet v x → lives_in x i ≡ lives_in v i
lives_quiet v x i h = life_is (task_in x i) ∙ (h.tasks i).living ∙ sym (life_is (task_in v i))

-- a living task was born
pub inside : (v : Live) (t : ℕ) → lives_in v t ≡ true → t < length v.tasks
inside v t lives = within (λ o. is_some (unwrap_or o no_live_task).alive) v.tasks t None refl lives

-- a task that lives
pub record Living (v : Live) (t : ℕ) : Type 0 where
  pub task : LiveTask
  pub alive : Alive
  pub there : task_in v t ≡ Some task
  pub has : task.alive ≡ Some alive
  pub at : alive_at v t ≡ alive

pub living : (v : Live) (t : ℕ) → lives_in v t ≡ true → Living v t
living v t lives = by (task_in v t) refl lives
  where
    by2 : (task : LiveTask) → task_in v t ≡ Some task → (a : Option Alive) → task.alive ≡ a → is_some a ≡ true → Living v t
    by2 task e None h is = cc
    by2 task e (Some a) h is =
        record {
          task = task;
          alive = a;
          there = e;
          has = h;
          at = ap (λ o. unwrap_or (unwrap_or o no_live_task).alive no_alive) e ∙ ap (λ o. unwrap_or o no_alive) h;
        }

    by : (o : Option LiveTask) → task_in v t ≡ o → is_some (unwrap_or o no_live_task).alive ≡ true → Living v t
    by None e is = cc
    by (Some task) e is = by2 task e task.alive refl is

-- ---- nothing is brought to life, and nothing ends

quiet_tasks : (v x : Live) → IsQuiet v x → live_tasks x ≡ live_tasks v
quiet_tasks v x h = same_sums (λ o. cond (is_some o) 1 0) None v.tasks x.tasks h.born (λ i. ap (λ b. cond b 1 0) (h.tasks i).stands)

quiet_living : (v x : Live) → IsQuiet v x → living_tasks x ≡ living_tasks v
quiet_living v x h = same_sums (λ o. cond (is_living o) 1 0) None v.tasks x.tasks h.born (λ i. ap (λ b. cond b 1 0) (h.tasks i).living)

quiet_scopes : (v x : Live) → IsQuiet v x → live_scopes x ≡ live_scopes v
quiet_scopes v x h = same_sums (λ o. cond (is_some o) 1 0) None v.scopes x.scopes h.opened (λ i. ap (λ b. cond b 1 0) (h.scopes i))

quiet_bindings : (v x : Live) → IsQuiet v x → live_bindings x ≡ live_bindings v
quiet_bindings v x h = same_sums bindings_in None v.tasks x.tasks h.born (λ i. (h.tasks i).binds)

-- the scope that is recorded for a living task of the first view
abbrev said : Live → Unseen → ℕ → Stand
said v u i = cond (lives_in v i) (stand_in u i) Free

still_said : (v : Live) (u : Unseen) (i : ℕ) → lives_in v i ≡ true → stand_in u i ≡ said v u i
still_said v u i lives = ap (λ b. cond b (stand_in u i) Free) (sym lives)

pub changes-quiet : (v x : Live) (u : Unseen) (t : ℕ) → IsQuiet v x → Changes v u x u t
changes-quiet v x u t h =
    let ts = quiet_tasks v x h in
    let ls = quiet_living v x h in
    let ss = quiet_scopes v x h in
    let bs = quiet_bindings v x h in
    record {
      others = λ i other lives. still_said v u i (sym (lives_quiet v x i h) ∙ lives);
      tasks = omega (arith, ts);
      frames = omega (arith, ls);
      scopes = omega (arith, ss);
      binds = omega (arith, bs);
    }

-- what is said of t doesn't matter
pub stood_apart : (u : Unseen) (t : ℕ) (stand : Stand) (i : ℕ) → (i == t) ≡ false → stand_in (stood_unseen u t stand) i ≡ stand_in u i
stood_apart u t stand i other = ap (λ o. unwrap_or o Free) (get_or-set_other u.stands t i (Some stand) None (apart i t other))

pub stood_before : (v x : Live) (u w : Unseen) (t : ℕ) (stand : Stand) → Changes v (stood_unseen u t stand) x w t → Changes v u x w t
stood_before v x u w t stand c =
    record {
      others = λ i other lives. c.others i other lives ∙ ap (λ o. cond (lives_in v i) o Free) (stood_apart u t stand i other);
      tasks = c.tasks;
      frames = c.frames;
      scopes = c.scopes;
      binds = c.binds;
    }

pub stood_after : (v x : Live) (u w : Unseen) (t : ℕ) (stand : Stand) → Changes v u x w t → Changes v u x (stood_unseen w t stand) t
stood_after v x u w t stand c =
    record {
      others = λ i other lives. stood_apart w t stand i other ∙ c.others i other lives;
      tasks = c.tasks;
      frames = c.frames;
      scopes = c.scopes;
      binds = c.binds;
    }

-- the same after that
pub then-quiet : (v y x : Live) (u w : Unseen) (t : ℕ) → Changes v u y w t → IsQuiet y x → Changes v u x w t
then-quiet v y x u w t c h =
    let ts = quiet_tasks y x h in
    let ls = quiet_living y x h in
    let ss = quiet_scopes y x h in
    let bs = quiet_bindings y x h in
    let a = c.tasks in
    let b = c.frames in
    let d = c.scopes in
    let e = c.binds in
    record {
      others = λ i other lives. c.others i other (sym (lives_quiet y x i h) ∙ lives);
      tasks = omega (arith, ts, a);
      frames = omega (arith, ls, b);
      scopes = omega (arith, ss, d);
      binds = omega (arith, bs, e);
    }

-- the same view, and what it doesn't show
pub as_are : (v x y : Live) (u w z : Unseen) (t : ℕ) → y ≡ x → z ≡ w → Changes v u x w t → Changes v u y z t
as_are v x y u w z t same rest c = subst (λ (q : Live). Changes v u q z t) (sym same) (subst (λ (q : Unseen). Changes v u x q t) (sym rest) c)

-- ---- a scope more

module _ (v : Live) (u : Unseen) (t : ℕ) (keys : List ℕ) (room : 0 < u.scope_room) where
  abbrev opened_unseen : Unseen
  opened_unseen = record u { scope_keys = keys; scope_room = u.scope_room - 1 }

  opened : (c : LiveScope) → Changes v u (record v { scopes = v.scopes ++ Some c ∷ [] }) opened_unseen t
  opened c =
      let more = sum_by_push (λ (o : Option LiveScope). cond (is_some o) 1 0) v.scopes (Some c) in
      record {
        others = λ i other lives. still_said v u i lives;
        tasks = refl;
        frames = refl;
        scopes = omega (arith, more, room);
        binds = refl;
      }

  entered : (s : ℕ) (es : List Entry) → count_by is_binding (entry.Scope s ∷ es) ≡ count_by is_binding es
  entered s es = let one = sum_by-cons (λ (e : Entry). cond (is_binding e) 1 0) (entry.Scope s) es in omega (arith, one)

  pub opens : (x : ℕ) (joiner : Joiner) (timed : Bool) → Changes v u (live_open v t (alive_at v t).frame x joiner timed) opened_unseen t
  unfolding live_open
  opens x joiner timed =
      let w : Live = record v { scopes = v.scopes ++ Some (opened_scope v t joiner timed) ∷ [] } in
      then-quiet v w _ u opened_unseen t (opened (opened_scope v t joiner timed)) (quiet-frame w t _ (entered (length v.scopes) (alive_at v t).frame.entries))

-- the task that opens the scope goes on
pub opener_lives : (v : Live) (t x : ℕ) (f : Frame) (joiner : Joiner) (timed : Bool) → lives_in v t ≡ true → lives_in (live_open v t f x joiner timed) t ≡ true
unfolding live_open
opener_lives v t x f joiner timed lives = lives_written (record v { scopes = v.scopes ++ Some (opened_scope v t joiner timed) ∷ [] }) t _ t ∙ lives

-- ---- a task more

-- a task with this frame if it runs, of a scope that isn't cancelled
abbrev child_of : ℕ → Alive → Bool → LiveTask
child_of s alive cancelled = record { scope = Some s; state = None; alive = cond cancelled None (Some alive) }

-- of that room
abbrev room_less : Bool → ℕ → ℕ
room_less cancelled room = cond cancelled room (room - 1)

module _ (v : Live) (u : Unseen) (t s : ℕ) (keys : List ℕ) (begins : Alive) (cancelled : Bool) (none : count_by is_binding begins.frame.entries ≡ 0) (lives : lives_in v t ≡ true) (same : length u.stands ≡ length v.tasks) (task_room : 0 < u.task_room) (frame_room : 0 < u.frame_room) where
  born_stand : (i : ℕ) → lives_in (record v { tasks = v.tasks ++ Some (child_of s begins cancelled) ∷ [] }) i ≡ true → unwrap_or (get_or (u.stands ++ Some Free ∷ []) i None) Free ≡ said v u i
  born_stand i alive = by (nat_lt i (length v.tasks)) refl
    where
      by : (b : Bool) → nat_lt i (length v.tasks) ≡ b → unwrap_or (get_or (u.stands ++ Some Free ∷ []) i None) Free ≡ said v u i
      by true e =
          let less : i < length v.tasks = grind (arith, nat_tests) in
          let old : get_or (v.tasks ++ Some (child_of s begins cancelled) ∷ []) i None ≡ get_or v.tasks i None = get_or_append_left v.tasks (Some (child_of s begins cancelled) ∷ []) None i less in
          let was : lives_in v i ≡ true = ap (λ o. is_some (unwrap_or o no_live_task).alive) (sym old) ∙ alive in
          ap (λ o. unwrap_or o Free) (get_or_append_left u.stands (Some Free ∷ []) None i (omega (arith, less, same))) ∙ still_said v u i was
      by false e =
          let late : length v.tasks ≤ i = grind (arith, nat_tests) in
          let idle : lives_in v i ≡ false = ap (λ o. is_some (unwrap_or o no_live_task).alive) (past v.tasks i None late) in
          at_more (λ (o : Option Stand). unwrap_or o Free ≡ Free) u.stands (Some Free) i None (λ e. refl) (ap (λ o. unwrap_or o Free) (past u.stands i None (omega (arith, late, same))))
          ∙ ap (λ b. cond b (stand_in u i) Free) (sym idle)

  frames_less : (b : Bool) → cond (is_living (Some (child_of s begins b))) 1 0 + room_less b u.frame_room ≡ u.frame_room
  frames_less true = omega arith
  frames_less false = omega (arith, frame_room)

  unbound_child : (b : Bool) → bindings_in (Some (child_of s begins b)) ≡ 0
  unbound_child true = refl
  unbound_child false = none

  born : Changes v u (record v { tasks = v.tasks ++ Some (child_of s begins cancelled) ∷ [] }) (record u { stands = u.stands ++ Some Free ∷ []; task_keys = keys; task_room = u.task_room - 1; frame_room = room_less cancelled u.frame_room }) t
  born =
      let a = sum_by_push (λ (o : Option LiveTask). cond (is_some o) 1 0) v.tasks (Some (child_of s begins cancelled)) in
      let b = sum_by_push (λ (o : Option LiveTask). cond (is_living o) 1 0) v.tasks (Some (child_of s begins cancelled)) in
      let d = sum_by_push bindings_in v.tasks (Some (child_of s begins cancelled)) in
      let less = frames_less cancelled in
      let free = unbound_child cancelled in
      record {
        others = λ i other alive. born_stand i alive;
        tasks = omega (arith, a, task_room);
        frames = omega (arith, b, less);
        scopes = refl;
        binds = omega (arith, d, free);
      }

  forker : alive_at (record v { tasks = v.tasks ++ Some (child_of s begins cancelled) ∷ [] }) t ≡ alive_at v t
  forker = ap (λ o. unwrap_or (unwrap_or o no_live_task).alive no_alive) (get_or_append_left v.tasks (Some (child_of s begins cancelled) ∷ []) None t (inside v t lives))

  pub forks_child : (f : Frame) → f.entries ≡ (alive_at v t).frame.entries → Changes v u (with_live_frame (record v { tasks = v.tasks ++ Some (child_of s begins cancelled) ∷ [] }) t f) (record u { stands = u.stands ++ Some Free ∷ []; task_keys = keys; task_room = u.task_room - 1; frame_room = room_less cancelled u.frame_room }) t
  forks_child f entries =
      then-quiet v (record v { tasks = v.tasks ++ Some (child_of s begins cancelled) ∷ [] }) _ u _ t born
      (quiet-frame (record v { tasks = v.tasks ++ Some (child_of s begins cancelled) ∷ [] }) t f (ap (λ es. count_by is_binding es) entries ∙ ap (λ (a : Alive). count_by is_binding a.frame.entries) (sym forker)))

pub forks : (p : Program) (v : Live) (u : Unseen) (t s g : ℕ) (h : Option ℕ) (keys : List ℕ) → lives_in v t ≡ true → length u.stands ≡ length v.tasks → 0 < u.task_room → 0 < u.frame_room → Changes v u (live_fork p v t (alive_at v t).frame s g h) (record u { stands = u.stands ++ Some Free ∷ []; task_keys = keys; task_room = u.task_room - 1; frame_room = cond (live_scope_at v s).cancelled u.frame_room (u.frame_room - 1) }) t
unfolding live_fork
forks p v u t s g h keys lives same task_room frame_room =
    let f : Frame = (alive_at v t).frame in
    forks_child v u t s keys (live_child p (live_scope_at v s) f s g) (live_scope_at v s).cancelled refl lives same task_room frame_room (forked f (routine p g).args h (length v.tasks)) refl

-- the forker goes on
pub forker_lives : (p : Program) (v : Live) (t s g : ℕ) (f : Frame) (h : Option ℕ) → lives_in v t ≡ true → lives_in (live_fork p v t f s g h) t ≡ true
unfolding live_fork
forker_lives p v t s g f h lives =
    let more : List (Option LiveTask) = Some (child_of s (live_child p (live_scope_at v s) f s g) (live_scope_at v s).cancelled) ∷ [] in
    lives_written (record v { tasks = v.tasks ++ more }) t _ t
    ∙ ap (λ o. is_some (unwrap_or o no_live_task).alive) (get_or_append_left v.tasks more None t (inside v t lives))
    ∙ lives

-- the scope that is recorded for the forker
pub forker_stands : (v : Live) (u : Unseen) (t : ℕ) → lives_in v t ≡ true → length u.stands ≡ length v.tasks → unwrap_or (get_or (u.stands ++ Some Free ∷ []) t None) Free ≡ stand_in u t
forker_stands v u t lives same = let less = inside v t lives in ap (λ o. unwrap_or o Free) (get_or_append_left u.stands (Some Free ∷ []) None t (omega (arith, less, same)))

-- ---- a task is written

-- what it may have
abbrev having : LiveTask → Option Alive → Option LiveTask
having task alive = Some (record task { alive = alive })

pub binder_lives : (v : Live) (t : ℕ) (f : Frame) (k : ℕ) → lives_in v t ≡ true → lives_in (live_bind v t f k) t ≡ true
binder_lives v t f k lives = lives_changed v t _ t ∙ lives

pub unbinder_lives : (v : Live) (t : ℕ) (f : Frame) → lives_in v t ≡ true → lives_in (live_unbind v t f) t ≡ true
unbinder_lives v t f lives = lives_changed v t _ t ∙ lives

module _ (v : Live) (t : ℕ) (l : Living v t) where
  lives_there : task_in v t ≡ having l.task (Some l.alive)
  lives_there = l.there ∙ ap (having l.task) l.has

  -- what is summed of the tasks, after that
  summed : (f : Option LiveTask → ℕ) (y : Option LiveTask) → sum_by f (set v.tasks t y) + f (having l.task (Some l.alive)) ≡ sum_by f v.tasks + f y
  summed f y =
      ap (λ o. sum_by f (set v.tasks t y) + f o) (sym lives_there)
      ∙ sum_by-set f v.tasks t y None (inside v t (ap (λ o. is_some (unwrap_or o no_live_task).alive) lives_there))

  -- the living tasks other than t
  others_live : (u : Unseen) (y : Option LiveTask) (i : ℕ) → (i == t) ≡ false → lives_in (record v { tasks = set v.tasks t y }) i ≡ true → stand_in u i ≡ said v u i
  others_live u y i other lives = still_said v u i (ap (λ o. is_some (unwrap_or o no_live_task).alive) (sym (get_or-set_other v.tasks t i y None (apart i t other))) ∙ lives)

  -- it has another state of its own, or none
  rewritten : (u : Unseen) (after : Option Alive) (y : Option LiveTask) (root : Option End) (frames bindings : ℕ) → y ≡ having l.task after → cond (is_some after) 1 0 + frames ≡ 1 + u.frame_room → open_bindings after + bindings ≡ count_by is_binding (alive_at v t).frame.entries + u.binding_room
      → Changes v u (record v { tasks = set v.tasks t y; root_end = root }) (record u { frame_room = frames; binding_room = bindings }) t
  rewritten u after y root frames bindings written living bound =
      let a = summed (λ o. cond (is_some o) 1 0) y ∙ ap (λ o. live_tasks v + cond (is_some o) 1 0) written in
      let b = summed (λ o. cond (is_living o) 1 0) y ∙ ap (λ o. living_tasks v + cond (is_living o) 1 0) written in
      let d = summed bindings_in y ∙ ap (λ o. live_bindings v + bindings_in o) written in
      let e : open_bindings after + bindings ≡ count_by is_binding l.alive.frame.entries + u.binding_room = subst (λ (q : Alive). open_bindings after + bindings ≡ count_by is_binding q.frame.entries + u.binding_room) l.at bound in
      record {
        others = others_live u y;
        tasks = omega (arith, a);
        frames = omega (arith, b, living);
        scopes = refl;
        binds = omega (arith, d, e);
      }

  -- it has another environment
  bound_anew : (u : Unseen) (change : Alive → Alive) (n : ℕ) → count_by is_binding (change (alive_at v t)).frame.entries + n ≡ count_by is_binding (alive_at v t).frame.entries + u.binding_room → Changes v u (with_alive v t change) (record u { binding_room = n }) t
  bound_anew u change n room =
      rewritten u (Some (change l.alive)) (option_map (changed change) (task_in v t)) v.root_end u.frame_room n (ap (option_map (changed change)) lives_there) refl
      (subst (λ (q : Alive). count_by is_binding (change q).frame.entries + n ≡ count_by is_binding (alive_at v t).frame.entries + u.binding_room) l.at room)

  pub binds : (u : Unseen) (k : ℕ) → 0 < u.binding_room → Changes v u (live_bind v t (alive_at v t).frame k) (record u { binding_room = u.binding_room - 1 }) t
  binds u k room =
      let f : Frame = (alive_at v t).frame in
      let one = sum_by-cons (λ (e : Entry). cond (is_binding e) 1 0) (entry.Binding k (operand f 0)) f.entries in
      bound_anew u _ (u.binding_room - 1) (omega (arith, one, room))

  less : (es : List Entry) → innermost is_binding es ≡ true → count_by is_binding (drop 1 es) + 1 ≡ count_by is_binding es
  less [] e = cc
  less (entry.Scope s ∷ es) e = cc
  less (entry.Binding k n ∷ es) e = let one = sum_by-cons (λ (e : Entry). cond (is_binding e) 1 0) (entry.Binding k n) es in omega (arith, one)

  pub unbinds : (u : Unseen) → innermost is_binding (alive_at v t).frame.entries ≡ true → Changes v u (live_unbind v t (alive_at v t).frame) (record u { binding_room = u.binding_room + 1 }) t
  unbinds u first =
      let one = less (alive_at v t).frame.entries first in
      bound_anew u _ (u.binding_room + 1) (omega (arith, one))

  -- it ends, with nothing bound
  ended : (u : Unseen) (end : End) → count_by is_binding (alive_at v t).frame.entries ≡ 0 → Changes v u (live_ended v t end) (record u { frame_room = u.frame_room + 1 }) t
  ended u end none =
      rewritten u None (option_map over (task_in v t)) (live_ended v t end).root_end (u.frame_room + 1) u.binding_room (ap (option_map over) l.there) (omega arith) (omega (arith, none))
    where
      over : LiveTask → LiveTask
      over task = record task { alive = None }

  pub ends : (u : Unseen) (end : End) → count_by is_binding (alive_at v t).frame.entries ≡ 0 → Changes v u (live_end v t end) (record u { frame_room = u.frame_room + 1 }) t
  unfolding live_end
  ends u end none = then-quiet v (live_ended v t end) _ u _ t (ended u end none) (quiet-tell (live_ended v t end) t (live_task_at v t).scope end)

-- no entries, and so no bindings
pub none_bound : (es : List Entry) → nat_lt 0 (length es) ≡ false → count_by is_binding es ≡ 0
none_bound [] e = refl
none_bound (x ∷ es) e = let no : length (x ∷ es) ≤ 0 = grind (arith, nat_tests) in absurd (omega (arith, no))

-- it doesn't live any longer
pub ended_dead : (v : Live) (t : ℕ) (end : End) → lives_in v t ≡ true → lives_in (live_end v t end) t ≡ false
unfolding live_end
ended_dead v t end lives =
    lives_quiet (live_ended v t end) _ t (quiet-tell (live_ended v t end) t (live_task_at v t).scope end)
    ∙ ap (λ o. is_some (unwrap_or o no_live_task).alive) (get_or-set_same v.tasks t (option_map over (task_in v t)) None (inside v t lives))
    ∙ by (task_in v t)
  where
    over : LiveTask → LiveTask
    over task = record task { alive = None }

    by : (o : Option LiveTask) → is_some (unwrap_or (option_map over o) no_live_task).alive ≡ false
    by None = refl
    by (Some task) = refl
