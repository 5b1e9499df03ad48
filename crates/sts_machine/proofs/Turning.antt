-- The facts that the laws of runs give a machine at an event.
use Rattle.std.proofs.Common.{◌≡◌, ℕ, ◌+◌, ◌<◌, ◌≤◌, List, [], ◌∷◌, ◌++◌, length, Bool, true, false, Option, Some, None, refl, sym, ◌∙◌, ap, subst, cond, arith, get_or, nat_lt}
use Rattle.std.specs.Prelude.{count_by, is_some}
use Rattle.std.proofs.lemmas.Bool.{and_parts}
use Rattle.std.proofs.lemmas.Option.{get_or_from_slice_get, slice_get_within}
use Rattle.std.specs.List.{slice_get}
use Rattle.std.proofs.lemmas.List.Sums.{sum_by-cons}
use Rattle.std.proofs.lemmas.Bool.Decides.{nat_tests}
use Rattle.std.proofs.lemmas.List.{get_or_past}
use Rattle.sts_code.specs.Program.{Program, Routine, no_routine}
use Rattle.sts_code.specs.declared.instr.Instr.{Instr}
use Rattle.sts_code.specs.declared.instr.Instr.TheVariants.{Open, Fork, Bind}
use Rattle.sts_rules.specs.declared.budget.Budgets.{Budgets}
use Rattle.sts_rules.specs.Refusal.{IsBudgetOf}
use Rattle.sts_model.specs.declared.event.Event.{Event}
use Rattle.sts_model.specs.declared.event.Event.TheVariants as event
use Rattle.sts_model.specs.declared.record.Frame.{Frame}
use Rattle.sts_model.specs.Live.{Live, LiveTask}
use Rattle.sts_model.specs.Run.{after, counts}
use Rattle.sts_model.specs.World.{code, instr_at}
use Rattle.laws_runs.specs.Runs.{In}
use Rattle.laws_live.specs.Effect.{live_effect}
use Rattle.laws_live.specs.Reading.{alive_at, lives_in, live_scope_at}
use Rattle.laws_live.specs.Outside.{live_can_expire}
use Rattle.laws_live.specs.Run.{live_apply, live_counts, live_perform, live_steps_in}
use Rattle.laws_live.specs.Seen.{StandsAt}
use Rattle.laws_live.specs.Waiting.{live_can_go, live_can_step, live_stand_at}
use Rattle.laws_live.specs.Fine.{IsLiveFine}
use Rattle.laws_live.specs.Order.{InOrder}
use Rattle.laws_accepted.specs.Accepted.{main_of}
use Rattle.laws_accepted.specs.EveryRun.{RunsWell}
use Rattle.laws_accepted.specs.Views.{LiveHasRoomFor}
use Rattle.laws_accepted.specs.Costs.{IsModest}
use Rattle.sts_store.specs.Parts.{Parts, Unseen, frame_of, live_of, unseen_of}
use Rattle.sts_machine.specs.Laws.{HasLaws}
use Rattle.sts_machine.specs.Machine.{IsMachine, Seen, Stands}
use Rattle.sts_machine.specs.Room.{HasRoomLeft, HasRoomOf, is_living}
use Rattle.sts_machine.specs.Standing.{AreStanding}
use Rattle.sts_machine.specs.Turned.{turned}
use Rattle.sts_machine.specs.declared.turned.Turned.{Turned}
use Rattle.laws_words.proofs.BoolLemmas.{at_most_one}

-- ---- events that count, and others

pub if_true : {X : Type 0} (b : Bool) (x y : X) → b ≡ true → cond b x y ≡ x
if_true true x y e = refl
if_true false x y e = cc

pub if_false : {X : Type 0} (b : Bool) (x y : X) → b ≡ false → cond b x y ≡ y
if_false true x y e = cc
if_false false x y e = refl

-- the requirements of a machine at an event, in terms of its fields
pub asked : (s u : Seen) (e f : Event) → s ≡ u → e ≡ f → live_counts u.program u.live e ≡ true → live_counts s.program s.live f ≡ true
asked s u e f same is counts =
    subst (λ x. live_counts s.program s.live x ≡ true) is
    (subst (λ (x : Seen). live_counts x.program x.live e ≡ true) (sym same) counts)

-- the instruction that is read is the next one
module _ (p q : Program) (f g : Frame) (xs : List Instr) (same : q ≡ p) (here : g ≡ f) (is : xs ≡ code q g) (next : (i : Instr) × (instr_at p f ≡ Some i)) where
  got : slice_get xs g.pc ≡ Some next.0
  got = ap (λ ys. slice_get ys g.pc) is ∙ ap (instr_at q) here ∙ ap (λ r. instr_at r f) same ∙ next.1

  pub within : g.pc < length xs
  within = slice_get_within xs g.pc next.0 got

  pub at_hand : (d : Instr) → instr_at p f ≡ Some (get_or xs g.pc d)
  at_hand d = next.1 ∙ ap (λ i. Some i) (sym (get_or_from_slice_get xs g.pc next.0 d got))

-- a function with a next instruction is there
pub has_function : (p q : Program) (f g : Frame) → q ≡ p → g ≡ f → (i : Instr) × (instr_at p f ≡ Some i) → g.function < length q.routines
has_function p q f g same here next = by (nat_lt g.function (length q.routines)) refl
  where
    is : slice_get (code q g) g.pc ≡ Some next.0
    is = ap (instr_at q) here ∙ ap (λ r. instr_at r f) same ∙ next.1

    by : (t : Bool) → nat_lt g.function (length q.routines) ≡ t → g.function < length q.routines
    by true e = grind (arith, nat_tests)
    by false e =
        let past : length q.routines ≤ g.function = grind (arith, nat_tests) in
        let none : code q g ≡ [] = ap (λ (r : Routine). r.code) (get_or_past q.routines g.function no_routine past) in
        let never : None ≡ Some next.0 = ap (λ xs. slice_get xs g.pc) (sym none) ∙ is in
        cc

-- a step of a task that can step
pub stepped : (p : Program) (v : Live) (t : ℕ) (i : Instr) → live_can_step p v t ≡ true → instr_at p (alive_at v t).frame ≡ Some i → live_apply p v (event.Step t) ≡ live_effect p v t (alive_at v t).frame i
stepped p v t i can at =
    if_true (live_can_step p v t) (live_perform p v t (alive_at v t).frame (instr_at p (alive_at v t).frame)) v can
    ∙ ap (live_perform p v t (alive_at v t).frame) at

-- a step that counts is one
pub one_step : (p : Program) (v : Live) (t : ℕ) → live_can_step p v t ≡ true → live_steps_in p v (event.Step t) ≡ 1
one_step p v t can = if_true (live_can_step p v t) 1 0 can

-- an event that doesn't count changes nothing, and is no step taken
pub idle_view : (p : Program) (v : Live) (e : Event) → live_counts p v e ≡ false → live_apply p v e ≡ v
idle_view p v (event.Step t) off = if_false (live_can_step p v t) _ v off
idle_view p v (event.Interrupt t) off = if_false (lives_in v t) _ v off
idle_view p v (event.Expire s) off = if_false (live_can_expire (live_scope_at v s)) _ v off

pub idle_steps : (p : Program) (v : Live) (e : Event) → live_counts p v e ≡ false → live_steps_in p v e ≡ 0
idle_steps p v (event.Step t) off = if_false (live_can_step p v t) 1 0 off
idle_steps p v (event.Interrupt t) off = refl
idle_steps p v (event.Expire s) off = refl

-- ---- room

living_few : (xs : List (Option LiveTask)) → count_by is_living xs ≤ count_by is_some xs
living_few [] = omega arith
living_few (x ∷ xs) =
    let rest = living_few xs in
    let living = sum_by-cons (λ y. cond (is_living y) 1 0) x xs in
    let standing = sum_by-cons (λ (y : Option LiveTask). cond (is_some y) 1 0) x xs in
    let here = one x in
    omega (arith, rest, living, standing, here)
  where
    one : (y : Option LiveTask) → cond (is_living y) 1 0 ≤ cond (is_some y) 1 0
    one None = omega arith
    one (Some task) = at_most_one (is_some task.alive)

-- the numbers that count are below the budgets, so there is room
left : (b : Budgets) (v : Live) (u : Unseen) (f : Frame) (i : Instr) → HasRoomOf b v u → LiveHasRoomFor b v f i → HasRoomLeft u f i
left b v u f (Open x timed joiner) h less = let both = h.scopes in omega (arith, both, less)
left b v u f (Bind key) h less = let both = h.binds in omega (arith, both, less)
left b v u f (Fork x g handle) h less =
    λ s own.
    let few = less s own in
    let tasks = h.tasks in
    let frames = h.frames in
    let living = living_few v.tasks in
    (omega (arith, few, tasks), omega (arith, few, frames, living))
left b v u f i h less = tt

-- ---- steps

-- no run takes more
pub steps_few : (p : Program) → HasLaws p → (events : List Event) (v : Live) (n : ℕ) → StandsAt p events v n → n ≤ 1000000
steps_few p laws events v n h =
    let here : IsModest p events h.world = subst (In (IsModest p events)) h.runs (laws.limits events) in
    let few = here.steps in
    let same = h.steps in
    omega (arith, few, same)

-- ---- a machine at an event

module _ (p : Program) (m : Parts) (n : ℕ) (is : IsMachine p m n) where
  pub ordered : InOrder (live_of m)
  ordered = is.laws.order is.events (live_of m) n is.stands

  -- after an event the view is that of one event more, and is in order
  pub stood : (e : Event) → StandsAt p (is.events ++ e ∷ []) (live_apply p (live_of m) e) (n + live_steps_in p (live_of m) e)
  stood e = (is.laws.turns is.events (live_of m) n e is.stands).stands

  pub ordered_after : (e : Event) → InOrder (live_apply p (live_of m) e)
  ordered_after e = is.laws.order (is.events ++ e ∷ []) _ _ (stood e)

  pub alive : (t : ℕ) → live_can_step p (live_of m) t ≡ true → lives_in (live_of m) t ≡ true
  alive t can = (and_parts (lives_in (live_of m) t) (live_can_go (live_of m) t (live_stand_at p (live_of m) t)) can).0

  -- the instruction that is next
  pub next : (t : ℕ) → live_can_step p (live_of m) t ≡ true → (i : Instr) × (instr_at p (frame_of m t) ≡ Some i)
  next t can = let s = is.laws.safe is.events (live_of m) n is.stands t can in (s.instr, s.at)

  -- it is no misuse
  pub fine : (t : ℕ) (i : Instr) → live_can_step p (live_of m) t ≡ true → instr_at p (frame_of m t) ≡ Some i → IsLiveFine p (live_of m) t (frame_of m t) i
  fine t i can at =
      let s = is.laws.safe is.events (live_of m) n is.stands t can in
      let same : s.instr ≡ i = one s.instr i (sym s.at ∙ at) in
      subst (IsLiveFine p (live_of m) t (frame_of m t)) same s.fine
    where
      one : (a b : Instr) → Some a ≡ Some b → a ≡ b
      one a b e = cc

  -- and there is room for it
  pub has_room : (t : ℕ) (i : Instr) → live_can_step p (live_of m) t ≡ true → instr_at p (frame_of m t) ≡ Some i → HasRoomLeft (unseen_of m) (frame_of m t) i
  has_room t i can at =
      let b = is.laws.main.budget in
      let printed = is.laws.main.printed in
      left b (live_of m) (unseen_of m) (frame_of m t) i (is.room b printed)
      (is.laws.room b printed is.events (live_of m) n is.stands t i (alive t can) at)

  pub few_steps : n ≤ 1000000
  few_steps = steps_few p is.laws is.events (live_of m) n is.stands

  -- the parts after an event
  pub moved : (e : Event) (x : Parts) (k : ℕ) → live_of x ≡ live_apply p (live_of m) e → k ≡ n + live_steps_in p (live_of m) e → AreStanding p (live_of x) (unseen_of x) → ((b : Budgets) → HasRoomOf b (live_of m) (unseen_of m) → HasRoomOf b (live_of x) (unseen_of x)) → IsMachine p x k
  moved e x k live steps standing room =
      let s = stood e in
      record {
        events = is.events ++ e ∷ [];
        stands = record { world = s.world; runs = s.runs; view = s.view ∙ sym live; steps = s.steps ∙ sym steps };
        standing = standing;
        room = λ b printed. room b (is.room b printed);
        laws = is.laws;
      }

-- ---- at every list of events at which a machine stands

pub stands_after : (m x : Seen) (e : Event) → HasLaws m.program → x.program ≡ m.program → x.live ≡ live_apply m.program m.live e → x.steps ≡ m.steps + live_steps_in m.program m.live e → (events : List Event) → Stands m events → Stands x (events ++ e ∷ [])
stands_after m x e laws program live steps events h =
    let s = (laws.turns events m.live m.steps e h).stands in
    subst (λ q. StandsAt q (events ++ e ∷ []) x.live x.steps) (sym program)
    (record { world = s.world; runs = s.runs; view = s.view ∙ sym live; steps = s.steps ∙ sym steps })

pub counts_there : (m : Seen) (e : Event) (answer : Turned) → HasLaws m.program → answer ≡ turned (live_counts m.program m.live e) → (events : List Event) → Stands m events → answer ≡ turned (counts m.program (after m.program events) e)
counts_there m e answer laws is events h = is ∙ ap turned (sym (laws.turns events m.live m.steps e h).count)

pub runs_well : (p : Program) → HasLaws p → (b : Budgets) → IsBudgetOf p (main_of p) b → (events : List Event) → RunsWell p b events
runs_well p laws b is events = subst (λ c. RunsWell p c events) (sym (laws.main.alone b is)) (laws.main.runs_well events)
