-- The answers of a machine, in words of the plain state.
use Rattle.std.proofs.Common.{◌≡◌, ℕ, ◌-◌, List, Option, sym, ◌∙◌, ap, subst, arith}
use Rattle.sts_code.specs.Program.{Program}
use Rattle.sts_rules.specs.declared.budget.Budgets.{Budgets}
use Rattle.sts_rules.specs.Refusal.{IsBudgetOf}
use Rattle.sts_model.specs.declared.event.Event.{Event}
use Rattle.sts_model.specs.declared.event.Event.TheVariants as event
use Rattle.sts_model.specs.Live.{Live, live}
use Rattle.sts_model.specs.Run.{after, counts}
use Rattle.sts_model.specs.Waiting.{can_step}
use Rattle.sts_model.specs.World.{World}
use Rattle.laws_runs.specs.Runs.{In}
use Rattle.laws_live.specs.Seen.{StandingIsSeen, StandsAt}
use Rattle.laws_live.specs.Waiting.{live_can_step}
use Rattle.laws_accepted.specs.Accepted.{main_of}
use Rattle.laws_accepted.specs.Views.{BindingsAreSeen, live_bindings, live_scopes, live_tasks}
use Rattle.sts_model.specs.Standing.{standing_bindings}
use Rattle.sts_store.specs.Parts.{Unseen}
use Rattle.sts_machine.specs.Laws.{HasLaws}
use Rattle.sts_machine.specs.Machine.{Seen}
use Rattle.sts_machine.specs.Numbers.{AddUpTo, room_of, standing_in, standing_of}
use Rattle.sts_machine.specs.Room.{HasRoomOf}
use Rattle.sts_machine.specs.Turned.{Picks}
use Rattle.sts_machine.specs.declared.standing.Standing.{Standing}
use Rattle.sts_machine.proofs.CanStep.{picks_alike}

module _ (p : Program) (events : List Event) (v : Live) (n : ℕ) (h : StandsAt p events v n) where
  -- a fact of the world behind the view holds after the events
  there : (P : World → Type 0) → P h.world → In P (after p events)
  there P k = subst (In P) (sym h.runs) k

  pub can_there : HasLaws p → (t : ℕ) → live_can_step p v t ≡ can_step p h.world t
  can_there laws t =
      let count = (laws.turns events v n (event.Step t) h).count in
      sym count ∙ ap (λ s. counts p s (event.Step t)) h.runs

  pub ready_there : HasLaws p → (o : Option ℕ) → Picks (live_can_step p v) o → In (λ w. Picks (can_step p w) o) (after p events)
  ready_there laws o k =
      there (λ w. Picks (can_step p w) o)
      (picks_alike (can_step p h.world) (live_can_step p v) o (can_there laws) k)

  pub standing_there : StandingIsSeen → BindingsAreSeen p → (s : Standing) → s ≡ standing_of v → In (λ w. s ≡ standing_in w) (after p events)
  standing_there seen bindings s is =
      there (λ w. s ≡ standing_in w) (is ∙ ap standing_of (sym h.view) ∙ by h.world (subst (In (λ w. live_bindings (live w) ≡ standing_bindings w)) h.runs (bindings events)))
    where
      by : (w : World) → live_bindings (live w) ≡ standing_bindings w → standing_of (live w) ≡ standing_in w
      by w binds = let tasks = (seen w).tasks in let scopes = (seen w).scopes in cc

-- ---- numbers

-- what a machine keeps of its room
abbrev pub KnowsRoom : Seen → Type 0
KnowsRoom m = (b : Budgets) → IsBudgetOf m.program (main_of m.program) b → HasRoomOf b m.live m.unseen

-- the room of the machine that is seen, by the budgets of its `main`
pub room_by : (inside seen : Seen) → inside ≡ seen → KnowsRoom inside → (b : Budgets) → IsBudgetOf inside.program (main_of inside.program) b → HasRoomOf b seen.live seen.unseen
room_by inside seen is room b printed = subst (λ (m : Seen). HasRoomOf b m.live m.unseen) is (room b printed)

-- the numbers that count, if this room is left of these budgets
abbrev pub rest_of : Budgets → Standing → Standing
rest_of b room =
    record { tasks = b.tasks - room.tasks; scopes = b.scopes - room.scopes; binds = b.binds - room.binds }

pub taken_off : (b : Budgets) (v : Live) (u : Unseen) → HasRoomOf b v u → rest_of b (room_of u) ≡ standing_of v
taken_off b v u h =
    let all_tasks = h.tasks in
    let all_scopes = h.scopes in
    let all_binds = h.binds in
    let tasks : b.tasks - u.task_room ≡ live_tasks v = omega (arith, all_tasks) in
    let scopes : b.scopes - u.scope_room ≡ live_scopes v = omega (arith, all_scopes) in
    let binds : b.binds - u.binding_room ≡ live_bindings v = omega (arith, all_binds) in
    cc

pub add_up : (b : Budgets) (v : Live) (u : Unseen) (s : Standing) → s ≡ standing_of v → HasRoomOf b v u → AddUpTo b s (room_of u)
add_up b v u s is h = rw is (record { tasks = h.tasks; scopes = h.scopes; binds = h.binds })
