-- A machine at its beginning.
use Rattle.std.proofs.Common.{◌≡◌, ℕ, zero, suc, ◌-◌, ◌<◌, List, [], ◌∷◌, true, Option, Some, None, get_or, refl, sym, ◌∙◌, ap, subst, arith}
use Rattle.std.proofs.lemmas.Bool.Decides.{nat_tests}
use Rattle.std.specs.Prelude.{unwrap_or}
use Rattle.sts_code.specs.Program.{Program}
use Rattle.sts_rules.specs.declared.budget.Budgets.{Budgets}
use Rattle.sts_rules.specs.Refusal.{IsBudgetOf}
use Rattle.sts_model.specs.declared.event.Stand.{Stand}
use Rattle.sts_model.specs.declared.event.Stand.TheVariants.{Free, AtJoin, AtClose}
use Rattle.sts_model.specs.Live.{Live}
use Rattle.laws_runs.proofs.EventLemmas.{main}
use Rattle.laws_live.specs.Run.{live_opening}
use Rattle.laws_live.specs.Seen.{RunIsSeen, StandsAt}
use Rattle.laws_live.specs.Waiting.{live_stand_at}
use Rattle.laws_live.specs.Order.{InOrder}
use Rattle.laws_live.specs.Stands.{StandsAreOwned, is_stand_at}
use Rattle.laws_accepted.specs.Accepted.{main_of}
use Rattle.laws_accepted.specs.Views.{live_tasks, live_scopes, live_bindings}
use Rattle.sts_store.specs.Parts.{Parts, Unseen, live_of, unseen_of}
use Rattle.sts_machine.specs.Laws.{HasLaws}
use Rattle.sts_machine.specs.Machine.{IsMachine}
use Rattle.sts_machine.specs.Room.{HasRoomOf, living_tasks}
use Rattle.sts_machine.specs.Standing.{AreStanding}
use Rattle.sts_machine.proofs.Budgets.{some_task}

-- before the first event
stands_first : (p : Program) → RunIsSeen → StandsAt p [] (live_opening p) 0
stands_first p seen = record { world = record { tasks = main p ∷ []; scopes = [] }; runs = refl; view = seen p []; steps = refl }

pub stands_begun : (p : Program) (v : Live) → RunIsSeen → v ≡ live_opening p → StandsAt p [] v 0
stands_begun p v seen view = subst (λ x. StandsAt p [] x 0) (sym view) (stands_first p seen)

same_stand : (s : ℕ) → is_stand_at s (AtJoin s) ≡ true
same_stand s = grind (arith, nat_tests)

same_close : (s : ℕ) → is_stand_at s (AtClose s) ≡ true
same_close s = grind (arith, nat_tests)

-- the root is at no scope, as there is none
root_is_free : (p : Program) → StandsAreOwned → InOrder (live_opening p) → live_stand_at p (live_opening p) 0 ≡ Free
root_is_free p owned order = by (live_stand_at p (live_opening p) 0) refl
  where
    by : (x : Stand) → live_stand_at p (live_opening p) 0 ≡ x → x ≡ Free
    by Free e = refl
    by (AtJoin s) e = let never = (owned p (live_opening p) order 0 s (ap (is_stand_at s) e ∙ same_stand s)).stands in cc
    by (AtClose s) e = let never = (owned p (live_opening p) order 0 s (ap (is_stand_at s) e ∙ same_close s)).stands in cc

-- no scope is recorded for the root, and it has taken its room
pub record IsBegun (b : Budgets) (u : Unseen) : Type 0 where
  pub stands : u.stands ≡ Some Free ∷ []
  pub tasks : u.task_room ≡ b.tasks - 1
  pub frames : u.frame_room ≡ b.tasks - 1
  pub scopes : u.scope_room ≡ b.scopes
  pub binds : u.binding_room ≡ b.binds

stands_free : (p : Program) (b : Budgets) (u : Unseen) → IsBegun b u → StandsAreOwned → InOrder (live_opening p) → AreStanding p (live_opening p) u
stands_free p b u begun owned order zero alive = ap (λ (xs : List (Option Stand)). unwrap_or (get_or xs 0 None) Free) begun.stands ∙ sym (root_is_free p owned order)
stands_free p b u begun owned order (suc t) alive = cc

has_room : (p : Program) (b : Budgets) (u : Unseen) → IsBegun b u → 0 < b.tasks → HasRoomOf b (live_opening p) u
has_room p b u begun some =
    let tasks : live_tasks (live_opening p) ≡ 1 = refl in
    let frames : living_tasks (live_opening p) ≡ 1 = refl in
    let scopes : live_scopes (live_opening p) ≡ 0 = refl in
    let binds : live_bindings (live_opening p) ≡ 0 = refl in
    record {
      tasks = omega (arith, some, tasks, begun.tasks);
      frames = omega (arith, some, frames, begun.frames);
      scopes = omega (arith, scopes, begun.scopes);
      binds = omega (arith, binds, begun.binds);
    }

-- a store with only the root, and room for the rest, is that of a machine
pub begins : (p : Program) (m : Parts) (b : Budgets) → HasLaws p → IsBudgetOf p (main_of p) b → RunIsSeen → StandsAreOwned → live_of m ≡ live_opening p → IsBegun b (unseen_of m) → IsMachine p m 0
begins p m b laws printed seen owned view begun =
    let order = laws.order [] (live_opening p) 0 (stands_first p seen) in
    let u = unseen_of m in
    record {
      events = [];
      stands = stands_begun p (live_of m) seen view;
      standing = subst (λ v. AreStanding p v u) (sym view) (stands_free p b u begun owned order);
      room = λ c is.
          let same : b ≡ c = laws.main.alone b printed ∙ sym (laws.main.alone c is) in
          subst (λ v. HasRoomOf c v u) (sym view) (subst (λ d. HasRoomOf d (live_opening p) u) same (has_room p b u begun (some_task p b printed)));
      laws = laws;
    }
