-- Runs of steps alone (this project's own).
use Rattle.std.specs.Prelude.{◌≡◌, List, [], ◌∷◌, true, Some}
use Rattle.sts_code.specs.Program.{Program}
use Rattle.sts_model.specs.declared.event.End.{End}
use Rattle.sts_model.specs.declared.event.Event.{Event}
use Rattle.sts_model.specs.World.{World, State, Running, opening, task_at}
use Rattle.sts_model.specs.Run.{apply, after, counts, is_step}

-- from this state on, each of these events is a step, and counts when it comes
abbrev pub AreSteps : Program → State → List Event → Type 0
AreSteps p state [] = Unit {0}
AreSteps p state (e ∷ es) =
    (is_step e ≡ true) × (counts p state e ≡ true) × AreSteps p (apply p state e) es

-- some such steps lead from the beginning to this end of the root
pub record RunsTo (p : Program) (end : End) : Type 0 where
  pub events : List Event
  pub steps : AreSteps p (opening p) events
  pub world : World
  pub runs : after p events ≡ Running world
  pub ended : (task_at world 0).outcome ≡ Some end
