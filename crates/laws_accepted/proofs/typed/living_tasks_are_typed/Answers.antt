use Rattle.std.proofs.Common.{subst}
use Rattle.laws_accepted.specs.Typed.{LivingTasksAreTyped}
use Rattle.laws_accepted.proofs.TypedRuns.{accepted_as}
use Rattle.laws_accepted.proofs.TypedLaws as laws
use Rattle.laws_accepted.proofs.typed.living_tasks_are_typed.Goals as goal

pub returns : goal.returns
returns c =
    subst LivingTasksAreTyped c.program-program.ensures.value
    (laws.living_tasks_are_typed c.program-program.result.now
    (accepted_as _ _ c.program-program.ensures.value c.functions.ensures.checked c.program-program.ensures.accepted c.typing_promises.ensures))
