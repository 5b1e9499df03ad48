use Rattle.std.proofs.Common.{◌≡◌, None, subst}
use Rattle.sts_code.specs.Checks.{program_fault}
use Rattle.sts_code.specs.Program.{Program}
use Rattle.laws_accepted.proofs.RangeLemmas.{some_function}
use Rattle.sts_machine.proofs.Budgets.{few_tasks, some_task}
use Rattle.sts_machine.proofs.MainLemmas.{main_budget}
use Rattle.sts_machine.proofs.laws.laws.Goals as goal

pub returns-clause-some : goal.returns-clause-some
returns-clause-some c = some_task c.args.verified.now c.every_run.result c.every_run.ensures.printed

pub returns-clause-few : goal.returns-clause-few
returns-clause-few c =
    let p = c.args.verified.now in
    let checked : program_fault p.routines ≡ None =
    subst (λ (q : Program). program_fault q.routines ≡ None) c.program.ensures.value c.functions.ensures.checked in
    few_tasks p c.every_run.result c.program.ensures.accepted (some_function p checked) c.every_run.ensures.printed

pub returns-clause-laws : goal.returns-clause-laws
returns-clause-laws c =
    let p = c.args.verified.now in
    record {
      turns = c.turns_are_seen.ensures;
      safe = c.turns_are_safe.ensures;
      order = c.seen_in_order.ensures p;
      room = c.views_have_room.ensures;
      limits = c.limits_hold.ensures;
      main = main_budget p c.every_run.result c.every_run.ensures.printed c.every_run.ensures.runs_well;
    }
