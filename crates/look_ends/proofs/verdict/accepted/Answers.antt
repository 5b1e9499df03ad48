use Rattle.std.proofs.Common.{subst, sym}
use Rattle.sts_code.specs.Program.{Program}
use Rattle.laws_runs.specs.Runs.{NeverFaults}
use Rattle.look_ends.proofs.verdict.accepted.Goals as goal

pub returns-clause-never : goal.returns-clause-never
returns-clause-never c = subst (λ (p : Program). NeverFaults p) (sym c.into_program.ensures.value) c.never_faults.ensures
