use Rattle.std.proofs.Common.{subst}
use Rattle.laws_calls.specs.Tasks.{Among}
use Rattle.ends_picks.specs.declared.outcomes.Outcome.{Outcome}
use Rattle.ends_picks.proofs.outcomes.Found.add_after.Goals as goal

pub returns : goal.returns
returns c =
    record {
      has = λ within. subst (λ (o : Outcome). Among c.add.new.self.outcomes.items o) c.in_ok-next.ensures c.in_ok-add.ensures.has;
      keeps = c.in_ok-add.ensures.keeps;
    }
