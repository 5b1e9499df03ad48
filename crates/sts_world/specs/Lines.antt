-- The input of the counters: for each task its scope and whether it lives, and for each scope its
-- joiner's tally and whether it is closed (this project's own).
use Rattle.std.specs.Prelude.{ℕ, List, map, Bool, Option}
use Rattle.sts_model.specs.declared.record.Task.{Task}
use Rattle.sts_model.specs.declared.record.Scope.{Scope}
use Rattle.sts_joiners.specs.Tallied.{Tallied, tallied}
use Rattle.sts_model.specs.Living.{lives, is_closed, ends}
use Rattle.sts_model.specs.World.{World}

pub record Line : Type 0 where
  pub scope : Option ℕ
  pub lives : Bool

-- the tasks and the scopes by birth number
pub record Lines : Type 0 where
  pub tasks : List Line
  pub closed : List Bool
  pub tallies : List Tallied

abbrev pub line : Task → Line
line task = record { scope = task.scope; lives = lives task }

abbrev pub is_shut : Scope → Bool
is_shut scope = is_closed scope.phase

-- the tally of the ends that the scope's joiner was told of
abbrev pub tally_of : Scope → Tallied
tally_of scope = tallied scope.joiner (ends scope)

abbrev pub lines : World → Lines
lines w =
    record {
      tasks = map line w.tasks;
      closed = map is_shut w.scopes;
      tallies = map tally_of w.scopes;
    }
