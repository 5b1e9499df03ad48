-- What became of the subtasks of a scope, and whether it agrees with what the owner knows (this
-- project's own). A state is possible if each of its open scopes has a pick that fits.
use Rattle.std.specs.Prelude.{◌≡◌, count_by, ℕ, ◌≤◌, ◌<◌, max, List, [], ◌∷◌, Option, Some, None}
use Rattle.sts_code.specs.declared.instr.Joiner.{Joiner}
use Rattle.sts_code.specs.declared.instr.Kind.TheVariants.{S, F, U}
use Rattle.sts_model.specs.declared.event.End.{End}
use Rattle.sts_model.specs.declared.event.Phase.{Phase}
use Rattle.sts_model.specs.declared.event.Phase.TheVariants.{Joined}
use Rattle.sts_model.specs.Joining.{total_of}
use Rattle.laws_runs.specs.Tallies.{is_kind}
use Rattle.laws_calls.specs.Tasks.{Asked, Knowledge, Unseen, ByJoiner, Heard, Seen, Picks}
use Rattle.laws_calls.specs.Triggers.{limit, triggers}

-- the ends in a pick
abbrev pub heard_in : List (Option End) → List End
heard_in [] = []
heard_in (None ∷ pick) = heard_in pick
heard_in (Some e ∷ pick) = e ∷ heard_in pick

-- No more ends count in a scope. The first end cancels a scope with the limit 0.
abbrev pub most : Joiner → ℕ
most j = max 1 (limit j)

-- So many ends may count. A `join` tells its owner whether the scope is cancelled.
abbrev pub MayCount : Knowledge → Phase → Joiner → ℕ → Type 0
MayCount Unseen Joined j n = ⊥
MayCount ByJoiner Joined j n = (limit j ≤ n) × (n ≤ most j)
MayCount Heard phase j n = n < most j
MayCount _ phase j n = n ≤ most j

-- an answer that the owner got is this one
abbrev pub Agrees : {X : Type 0} → Option X → X → Type 0
Agrees None y = Unit {0}
Agrees (Some x) y = x ≡ y

-- the answers are those of the pick
pub record Answers (asked : Asked) (pick : List (Option End)) : Type 0 where
  pub successes : Agrees asked.successes (count_by (is_kind S) pick)
  pub failures : Agrees asked.failures (count_by (is_kind F) pick)
  pub unavailable : Agrees asked.unavailable (count_by (is_kind U) pick)
  pub total : Agrees asked.total (total_of (heard_in pick))

pub record Fits (x : Seen) (pick : List (Option End)) : Type 0 where
  pub picks : Picks x.parts pick
  pub counts : MayCount x.knowledge x.phase x.joiner (triggers x.joiner (heard_in pick))
  pub asked : Answers x.asked pick

abbrev pub ArePossible : List Seen → Type 0
ArePossible [] = Unit {0}
ArePossible (x ∷ xs) = ((pick : List (Option End)) × Fits x pick) × ArePossible xs
