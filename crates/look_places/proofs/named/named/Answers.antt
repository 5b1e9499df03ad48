use Rattle.std.proofs.Common.{◌≡◌, ℕ, List, subst}
use Rattle.std.specs.Prelude.{IfOk}
use Rattle.sts_output.specs.Output.{Output}
use Rattle.look_places.specs.Named.{with_names}
use Rattle.look_places.proofs.named.named.Goals as goal

pub returns : goal.returns
returns c = subst (λ (text : List ℕ). IfOk c.named_by.result (λ (o : Output). o ≡ with_names text c.args.told.now)) c.in_ok-names.ensures c.named_by.ensures
