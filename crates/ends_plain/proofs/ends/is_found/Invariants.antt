use Rattle.std.proofs.Common.{◌≢◌}
use Rattle.std.specs.List.{AllWithin}
use Rattle.ends_plain.specs.declared.config.Found.{Found}
use Rattle.ends_plain.proofs.ends.is_found.Given as goal

-- those so far have other ends
abbrev pub invariant-loop-one : goal.invariant-loop-one
invariant-loop-one l = AllWithin (λ (x : Found). x.end ≢ l.end) l.found 0 l.one-index
