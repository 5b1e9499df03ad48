use Rattle.std.proofs.Common.{inl}
use Rattle.look_places.proofs.named.named_of.Goals as goal

pub returns : goal.returns
returns c = record { explained = c.in_ok-told.told; words = inl c.in_ok-told.ensures; printed = c.in_ok-named_if.ensures }
