use Rattle.std.proofs.Common.{◌≡◌, ◌++◌, string_bytes, drop}
use Rattle.sts_list.specs.Listing.{keys_from, keys_text}
use Rattle.sts_list.proofs.listing.write_keys.Given as goal

abbrev pub invariant-loop-key : goal.invariant-loop-key
invariant-loop-key l = string_bytes l.out ++ keys_text (keys_from l.key-counter (drop l.key-counter l.needs)) ≡ string_bytes l.fn.out ++ keys_text (keys_from 0 l.needs)
