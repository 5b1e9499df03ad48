use Rattle.std.proofs.Common.{◌≡◌, ◌&&◌, not}
use Rattle.sts_rules.specs.Causes.{needs, is_bound}
use Rattle.sts_types.proofs.Ranges.{any_from}
use Rattle.sts_types.proofs.cause.lacks_key.Given as goal

-- the rest of the keys decides
abbrev pub invariant-loop-key : goal.invariant-loop-key
invariant-loop-key l = any_from (λ k. needs l.program l.child k && not (is_bound l.program l.function l.state k)) l.key 16 ≡ any_from (λ k. needs l.program l.child k && not (is_bound l.program l.function l.state k)) 0 16
