use Rattle.std.proofs.Common.{◌≡◌, drop, map}
use Rattle.std.specs.Prelude.{find}
use Rattle.look_text.specs.Near.{is_near}
use Rattle.look_text.proofs.near.near_among.Given as goal

-- no word so far is near
abbrev pub invariant-loop-known : goal.invariant-loop-known
invariant-loop-known l =
    find (is_near l.nearness l.word) (map (λ w. w.now) l.words) ≡ find (is_near l.nearness l.word) (map (λ w. w.now) (drop l.known-index l.words))
