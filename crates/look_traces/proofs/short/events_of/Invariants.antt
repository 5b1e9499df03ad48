use Rattle.std.proofs.Common.{◌≡◌, [], drop, map}
use Rattle.look_traces.specs.Short.{events_from}
use Rattle.look_traces.proofs.short.events_of.Given as goal

-- the events so far are those of the words before
abbrev pub invariant-loop-word : goal.invariant-loop-word
invariant-loop-word l = events_from l.events.items (map (λ x. x.now) (drop l.word-index l.found)) ≡ events_from [] (map (λ x. x.now) l.found)
