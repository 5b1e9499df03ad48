use Rattle.std.proofs.Common.{◌≡◌, drop, fold, false}
use Rattle.look_tell.specs.Story.{begun, next}
use Rattle.look_tell.proofs.story.Story.after.Given as goal

-- the story so far, and the rest of it
abbrev pub invariant-loop-event : goal.invariant-loop-event
invariant-loop-event l = fold (next false) l.story (drop l.event-index l.events) ≡ fold (next false) (begun l.program) l.events
