use Rattle.std.proofs.Common.{◌≡◌, ◌+◌, ◌++◌, drop, fold}
use Rattle.look_tell.specs.Line as def
use Rattle.look_tell.specs.Story.{next}
use Rattle.look_tell.proofs.line.say_events.Given as goal

-- the story so far, what is written, and the rest of both
abbrev pub invariant-loop-i : goal.invariant-loop-i
invariant-loop-i l = record {
  after : fold (next l.options.strict) l.story (drop l.i l.events) ≡ fold (next l.options.strict) l.fn.story l.events;
  said : l.out.items ++ def.lines_from l.names l.options (l.i + 1) l.story (drop l.i l.events) ≡ l.fn.out.items ++ def.lines_from l.names l.options 1 l.fn.story l.events;
}
