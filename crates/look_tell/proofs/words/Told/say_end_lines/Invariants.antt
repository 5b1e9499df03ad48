use Rattle.std.proofs.Common.{◌≡◌, ◌++◌, drop}
use Rattle.look_tell.specs.Telling as def
use Rattle.look_tell.proofs.words.Told.say_end_lines.Given as goal

-- what is written, and the lines of the rest
abbrev pub invariant-loop-t : goal.invariant-loop-t
invariant-loop-t l = l.out.items ++ def.end_lines l.self.names.now l.self.story.now (drop l.t l.self.story.now.watched.last.tasks) l.t ≡ l.fn.out.items ++ def.end_lines l.self.names.now l.self.story.now l.self.story.now.watched.last.tasks 0
