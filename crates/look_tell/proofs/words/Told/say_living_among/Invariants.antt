use Rattle.std.proofs.Common.{◌≡◌, ◌++◌, drop}
use denote.Shadow.{shadow}
use denote.Text.{Utf8}
use Rattle.look_tell.specs.Words as def
use Rattle.look_tell.proofs.words.Told.say_living_among.Given as goal

-- what is written, and the words of the rest
abbrev pub invariant-loop-t : goal.invariant-loop-t
invariant-loop-t l = record {
  text : shadow (Utf8 l.words);
  said : l.out.items ++ def.living_among l.self.names.now l.self.story.now l.s l.words (drop l.t-index l.births) ≡ l.fn.out.items ++ def.living_among l.self.names.now l.self.story.now l.s l.lead l.births;
}
