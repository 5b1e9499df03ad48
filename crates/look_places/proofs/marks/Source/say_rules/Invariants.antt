use Rattle.std.proofs.Common.{◌≡◌, ◌++◌, take}
use Rattle.std.specs.List.{flat_map}
use Rattle.look_places.specs.Reports as def
use Rattle.look_places.proofs.marks.Source.say_rules.Given as goal

-- the notes so far
abbrev pub invariant-loop-note : goal.invariant-loop-note
invariant-loop-note l = l.out.items ≡ l.initial.out.items ++ flat_map (def.rule_note l.self l.program) (take l.note-index l.notes)
