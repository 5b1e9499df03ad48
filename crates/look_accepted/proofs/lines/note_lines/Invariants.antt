use Rattle.std.proofs.Common.{◌≡◌, ◌++◌, take}
use Rattle.std.specs.List.{flat_map}
use Rattle.look_accepted.specs.Lines as def
use Rattle.look_accepted.proofs.lines.note_lines.Given as goal

-- the lines of the notes so far
abbrev pub invariant-loop-note : goal.invariant-loop-note
invariant-loop-note l = l.out.items ≡ l.initial.out.items ++ flat_map (def.note_line l.outline l.program) (take l.note-index l.notes)
