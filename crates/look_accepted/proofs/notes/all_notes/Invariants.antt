use Rattle.look_accepted.specs.Notes as def
use Rattle.look_accepted.proofs.notes.all_notes.Given as goal

abbrev pub invariant-loop-function : goal.invariant-loop-function
invariant-loop-function l = def.NotesOf l.program l.function l.notes.items
