use Rattle.look_accepted.specs.Notes as def
use Rattle.look_accepted.proofs.notes.add_notes.Given as goal

abbrev pub invariant-loop-place : goal.invariant-loop-place
invariant-loop-place l = def.AddsNotes l.program l.function l.place l.fn.notes.items l.notes.items
