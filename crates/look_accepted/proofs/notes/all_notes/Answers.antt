use Rattle.std.proofs.Common.{◌+◌, List, sym, subst}
use Rattle.look_accepted.specs.declared.notes.Note.{Note}
use Rattle.look_accepted.specs.Notes.{NotesOf, none, more}
use Rattle.look_accepted.proofs.notes.all_notes.Goals as goal

pub loop-function-init : goal.loop-function-init
loop-function-init c = subst (λ (ns : List Note). NotesOf c.program-program.result.now 0 ns) (sym c.new-notes.ensures.items) none

pub loop-function-preserved : goal.loop-function-preserved
loop-function-preserved c =
    let h = c.in_ok-add_notes.ensures in
    subst (λ (ns : List Note). NotesOf c.program-program.result.now (c.loop-function.function + 1) ns) (sym h.added)
    (more c.loop-function.function c.loop-function.invariant h.right)
