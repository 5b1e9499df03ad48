use Rattle.std.proofs.Common.{◌≡◌, drop}
use Rattle.sts_asm.specs.Text.{each, routine_of}
use Rattle.sts_asm.proofs.EachLemmas.{with_front}
use Rattle.sts_asm.proofs.reading.routines_of.Given as goal

-- the functions so far, and those of the drafts that are left
abbrev pub invariant-loop-draft : goal.invariant-loop-draft
invariant-loop-draft l = with_front l.routines.items (each (routine_of l.functions) (drop l.draft-index l.drafts)) ≡ each (routine_of l.functions) l.drafts
