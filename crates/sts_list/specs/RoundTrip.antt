-- A listing is assembled to the program that it lists (this project's own).
use Rattle.std.specs.Prelude.{◌≡◌, ◌<◌, ◌≤◌, ◌^◌, length, ⊤, None, Ok, ℤ, pos, negsuc}
use Rattle.std.specs.List.{AllByRecursion}
use Rattle.sts_code.specs.Checks.{program_fault}
use Rattle.sts_code.specs.Program.{Program, Routine}
use Rattle.sts_code.specs.declared.instr.Instr.{Instr}
use Rattle.sts_code.specs.declared.instr.Instr.TheVariants as i
use Rattle.sts_code.specs.declared.instr.Joiner.{Joiner}
use Rattle.sts_code.specs.declared.instr.Joiner.TheVariants.{Until}
use Rattle.sts_code.specs.declared.instr.Pred.{Pred}
use Rattle.sts_code.specs.declared.instr.Pred.TheVariants.{AtLeast}
use Rattle.sts_asm.specs.Text.{judged}
use Rattle.sts_list.specs.Listing.{listing}

-- a value of 64 bits
abbrev pub IsValue : ℤ → Type 0
IsValue (pos n) = n < 2 ^ 63
IsValue (negsuc n) = n < 2 ^ 63

-- its value is of 64 bits
abbrev pub FitsCondition : Pred → Type 0
FitsCondition (AtLeast v) = IsValue v
FitsCondition condition = ⊤

-- its value is of 64 bits
abbrev pub FitsJoiner : Joiner → Type 0
FitsJoiner (Until condition) = FitsCondition condition
FitsJoiner joiner = ⊤

-- its values are of 64 bits
abbrev pub FitsInstr : Instr → Type 0
FitsInstr (i.Push k) = IsValue k
FitsInstr (i.Open s timed joiner) = FitsJoiner joiner
FitsInstr instr = ⊤

-- it says of sixteen keys whether it needs them, and its values are of 64 bits
abbrev pub FitsRoutine : Routine → Type 0
FitsRoutine r = (length r.needs ≡ 16) × AllByRecursion FitsInstr r.code

-- A program as the types of the code hold one, that passed the program checks.
abbrev pub IsProgram : Program → Type 0
IsProgram p = (program_fault p.routines ≡ None) × AllByRecursion FitsRoutine p.routines

-- A listing that is no longer than a text may be is assembled to the program that it lists.
abbrev pub AssembledAgain : Type 0
AssembledAgain =
    (p : Program) → IsProgram p → length (listing p) ≤ 1048576 → judged (listing p) ≡ Ok p
