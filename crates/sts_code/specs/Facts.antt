-- Facts of one instruction: what it pops and pushes, the places and slots that it names, and what
-- the answer of its joiner is (this project's own).
use Rattle.std.specs.Prelude.{ℕ, List, Bool, true, false, Option, not, ◌||◌}
use Rattle.std.specs.List.{flat_map}
use Rattle.sts_code.specs.declared.instr.Instr.{Instr}
use Rattle.sts_code.specs.declared.instr.Instr.TheVariants.{Div, Jmp, Jz, Fork, Join, Case}
use Rattle.sts_code.specs.declared.instr.Instr.TheVariants.{Ret, Fail}
use Rattle.sts_code.specs.declared.instr.Joiner.{Joiner}
use Rattle.sts_code.specs.declared.instr.Joiner.TheVariants.{AwaitAll, Until}
use Rattle.sts_code.specs.declared.profile.Profile.{Profile}
use Rattle.sts_code.specs.declared.profile.Profile.TheVariants.{One, Two}
use Rattle.sts_code.specs.Program.{Program, routine}
use Rattle.sts_code.specs.Shape.{Owner, Subtask, Fill, shape, places, follows, slot_for}

-- ---- operands

-- what is popped; a `fork` pops the arguments of its function
abbrev pub pops : Program → Instr → ℕ
pops p (Fork s f h) = (routine p f).args
pops p instr = (shape instr).pops

-- what is pushed; what `join` pushes depends on its scope
abbrev pub pushes : Instr → ℕ
pushes instr = (shape instr).pushes

-- ---- places

-- the places that an instruction names
abbrev pub targets : Instr → List ℕ
targets instr = flat_map places (shape instr).operands

-- may the next instruction follow?
abbrev pub falls_through : Instr → Bool
falls_through instr = follows (shape instr).flow

-- does the instruction only go on to the next place?
abbrev pub goes_straight_on : Instr → Bool
goes_straight_on (Div to) = false
goes_straight_on (Jmp to) = false
goes_straight_on (Jz to) = false
goes_straight_on (Join slot failed timeout interrupted) = false
goes_straight_on (Case handle success failed) = false
goes_straight_on Ret = false
goes_straight_on Fail = false
goes_straight_on _ = true

-- ---- slots

-- the slot of an instruction that only the owner of a scope may use
abbrev pub owners_slot : Instr → Option ℕ
owners_slot instr = slot_for Owner (shape instr).operands

-- the slot of an instruction on a subtask
abbrev pub subtask_slot : Instr → Option ℕ
subtask_slot instr = slot_for Subtask (shape instr).operands

-- the slot that an instruction fills
abbrev pub filled_slot : Instr → Option ℕ
filled_slot instr = slot_for Fill (shape instr).operands

-- ---- joiners and profiles

abbrev pub is_await_all : Joiner → Bool
is_await_all AwaitAll = true
is_await_all _ = false

abbrev pub is_until : Joiner → Bool
is_until (Until p) = true
is_until _ = false

-- can the joiner's answer be a failure?
abbrev pub can_fail : Joiner → Bool
can_fail joiner = not (is_await_all joiner || is_until joiner)

abbrev pub is_two : Profile → Bool
is_two One = false
is_two Two = true

-- are the two tests equal?
abbrev pub same : Bool → Bool → Bool
same true b = b
same false b = not b
