-- The checks that a list of functions has to pass to be a program, and the first that fails (this
-- project's own).
use Rattle.std.specs.Prelude.{ℕ, ◌+◌, ◌-◌, List, [], ◌∷◌, ◌++◌, length, Bool, false, Option, Some}
use Rattle.std.specs.Prelude.{None, ◌&&◌, ◌||◌, ◌==◌, not, nat_le, nat_lt, if◌then◌else◌}
use Rattle.std.specs.Prelude.{unwrap_or, option_map, slice_get, codes}
use Rattle.std.specs.List.{list_any}
use Rattle.std.specs.Option.{option_or}
use Rattle.std.specs.Str.{bytes_eq}
use Rattle.sts_code.specs.declared.checking.CodeCause.{CodeCause}
use Rattle.sts_code.specs.declared.checking.CodeCause.TheVariants.{TooManyFunctions, TooLong}
use Rattle.sts_code.specs.declared.checking.CodeCause.TheVariants.{BadTarget, LaterFunction, NoMain}
use Rattle.sts_code.specs.declared.checking.CodeCause.TheVariants.{BadRange, DuplicateName}
use Rattle.sts_code.specs.declared.checking.CodeError.{CodeError}
use Rattle.sts_code.specs.declared.instr.Instr.{Instr}
use Rattle.sts_code.specs.declared.instr.Instr.TheVariants.{Fork}
use Rattle.sts_code.specs.declared.instr.Joiner.{Joiner}
use Rattle.sts_code.specs.declared.instr.Joiner.TheVariants.{Until}
use Rattle.sts_code.specs.declared.instr.Pred.TheVariants as pred
use Rattle.sts_code.specs.declared.limits.TheConstants.{MAX_FUNCTIONS, MAX_INSTRUCTIONS, MAX_ARGS}
use Rattle.sts_code.specs.declared.limits.TheConstants.{LAST_SLOT, MAX_TURNS, MAX_ENDS}
use Rattle.sts_code.specs.Facts.{targets}
use Rattle.sts_code.specs.Shape.{Operand, Local, Turns, InSlot, Handle, Key, Rule, shape}
use Rattle.sts_code.specs.Name.{is_name}
use Rattle.sts_code.specs.Program.{Routine}

-- ---- one instruction

-- does it name a place outside the n instructions?
abbrev pub has_bad_target : ℕ → Instr → Bool
has_bad_target n i = list_any (nat_le n) (targets i)

-- does it fork a function that isn't before the function at this index?
abbrev pub forks_later : ℕ → Instr → Bool
forks_later at (Fork s f h) = nat_le at f
forks_later at _ = false

-- a slot, local or key that there isn't?
abbrev pub is_past : ℕ → Bool
is_past x = nat_lt LAST_SLOT x

abbrev pub handle_is_past : Option ℕ → Bool
handle_is_past None = false
handle_is_past (Some h) = is_past h

-- a number of ends that is not from 1 to 65,536?
abbrev pub is_bad_count : ℕ → Bool
is_bad_count n = n == 0 || nat_lt MAX_ENDS n

abbrev pub has_bad_count : Joiner → Bool
has_bad_count (Until (pred.Failed n)) = is_bad_count n
has_bad_count (Until (pred.Success n)) = is_bad_count n
has_bad_count _ = false

-- an operand's test of its range, if it has one
abbrev pub range_fault : Operand → Option Bool
range_fault (Local x) = Some (is_past x)
range_fault (Turns n) = Some (n == 0 || nat_lt MAX_TURNS n)
range_fault (InSlot role x) = Some (is_past x)
range_fault (Handle h) = Some (handle_is_past h)
range_fault (Key k) = Some (is_past k)
range_fault (Rule joiner) = Some (has_bad_count joiner)
range_fault _ = None

-- one of two tests
abbrev pub either_fault : Option Bool → Option Bool → Option Bool
either_fault None b = b
either_fault (Some a) None = Some a
either_fault (Some a) (Some b) = Some (a || b)

abbrev pub any_fault : List Operand → Option Bool
any_fault [] = None
any_fault (operand ∷ rest) = either_fault (range_fault operand) (any_fault rest)

-- a slot, local, key or number that is out of its range?
abbrev pub has_bad_range : Instr → Bool
has_bad_range instr = unwrap_or (any_fault (shape instr).operands) false

-- the fault of an instruction, in the function at this index, which has n instructions
abbrev pub instr_cause : ℕ → ℕ → Instr → Option CodeCause
instr_cause at n i =
    if has_bad_target n i then Some BadTarget
    else (if forks_later at i then Some LaterFunction
    else (if has_bad_range i then Some BadRange else None))

-- ---- one function

-- a cause, with the place where it was found
abbrev pub fault_at : ℕ → ℕ → Option CodeCause → Option CodeError
fault_at at pc cause = option_map (λ c. record { cause = c; function = at; pc = pc }) cause

-- the first fault of the instructions from pc on
abbrev pub code_fault : ℕ → ℕ → ℕ → List Instr → Option CodeError
code_fault at n pc [] = None
code_fault at n pc (i ∷ rest) =
    option_or (fault_at at pc (instr_cause at n i)) (code_fault at n (pc + 1) rest)

abbrev pub is_named : List ℕ → Routine → Bool
is_named name r = bytes_eq r.name name

-- the fault of a function as a whole, after these functions
abbrev pub routine_cause : List Routine → Routine → Option CodeCause
routine_cause earlier r =
    if nat_lt MAX_INSTRUCTIONS (length r.code) then Some TooLong
    else (if not (is_name r.name) || nat_lt MAX_ARGS r.args || length r.code == 0 then Some BadRange
    else (if list_any (is_named r.name) earlier then Some DuplicateName else None))

-- the first fault of a function, after these
abbrev pub routine_fault : List Routine → Routine → Option CodeError
routine_fault earlier r =
    option_or (fault_at (length earlier) 0 (routine_cause earlier r)) (code_fault (length earlier)
    (length r.code) 0 r.code)

-- ---- the program

-- the first fault of these functions, which come after the earlier ones
abbrev pub routines_fault : List Routine → List Routine → Option CodeError
routines_fault earlier [] = None
routines_fault earlier (r ∷ rest) =
    option_or (routine_fault earlier r) (routines_fault (earlier ++ r ∷ []) rest)

-- named `main`, with no arguments and no needs?
abbrev pub is_main : Routine → Bool
is_main r = is_named (codes "main") r && r.args == 0 && not (list_any (λ needed. needed) r.needs)

abbrev pub is_main_at : Option Routine → Bool
is_main_at None = false
is_main_at (Some r) = is_main r

-- is the last function `main`?
abbrev pub ends_with_main : List Routine → Bool
ends_with_main rs = is_main_at (slice_get rs (length rs - 1))

-- the first check that fails, or none
abbrev pub program_fault : List Routine → Option CodeError
program_fault rs =
    if nat_lt MAX_FUNCTIONS (length rs)
    then Some (record { cause = TooManyFunctions; function = 0; pc = 0 })
    else option_or (routines_fault [] rs)
    (if ends_with_main rs then None else Some (record { cause = NoMain; function = 0; pc = 0 }))

-- the number of a cause in what is printed
abbrev pub cause_number : CodeCause → ℕ
cause_number TooManyFunctions = 1
cause_number TooLong = 2
cause_number BadTarget = 3
cause_number LaterFunction = 4
cause_number NoMain = 5
cause_number BadRange = 6
cause_number DuplicateName = 7
