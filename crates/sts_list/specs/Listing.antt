-- The listing of a program (this project's own).
use Rattle.std.specs.Prelude.{ℕ, ◌+◌, ◌==◌, Bool, true, false, List, [], ◌∷◌, ◌++◌}
use Rattle.std.specs.Prelude.{slice_set, if◌then◌else◌, codes}
use Rattle.std.specs.List.{flat_map, list_any}
use Rattle.std.specs.Fmt.{decimal}
use Rattle.sts_code.specs.Program.{Program, Routine}
use Rattle.sts_code.specs.declared.profile.Profile.{Profile}
use Rattle.sts_code.specs.declared.profile.Profile.TheVariants.{One, Two}
use Rattle.sts_code.specs.declared.instr.Instr.{Instr}
use Rattle.sts_code.specs.Facts.{targets}
use Rattle.sts_list.specs.Spelling.{label, spelled}

-- ---- targets

-- is this instruction named by one of these?
abbrev pub is_target : List Instr → ℕ → Bool
is_target code pc = list_any (λ to. to == pc) (flat_map targets code)

-- marks the instructions at these places
abbrev pub with_marks : List Bool → List ℕ → List Bool
with_marks marks [] = marks
with_marks marks (to ∷ rest) = with_marks (slice_set marks to true) rest

-- ---- the text

-- the numbers of the keys that are needed, counted from k
abbrev pub keys_from : ℕ → List Bool → List ℕ
keys_from k [] = []
keys_from k (needed ∷ rest) = if needed then k ∷ keys_from (k + 1) rest else keys_from (k + 1) rest

-- each key after a space
abbrev pub keys_text : List ℕ → List ℕ
keys_text keys = flat_map (λ key. 32 ∷ decimal key) keys

-- `needs` and the keys rising, if there are any
abbrev pub needs_text : List Bool → List ℕ
needs_text needs =
    if list_any (λ needed. needed) needs then codes " needs" ++ keys_text (keys_from 0 needs)
    else []

-- the first line of a function
abbrev pub header : Routine → List ℕ
header r =
    codes "func " ++ r.name ++ codes " " ++ decimal r.args ++ needs_text r.needs ++ codes "\n"

-- the line of a label, if an instruction is named by another
abbrev pub label_line : Bool → ℕ → List ℕ
label_line true pc = label pc ++ codes ":\n"
label_line false pc = []

-- an instruction after two spaces
abbrev pub instr_line : Program → Instr → List ℕ
instr_line p instr = codes "  " ++ spelled p instr ++ codes "\n"

-- the lines of the instructions from pc on
abbrev pub code_lines : Program → List Instr → ℕ → List Instr → List ℕ
code_lines p code pc [] = []
code_lines p code pc (instr ∷ rest) =
    label_line (is_target code pc) pc ++ instr_line p instr ++ code_lines p code (pc + 1) rest

-- a function from its first line to `end`
abbrev pub function_lines : Program → Routine → List ℕ
function_lines p r = header r ++ code_lines p r.code 0 r.code ++ codes "end\n"

-- profile one needs no line
abbrev pub profile_line : Profile → List ℕ
profile_line One = []
profile_line Two = codes "profile 2\n"

-- the whole listing
abbrev pub listing : Program → List ℕ
listing p = profile_line p.profile ++ flat_map (function_lines p) p.routines
