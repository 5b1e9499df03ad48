-- The sums that a place hands on to the places after its instruction (this project's own).
use Rattle.std.specs.Prelude.{ℕ, ◌+◌, ◌-◌, ◌*◌, List, get_or, slice_set, Option, Some, None, Bool}
use Rattle.std.specs.Prelude.{true, false}
use Rattle.sts_code.specs.declared.instr.Instr.{Instr}
use Rattle.sts_code.specs.declared.instr.Instr.TheVariants.{Times, Next, Open, Fork, Close, Bind, Ret, Fail}
use Rattle.sts_code.specs.Program.{instr_at}
use Rattle.sts_rules.specs.declared.budget.Budgets.{Budgets}
use Rattle.sts_budget.specs.declared.change.Resource.{Resource}
use Rattle.sts_budget.specs.declared.layout.Layout.{Layout}
use Rattle.sts_budget.specs.Change.{source_of, added_of, change_of, depth_of, own_step}
use Rattle.sts_budget.specs.Ready.{names_in, head_in}

-- nothing is handed on at the end of a path, nor at a `times`, after which sums begin again
abbrev pub is_quiet : Instr → Bool
is_quiet (Times n) = true
is_quiet Ret = true
is_quiet Fail = true
is_quiet _ = false

-- it counts one step, and changes no other sum
abbrev pub is_ordinary : Instr → Bool
is_ordinary Next = false
is_ordinary (Open slot timed joiner) = false
is_ordinary (Bind key) = false
is_ordinary (Fork slot function handle) = false
is_ordinary (Close slot) = false
is_ordinary _ = true

-- the most turns of a loop
abbrev pub turns_of : Instr → ℕ
turns_of (Times n) = n
turns_of _ = 0

-- the sum over the first d that the instruction at pc hands on
abbrev pub value_by : Resource → List Budgets → List Instr → Layout → (ℕ → ℕ → ℕ) → ℕ → Instr → ℕ
    → ℕ
value_by k earlier code l best pc Next d =
    best (head_in l pc) d + own_step k
    + turns_of (instr_at code (head_in l pc)) * (best pc d + own_step k)
value_by k earlier code l best pc i d =
    best pc (source_of (change_of k earlier i (names_in l pc)) (depth_of k (names_in l pc)) d)
    + added_of (change_of k earlier i (names_in l pc)) (depth_of k (names_in l pc)) d

abbrev pub handed_value : Resource → List Budgets → List Instr → Layout → (ℕ → ℕ → ℕ) → ℕ → ℕ → ℕ
handed_value k earlier code l best pc d = value_by k earlier code l best pc (instr_at code pc) d

-- the greatest sum before the last turn of the loop of this head, or 0 outside of loops
abbrev pub base_of : List ℕ → Option ℕ → ℕ
base_of bases None = 0
base_of bases (Some h) = get_or bases h 0

-- a `times` at pc opens a loop
abbrev pub bases_after : Instr → (pc own full end : ℕ) → List ℕ → List ℕ
bases_after (Times n) pc own full end bases =
    slice_set bases pc (full + own + (n - 1) * (end + own))
bases_after _ pc own full end bases = bases
