-- A table of greatest sums, each with the place before it on the way there (this project's own).
use Rattle.std.specs.Prelude.{◌≡◌, ℕ, ◌+◌, ◌*◌, ◌<◌, ◌≤◌, List, [], length, get_or, Option, Some}
use Rattle.std.specs.Prelude.{None, ◌||◌, is_none, nat_lt, if◌then◌else◌}
use Rattle.sts_code.specs.Program.{instr_at}
use Rattle.sts_rules.specs.Around.{around}
use Rattle.sts_rules.specs.ControlPaths.{Among}
use Rattle.sts_budget.specs.Ready.{head_in}
use Rattle.sts_budget.specs.Sums.{full}
use Rattle.sts_budget.specs.Table.{Passes}
use Rattle.look_refusal.specs.declared.search.Search.{Search}
use Rattle.look_refusal.specs.declared.trail.Best.{Best}
use Rattle.look_refusal.specs.declared.trail.Trail.{Trail}
use Rattle.sts_budget.specs.Handing.{turns_of}
use Rattle.look_refusal.specs.Search.{paths, flow, ends_turn, LeadsOn}

-- the greatest number of 128 bits
abbrev pub greatest_number : ℕ
greatest_number = 340282366920938463463374607431768211455

-- the entry if no way was found
abbrev pub no_way : Best
no_way = record { sum = 0; from = None }

-- the entry of the trail for a place and the first d entries
abbrev pub best_in : Trail → ℕ → ℕ → Best
best_in t pc d = get_or (get_or t.rows.items pc []) d (record { sum = 0; from = None })

abbrev pub sum_in : Trail → ℕ → ℕ → ℕ
sum_in t pc d = (get_or (get_or t.rows.items pc []) d (record { sum = 0; from = None })).sum

-- the sum over the first d entries after `turns` turns of the loop between these places, if it was
-- `before` at its `times`
abbrev pub looped : Search → (ℕ → ℕ → ℕ) → (head end turns before d : ℕ) → ℕ
looped s best head end turns before d =
    before + (flow s).added head d + turns * (best end d + (flow s).added end d)

-- the sum that the instruction at a place hands on over the first d entries; the end of a turn
-- hands on the sum of its loop
abbrev pub handed : Search → (ℕ → ℕ → ℕ) → ℕ → ℕ → ℕ
handed s best pc d =
    if ends_turn (instr_at s.code.now pc)
    then looped s best (head_in s.layout.now pc) pc
    (turns_of (instr_at s.code.now (head_in s.layout.now pc)))
    (best (head_in s.layout.now pc) d) d
    else best pc ((flow s).source pc d) + (flow s).added pc d

-- the new one of two if it adds more, otherwise the old one
abbrev pub better : Best → Best → Best
better old new = if is_none old.from || nat_lt old.sum new.sum then new else old

-- either no place below k leads there, or this place leads there, with this sum
abbrev pub IsFrom : Search → (ℕ → ℕ → ℕ) → (k pc d sum : ℕ) → Option ℕ → Type 0
IsFrom s best k pc d sum None = (sum ≡ 0) × ((q : ℕ) → q < k → LeadsOn s q pc → ⊥)
IsFrom s best k pc d sum (Some q) = (q < k) × LeadsOn s q pc × (sum ≡ handed s best q d)

-- the greatest sum that the places below k hand on to a place over the first d entries
pub record IsBest (s : Search) (best : ℕ → ℕ → ℕ) (k pc d : ℕ) (b : Best) : Type 0 where
  pub most : (q : ℕ) → q < k → LeadsOn s q pc → handed s best q d ≤ b.sum
  pub from : IsFrom s best k pc d b.sum b.from

-- a way from a place
abbrev pub way_from : Search → (ℕ → ℕ → ℕ) → ℕ → ℕ → Best
way_from s best from d = record { sum = handed s best from d; from = Some from }

-- either there is no place, or the way is from one of them, with this sum
abbrev pub IsFromOne : Search → (ℕ → ℕ → ℕ) → List ℕ → (d sum : ℕ) → Option ℕ → Type 0
IsFromOne s best places d sum None = (sum ≡ 0) × ((q : ℕ) → Among places q → ⊥)
IsFromOne s best places d sum (Some q) = Among places q × (sum ≡ handed s best q d)

-- the greatest sum that these places hand on over the first d entries
pub record IsBestOf (s : Search) (best : ℕ → ℕ → ℕ) (places : List ℕ) (d : ℕ) (b : Best) : Type 0
  where
    pub most : (q : ℕ) → Among places q → handed s best q d ≤ b.sum
    pub from : IsFromOne s best places d b.sum b.from

-- the row has the best of the ways from these places, over all open entries at this one
abbrev pub IsRowOf : Search → (ℕ → ℕ → ℕ) → List ℕ → ℕ → List Best → Type 0
IsRowOf s best places pc row =
    (d : ℕ) → d ≤ (flow s).depth pc → IsBestOf s best places d (get_or row d no_way)

-- the ways from one place are kept too
abbrev pub KeepsWays : Search → (ℕ → ℕ → ℕ) → (from to : ℕ) → (before after : List Best) → Type 0
KeepsWays s best from to before after =
    (d : ℕ) → d ≤ (flow s).depth to
    → get_or after d no_way ≡ better (get_or before d no_way) (way_from s best from d)

-- the row has the best of all open entries
abbrev pub IsRow : Search → (ℕ → ℕ → ℕ) → (k pc : ℕ) → List Best → Type 0
IsRow s best k pc row = (d : ℕ) → d ≤ (flow s).depth pc → IsBest s best k pc d (get_or row d no_way)

-- one that 128 bits don't hold
abbrev pub HandsTooMuch : Search → (ℕ → ℕ → ℕ) → (from to : ℕ) → Type 0
HandsTooMuch s best from to =
    (d : ℕ) × ((d ≤ (flow s).depth to) × (greatest_number < handed s best from d))

-- the first places have their rows
pub record IsBegun (s : Search) (k : ℕ) (t : Trail) : Type 0 where
  pub long : length t.rows.items ≡ k
  pub row : (pc : ℕ) → pc < k → IsRow s (sum_in t) pc pc (get_or t.rows.items pc [])

-- all places have
abbrev pub IsTrail : Search → Trail → Type 0
IsTrail s t = IsBegun s (length s.code.now) t

-- some path sums up to more than 128 bits hold
abbrev pub IsTooWide : Search → Type 0
IsTooWide s = Passes (paths s) (flow s) greatest_number

-- the full sum at a place, with each open loop in its last turn
abbrev pub full_in : Search → Trail → ℕ → ℕ
full_in s t pc = full (paths s) (flow s) (around s.code.now) (sum_in t) pc
