-- The open entries by their names only (this project's own).
use Rattle.std.specs.Prelude.{◌≡◌, ℕ, ◌<◌, ◌≤◌, ◌⊎◌, List, [], ◌∷◌, length, drop, Option, Some}
use Rattle.std.specs.Prelude.{None, slice_index_or}
use Rattle.sts_code.specs.declared.instr.Instr.{Instr}
use Rattle.sts_code.specs.declared.limits.TheConstants.{MAX_ENTRIES}
use Rattle.sts_code.specs.declared.instr.Instr.TheVariants.{Open, Fork, Close, Bind, Unbind}
use Rattle.sts_types.specs.Arrivals.{none}
use Rattle.sts_types.specs.Typing.{Typing}

-- the names of the open entries, the innermost first: a scope's name is its slot, and a binding has
-- none
abbrev pub EntryNames : Type 0
EntryNames = List (Option ℕ)

-- the names after an instruction
abbrev pub names_after : Instr → EntryNames → EntryNames
names_after (Open slot timed joiner) ns = Some slot ∷ ns
names_after (Bind key) ns = None ∷ ns
names_after (Close slot) ns = drop 1 ns
names_after Unbind ns = drop 1 ns
names_after _ ns = ns

-- is there a scope in this slot among them?
abbrev pub HasScope : ℕ → EntryNames → Type 0
HasScope slot [] = ⊥
HasScope slot (n ∷ ns) = (n ≡ Some slot) ⊎ HasScope slot ns

-- a close has an entry to close, and a fork an open scope in its slot
abbrev pub FitsNames : Instr → EntryNames → Type 0
FitsNames (Close slot) ns = 0 < length ns
FitsNames Unbind ns = 0 < length ns
FitsNames (Fork slot function handle) ns = HasScope slot ns
FitsNames _ ns = Unit {0}

-- no place has more open entries than this number, which is at most the limit
abbrev pub IsDeepest : Typing → ℕ → Type 0
IsDeepest t deepest =
    ((pc : ℕ) → length (slice_index_or t.states pc none).entries ≤ deepest)
    × (deepest ≤ MAX_ENTRIES)
