-- Pages: each has the cells of one block of births, with the keys of their records (this project's
-- own).
use Rattle.std.specs.Prelude.{◌≡◌, ◌≢◌, ◌+◌, ◌-◌, ◌*◌, ◌/◌, ◌<◌, ◌≤◌, ◌⊎◌, ℕ}
use Rattle.std.specs.Prelude.{List, length, Option, Some, None, slice_index_or, vec_capacity}
use Rattle.sts_records.specs.declared.pages.Pages.{Pages}

-- a record of a new birth comes at this key, where each key has the birth of its record
pub record Comes (old new : ℕ → Option ℕ) (key birth : ℕ) : Type 0 where
  pub was : old key ≡ None
  pub is : new key ≡ Some birth
  pub others : (k : ℕ) → k ≢ key → new k ≡ old k
  pub fresh : (k b : ℕ) → old k ≡ Some b → b ≢ birth

-- the record of this birth goes, which is at this key
pub record Goes (old new : ℕ → Option ℕ) (key birth : ℕ) : Type 0 where
  pub was : old key ≡ Some birth
  pub gone : new key ≡ None
  pub others : (k : ℕ) → k ≢ key → new k ≡ old k

-- where the page of a block begins, and what is added to each such place
abbrev pub start_of : List ℕ → ℕ → ℕ
start_of offsets block = slice_index_or offsets block 0 + 4096 * block

-- the cell of a birth
abbrev pub cell_of : List ℕ → ℕ → ℕ
cell_of offsets birth = slice_index_or offsets (birth / 4096) 0 + birth - 1003520

-- the page with the cell of a birth
abbrev pub page_of : List ℕ → Option ℕ → Option ℕ
page_of offsets None = None
page_of offsets (Some birth) = Some (cell_of offsets birth / 4096)

-- a block has a page, and its cells are there
pub record HasPage (offsets cells : List ℕ) (block : ℕ) : Type 0 where
  pub page : ℕ
  pub start : start_of offsets block ≡ 4096 * page + 1003520
  pub inside : 4096 * page + 4096 ≤ length cells

-- the cell of a birth has its key, and isn't in the page of the latest block, if the birth is of an
-- earlier one
pub record IsKept (offsets cells : List ℕ) (latest key birth : ℕ) : Type 0 where
  pub begun : birth / 4096 ≤ latest
  pub cell : slice_index_or cells (cell_of offsets birth) 0 ≡ key
  pub apart : birth / 4096 ≢ latest → start_of offsets (birth / 4096) ≢ start_of offsets latest

-- pages have the keys of these records, up to this block
pub record KeepsKeys (p : Pages) (latest : ℕ) (at : ℕ → Option ℕ) : Type 0 where
  pub page : (block : ℕ) → block ≤ latest → HasPage p.offsets p.cells.items block
  pub kept : (key birth : ℕ) → at key ≡ Some birth
      → IsKept p.offsets p.cells.items latest key birth
  pub own : p.pages ≡ 245 → (block : ℕ) → block ≤ latest
      → slice_index_or p.offsets block 0 ≡ 1003520
  pub reserved : 4096 * p.pages ≤ vec_capacity p.cells
  pub few : p.pages ≤ 245
  pub below : latest < 245
  pub long : length p.offsets ≡ 245

-- there are more pages than records will ever be at once, or as many as there will ever be blocks
abbrev pub HasPagesFor : Pages → ℕ → Type 0
HasPagesFor p records = (records < p.pages) ⊎ (p.pages ≡ 245)

-- the new list begins with the old one
pub record Extends (old new : List ℕ) : Type 0 where
  pub long : length old ≤ length new
  pub same : (i : ℕ) → i < length old → slice_index_or new i 0 ≡ slice_index_or old i 0
