-- What contracts see of records at keys (this project's own).
use Rattle.std.specs.Prelude.{◌≡◌, ◌≢◌, ◌+◌, ◌≤◌, ℕ, List, Option, None, is_some, count_by, refl}
use Rattle.std.specs.Prelude.{slice_index_or}
use Rattle.std.specs.Coded.{Coded, code_by, coded×, coded_ℕ, coded_list, coded_option}

-- a record with its birth
pub record Entry (T : Type 0) : Type 0 where
  pub birth : ℕ
  pub body : T

-- the record at each key, with a hole for each key without one; how many records fit at once
pub record Places (T : Type 0) : Type 0 where
  pub slots : List (Option (Entry T))
  pub capacity : ℕ

abbrev pub entry_code : {T : Type 0} → Coded T → Coded (Entry T)
entry_code {T} code =
    code_by (ℕ × T) (coded× coded_ℕ code) (λ e. (e.birth, e.body))
    (λ p. record { birth = p.0; body = p.1 }) (λ _. refl)

abbrev pub places_code : {T : Type 0} → Coded T → Coded (Places T)
places_code {T} code =
    code_by (List (Option (Entry T)) × ℕ)
    (coded× (coded_list (coded_option (entry_code code))) coded_ℕ)
    (λ p. (p.slots, p.capacity))
    (λ p. record { slots = p.0; capacity = p.1 })
    (λ _. refl)

module _ {T : Type 0} where
  -- the record at a key
  abbrev pub get : Places T → ℕ → Option (Entry T)
  get p key = slice_index_or p.slots key None

  -- how many keys have a record
  abbrev pub filled : Places T → ℕ
  filled p = count_by is_some p.slots

  -- this number of records more fit
  abbrev pub HasRoomFor : Places T → ℕ → Type 0
  HasRoomFor p more = filled p + more ≤ p.capacity

  -- the key has this now, and each other key keeps what it had
  pub record Updates (old new : Places T) (key : ℕ) (slot : Option (Entry T)) : Type 0 where
    pub changed : get new key ≡ slot
    pub others : (other : ℕ) → other ≢ key → get new other ≡ get old other
