-- The records by birth, as the keys of births and the entries have them (this project's own).
use Rattle.std.specs.Prelude.{◌≡◌, ◌<◌, ℕ, suc, List, [], ◌∷◌, Option, Some, None, nat_eq}
use Rattle.std.specs.Prelude.{if◌then◌else◌, length, slice_index_or}
use Rattle.sts_records.specs.Places.{Entry}

-- the body of an entry, if it is that of this birth
abbrev pub body_of : {T : Type 0} → ℕ → Option (Entry T) → Option T
body_of b None = None
body_of b (Some e) = if nat_eq e.birth b then Some e.body else None

-- the record at each birth from b on, for these keys
abbrev pub slots : {T : Type 0} → ℕ → List ℕ → List (Option (Entry T)) → List (Option T)
slots b [] entries = []
slots b (k ∷ keys) entries = body_of b (slice_index_or entries k None) ∷ slots (suc b) keys entries

abbrev pub birth_of : {T : Type 0} → Option (Entry T) → Option ℕ
birth_of None = None
birth_of (Some e) = Some e.birth

-- the birth of the record at each key
abbrev pub births : {T : Type 0} → List (Option (Entry T)) → ℕ → Option ℕ
births entries key = birth_of (slice_index_or entries key None)

-- each record is at the key that its birth was given
abbrev pub AreGiven : List ℕ → (ℕ → Option ℕ) → Type 0
AreGiven keys at =
    (key b : ℕ) → at key ≡ Some b → (b < length keys) × (slice_index_or keys b 0 ≡ key)
