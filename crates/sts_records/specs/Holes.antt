-- What contracts see of records by birth (this project's own).
use Rattle.std.specs.Prelude.{ℕ, List, Option, Some, None, refl, is_some, if◌then◌else◌}
use Rattle.std.specs.Prelude.{slice_index_or}
use Rattle.std.specs.Coded.{Coded, code_by, coded×, coded_ℕ, coded_list, coded_option}

-- the records by birth, with a hole for each that was discarded; the key that each birth was given;
-- how many more fit
pub record Holes (T : Type 0) : Type 0 where
  pub slots : List (Option T)
  pub keys : List ℕ
  pub room : ℕ

abbrev pub holes_code : {T : Type 0} → Coded T → Coded (Holes T)
holes_code {T} code =
    code_by (List (Option T) × (List ℕ × ℕ))
    (coded× (coded_list (coded_option code)) (coded× (coded_list coded_ℕ) coded_ℕ))
    (λ h. (h.slots, (h.keys, h.room)))
    (λ p. record { slots = p.0; keys = p.1.0; room = p.1.1 })
    (λ _. refl)

-- the key of the record of a birth, or none if there is no record
abbrev pub key_at : {T : Type 0} → List (Option T) → List ℕ → ℕ → Option ℕ
key_at slots keys b =
    if is_some (slice_index_or slots b None) then Some (slice_index_or keys b 0) else None
