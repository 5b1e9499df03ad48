-- The records by birth after a `&mut` to one of them was returned and has ended (this project's
-- own).
use Rattle.std.specs.Prelude.{ℕ, Some, slice_set}
use Rattle.std.specs.Borrow.{Lends, Fml, RattleType, MutBor}
use Rattle.sts_records.specs.Holes.{Holes}
use Rattle.sts_records.specs.contracts.held.Held.{the_row}

abbrev pub with_body : {T : Type 0} → Holes T → ℕ → T → Holes T
with_body h birth body = record h { slots = slice_set h.slots birth (Some body) }

-- once the borrow r ends, the record of this birth is the last value written through r
abbrev pub lends_slot : (T : RattleType) → MutBor (Holes T.Denot) → ℕ → MutBor T.Denot → Fml
lends_slot T h birth r = Lends (the_row T) T h r (with_body h.now birth)
