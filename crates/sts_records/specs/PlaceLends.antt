-- The records at keys after a `&mut` to one of them was returned and has ended (this project's
-- own).
use Rattle.std.specs.Prelude.{ℕ, Option, Some, None, slice_set}
use Rattle.std.specs.Borrow.{Lends, Fml, RattleType, MutBor}
use Rattle.sts_records.specs.Places.{Entry, Places, get}
use Rattle.sts_records.specs.contracts.places.Places.{the_row}

-- the record of the same birth with this body
abbrev pub with_body : {T : Type 0} → Option (Entry T) → T → Option (Entry T)
with_body None body = None
with_body (Some e) body = Some (record { birth = e.birth; body = body })

abbrev pub with_body_at : {T : Type 0} → Places T → ℕ → T → Places T
with_body_at p key body = record p { slots = slice_set p.slots key (with_body (get p key) body) }

-- once the borrow r ends, the record at this key is the last value written through r
abbrev pub lends_body : (T : RattleType) → MutBor (Places T.Denot) → ℕ → MutBor T.Denot → Fml
lends_body T p key r = Lends (the_row T) T p r (with_body_at p.now key)
