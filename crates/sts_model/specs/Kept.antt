-- The slots and entries of a frame, and the bytes that they are kept as.
use Rattle.std.specs.Int.{w32, w64, cast_signed, cast_unsigned, from_le_bytes, to_le_bytes}
use Rattle.sts_model.specs.declared.kept.SlotBytes.{SlotBytes}
use Rattle.sts_model.specs.declared.kept.SlotBytes.TheVariants as kept
use Rattle.sts_model.specs.declared.kept.EntryBytes.{EntryBytes}
use Rattle.sts_model.specs.declared.kept.EntryBytes.TheVariants as listed
use Rattle.sts_model.specs.declared.record.Slot.{Slot}
use Rattle.sts_model.specs.declared.record.Slot.TheVariants.{Empty, Own, Lent, Sub}
use Rattle.sts_model.specs.declared.record.Entry.{Entry}
use Rattle.sts_model.specs.declared.record.Entry.TheVariants.{Scope, Binding}

abbrev pub slot : SlotBytes → Slot
slot kept.Empty = Empty
slot (kept.Own s) = Own (from_le_bytes w32 s)
slot (kept.Lent s) = Lent (from_le_bytes w32 s)
slot (kept.Sub t) = Sub (from_le_bytes w32 t)

abbrev pub slot_bytes : Slot → SlotBytes
slot_bytes Empty = kept.Empty
slot_bytes (Own s) = kept.Own (to_le_bytes w32 s)
slot_bytes (Lent s) = kept.Lent (to_le_bytes w32 s)
slot_bytes (Sub t) = kept.Sub (to_le_bytes w32 t)

abbrev pub entry : EntryBytes → Entry
entry (listed.Scope s) = Scope (from_le_bytes w32 s)
entry (listed.Binding key value) = Binding key (cast_signed w64 (from_le_bytes w64 value))

abbrev pub entry_bytes : Entry → EntryBytes
entry_bytes (Scope s) = listed.Scope (to_le_bytes w32 s)
entry_bytes (Binding key value) = listed.Binding key (to_le_bytes w64 (cast_unsigned w64 value))
