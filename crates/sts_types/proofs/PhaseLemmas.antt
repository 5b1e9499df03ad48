-- The phase of a scope in a structure list.
use Rattle.std.proofs.Common.{◌≡◌, List, [], ◌∷◌, length, drop, map, refl, arith}
use Rattle.std.specs.Prelude.{slice_index_or}
use Rattle.sts_rules.specs.declared.typing.TypedEntry.{TypedEntry}
use Rattle.sts_rules.specs.declared.typing.TypedEntry.TheVariants.{Binding}

-- a structure list of one entry
pub only_entry : (f : TypedEntry → TypedEntry) (entries : List TypedEntry) → length entries ≡ 1 → f (slice_index_or entries 0 (Binding 0)) ∷ drop 1 entries ≡ map f entries
only_entry f [] one = absurd (omega (arith, one))
only_entry f (entry ∷ []) one = refl
only_entry f (entry ∷ other ∷ entries) one = absurd (omega (arith, one))
