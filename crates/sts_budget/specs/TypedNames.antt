-- The names of the open entries in a typestate (this project's own).
use Rattle.std.proofs.Common.{ℕ, List, map, Option, Some, None}
use Rattle.sts_rules.specs.declared.typing.TypedEntry.{TypedEntry}
use Rattle.sts_rules.specs.declared.typing.TypedEntry.TheVariants.{Scope, Binding}
use Rattle.sts_budget.specs.Layout.{EntryNames}

abbrev pub name_of : TypedEntry → Option ℕ
name_of (Scope r) = Some r.slot
name_of (Binding k) = None

-- the names of the entries of a typestate
abbrev pub names : List TypedEntry → EntryNames
names es = map name_of es
