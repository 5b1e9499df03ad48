-- The marks of a scope (this project's own).
use Rattle.std.specs.Prelude.{true}
use Rattle.sts_tree.specs.declared.record.Mark.{Mark}
use Rattle.sts_tree.specs.declared.record.Mark.TheVariants.{Cancelled, Expired}
use Rattle.sts_tree.specs.declared.record.ScopeNode.{ScopeNode}

abbrev pub with_mark : {E : Type 0} → Mark → ScopeNode E → ScopeNode E
with_mark Cancelled c = record c { cancelled = true }
with_mark Expired c = record c { expired = true }
