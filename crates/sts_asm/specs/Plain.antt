-- Classes of bytes (this project's own).
use Rattle.std.specs.Prelude.{ℕ, Bool}
use Rattle.sts_asm.specs.declared.plain.Class.{Class}
use Rattle.sts_asm.specs.declared.plain.Class.TheVariants.{Plain, Allowed}
use Rattle.sts_asm.specs.Outline.{is_plain, is_allowed}

-- is a byte in the class?
abbrev pub is_in : Class → ℕ → Bool
is_in Plain b = is_plain b
is_in Allowed b = is_allowed b
