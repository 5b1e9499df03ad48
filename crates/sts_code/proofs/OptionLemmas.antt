-- What may be missing, and is.
use Rattle.std.proofs.Common.{◌≡◌, true, Option, Some, None, is_none, refl}
use Rattle.std.specs.Option.{option_or}

pub or_none : {A : Type 0} (o : Option A) → option_or o None ≡ o
or_none None = refl
or_none (Some x) = refl

pub is_nothing : {A : Type 0} (o : Option A) → is_none o ≡ true → o ≡ None
is_nothing None e = refl
is_nothing (Some x) e = cc
