-- An object whose members are chosen is one of two objects.
use Rattle.std.proofs.Common.{◌≡◌, Bool, true, false, if◌then◌else◌, refl}
use Rattle.serde_json.specs.Data.{Members, object}

pub stands_as : (b : Bool) (x y : Members) → object (if b then x else y) ≡ (if b then object x else object y)
stands_as true x y = refl
stands_as false x y = refl
