-- No line of a story has a float.
use Rattle.std.proofs.Common.{◌≡◌, ℕ, List, Option, Some, None, false, refl}
use Rattle.std.specs.List.{after_first, before_first}
use Rattle.serde_json.specs.Written.{has_float}
use Rattle.sts_model.specs.declared.event.Event.{Event}
use Rattle.sts_text.specs.Number.{digits_up_to}
use Rattle.sts_text.specs.Words.{is_space}
use Rattle.look_json.specs.Stories as def

told_by_plain : (e : Option Event) (n : ℕ) (words whole : List ℕ) → has_float (def.told_by e n words whole) ≡ false
told_by_plain None n words whole = refl
told_by_plain (Some e) n words whole = refl

numbered_plain : (events : List Event) (n : Option ℕ) (words whole : List ℕ) → has_float (def.numbered events n words whole) ≡ false
numbered_plain events None words whole = refl
numbered_plain events (Some n) words whole = told_by_plain (def.event_at events n) n words whole

pub told_plain : (events : List Event) (whole : List ℕ) → has_float (def.told events whole) ≡ false
told_plain events whole = numbered_plain events (digits_up_to 4294967295 (before_first is_space whole)) (after_first is_space whole) whole
