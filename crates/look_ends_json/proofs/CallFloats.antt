-- No line of the ends of calls has a float, so its text is known byte for byte.
use Rattle.std.proofs.Common.{◌≡◌, ℕ, List, Option, Bool, false, refl}
use Rattle.std.specs.Prelude.{codes}
use Rattle.std.proofs.lemmas.Bool.{or_from}
use Rattle.serde_json.specs.Written.{has_float}
use Rattle.sts_code.specs.Program.{Program}
use Rattle.look_calls.specs.declared.found.CallEnd.{CallEnd}
use Rattle.look_cases.proofs.FloatLemmas.{maybe_plain}
use Rattle.look_names.specs.Names.{function_name}
use Rattle.look_views.proofs.NamedFloatLemmas.{integers_plain, named_plain}
use Rattle.look_ends_json.proofs.EndFloats.{ended_plain}
use Rattle.look_ends_json.specs.Calls as def

call_plain : (text : List ℕ) (p : Program) (place : ℕ) (c : CallEnd) → has_float (def.call text p place c) ≡ false
call_plain text p place c = or_from _ _ (integers_plain c.arguments.items) (or_from _ _ (ended_plain text c.end) refl)

pub call_end_plain : (text : List ℕ) (p : Program) (place : ℕ) (c : CallEnd) → has_float (def.call_end text p place c) ≡ false
call_end_plain text p place c = named_plain (codes "function_name") (function_name text c.function) (def.call text p place c) (call_plain text p place c)

pub calls_plain : (is_refused : Bool) (states : ℕ) (is_cut_off : Bool) (no_end : Option ℕ) → has_float (def.calls is_refused states is_cut_off no_end) ≡ false
calls_plain is_refused states is_cut_off no_end = or_from _ _ (maybe_plain no_end) refl
