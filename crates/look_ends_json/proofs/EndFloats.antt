-- No line of ends has a float, so its text is known byte for byte.
use Rattle.std.proofs.Common.{◌≡◌, ℕ, List, Option, Bool, false, refl}
use Rattle.std.proofs.lemmas.Bool.{or_from}
use Rattle.serde_json.specs.Written.{has_float}
use Rattle.sts_code.specs.Program.{Program}
use Rattle.sts_model.specs.declared.event.End.{End}
use Rattle.sts_model.specs.declared.event.End.TheVariants.{Success, Failed}
use Rattle.sts_model.specs.declared.event.Fault.{Fault}
use Rattle.sts_plain.specs.declared.misstep.PlainState.{PlainState}
use Rattle.sts_plain.specs.declared.misstep.PlainState.TheVariants as plain
use Rattle.ends_plain.specs.declared.config.Found.{Found}
use Rattle.look_cases.proofs.FloatLemmas.{integer_plain, maybe_plain}
use Rattle.look_names.specs.Names.{value_name}
use Rattle.look_views.specs.Named.{line_at}
use Rattle.look_views.proofs.NamedFloatLemmas.{named_plain, placed_plain}
use Rattle.look_ends_json.specs.Ends as def
use Rattle.look_ends_json.specs.Outcome.{ended}

-- ---- an end

pub ended_plain : (text : List ℕ) (end : End) → has_float (ended text end) ≡ false
ended_plain text (Success v) = named_plain _ (value_name text v) _ (or_from _ _ (integer_plain v) refl)
ended_plain text (Failed c) = named_plain _ (value_name text c) _ (or_from _ _ (integer_plain c) refl)

faulted_plain : (text : List ℕ) (p : Program) (kind : Fault) (t f pc : ℕ) → has_float (def.faulted text p kind t f pc) ≡ false
faulted_plain text p kind t f pc = or_from _ _ (maybe_plain (line_at text f pc)) refl

run_plain : (text : List ℕ) (p : Program) (state : PlainState) → has_float (def.run text p state) ≡ false
run_plain text p plain.Running = refl
run_plain text p (plain.Ended end) = ended_plain text end
run_plain text p (plain.Fault kind t f pc) = placed_plain text f pc _ (faulted_plain text p kind t f pc)

pub found_end_plain : (text : List ℕ) (p : Program) (place : ℕ) (f : Found) → has_float (def.found_end text p place f) ≡ false
found_end_plain text p place f = or_from _ _ (run_plain text p f.end) refl

pub sampled_end_plain : (text : List ℕ) (p : Program) (place : ℕ) (f : Found) (times : ℕ) → has_float (def.sampled_end text p place f times) ≡ false
sampled_end_plain text p place f times = or_from _ _ (run_plain text p f.end) refl

-- ---- the last line

pub search_plain : (is_refused : Bool) (states : ℕ) (whole : Bool) (by_calls no_end : Option ℕ) → has_float (def.search is_refused states whole by_calls no_end) ≡ false
search_plain is_refused states whole by_calls no_end = or_from _ _ (maybe_plain by_calls) (or_from _ _ (maybe_plain no_end) refl)

pub sample_plain : (schedules seed unfinished : ℕ) (no_end : Option ℕ) → has_float (def.sample schedules seed unfinished no_end) ≡ false
sample_plain schedules seed unfinished no_end = or_from _ _ (maybe_plain no_end) refl
