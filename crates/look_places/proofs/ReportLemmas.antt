-- A report of a refusal.
use Rattle.std.proofs.Common.{◌≢◌, ℕ, List, ap}
use Rattle.sts_code.specs.Program.{Program}
use Rattle.sts_text.specs.Words.{lines}
use Rattle.sts_output.specs.Output.{Output}
use Rattle.sts_rules.specs.Refusal.{IsRefusal}
use Rattle.sts_rules.specs.declared.typing.Cause.{Cause}
use Rattle.look_refusal.specs.Output.{IsExplanation}
use Rattle.look_places.specs.Marks.{Source, line_of}
use Rattle.look_places.specs.Faults.{refusal_code}
use Rattle.look_places.specs.Reports.{AddsWays, IsRefused, added, reported}

pub refused_as : (s : Source) (p : Program) (f pc : ℕ) (c : Cause) (told : Output) (bytes : List ℕ) → IsRefusal p f pc c → IsExplanation s.text told → told.status ≢ 6
    → AddsWays s p f pc c (reported s (line_of s f pc) (refusal_code c) (lines told.bytes)) bytes → IsRefused s p (record { bytes = bytes; status = 4 })
refused_as s p f pc c told bytes r words whole (added ways is e) = record {
  function = f;
  place = pc;
  cause = c;
  explained = told;
  ways = ways;
  refusal = r;
  words = words;
  whole = whole;
  meeting = is;
  printed = ap (λ (b : List ℕ). record { bytes = b; status = 4 }) e;
}
