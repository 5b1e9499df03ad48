-- Whether the ends that were found are all ends (this project's own).
use Rattle.std.specs.Prelude.{◌≡◌, List, Bool, true}
use Rattle.laws_runs.specs.Runs.{NeverFaults}
use Rattle.ends_plain.specs.Ends.{AreAll}
use Rattle.ends_plain.specs.Listed.{ends_of}
use Rattle.ends_plain.specs.declared.config.Found.{Found}
use Rattle.ends_plain.specs.declared.config.Setting.{Setting}

-- each end of an allowed run is among these
abbrev pub AreAllOf : Setting → List Found → Type 0
AreAllOf g found = AreAll g.program g.expiries g.interrupts (ends_of found)

-- if the answer is true, and no run of the program faults, the end of each allowed run is there
abbrev pub AreWhole : Bool → Setting → List Found → Type 0
AreWhole whole g found = whole ≡ true → NeverFaults g.program → AreAllOf g found
