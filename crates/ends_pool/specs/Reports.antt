-- The end that a run by workers reports, among all ends (this project's own).
use Rattle.std.specs.Prelude.{ℕ, Bool, List}
use Rattle.std.specs.List.{Contains}
use Rattle.sts_code.specs.Program.{Program}
use Rattle.sts_model.specs.declared.event.End.{End}
use Rattle.sts_model.specs.declared.event.Event.{Event}
use Rattle.sts_plain.specs.declared.misstep.PlainState.{PlainState}
use Rattle.sts_plain.specs.declared.misstep.PlainState.TheVariants.{Ended}
use Rattle.sts_pool.specs.Report.{IsReport}
use Rattle.ends_plain.specs.Ends.{AreAll, IsAllowed}

-- If these are all ends of a program, the end that a run of it reports is among them. The journal
-- of the run has no more interrupts than were searched, and expiries only if those were searched.
abbrev pub ReportsAreEnds : Type 0
ReportsAreEnds =
    (p : Program) (may_expire : Bool) (most : ℕ) (ends : List PlainState)
    → AreAll p may_expire most ends → (journal : List Event) (end : End) → IsReport p journal end
    → IsAllowed may_expire most journal → Contains ends (Ended end)
