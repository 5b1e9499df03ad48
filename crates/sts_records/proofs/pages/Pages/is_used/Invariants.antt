use Rattle.std.proofs.Common.{◌≢◌, ◌<◌, ℕ, Some}
use Rattle.sts_records.specs.Pages.{page_of}
use Rattle.sts_records.specs.Slots.{births}
use Rattle.sts_records.proofs.pages.Pages.is_used.Given as goal

-- no record so far has its cell in this page
abbrev pub invariant-loop-key : goal.invariant-loop-key
invariant-loop-key g l = (k : ℕ) → k < l.key → page_of l.self.offsets (births l.places.slots k) ≢ Some l.page
