use Rattle.std.proofs.Common.{◌≡◌, ◌<◌, ℕ, Some}
use Rattle.sts_records.specs.Pages.{page_of}
use Rattle.sts_records.specs.Slots.{births}
use Rattle.sts_records.proofs.pages.Pages.unused_page.Given as goal

-- each page so far has the cell of a record
abbrev pub invariant-loop-page : goal.invariant-loop-page
invariant-loop-page g l = (p : ℕ) → p < l.page → (k : ℕ) × (page_of l.self.offsets (births l.places.slots k) ≡ Some p)
