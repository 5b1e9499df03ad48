use Rattle.std.proofs.Common.{◌≡◌, true, false, sym, ◌∙◌}
use Rattle.ends_table.proofs.around.Around.attempted.Goals.{then-not-is_unseen-via-then-not-is_unseen, then-not-is_unseen-via-else-not-is_unseen+then-not-has_open}
use Rattle.ends_table.proofs.around.Around.attempted.Goals as goal

pub returns-then-not-is_unseen : goal.returns-then-not-is_unseen
returns-then-not-is_unseen c unseen some = elim c.then-not-is_unseen.branch [
  | then-not-is_unseen-via-then-not-is_unseen w ↦
      let never : true ≡ false = sym unseen ∙ sym c.is_unseen.ensures ∙ w.if-not-is_unseen.true in
      cc
  | then-not-is_unseen-via-else-not-is_unseen+then-not-has_open w ↦
      let never : true ≡ false = sym some ∙ sym w.has_open.ensures ∙ w.if-not-has_open.true in
      cc
]
