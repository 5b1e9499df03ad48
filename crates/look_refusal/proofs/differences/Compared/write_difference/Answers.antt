use Rattle.std.proofs.Common.{◌≡◌, true}
use Rattle.std.specs.Prelude.{Result, Ok, Err, OnOk}
use Rattle.std.specs.String.{string_bytes}
use Rattle.look_refusal.specs.Differences.{way_words}
use Rattle.look_refusal.proofs.PartLemmas.{same_said, line_said}
use Rattle.look_refusal.proofs.differences.Compared.write_difference.Goals as goal

pub returns-then-is_same_part : goal.returns-then-is_same_part
returns-then-is_same_part c =
    let t = c.args.self.now in
    let m = t.meeting.now in
    same_said m (way_words t m.one) (way_words t m.other) c.args.part (string_bytes c.args.out.now) (c.is_same_part.ensures.0 c.if-is_same_part.true)

from_both : {T E P Q S : Type 0} (r : Result T E) → (P → Q → S) → OnOk r P → OnOk r Q → OnOk r S
from_both (Ok x) f p q = f p q
from_both (Err e) f p q = tt

pub returns : goal.returns
returns c =
    let t = c.args.self.now in
    let m = t.meeting.now in
    from_both c.write_line.result
    (line_said m (way_words t m.one) (way_words t m.other) c.args.part (string_bytes c.args.out.now) (string_bytes c.write_line.new.out)
    (λ same. let yes : c.is_same_part.result ≡ true = c.is_same_part.ensures.1 same in absurd (cc)))
    c.write_line.ensures.held c.write_line.ensures.line
