use Rattle.std.proofs.Common.{◌≡◌, ℕ, Bool, true, false, ap, ◌∙◌}
use Rattle.laws_calls.specs.declared.table.Part.{Part}
use Rattle.laws_calls.specs.declared.table.Seen.{Seen}
use Rattle.laws_calls.specs.Steps.{settled, parts_with, kept, split, told}
use Rattle.ends_table.specs.Led.{noted, of_kind}
use Rattle.ends_table.proofs.parts.told.Goals as goal

told_by : (succeeds counting : Bool) (seen after : Seen) (i : ℕ) (part found : Part) → after ≡ parts_with seen i found → found ≡ kept (split seen.joiner counting (of_kind succeeds)) part → settled (noted succeeds after) ≡ told (noted succeeds seen) i part counting (of_kind succeeds)
told_by true counting seen after i part found e f = ap (λ (x : Seen). settled (noted true x)) (e ∙ ap (λ (y : Part). parts_with seen i y) f)
told_by false counting seen after i part found e f = ap (λ (x : Seen). settled (noted false x)) (e ∙ ap (λ (y : Part). parts_with seen i y) f)

pub returns : goal.returns
returns c =
    let k = c.args.known in
    c.settled.ensures ∙ ap settled c.noted.ensures ∙ told_by c.args.kind.succeeds c.args.kind.counting k.seen.now c.in_ok-after.after
    k.i k.part.now c.in_ok-part.part c.in_ok-after.ensures c.in_ok-part.ensures
