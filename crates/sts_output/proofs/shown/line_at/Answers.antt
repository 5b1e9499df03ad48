use Rattle.std.proofs.Common.{◌≡◌, ◌-◌, arith, rules, tests, subst, slice_get}
use Rattle.std.specs.Option.{option_copied}
use Rattle.std.proofs.lemmas.Iterator.Consumers.{nth_from_yields_List}
use Rattle.std.proofs.lemmas.Iterator.Splits.{YieldsList-from_slice_split}
use Rattle.sts_text.specs.Words.{lines}
use Rattle.sts_output.proofs.shown.line_at.Goals as goal

pub returns : goal.returns
returns c =
    let before : c.saturating_sub.result ≡ c.args.number - 1 = omega (arith, c.saturating_sub.ensures) in
    subst (λ n. option_copied c.nth.result ≡ slice_get (lines c.args.text.now) n) before
    (nth_from_yields_List _ _ c.saturating_sub.result c.nth.ensures.ran (YieldsList-from_slice_split _ _ c.args.text.now
    c.split.ensures.rest c.split.ensures.done c.split.ensures.closure (λ x r q k. search (rules, tests))))
