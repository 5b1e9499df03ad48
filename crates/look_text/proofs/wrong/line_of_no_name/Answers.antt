use Rattle.std.proofs.Common.{rules, ◌≡◌, ◌<◌, length, true, List, subst}
use Rattle.std.specs.Prelude.{is_some}
use Rattle.sts_asm.specs.Outline.{Sentence}
use Rattle.sts_asm.specs.Source.{names_at}
use Rattle.look_text.specs.Names.{line_stop}
use Rattle.look_text.specs.Wrong.{StopsAt}
use Rattle.look_text.proofs.NameLineLemmas.{stops_at}
use Rattle.look_text.proofs.wrong.line_of_no_name.Goals as goal

pub returns-then-names_nothing : goal.returns-then-names_nothing
returns-then-names_nothing c =
    let names = names_at c.args.outline.now c.args.function in
    let lines = c.sentences-sentence-items.result.now in
    let s = c.sentence-item.result in
    let i = c.loop-sentence.sentence-index in
    let small : i < length lines = search rules in
    let some : is_some (line_stop names s.words) ≡ true = search rules in
    subst (λ (xs : List Sentence). StopsAt names xs s) c.sentences-sentence-items.ensures
    (stops_at names lines i s small c.sentence-item.is c.loop-sentence.invariant some)
