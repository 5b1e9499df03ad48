use Rattle.std.proofs.Common.{rules, ◌≡◌, ℕ, List, Option, None, Bool, sym, ap, ◌∙◌}
use Rattle.std.specs.Prelude.{find}
use Rattle.std.specs.Option.{option_or}
use Rattle.sts_text.specs.Words.{lines}
use Rattle.sts_asm.specs.Marks.{Names}
use Rattle.sts_asm.specs.Source.{names_at}
use Rattle.look_text.specs.Near.{is_near}
use Rattle.look_text.specs.NearName.{listed, name_given, names_given}
use Rattle.look_text.proofs.NearNameLemmas.{given_more}
use Rattle.look_text.proofs.near_name.first_near.Goals as goal

pub returns-in-Some-near_given : goal.returns-in-Some-near_given
returns-in-Some-near_given c =
    let l = c.loop-after in
    let p : List ℕ → Bool = is_near c.args.nearness c.args.word.now in
    let names : Names = names_at c.args.place.outline.now c.args.place.function in
    let later : Option (List ℕ) = find p (names_given names c.args.place.wanted (lines c.in-Some.after.now)) in
    let more = given_more p names c.args.place.wanted l.rest.now c.in-Some.field-0-0.now c.in-Some.after.now c.words_at.result
    c.in-Some.ensures.lines c.words_at.ensures in
    ap (λ (o : Option (List ℕ)). option_or o later) c.in-Some-near_given.ensures ∙ sym more ∙ l.invariant

pub loop-after-preserved : goal.loop-after-preserved
loop-after-preserved c =
    let l = c.loop-after in
    let p : List ℕ → Bool = is_near c.args.nearness c.args.word.now in
    let names : Names = names_at c.args.place.outline.now c.args.place.function in
    let later : Option (List ℕ) = find p (names_given names c.args.place.wanted (lines c.in-Some.after.now)) in
    let none : find p (listed (name_given names c.args.place.wanted c.words_at.result)) ≡ None = search rules in
    let more = given_more p names c.args.place.wanted l.rest.now c.in-Some.field-0-0.now c.in-Some.after.now c.words_at.result
    c.in-Some.ensures.lines c.words_at.ensures in
    ap (λ (o : Option (List ℕ)). option_or o later) (sym none) ∙ sym more ∙ l.invariant
