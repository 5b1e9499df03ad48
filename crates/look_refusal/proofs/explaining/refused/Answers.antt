use Rattle.std.proofs.Common.{ℕ, List, ◌++◌, ◌∙◌, Option, ap, subst}
use Rattle.std.specs.Option.{option_copied}
use Rattle.sts_asm.specs.Outline.{Sentence}
use Rattle.look_refusal.specs.Lines.{refused_lines}
use Rattle.look_refusal.specs.Output.{Tells}
use Rattle.look_refusal.proofs.TellLemmas.{refused_as}
use Rattle.look_refusal.proofs.explaining.refused.Goals as goal

pub returns : goal.returns
returns c =
    let p = c.args.refusal.now.program in
    let o = c.args.outline.now in
    let f = c.args.refusal.now.function in
    let pc = c.args.refusal.now.pc in
    let cause = c.args.refusal.now.cause in
    let remedy = c.in_ok-remedy.remedy in
    let lines : List ℕ = refused_lines p (option_copied c.sentence-sentence.result) f cause remedy in
    let before = c.in_ok-refused_lines.ensures ∙ ap (λ (b : List ℕ). b ++ lines) c.new-bytes.ensures.items
    ∙ ap (λ (s : Option Sentence). refused_lines p s f cause remedy) c.sentence-sentence.ensures in
    refused_as p o f pc cause remedy c.say_detail.new.out.items c.requires c.in_ok-remedy.ensures
    (subst (λ (b : List ℕ). Tells p o f pc cause b c.say_detail.new.out.items) before c.in_ok-say_detail.ensures)
