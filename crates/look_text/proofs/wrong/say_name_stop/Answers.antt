use Rattle.std.proofs.Common.{◌≡◌, true, ◌∙◌, arith}
use Rattle.std.proofs.lemmas.Grind.{common_steps}
use Rattle.sts_asm.specs.Source.{names_at}
use Rattle.look_text.specs.Names.{names_some}
use Rattle.look_text.proofs.NameLineLemmas.{name_said}
use Rattle.look_text.proofs.wrong.say_name_stop.Goals as goal

pub loop-word-preserved : goal.loop-word-preserved
loop-word-preserved c =
    let l = c.loop-word in
    let names = names_at c.args.outline.now c.args.function in
    let word = c.in-Some.word.now in
    let named : names_some names l.wanted word ≡ true = grind (arith, common_steps, c.if-not-names_some.false, c.names_some.ensures) in
    name_said names l.wanted c.after-wanted.result word l.left c.word.new.self l.out.items c.push.new.self.items c.extend_from_slice.new.self.items
    c.in-Some.ensures named c.after-wanted.ensures c.in_ok-push.ensures.items c.in_ok-extend_from_slice.ensures.items ∙ l.invariant
