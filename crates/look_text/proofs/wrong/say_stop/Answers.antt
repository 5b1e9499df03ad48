use Rattle.std.proofs.Common.{◌≡◌, true, ◌∙◌, arith}
use Rattle.std.proofs.lemmas.Grind.{common_steps}
use Rattle.look_text.specs.Wanted.{fits}
use Rattle.look_text.proofs.LineLemmas.{one_word_said}
use Rattle.look_text.proofs.wrong.say_stop.Goals as goal

pub loop-word-preserved : goal.loop-word-preserved
loop-word-preserved c =
    let l = c.loop-word in
    let word = c.in-Some.word.now in
    let fit : fits l.wanted word ≡ true = grind (arith, common_steps, c.if-not-fits.false, c.fits.ensures) in
    one_word_said l.wanted c.after-wanted.result word l.left c.word.new.self l.out.items c.push.new.self.items c.extend_from_slice.new.self.items
    c.in-Some.ensures fit c.after-wanted.ensures c.in_ok-push.ensures.items c.in_ok-extend_from_slice.ensures.items ∙ l.invariant
