use Rattle.std.proofs.Common.{ℕ, List, Bool, ◌++◌, ◌∙◌, ap, sym, codes, append_assoc}
use Rattle.std.proofs.lemmas.Result.{on_ok_weaker}
use Rattle.std.specs.Fmt.{decimal}
use Rattle.sts_model.specs.World.{World, scope_at}
use Rattle.laws_words.proofs.AppendLemmas.{two_parts}
use Rattle.look_tell.specs.Line.{number_words, expired_words}
use Rattle.look_tell.proofs.line.Telling.say_expiry.Goals as goal

pub returns-clause-said : goal.returns-clause-said
returns-clause-said c =
    let before = c.args.out.now.items in
    let number = number_words c.args.self.number in
    let words = codes "expiry of scope " in
    let s = decimal c.args.s in
    let was = c.is_cancelled-was_cancelled.ensures ∙ ap (λ (w : World). (scope_at w c.args.s).cancelled) c.records.ensures in
    let lead = two_parts before number (words ++ s) _ _ c.in_ok-say_event_number.ensures c.in_ok-say_numbered.ensures
    ∙ ap (λ (x : List ℕ). before ++ x) (sym (append_assoc number words s)) in
    let told = c.in_ok-say_expired_words.ensures
    ∙ ap (λ (b : Bool). c.say_numbered.new.out.items ++ expired_words c.args.self.names.now c.apply.new.self c.args.s b) was in
    on_ok_weaker c.say.result (λ h. two_parts before _ (codes "\n") _ _ (two_parts before _ _ _ _ lead told) h) c.say.ensures
