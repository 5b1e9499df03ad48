use Rattle.std.proofs.Common.{◌≡◌, ℕ, List, ◌++◌, ◌∙◌, ap}
use Rattle.std.specs.Prelude.{codes}
use Rattle.std.proofs.lemmas.Result.{on_ok_weaker}
use Rattle.look_text.specs.Lines as def
use Rattle.look_text.specs.Sentences.{fault_sentence}
use Rattle.look_text.proofs.LineLemmas.{five_said}
use Rattle.look_text.proofs.functions.Source.say_fault.Goals as goal

pub returns : goal.returns
returns c =
    let e = c.args.error in
    let text : List ℕ = c.args.self.now in
    let two : List ℕ = c.say.new.out.items in
    let three : List ℕ = c.say-2.new.out.items in
    let said : three ≡ two ++ fault_sentence e.kind text e.line = c.in_ok-say-2.ensures ∙ ap (λ (x : List ℕ). two ++ x) c.fault_sentence.ensures in
    on_ok_weaker c.say_fault_part.result
    (five_said (def.fault_head e text) (codes "\n") (fault_sentence e.kind text e.line) (codes "\n") (def.fault_part e.kind text e.line) c.args.out.now.items
    c.say_fault_head.new.out.items two three c.say-3.new.out.items c.say_fault_part.new.out.items
    c.in_ok-say_fault_head.ensures c.in_ok-say.ensures said c.in_ok-say-3.ensures) c.say_fault_part.ensures
