use Rattle.std.proofs.Common.{◌≡◌, ◌≢◌, ◌∷◌, ◌++◌, [], ap, ◌∙◌, append_assoc, arith}
use Rattle.std.proofs.lemmas.Grind.{common_steps}
use Rattle.serde_json.specs.View.{view}
use Rattle.serde_json.specs.Written.{compact_text}
use Rattle.look_cases.proofs.Answered.{filled_line}
use Rattle.look_cases.proofs.FloatLemmas.{reply_plain}
use Rattle.look_cases.proofs.replies.push_reply.Goals as goal

pub returns : goal.returns
returns c =
    let d = view c.in_ok-reply.reply in
    let line = c.args.line.now in
    let out = c.args.out.now.items in
    let text : c.in_ok-text.text.items ≡ compact_text d = c.in_ok-text.ensures.text (reply_plain c.args.number line d c.in_ok-reply.ensures) in
    let some : line ≢ [] = grind (arith, common_steps) in (
      compact_text d ++ 10 ∷ [],
      filled_line c.args.number line d some c.in_ok-reply.ensures,
      c.in_ok-push.ensures.items
          ∙ ap (λ xs. xs ++ 10 ∷ []) (c.in_ok-extend_from_slice.ensures.items ∙ ap (λ xs. out ++ xs) (c.as_slice.ensures.value ∙ text))
          ∙ append_assoc out (compact_text d) (10 ∷ []),
    )
