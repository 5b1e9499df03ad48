use Rattle.std.proofs.Common.{◌≡◌, ℕ, List, ◌++◌, ◌∙◌, ap}
use Rattle.std.specs.String.{string_bytes}
use Rattle.std.proofs.lemmas.Result.{on_ok_weaker}
use Rattle.look_refusal.specs.Differences.{origin_words, all_parts}
use Rattle.look_refusal.proofs.PartLemmas.{all_appended}
use Rattle.look_refusal.proofs.differences.difference_lines.Goals as goal

pub returns : goal.returns
returns c =
    let p = c.args.program.now in
    let o = c.args.outline.now in
    let f = c.args.function in
    let m = c.args.meeting.now in
    let before : List ℕ = c.args.out.now.items in
    on_ok_weaker c.say.result
    (λ (e : c.say.new.out.items ≡ before ++ c.as_str.result.now). all_appended m (origin_words o p f m.one.origin)
    (origin_words o p f m.other.origin) all_parts before (string_bytes c.new-lines.result) (string_bytes c.write_differences.new.out)
    c.say.new.out.items c.new-lines.ensures.bytes c.in_ok-write_differences.ensures
    (e ∙ ap (λ (xs : List ℕ). before ++ xs) c.as_str.ensures.value)) c.say.ensures
