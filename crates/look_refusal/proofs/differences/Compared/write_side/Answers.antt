use Rattle.std.proofs.Common.{ℕ, List, ◌++◌}
use Rattle.std.specs.Prelude.{codes}
use Rattle.std.specs.String.{string_bytes}
use Rattle.std.proofs.lemmas.Result.{on_ok_weaker}
use Rattle.laws_words.proofs.AppendLemmas.{two_parts}
use Rattle.look_refusal.specs.Differences.{part_words, way_words}
use Rattle.look_refusal.proofs.differences.Compared.write_side.Goals as goal

pub returns-clause-words : goal.returns-clause-words
returns-clause-words c =
    let before : List ℕ = string_bytes c.args.out.now in
    let part : List ℕ = part_words c.args.part c.args.way.now.state in
    let from : List ℕ = codes " on the way from " in
    let way : List ℕ = way_words c.args.self.now c.args.way.now in
    let one : List ℕ = string_bytes c.write_part.new.out in
    let two : List ℕ = string_bytes c.push_str.new.self in
    let three : List ℕ = string_bytes c.write_origin.new.out in
    on_ok_weaker c.write_origin.result
    (two_parts before (part ++ from) way two three
    (two_parts before part from one two c.in_ok-write_part.ensures.words c.in_ok-push_str.ensures.bytes)) c.write_origin.ensures
