use Rattle.std.proofs.Common.{sym, ◌∙◌}
use Rattle.sts_asm.specs.Source.{names_at}
use Rattle.look_text.specs.Names.{line_stop}
use Rattle.look_text.proofs.NearNameLemmas.{line_missing, near_there}
use Rattle.look_text.proofs.near_name.near_in_line.Goals as goal

pub returns : goal.returns
returns c =
    let names = names_at c.args.outline.now c.args.function in
    c.near_name.ensures
    ∙ sym (near_there c.args.text.now names (line_stop names c.args.words) c.in_ok-wanted.wanted c.in_ok-wanted.word.now
    (line_missing names c.operand.result c.in_ok-first.first.now c.args.words c.word.new.self c.in_ok-first.ensures c.operand.ensures ∙ sym
    c.in_ok-wanted.ensures))
