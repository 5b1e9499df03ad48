use Rattle.std.proofs.Common.{rules, ◌≡◌, List, sym, ◌∙◌, ap}
use Rattle.sts_code.specs.declared.instr.Instr.{Instr}
use Rattle.sts_asm.specs.Kept.{filled, naming_lines}
use Rattle.sts_asm.specs.Marks.{Names}
use Rattle.sts_asm.specs.Outline.{Sentence, AreUnnamed}
use Rattle.sts_asm.specs.Text.{each, instr_at}
use Rattle.sts_asm.proofs.KeptLemmas.{filled_each}
use Rattle.sts_asm.proofs.reading.code_of.Goals as goal

-- what the lines give, from a copy of what was read without names
copy_filled : (names : Names) (lines told again : List Sentence) (code unnamed : List Instr) → AreUnnamed lines unnamed → lines ≡ told → again ≡ naming_lines lines unnamed → code ≡ unnamed → each (instr_at names) told ≡ filled (instr_at names) again code
copy_filled names lines told again code unnamed h same a b =
    rw (a, b) (ap (each (instr_at names)) (sym same) ∙ sym (filled_each names lines unnamed h))

pub returns : goal.returns
returns c =
    copy_filled c.args.names.now c.lines.inside.sentences.items c.args.lines.now c.as_slice-2.result.now c.in_ok-code.code.items
    c.lines.inside.unnamed.items c.lines.invariant (search rules) (search rules) (search rules) ∙ c.in_ok-fill.ensures.steps

pub returns-in_err-fill : goal.returns-in_err-fill
returns-in_err-fill c =
    let same : each (instr_at c.args.names.now) c.args.lines.now ≡ filled (instr_at c.args.names.now) c.as_slice-2.result.now c.in_ok-code.code.items =
    copy_filled c.args.names.now c.lines.inside.sentences.items c.args.lines.now c.as_slice-2.result.now c.in_ok-code.code.items
    c.lines.inside.unnamed.items c.lines.invariant (search rules) (search rules) (search rules) in
    rw same (search rules)
