use Rattle.std.proofs.Common.{rules, refl, pos, get_or}
use Rattle.sts_code.specs.declared.instr.Instr.TheVariants.{Push}
use Rattle.sts_asm.specs.Kept.{naming_lines}
use Rattle.sts_asm.proofs.KeptLemmas.{naming_step}
use Rattle.sts_asm.proofs.kept.naming_lines.Goals as goal

pub loop-at-preserved : goal.loop-at-preserved
loop-at-preserved c =
    let l = c.loop-at in
    naming_step c.args.lines.now c.args.code.now l.again.items c.add_naming.new.again.items (naming_lines c.args.lines.now c.args.code.now)
    l.at c.index-lines-at.result (Push (pos 0)) (get_or c.args.code.now l.at (Push (pos 0))) (search rules) (search rules)
    (search rules) refl c.in_ok-add_naming.ensures l.invariant
