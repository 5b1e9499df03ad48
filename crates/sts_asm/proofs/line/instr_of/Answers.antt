use Rattle.std.proofs.Common.{rules, ◌≡◌, Some}
use Rattle.sts_asm.specs.Line.{plain_words, without_operands}
use Rattle.sts_asm.specs.Operand.{looked_up}
use Rattle.sts_asm.specs.declared.mnemonic.Mnemonic.TheVariants.{Plain}
use Rattle.sts_asm.proofs.TableLemmas.{plain_first}
use Rattle.sts_asm.proofs.line.instr_of.Goals as goal

pub returns-in-Some : goal.returns-in-Some
returns-in-Some c =
    let word = c.args.word.now in
    let form = c.in-Some.form in
    let e : looked_up plain_words word ≡ Some (Plain (without_operands form)) = search rules in
    rw (plain_first word (Plain (without_operands form)) e) (search rules)
