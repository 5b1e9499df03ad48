use Rattle.std.proofs.Common.{◌≡◌, false, length, refl, arith}
use Rattle.std.proofs.lemmas.Bool.Decides.{nat_tests}
use Rattle.std.specs.Prelude.{nat_lt}
use Rattle.sts_asm.specs.Kept.{program_of}
use Rattle.sts_asm.specs.Outline.{outline_of}
use Rattle.sts_asm.proofs.TakenLemmas.{kept_judged}
use Rattle.sts_asm.proofs.text.assemble.Goals as goal

pub returns : goal.returns
returns c =
    let outline = c.read_kept.new.outline in
    let all = c.read_kept.new.all.items in
    let same = kept_judged {X = Unit {0}} c.in_ok-read_kept.field-0 (outline_of c.args.text.now) outline all (program_of outline all)
    c.in_ok-read_kept.ensures refl in
    let short : nat_lt 1048576 (length c.args.text.now) ≡ false = grind (arith, nat_tests) in
    rw (short, same) c.program_of.ensures
