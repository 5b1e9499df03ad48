use Rattle.sts_asm.proofs.TableLemmas.{read_by_table}
use Rattle.sts_asm.proofs.laws.instructions_are_read_by_the_table.Goals as goal

pub returns : goal.returns
returns c = read_by_table
