use Rattle.std.proofs.Common.{◌<◌, ◌∙◌, ap, length, arith}
use Rattle.sts_code.specs.declared.instr.Instr.TheVariants.{Ret}
use Rattle.std.proofs.lemmas.List.{get_or_default}
use Rattle.sts_budget.specs.Handing.{turns_of}
use Rattle.look_refusal.proofs.Leading.{loop_at}
use Rattle.look_refusal.proofs.search.loop_from.Goals as goal

pub returns-clause-right : goal.returns-clause-right
returns-clause-right c =
    let l = c.requires.ready.good.loop c.args.head c.requires.opens.0 c.requires.opens.1 in
    let within : c.args.head < length c.args.search.now.code.now = omega (arith, l.1, l.2) in
    loop_at c.args.search.now c.requires.ready c.args.head c.requires.opens.0 c.end_of.result c.turns_of.result c.requires.opens.1
    c.end_of.ensures
    (c.turns_of.ensures ∙ ap turns_of (get_or_default c.args.search.now.code.now c.args.head _ Ret within))
