use Rattle.std.proofs.Common.{sym, subst}
use Rattle.sts_types.specs.Tables.{AreTablesOf}
use Rattle.sts_types.proofs.Visiting.{is_typing, starts}
use Rattle.sts_types.proofs.pass.typed_to.Goals as goal

pub visit_all-requires-clause-begun : goal.visit_all-requires-clause-begun
visit_all-requires-clause-begun c = starts c.args.program.now c.args.function c.code_of-code.result.now c.in_ok-arrivals.arrivals.table
    c.entry.result c.code_of-code.ensures.value (c.code_of-code.ensures.some c.requires.function) c.in_ok-arrivals.ensures.0 c.entry.ensures

pub returns : goal.returns
returns c =
    let loops = subst (AreTablesOf c.code_of-code.result.now) (sym c.into_typing.ensures.loops) c.in_ok-tables.ensures in
    is_typing c.args.program.now c.args.function c.args.count c.code_of-code.result.now c.visit_all.new.arrivals.table c.into_typing.result
    c.code_of-code.ensures.value c.requires.count c.in_ok-visit_all.ensures c.into_typing.ensures.long c.into_typing.ensures.each loops
