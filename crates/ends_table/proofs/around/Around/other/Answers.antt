use Rattle.ends_table.proofs.StepLemmas.{ret_leads, fail_leads}
use Rattle.ends_table.proofs.around.Around.other.Goals as goal

pub returns-in-Ret : goal.returns-in-Ret
returns-in-Ret c =
    let a = c.args.self.now in
    rw c.in-Ret.is (ret_leads a.program.now a.outside a.call.now a.states.now a.own.now)

pub returns-in-Fail : goal.returns-in-Fail
returns-in-Fail c =
    let a = c.args.self.now in
    rw c.in-Fail.is (fail_leads a.program.now a.outside a.call.now a.states.now a.own.now)
