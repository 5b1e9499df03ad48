use Rattle.std.proofs.Common.{subst}
use Rattle.std.specs.Result.{OnOk}
use Rattle.sts_model.specs.declared.record.Frame.{Frame}
use Rattle.laws_calls.specs.Steps.{Leads, to, with_seen}
use Rattle.ends_table.proofs.around.Around.goes.Goals as goal

pub returns : goal.returns
returns c = subst (λ (f : Frame). OnOk c.leads.result
    (Leads c.args.self.now.states.now (to (with_seen c.args.self.now.own.now c.args.place c.args.seen) f))) c.jumped.ensures c.leads.ensures
