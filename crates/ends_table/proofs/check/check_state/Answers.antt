use Rattle.std.proofs.Common.{◌≡◌, List, Some, subst}
use Rattle.sts_code.specs.declared.instr.Instr.{Instr}
use Rattle.sts_model.specs.declared.event.End.{End}
use Rattle.laws_calls.specs.Tasks.{HasWay}
use Rattle.laws_calls.specs.declared.table.Own.{Own}
use Rattle.laws_calls.specs.declared.table.Way.{Way}
use Rattle.laws_calls.specs.Steps.{Forks, end_by}
use Rattle.ends_table.specs.Led.{AllLead, IsLed}
use Rattle.ends_table.proofs.check.check_state.Goals as goal

pub returns : goal.returns
returns c i at =
    let p = c.args.program.now in
    let own = c.args.own.now in
    let instr = c.in-Some.instr in
    subst (λ (j : Instr). IsLed p c.args.outside c.args.table.now c.args.row.now own j) (let same : instr ≡ i = cc in same) (record {
      forks = λ x g place h seen is o free. subst (λ (states : List Own). Forks p c.args.outside c.args.table.now states own x g h place seen)
          c.as_slice.ensures (c.in_ok-check_instr.ensures.starts x g place h seen is o free x);
      closed = subst (λ (states : List Own). AllLead p c.args.outside c.args.row.now.call states own instr) c.as_slice.ensures
          c.in_ok-check_instr.ensures.steps;
      ends = subst (λ (ways : List Way). (e : End) → end_by instr own.frame ≡ Some e → HasWay ways e) c.as_slice-2.ensures
          c.in_ok-check_instr.ensures.ends;
    })
