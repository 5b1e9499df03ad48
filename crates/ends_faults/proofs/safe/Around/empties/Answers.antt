use Rattle.std.proofs.Common.{◌≡◌, true, ap, sym, ◌∙◌}
use Rattle.std.proofs.lemmas.Result.{on_ok_weaker}
use Rattle.ends_faults.specs.Safe.{holds_subtask}
use Rattle.ends_faults.proofs.AllowedLemmas.{local_allowed}
use Rattle.ends_faults.proofs.safe.Around.empties.Goals as goal

pub returns : goal.returns
returns c =
    let a = c.args.self.now in
    on_ok_weaker {P = c.holds_subtask.result ≡ true} c.needs.result
    (λ passes. local_allowed a.program.now a.call.now a.own.now c.args.instr c.requires
    (ap (holds_subtask a.own.now) (sym c.emptied_slot.ensures) ∙ sym c.holds_subtask.ensures ∙ passes))
    c.needs.ensures
