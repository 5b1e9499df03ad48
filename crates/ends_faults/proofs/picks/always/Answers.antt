use Rattle.std.proofs.Common.{sym, ◌∙◌, ap, subst}
use Rattle.laws_calls.specs.declared.table.Seen.{Seen}
use Rattle.laws_calls.specs.Fitting.{Fits}
use Rattle.laws_calls.specs.Steps.{parts_with}
use Rattle.laws_runs.specs.Tallies.{is_kind}
use Rattle.ends_faults.proofs.PickLemmas.{always_not}
use Rattle.ends_faults.proofs.picks.always.Goals as goal

pub returns : goal.returns
returns c =
    always_not (is_kind c.args.kind) c.args.seen.now c.args.i c.args.part.now c.has_pick.result c.requires
    (λ pick k. c.has_pick.ensures pick (subst (λ (x : Seen). Fits x pick)
    (sym (c.in_ok-after.ensures ∙ ap (λ z. parts_with c.args.seen.now c.args.i z) c.in_ok-other.ensures)) k))
    c.if-has_pick.false
