use Rattle.std.proofs.Common.{◌≡◌, ◌++◌, ◌∷◌, [], true, false, refl, sym, ◌∙◌, ap, arith}
use Rattle.laws_live.specs.Run.{live_counts}
use Rattle.sts_machine.specs.Turned.{turned}
use Rattle.sts_machine.proofs.Turning.{idle_view, idle_steps, stands_after, counts_there, runs_well}
use Rattle.sts_machine.proofs.machine.Machine.turn.Goals as goal

pub returns-then-not-counts-clause-stands : goal.returns-then-not-counts-clause-stands
returns-then-not-counts-clause-stands c =
    let m = c.args.self.now in
    let e = c.args.event in
    let off : live_counts m.program m.live e ≡ false = sym c.counts.ensures ∙ c.if-not-counts.true in
    let none = idle_steps m.program m.live e off in
    stands_after m m e c.laws.ensures refl (sym (idle_view m.program m.live e off)) (omega (arith, none))

pub returns-then-not-counts-clause-counted : goal.returns-then-not-counts-clause-counted
returns-then-not-counts-clause-counted c =
    let m = c.args.self.now in
    let off : live_counts m.program m.live c.args.event ≡ false = sym c.counts.ensures ∙ c.if-not-counts.true in
    counts_there m c.args.event _ c.laws.ensures (ap turned (sym off))

pub returns-then-not-counts-clause-runs_well : goal.returns-then-not-counts-clause-runs_well
returns-then-not-counts-clause-runs_well c =
    λ events b h is. runs_well c.args.self.now.program c.laws.ensures b is (events ++ c.args.event ∷ [])

pub returns-clause-stands : goal.returns-clause-stands
returns-clause-stands c =
    stands_after c.args.self.now c.take.new.self c.args.event c.laws.ensures c.take.ensures.program c.take.ensures.live c.take.ensures.steps

pub returns-clause-counted : goal.returns-clause-counted
returns-clause-counted c =
    let m = c.args.self.now in
    let on : live_counts m.program m.live c.args.event ≡ true = sym c.counts.ensures ∙ c.if-not-counts.false in
    counts_there m c.args.event _ c.laws.ensures (ap turned (sym on))

pub returns-clause-runs_well : goal.returns-clause-runs_well
returns-clause-runs_well c =
    λ events b h is. runs_well c.args.self.now.program c.laws.ensures b is (events ++ c.args.event ∷ [])
