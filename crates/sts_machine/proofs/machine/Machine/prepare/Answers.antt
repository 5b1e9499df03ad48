use Rattle.std.proofs.Common.{◌≡◌, ◌-◌, [], length, refl, sym, ◌∙◌, ap, subst}
use Rattle.sts_code.specs.Program.{Program}
use Rattle.sts_model.specs.World.{entry_frame}
use Rattle.sts_model.specs.declared.record.Slot.TheVariants.{Empty}
use Rattle.laws_live.specs.Run.{live_opening}
use Rattle.sts_store.specs.Parts.{live_of, root_alone}
use Rattle.sts_machine.proofs.Beginning.{IsBegun, begins, stands_begun}
use Rattle.sts_machine.proofs.machine.Machine.prepare.Goals as goal
use Rattle.sts_machine.proofs.machine.Machine.prepare.Goals.{In_ok-store}

view : (c : In_ok-store) → live_of c.in_ok-store.store ≡ live_opening c.args.verified.now
view c =
    c.in_ok-store.ensures.live ∙ ap root_alone
    (c.main_frame.ensures ∙ ap (λ (q : Program). entry_frame (length q.routines - 1) [] Empty) c.program.ensures.value)

pub invariant_of-result : goal.invariant_of-result
invariant_of-result c =
    let unseen = c.in_ok-store.ensures.unseen in
    let begun = subst (IsBegun c.laws-budgets.result) (sym unseen.1)
    (record { stands = refl; tasks = refl; frames = refl; scopes = refl; binds = refl }) in
    begins c.args.verified.now c.in_ok-store.store c.laws-budgets.result c.laws-budgets.ensures.laws c.laws-budgets.ensures.printed
    c.run_is_seen.ensures c.stands_are_owned.ensures (view (goal.at.invariant_of-result c).In_ok-store) begun

pub returns-clause-stands : goal.returns-clause-stands
returns-clause-stands c =
    stands_begun c.args.verified.now (live_of c.in_ok-store.store) c.run_is_seen.ensures (view (goal.at.returns-clause-stands c).In_ok-store)
