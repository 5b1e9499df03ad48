use Rattle.std.proofs.Common.{◌≡◌, Ok, Some, option_copied, refl, slice_get, sym, ap, ◌∙◌, subst}
use Rattle.std.proofs.lemmas.Option.{slice_get_read}
use Rattle.sts_rules.specs.Edges.{edges, typing}
use Rattle.sts_rules.specs.Flow.{IsAlone}
use Rattle.look_refusal.proofs.WayLemmas.{alike_more, edge_way, all_arrive}
use Rattle.look_refusal.proofs.ways.other_from.Goals.{After-as_slice-edges, After-index-edges-number}
use Rattle.look_refusal.proofs.ways.other_from.Goals.{else-edge-to-via-then-edge-to+else-not-is_known, else-edge-to-via-else-edge-to}
use Rattle.look_refusal.proofs.ways.other_from.Goals as goal

-- only this typestate reaches the place
alone : (c : After-as_slice-edges) → IsAlone (typing c.args.program.now c.args.function) c.args.from c.state-state.result
alone c =
    subst (IsAlone (typing c.args.program.now c.args.function) c.args.from) (sym c.state-state.ensures) (c.requires.typing.alone c.args.from c.requires.from)

-- and these are its edges
fine : (c : After-as_slice-edges) → edges c.args.program.now c.args.function c.args.from c.state-state.result ≡ Ok c.as_slice-edges.result.now
fine c = c.in-Ok.ensures ∙ ap Ok (sym c.as_slice-edges.ensures)

there : (c : After-index-edges-number) → slice_get c.as_slice-edges.result.now c.loop-number.number ≡ Some c.index-edges-number.result
there c = slice_get_read c.as_slice-edges.result.now _ c.loop-number.number _ refl c.loop-number-test.true c.index-edges-number.is

pub loop-number-preserved : goal.loop-number-preserved
loop-number-preserved c =
    let h = (goal.at.loop-number-preserved c).After-index-edges-number in
    alike_more (option_copied c.args.known) c.args.to c.as_slice-edges.result.now c.loop-number.number c.index-edges-number.result (there h)
    (elim c.else-edge-to.branch [
      | else-edge-to-via-then-edge-to+else-not-is_known w ↦ (λ e. w.is_known.ensures.0 w.if-not-is_known.false)
      | else-edge-to-via-else-edge-to w ↦ (λ e. absurd (w.if-edge-to.false e))
    ]) c.loop-number.invariant

pub returns-then-not-is_known : goal.returns-then-not-is_known
returns-then-not-is_known c =
    let h = goal.at.returns-then-not-is_known c in (
      edge_way c.args.program.now c.args.function c.args.from c.args.to c.state-state.result (alone h.After-as_slice-edges) c.as_slice-edges.result.now
          (fine h.After-as_slice-edges) c.loop-number.number c.index-edges-number.result c.copy.result (there h.After-index-edges-number)
          c.if-edge-to.true c.copy.ensures,
      λ e. (let yes = c.is_known.ensures.1 (e ∙ ap Some c.copy.ensures) in let not = c.if-not-is_known.true in absurd (cc)),
    )

pub returns : goal.returns
returns c =
    let h = (goal.at.returns c).After-as_slice-edges in
    all_arrive c.args.program.now c.args.function c.args.from c.args.to c.state-state.result (alone h) c.as_slice-edges.result.now (fine h)
    (option_copied c.args.known) c.loop-number.number c.loop-number-test.false c.loop-number.invariant
