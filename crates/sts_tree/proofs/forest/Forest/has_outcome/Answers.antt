use Rattle.std.proofs.Common.{◌≡◌, ◌||◌, Bool, true, false, not, refl, sym, ◌∙◌, ap, is_some}
use Rattle.std.specs.Prelude.{option_map}
use Rattle.sts_tree.specs.Forest.{family_of, scope_of}
use Rattle.sts_tree.proofs.HoldingLemmas.{map_at}
use Rattle.sts_tree.proofs.Lookups.{no_living}
use Rattle.sts_tree.proofs.Rows.{family_at, scope_at}
use Rattle.sts_tree.proofs.forest.Forest.has_outcome.Goals as goal
use Rattle.sts_tree.proofs.forest.Forest.has_outcome.Goals.{then-row, else-row}

pub returns-in-None : goal.returns-in-None
returns-in-None g c =
    let rows = c.self.inside.scopes.slots in
    let none = map_at scope_of rows c.args.s ∙ ap (option_map scope_of) (sym c.in-None.ensures) in
    let living = no_living c.self.inside.tasks.held.slots rows c.self.inside.ready c.self.inside.tasks.held.room c.args.s c.self.invariant
    (sym c.in-None.ensures) in
    rw (← c.self.view_is) (rw (none, living) refl)

twice : (b : Bool) → b ≡ not (not b)
twice true = refl
twice false = refl

pub returns-then-row-2 : goal.returns-then-row-2
returns-then-row-2 g c =
    let row = c.in-Some.row.now in
    let there = scope_at c.self.inside.scopes.slots c.args.s row (sym c.in-Some.ensures) in
    let over : c.if-row.value ≡ (row.scope.expired || row.scope.cancelled) = elim c.if-row.branch
    [ then-row w ↦ rw (w.if-row.true) (w.value-is ∙ w.if-row.true) | else-row w ↦ rw (w.if-row.false) w.value-is ] in
    rw (← c.self.view_is) (rw (there, ← over, c.if-row-2.true) refl)

pub returns-else-row-2 : goal.returns-else-row-2
returns-else-row-2 g c =
    let row = c.in-Some.row.now in
    let rows = c.self.inside.scopes.slots in
    let there = scope_at rows c.args.s row (sym c.in-Some.ensures) in
    let over : c.if-row.value ≡ (row.scope.expired || row.scope.cancelled) = elim c.if-row.branch
    [ then-row w ↦ rw (w.if-row.true) (w.value-is ∙ w.if-row.true) | else-row w ↦ rw (w.if-row.false) w.value-is ] in
    let living = c.self.invariant.living c.args.s (family_of row) (family_at rows c.args.s row (sym c.in-Some.ensures)) in
    let any = ap is_some (sym living.first) ∙ c.is_none.ensures in
    rw (← c.self.view_is) (rw (there, ← over, c.if-row-2.false, any) (twice c.is_none.result))
