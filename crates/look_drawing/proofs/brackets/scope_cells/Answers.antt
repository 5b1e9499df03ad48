use Rattle.std.proofs.Common.{ℕ, List, ◌<◌, ◌++◌, ap, sym, ◌∙◌, subst, arith, length, get_or}
use Rattle.std.proofs.lemmas.List.{take_all}
use Rattle.std.specs.List.{flat_map}
use Rattle.std.specs.String.{string_bytes}
use Rattle.look_drawing.specs.Brackets as def
use Rattle.look_drawing.specs.Present.{Numbers}
use Rattle.look_drawing.proofs.ListingLemmas.{scopes_below, scopes_listed}
use Rattle.look_drawing.proofs.brackets.scope_cells.Goals as goal

pub scope_cell-requires : goal.scope_cell-requires
scope_cell-requires c =
    let change = c.args.change in
    let same = c.scopes-scopes.ensures ∙ ap (λ (n : Numbers). n.scopes) change.listed in
    subst (λ (xs : List ℕ). get_or xs c.loop-s.s-index 0 < length change.world.now.scopes) (sym same)
    (scopes_below change.before.now change.world.now change.follows c.loop-s.s-index 0 (omega (arith, ap (λ (xs : List ℕ). length xs) same)))

pub returns : goal.returns
returns c =
    let change = c.args.change in
    let cell : ℕ → List ℕ = def.scope_cell change.before.now change.world.now change.x in
    let same = c.scopes-scopes.ensures ∙ ap (λ (n : Numbers). n.scopes) change.listed in
    c.loop-s.invariant
    ∙ ap (λ (xs : List ℕ). string_bytes c.args.out.now ++ flat_map cell xs) (take_all c.loop-s.s-index c.scopes-scopes.result.now (omega arith) ∙ same)
    ∙ ap (λ (xs : List ℕ). string_bytes c.args.out.now ++ xs) (scopes_listed change.before.now change.world.now change.x change.follows)
