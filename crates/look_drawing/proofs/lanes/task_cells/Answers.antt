use Rattle.std.proofs.Common.{ℕ, List, ◌<◌, ◌++◌, ap, sym, ◌∙◌, subst, arith, length, get_or}
use Rattle.std.proofs.lemmas.List.{take_all}
use Rattle.std.specs.List.{flat_map}
use Rattle.std.specs.String.{string_bytes}
use Rattle.look_drawing.specs.Lanes as def
use Rattle.look_drawing.specs.Present.{Numbers}
use Rattle.look_drawing.proofs.ListingLemmas.{tasks_below, tasks_listed}
use Rattle.look_drawing.proofs.lanes.task_cells.Goals as goal

pub task_cell-requires : goal.task_cell-requires
task_cell-requires c =
    let change = c.args.change in
    let same = c.tasks-tasks.ensures ∙ ap (λ (n : Numbers). n.tasks) change.listed in
    let long = ap (λ (xs : List ℕ). length xs) same in
    subst (λ (xs : List ℕ). get_or xs c.loop-t.t-index 0 < length change.world.now.tasks) (sym same)
    (tasks_below change.before.now change.world.now change.follows c.loop-t.t-index 0 (omega (arith, long)))

pub returns : goal.returns
returns c =
    let change = c.args.change in
    let cell : ℕ → List ℕ = def.task_cell change.names.now change.program.now change.before.now change.world.now change.x in
    let same = c.tasks-tasks.ensures ∙ ap (λ (n : Numbers). n.tasks) change.listed in
    c.loop-t.invariant
    ∙ ap (λ (xs : List ℕ). string_bytes c.args.out.now ++ flat_map cell xs)
    (take_all c.loop-t.t-index c.tasks-tasks.result.now (omega arith) ∙ same)
    ∙ ap (λ (xs : List ℕ). string_bytes c.args.out.now ++ xs)
    (tasks_listed change.names.now change.program.now change.before.now change.world.now change.x change.follows)
