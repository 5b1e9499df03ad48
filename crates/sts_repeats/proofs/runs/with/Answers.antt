use Rattle.std.proofs.Common.{◌≡◌, ◌≤◌, ◌<◌, ◌+◌, ◌++◌, ℕ, List, Some, sym, ◌∙◌, ap, subst, arith, length, get_or, drop}
use Rattle.std.specs.Prelude.{slice_get}
use Rattle.std.proofs.lemmas.Option.{slice_get-get_or, slice_get_within}
use Rattle.std.proofs.lemmas.Slice.{between_to_end}
use Rattle.sts_repeats.specs.declared.runs.Run.{Run}
use Rattle.sts_repeats.specs.Spread.{spread, IsAt}
use Rattle.sts_repeats.proofs.RunLemmas.{with_in}
use Rattle.sts_repeats.proofs.runs.with.Goals as goal

-- the run is one of the runs
inside : {X : Type 0} (runs : List (Run X)) (at i before : ℕ) → IsAt runs at i before → i < length runs
inside runs at i before is = slice_get_within runs i is.run is.there

up_to : {X : Type 0} (runs : List (Run X)) (at i before : ℕ) → IsAt runs at i before → i ≤ length runs
up_to runs at i before is = let less = inside runs at i before is in omega (arith, less)

next : {X : Type 0} (runs : List (Run X)) (at i before : ℕ) → IsAt runs at i before → i + 1 ≤ length runs
next runs at i before is = let less = inside runs at i before is in omega (arith, less)

found : {X : Type 0} (runs : List (Run X)) (at i before : ℕ) (run : Run X) → IsAt runs at i before → run ≡ get_or runs i run → slice_get runs i ≡ Some run
found runs at i before run is read = slice_get-get_or runs i run (inside runs at i before is) ∙ ap Some (sym read)

few : {X : Type 0} (runs : List (Run X)) (at i before : ℕ) (run : Run X) → IsAt runs at i before → run ≡ get_or runs i run → before ≤ run.more
few runs at i before run is read =
    let same : is.run ≡ run = (let e : Some is.run ≡ Some run = sym is.there ∙ found runs at i before run is read in cc) in
    subst (λ r. before ≤ r.more) same is.few

pub offset_bounds-runs-i : goal.offset_bounds-runs-i
offset_bounds-runs-i g c = up_to c.args.runs.now c.args.at c.place_of-i.result.0 c.place_of-i.result.1 c.place_of-i.ensures

pub bounds-runs-i : goal.bounds-runs-i
bounds-runs-i g c = inside c.args.runs.now c.args.at c.place_of-i.result.0 c.place_of-i.result.1 c.place_of-i.ensures

pub push_with-requires : goal.push_with-requires
push_with-requires g c = few c.args.runs.now c.args.at c.place_of-i.result.0 c.place_of-i.result.1 c.index-runs-i.result c.place_of-i.ensures c.index-runs-i.is

pub offset_bounds-runs-i-2 : goal.offset_bounds-runs-i-2
offset_bounds-runs-i-2 g c = next c.args.runs.now c.args.at c.place_of-i.result.0 c.place_of-i.result.1 c.place_of-i.ensures

pub slice_bounds-push_runs-count : goal.slice_bounds-push_runs-count
slice_bounds-push_runs-count g c = next c.args.runs.now c.args.at c.place_of-i.result.0 c.place_of-i.result.1 c.place_of-i.ensures

pub returns : goal.returns
returns g c =
    let runs = c.args.runs.now in
    let at = c.args.at in
    let i = c.place_of-i.result.0 in
    let before = c.place_of-i.result.1 in
    let run = c.index-runs-i.result in
    let after = spread c.push_with.new.after.items in
    let back : spread c.push_runs.new.runs.items ≡ after ++ spread (drop (i + 1) runs) =
    c.in_ok-push_runs.ensures ∙ ap (λ l. after ++ spread l) (between_to_end runs (i + 1) (length runs) (omega arith)) in
    with_in runs at i before run c.args.value (spread c.in_ok-after.after.items) after (spread c.push_runs.new.runs.items)
    (found runs at i before run c.place_of-i.ensures c.index-runs-i.is) (few runs at i before run c.place_of-i.ensures c.index-runs-i.is)
    c.place_of-i.ensures.sum (ap spread c.in_ok-after.ensures) c.in_ok-push_with.ensures back
