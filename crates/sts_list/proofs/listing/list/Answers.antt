use Rattle.std.proofs.Common.{◌≡◌, ◌≤◌, ◌<◌, get_or, length, ◌++◌, string_bytes, take_all, List, ◌∙◌, ap}
use Rattle.std.specs.List.{flat_map}
use Rattle.sts_code.specs.Program.{Program, Routine}
use Rattle.sts_list.specs.Listing.{function_lines, profile_line, listing}
use Rattle.sts_list.specs.RoundTrip.{FitsRoutine}
use Rattle.sts_list.proofs.FitLemmas.{all_taken, listed_again, more_texts, all_with}
use Rattle.sts_list.proofs.listing.list.Goals as goal

pub returns-clause-again : goal.returns-clause-again
returns-clause-again c =
    let l = c.loop-function in
    let p : Program = c.args.program.now in
    let past : length p.routines ≤ l.function-index = rw c.functions-function-items.ensures.value at c.loop-function-test.false in
    let whole : string_bytes l.out ≡ listing p = l.invariant.lines ∙ ap
    (λ (rs : List Routine). profile_line p.profile ++ flat_map (function_lines p) rs) (take_all l.function-index p.routines past) in
    listed_again p (string_bytes l.out) whole c.functions-function-items.ensures.checked
    (all_taken FitsRoutine p.routines l.function-index past l.invariant.fits)

pub loop-function-preserved : goal.loop-function-preserved
loop-function-preserved c =
    let l = c.loop-function in
    let p : Program = c.args.program.now in
    let r : Routine = c.function-item.result in
    let small : l.function-index < length p.routines = rw c.functions-function-items.ensures.value at c.loop-function-test.true in
    let here : r ≡ get_or p.routines l.function-index r = rw c.functions-function-items.ensures.value at c.function-item.is in
    record {
      lines = more_texts (function_lines p) (profile_line p.profile) (string_bytes l.out) (string_bytes c.write_function.new.out) p.routines
          l.function-index r small here l.invariant.lines c.in_ok-write_function.ensures.lines;
      fits = all_with FitsRoutine p.routines l.function-index r small here l.invariant.fits c.in_ok-write_function.ensures.fits;
    }

pub returns-clause-listing : goal.returns-clause-listing
returns-clause-listing c =
    let l = c.loop-function in
    let p : Program = c.args.program.now in
    let past : length p.routines ≤ l.function-index = rw c.functions-function-items.ensures.value at c.loop-function-test.false in
    l.invariant.lines ∙ ap (λ (rs : List Routine). profile_line p.profile ++ flat_map (function_lines p) rs) (take_all l.function-index p.routines past)
