use Rattle.std.proofs.Common.{Some, sym, ◌∙◌, ap, arith}
use Rattle.std.proofs.lemmas.Option.{slice_get-get_or}
use Rattle.sts_repeats.proofs.RunLemmas.{length_more}
use Rattle.sts_repeats.proofs.runs.place_of.Goals as goal

pub returns-then-left-more : goal.returns-then-left-more
returns-then-left-more g c =
    let run = c.index-runs-i.result in
    record {
      run = run;
      there = slice_get-get_or c.args.runs.now c.loop-i.i run (omega arith) ∙ ap Some (sym c.index-runs-i.is);
      few = (let same = ap (λ r. r.more) c.index-runs-i.is in omega (arith, same));
      sum = c.loop-i.invariant;
    }

pub loop-i-preserved : goal.loop-i-preserved
loop-i-preserved g c =
    let runs = c.args.runs.now in
    let run = c.index-runs-i.result in
    let longer = length_more runs c.loop-i.i run (omega arith) in
    let same = ap (λ r. r.more) c.index-runs-i.is in
    let sum = c.loop-i.invariant in
    omega (arith, longer, same, sum)
