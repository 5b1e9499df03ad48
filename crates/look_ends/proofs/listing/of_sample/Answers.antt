use Rattle.std.proofs.lemmas.Result.{IfOk-weaker}
use Rattle.look_ends.proofs.listing.of_sample.Goals as goal

pub returns : goal.returns
returns g c =
    let sample = c.in_ok-sample.sample in
    IfOk-weaker c.sampled.result _ _
    (λ l h. record {
      found = sample.found.items;
      times = sample.times.items;
      unfinished = sample.unfinished;
      sound = c.in_ok-sample.ensures;
      printed = h;
    })
    c.sampled.ensures
