use Rattle.ends_table.proofs.around.Around.joins.Goals as goal

pub returns : goal.returns
returns c =
    record {
      late = c.in_ok-timed_out.ensures;
      by_one = c.in_ok-by_one.ensures;
      by_count = c.in_ok-by_count.ensures;
      heard = c.in_ok-heard.ensures;
      none = c.in_ok-none.ensures;
    }
