use Rattle.std.proofs.Common.{sym, ◌∙◌}
use Rattle.ends_plain.proofs.way.Way.end.Goals as goal

pub returns-then-is_end_at : goal.returns-then-is_end_at
returns-then-is_end_at c g first way = record {
  config = c.args.self.config;
  way = way;
  shows = sym c.state-end.ensures;
  ends = sym c.is_end_at.ensures ∙ c.if-is_end_at.true;
}
