use Rattle.memchr.proofs.lemmas.ValueLemmas.{FindsNeedle-value}
use Rattle.look_drawing.proofs.legend.is_drawn.Goals as goal

pub returns : goal.returns
returns c = let found = FindsNeedle-value c.as_bytes.result.now c.as_bytes-2.result.now c.find.result c.find.ensures in cc
