use Rattle.std.proofs.lemmas.Option.{IfSome_then}
use Rattle.ends_plain.proofs.sample.drawn.Goals as goal

pub returns : goal.returns
returns c = IfSome_then c.next.result c.next.ensures (λ e there. c.in_ok-events.ensures.only e (rw c.as_slice.ensures.value at there))
