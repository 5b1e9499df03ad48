use Rattle.std.proofs.lemmas.Option.{IfSome_then}
use Rattle.ends_calls.proofs.ends.played_first.Goals as goal

pub returns : goal.returns
returns c =
    (c.in_ok-found.ensures, IfSome_then c.in_ok-shared.shared c.in_ok-shared.ensures (λ s is. rw is c.in_ok-stop.ensures))
