use Rattle.ends_plain.proofs.NamedLemmas.{renamed}
use Rattle.ends_plain.proofs.names.have_names.Goals as goal

pub returns : goal.returns
returns c e =
    let g = c.in_ok-guess.guess in
    rw (← c.records-here.ensures, ← c.records-there.ensures)
    (renamed g.names g.back c.records-here.result.now c.records-there.result.now (c.are_names.ensures c.if-not-are_names.false)
    (c.all_tasks_same.ensures c.if-not-all_tasks_same.false) (c.all_scopes_same.ensures e))
