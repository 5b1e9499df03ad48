use Rattle.std.proofs.Common.{List, ap}
use Rattle.laws_calls.specs.declared.table.Seen.{Seen}
use Rattle.ends_table.proofs.PlaceLemmas.{put_index_in}
use Rattle.ends_table.proofs.places.with_scope.Goals as goal

pub returns : goal.returns
returns c =
    ap (λ (xs : List Seen). record { frame = c.args.frame; held = c.args.own.now.held; scopes = xs; left = c.args.own.now.left })
    (put_index_in c.as_slice-before.result.now c.args.own.now.scopes c.in_ok-scopes.scopes c.args.place c.in_ok-i.i c.args.seen
    c.as_slice-before.ensures c.in_ok-i.ensures c.in_ok-scopes.ensures)
