use Rattle.std.proofs.Common.{sym, ◌∙◌}
use Rattle.sts_links.proofs.ChainLemmas.{last_link}
use Rattle.sts_links.proofs.Changes.{pushed}
use Rattle.sts_links.proofs.lists.push_back.Goals as goal

pub set_after-requires : goal.set_after-requires
set_after-requires g c k e =
    let (keys, is, new) = c.requires.list in
    last_link (g.S.Links.at c.args.store.now c.args.layer) keys _ k is.linked (sym is.last ∙ e)

pub returns-clause-list : goal.returns-clause-list
returns-clause-list g c keys is new =
    rw c.if_none.ensures (pushed _ _ _ _ _ _ keys is new c.set_after.ensures.links c.set_link.ensures.set c.set_link.ensures.others)
