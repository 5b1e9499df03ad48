use Rattle.sts_links.proofs.ChainLemmas.{key_link, before_link}
use Rattle.sts_links.proofs.Changes.{unlinked, after_link}
use Rattle.sts_links.proofs.lists.unlink.Goals as goal

pub link-link-requires : goal.link-link-requires
link-link-requires g c = key_link _ _ _ _ _ c.requires.2

pub set_after-requires : goal.set_after-requires
set_after-requires g c k e = before_link _ _ _ _ _ _ k c.requires.2 c.link-link.ensures e

pub set_before-requires : goal.set_before-requires
set_before-requires g c k e = after_link _ _ _ _ _ _ _ _ k c.requires.2 c.link-link.ensures c.set_after.ensures.links e

pub returns-clause-list : goal.returns-clause-list
returns-clause-list g c front back is = rw (c.if_none.ensures, c.if_none-2.ensures)
    (unlinked _ _ _ _ _ _ _ front back is c.link-link.ensures c.set_after.ensures.links c.set_before.ensures.links)
