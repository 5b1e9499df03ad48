use Rattle.std.proofs.Common.{◌<◌, List, length, refl, sym, arith, subst}
use Rattle.ends_search.specs.Search.{Grows, IsAmong, states_of}
use Rattle.ends_search.proofs.SearchLemmas.{grows_none}
use Rattle.ends_search.proofs.StateLemmas.{space_pushed, grows_more, follows, follows_there}
use Rattle.ends_search.specs.declared.origin.Origin.{Origin}
use Rattle.ends_search.proofs.search.add.Goals as goal

pub returns-then-branch-clause-there : goal.returns-then-branch-clause-there
returns-then-branch-clause-there g c _ =
    let s = c.args.space.now in
    let next = g.S.StateMachine.next c.args.setting.now in
    let states = states_of next s.first s.origins.items in
    let within : c.args.place < length states = omega (arith, c.requires.within, c.requires.space.searched.traced.as_many) in
    let known = c.in_ok-is_known.ensures c.if-branch.true in
    follows next (g.S.StateMachine.alike c.args.setting.now) states states c.args.place s.first c.args.event within
    (subst (λ x. IsAmong (g.S.StateMachine.alike c.args.setting.now) states x) c.requires.comes known)

-- The record has a field for each fact of FoundMore, and the first of them names all parts of a space.
pub returns-clause-more : goal.returns-clause-more
returns-clause-more g c =
    let s = c.args.space.now in
    let next = g.S.StateMachine.next c.args.setting.now in
    let o : Origin = record { parent = c.args.place; event = c.args.event; is_last = c.is_last.result } in
    record {
      space = space_pushed next (g.S.StateMachine.can c.args.setting.now) (g.S.StateMachine.alike c.args.setting.now) g.S.StateMachine.last
          s.first s.origins.items _ s.closed s.kept.items s.marks.items _ o c.args.state c.keep.new.kept.items c.in_ok-mark.mark
          c.in_ok-push.ensures.items c.in_ok-push-2.ensures.items c.requires.space c.requires.within c.requires.can c.is_last.ensures
          c.requires.comes c.in_ok-mark.ensures.grows c.in_ok-mark.ensures.is_kept;
      first = refl;
      closed = refl;
      grows = subst (λ (os : List Origin). Grows (states_of next s.first s.origins.items) (states_of next s.first os))
          (sym c.in_ok-push-2.ensures.items) (grows_more next s.first s.origins.items o (omega (arith, c.requires.within)));
    }

pub returns-clause-there : goal.returns-clause-there
returns-clause-there g c _ =
    let s = c.args.space.now in
    let o : Origin = record { parent = c.args.place; event = c.args.event; is_last = c.is_last.result } in
    rw c.in_ok-push-2.ensures.items (follows_there (g.S.StateMachine.next c.args.setting.now) (g.S.StateMachine.alike c.args.setting.now)
    s.first s.origins.items o (omega (arith, c.requires.within))
    (omega (arith, c.requires.within, c.requires.space.searched.traced.as_many)))

pub returns-then-branch-clause-more : goal.returns-then-branch-clause-more
returns-then-branch-clause-more g c = record { space = c.requires.space; first = refl; closed = refl; grows = grows_none _ }

pub returns-then-len-space-clause-more : goal.returns-then-len-space-clause-more
returns-then-len-space-clause-more g c = record { space = c.requires.space; first = refl; closed = refl; grows = grows_none _ }
