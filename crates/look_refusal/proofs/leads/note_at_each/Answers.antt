use Rattle.std.proofs.Common.{◌<◌, ◌++◌, ◌∷◌, [], ℕ, List, length, get_or, take, refl, sym, subst, arith}
use Rattle.std.proofs.lemmas.List.{take_more, take_all}
use Rattle.look_refusal.specs.Leads.{AreNoted}
use Rattle.look_refusal.proofs.Among.{among_at}
use Rattle.look_refusal.proofs.Leading.{leads_later}
use Rattle.look_refusal.proofs.Noting.{noted_more}
use Rattle.look_refusal.proofs.leads.note_at_each.Goals as goal

pub note_at-requires : goal.note_at-requires
note_at-requires c =
    let leads = c.requires.leads _ (among_at c.args.places.now c.loop-to.to-index _ c.loop-to-test.true refl) in
    omega (arith, (leads_later c.args.search.now c.requires.ready c.args.from _ leads).1, c.loop-to.invariant.long)

pub loop-to-preserved : goal.loop-to-preserved
loop-to-preserved c =
    let s = c.args.search.now in
    let from = c.args.from in
    let places : List ℕ = c.args.places.now in
    let i = c.loop-to.to-index in
    let lists : List (List ℕ) = c.loop-to.lists.items in
    let leads = c.requires.leads (get_or places i 0) (among_at places i (get_or places i 0) c.loop-to-test.true refl) in
    let inside : get_or places i 0 < length lists =
    omega (arith, (leads_later s c.requires.ready from (get_or places i 0) leads).1, c.loop-to.invariant.long) in
    subst (λ (xs : List ℕ). AreNoted s from xs c.note_at.new.lists.items) (sym (take_more places i 0 c.loop-to-test.true))
    (subst (λ (ls : List (List ℕ)). AreNoted s from (take i places ++ get_or places i 0 ∷ []) ls) (sym c.in_ok-note_at.ensures)
    (noted_more s from (get_or places i 0) (take i places) lists inside leads c.loop-to.invariant))

pub returns : goal.returns
returns c = subst (λ (xs : List ℕ). AreNoted c.args.search.now c.args.from xs c.loop-to.lists.items)
    (take_all c.loop-to.to-index c.args.places.now c.loop-to-test.false) c.loop-to.invariant
