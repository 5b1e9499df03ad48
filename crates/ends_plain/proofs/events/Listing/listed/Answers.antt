use Rattle.std.proofs.Common.{◌≡◌, sym, ◌∙◌, arith, subst}
use Rattle.ends_plain.specs.Listings.{born_of, event_of, is_listed}
use Rattle.ends_plain.proofs.EventLemmas.{Below, all_those, below_none, below_push, below_skip}
use Rattle.ends_plain.proofs.events.Listing.listed.Goals.{then-may_come+in_ok-push, else-may_come}
use Rattle.ends_plain.proofs.events.Listing.listed.Goals as goal

pub loop-n-preserved : goal.loop-n-preserved
loop-n-preserved c =
    let mk = event_of c.args.self in
    let test = is_listed c.args.self c.args.world.now in
    elim c.if-may_come.branch [
      | then-may_come+in_ok-push w ↦ rw (w.events-is, w.in_ok-push.ensures.items, w.event.ensures)
          (below_push mk test c.loop-n.n c.loop-n.events.items (sym c.may_come.ensures ∙ w.if-may_come.true) c.loop-n.invariant)
      | else-may_come w ↦ rw w.events-is
          (below_skip mk test c.loop-n.n c.loop-n.events.items (sym c.may_come.ensures ∙ w.if-may_come.false) c.loop-n.invariant)
    ]

pub loop-n-init : goal.loop-n-init
loop-n-init c = rw c.new-events.ensures.items (below_none (event_of c.args.self) (is_listed c.args.self c.args.world.now))

pub returns : goal.returns
returns c =
    let l = c.args.self in
    let w = c.args.world.now in
    let all : c.loop-n.n ≡ born_of l w = omega (arith, c.born-all.ensures, c.loop-n-test.false, c.loop-n.auto.n-end) in
    all_those l w c.loop-n.events.items (subst (λ n. Below (event_of l) (is_listed l w) n c.loop-n.events.items) all c.loop-n.invariant)
