use Rattle.std.proofs.Common.{◌≡◌, List, ℕ, [], get_or, take, refl, sym, subst, arith}
use Rattle.std.proofs.lemmas.List.{take_all}
use Rattle.look_refusal.specs.Search.{LeadsOn}
use Rattle.look_refusal.specs.Trail.{sum_in, IsBestOf, IsRowOf}
use Rattle.look_refusal.proofs.Among.{among_at}
use Rattle.look_refusal.proofs.Bests.{best_none, copies, row_end, row_more}
use Rattle.look_refusal.proofs.Leading.{leads_later}
use Rattle.look_refusal.proofs.trail.row_at.Goals as goal

pub loop-from-init : goal.loop-from-init
loop-from-init c = λ d low. subst (IsBestOf c.args.search.now (sum_in c.args.trail.now) [] d)
    (sym (copies 17 d c.no_way-row.result c.no_way-row.ensures)) (best_none c.args.search.now (sum_in c.args.trail.now) d)

pub loop-from-preserved : goal.loop-from-preserved
loop-from-preserved c = row_more c.args.search.now (sum_in c.args.trail.now) c.args.to _ c.loop-from.from-index c.args.leads.now
    c.loop-from.row c.keep_ways.new.row c.loop-from-test.true refl (c.keep_ways.ensures.kept c.if-not-keep_ways.false) c.loop-from.invariant

pub keep_ways-requires-clause-from_in_code : goal.keep_ways-requires-clause-from_in_code
keep_ways-requires-clause-from_in_code c =
    let x = get_or c.args.leads.now c.loop-from.from-index 0 in
    let leads : LeadsOn c.args.search.now x c.args.to =
    (c.requires.leads x).0 (among_at c.args.leads.now c.loop-from.from-index x c.loop-from-test.true refl) in
    omega (arith, (leads_later c.args.search.now c.requires.ready x c.args.to leads).0, c.requires.in_code)

pub returns-then-not-keep_ways : goal.returns-then-not-keep_ways
returns-then-not-keep_ways c =
    let x = get_or c.args.leads.now c.loop-from.from-index 0 in
    let leads : LeadsOn c.args.search.now x c.args.to =
    (c.requires.leads x).0 (among_at c.args.leads.now c.loop-from.from-index x c.loop-from-test.true refl) in
    (x, ((leads_later c.args.search.now c.requires.ready x c.args.to leads).0, leads, c.keep_ways.ensures.over c.if-not-keep_ways.true))

pub returns : goal.returns
returns c =
    let all : take c.loop-from.from-index c.args.leads.now ≡ c.args.leads.now = take_all c.loop-from.from-index c.args.leads.now c.loop-from-test.false in
    row_end c.args.search.now (sum_in c.args.trail.now) c.requires.ready c.args.to c.args.leads.now c.loop-from.row c.requires.leads
    (subst (λ (xs : List ℕ). IsRowOf c.args.search.now (sum_in c.args.trail.now) xs c.args.to c.loop-from.row) all c.loop-from.invariant)
