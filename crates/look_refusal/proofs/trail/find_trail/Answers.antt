use Rattle.std.proofs.Common.{◌<◌, ◌∙◌, ℕ, List, [], length, subst, sym, arith}
use Rattle.std.proofs.lemmas.List.{get_or_default}
use Rattle.look_refusal.specs.Leads.{AreLeads}
use Rattle.look_refusal.proofs.Tables.{begun_none, begun_more, too_wide}
use Rattle.look_refusal.proofs.trail.find_trail.Goals as goal

pub loop-to-init : goal.loop-to-init
loop-to-init c = begun_none c.args.search.now c.requires (record { rows = c.new.result }) c.new.ensures.items

pub returns-in-None : goal.returns-in-None
returns-in-None c = let w = c.in-None.ensures {u = tt} in too_wide c.args.search.now c.requires c.loop-to.trail c.loop-to.to w.0
    (omega arith) c.loop-to.invariant w.1.0 w.1.1 w.1.2

pub loop-to-preserved : goal.loop-to-preserved
loop-to-preserved c = begun_more c.args.search.now c.requires c.loop-to.trail (record { rows = c.push.new.self }) c.loop-to.to c.in-Some.row
    c.loop-to.invariant (c.in_ok-push-in-Some.ensures {u = tt}).items (c.in-Some.ensures {u = tt})

pub row_at-requires-clause-leads : goal.row_at-requires-clause-leads
row_at-requires-clause-leads c =
    let lists : List (List ℕ) = c.in_ok-leads.leads.items in
    let inside : c.loop-to.to < length lists = omega (arith, c.in_ok-leads.ensures.long, c.loop-to-test.true) in
    subst (λ (xs : List ℕ). AreLeads c.args.search.now c.loop-to.to xs)
    (sym (c.as_slice.ensures ∙ c.index.ensures ∙ get_or_default lists c.loop-to.to _ [] inside))
    (c.in_ok-leads.ensures.leads c.loop-to.to)
