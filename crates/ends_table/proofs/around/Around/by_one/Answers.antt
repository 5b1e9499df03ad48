use Rattle.std.proofs.Common.{◌≡◌, ℕ, List, true, subst}
use Rattle.sts_model.specs.declared.event.End.{End}
use Rattle.laws_calls.specs.declared.table.Own.{Own}
use Rattle.laws_calls.specs.declared.table.Part.{Part}
use Rattle.laws_calls.specs.declared.table.Seen.{Seen}
use Rattle.laws_calls.specs.Steps.{MayEnd, after_cancel}
use Rattle.laws_calls.specs.Triggers.{is_trigger}
use Rattle.ends_table.specs.declared.joins.Deciding.TheVariants.{Counting}
use Rattle.ends_table.specs.Led.{DecidedLeads, OneLeads, decides}
use Rattle.ends_table.proofs.MissingLemmas.{on_ok}
use Rattle.ends_table.proofs.around.Around.by_one.Goals as goal

-- a scope has the same parts after a cancel
one_leads : (states : List Own) (own : Own) (place : ℕ) (seen after : Seen) (failed : ℕ) → after ≡ after_cancel seen → ((i : ℕ) (part : Part) (e : End) → MayEnd after i part e → decides Counting after part e ≡ true → DecidedLeads states own place after failed i part e) → (i : ℕ) (part : Part) (e : End) → MayEnd seen i part e → is_trigger seen.joiner e ≡ true → OneLeads states own place seen failed i part e
one_leads states own place seen after failed same leads i part e may counts =
    let all = subst (λ (x : Seen). (i : ℕ) (part : Part) (e : End) → MayEnd x i part e → decides Counting x part e ≡ true → DecidedLeads states own place x failed i part e) same leads in
    all i part e (record { known = may.known; way = may.way }) counts

pub returns : goal.returns
returns c = on_ok c.by_each.result c.by_each.ensures (λ leads. λ may one. one_leads c.args.self.now.states.now c.args.self.now.own.now
    c.args.place c.args.seen.now c.in_ok-after.after c.args.failed c.in_ok-after.ensures leads)
