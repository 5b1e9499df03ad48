use Rattle.std.proofs.Common.{◌≡◌, ℕ, List, [], length, subst}
use Rattle.std.proofs.lemmas.List.{length-map}
use Rattle.sts_model.specs.Joining.{result_of}
use Rattle.laws_calls.specs.declared.table.Own.{Own}
use Rattle.laws_calls.specs.declared.table.Seen.{Seen}
use Rattle.laws_calls.specs.Steps.{Leads, joined, after_all, ended}
use Rattle.ends_table.proofs.MissingLemmas.{on_ok}
use Rattle.ends_table.proofs.around.Around.heard.Goals as goal

-- a scope has as many parts after its subtasks have ended
heard_leads : (states : List Own) (own : Own) (place : ℕ) (seen after : Seen) (failed : ℕ) → after ≡ after_all seen → Leads states (joined own place after (result_of after.joiner [] (length after.parts)) failed) → Leads states (joined own place (after_all seen) (result_of seen.joiner [] (length seen.parts)) failed)
heard_leads states own place seen after failed same leads =
    let all = subst (λ (x : Seen). Leads states (joined own place x (result_of x.joiner [] (length x.parts)) failed)) same leads in
    subst (λ (n : ℕ). Leads states (joined own place (after_all seen) (result_of seen.joiner [] n) failed)) (length-map seen.parts ended) all

pub returns : goal.returns
returns c = on_ok c.by_none.result c.by_none.ensures (λ leads. λ free none. heard_leads c.args.self.now.states.now c.args.self.now.own.now
    c.args.place c.args.seen.now c.in_ok-after.after c.args.failed c.in_ok-after.ensures leads)
