use Rattle.std.proofs.Common.{◌≡◌, ℕ, List, [], ◌∷◌, Bool, true, ap, ◌∙◌, subst}
use Rattle.std.specs.Prelude.{◌&&◌, option_map}
use Rattle.std.proofs.lemmas.List.{length-map}
use Rattle.std.proofs.lemmas.Option.{slice_get-map}
use Rattle.sts_model.specs.declared.event.End.{End}
use Rattle.sts_model.specs.Joining.{is_failure, result_of}
use Rattle.laws_calls.specs.declared.table.Own.{Own}
use Rattle.laws_calls.specs.declared.table.Part.{Part}
use Rattle.laws_calls.specs.declared.table.Seen.{Seen}
use Rattle.laws_calls.specs.Steps.{MayEnd, Leads, joined, decided, after_all, ended}
use Rattle.ends_table.specs.declared.joins.Deciding.TheVariants.{Failing}
use Rattle.ends_table.specs.Led.{DecidedLeads, FirstLeads, decides}
use Rattle.ends_table.proofs.MissingLemmas.{on_ok}
use Rattle.ends_table.proofs.around.Around.none.Goals as goal

-- a scope has as many parts after its subtasks have ended, in the same ways
first_leads : (states : List Own) (own : Own) (place : ℕ) (seen after : Seen) (failed : ℕ) → after ≡ after_all seen → ((i : ℕ) (part : Part) (e : End) → MayEnd after i part e → decides Failing after part e ≡ true → DecidedLeads states own place after failed i part e) → (i : ℕ) (part : Part) (e : End) → MayEnd seen i part e → is_failure e ≡ true → part.is_early ≡ true → FirstLeads states own place seen failed i part e
first_leads states own place seen after failed same leads i part e may fails early =
    let all = subst (λ (x : Seen). (i : ℕ) (part : Part) (e : End) → MayEnd x i part e → decides Failing x part e ≡ true → DecidedLeads states own place x failed i part e) same leads in
    let at : MayEnd (after_all seen) i (ended part) e = record { known = slice_get-map ended seen.parts i ∙ ap (option_map ended) may.known; way = may.way } in
    let first : (part.is_early && is_failure e) ≡ true = ap (λ (b : Bool). b && is_failure e) early ∙ fails in
    subst (λ (n : ℕ). Leads states (joined own place (decided (after_all seen) i e part) (result_of seen.joiner (e ∷ []) n) failed)) (length-map seen.parts ended) (all i (ended part) e at first)

pub returns : goal.returns
returns c = on_ok c.by_each.result c.by_each.ensures (λ leads. λ free any. first_leads c.args.self.now.states.now c.args.self.now.own.now
    c.args.place c.args.seen.now c.in_ok-after.after c.args.failed c.in_ok-after.ensures leads)
