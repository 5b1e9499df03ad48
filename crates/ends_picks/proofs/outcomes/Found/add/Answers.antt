use Rattle.std.proofs.Common.{List, [], ◌∷◌, sym, subst}
use Rattle.laws_calls.specs.Tasks.{Among}
use Rattle.ends_picks.specs.declared.outcomes.Outcome.{Outcome}
use Rattle.ends_picks.proofs.ListLemmas.{among_first, among_last}
use Rattle.ends_picks.proofs.outcomes.Found.add.Goals as goal

pub returns : goal.returns
returns c =
    let old = c.args.self.now.outcomes.items in
    record {
      has = subst (λ (xs : List Outcome). Among xs c.args.outcome) (sym c.in_ok-push.ensures) (among_last old c.args.outcome);
      keeps = λ o at. subst (λ (xs : List Outcome). Among xs o) (sym c.in_ok-push.ensures) (among_first old (c.args.outcome ∷ []) o at);
    }
