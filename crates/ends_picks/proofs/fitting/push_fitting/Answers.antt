use Rattle.std.proofs.Common.{List, [], ◌∷◌, sym, subst}
use Rattle.laws_calls.specs.Tasks.{Among}
use Rattle.ends_picks.specs.declared.outcomes.Outcome.{Outcome}
use Rattle.ends_picks.proofs.ListLemmas.{among_first, among_last}
use Rattle.ends_picks.proofs.fitting.push_fitting.Goals as goal

pub returns-clause-has : goal.returns-clause-has
returns-clause-has c pick fits e = subst (λ (os : List Outcome). Among os c.args.outcome) (sym c.in_ok-push.ensures.items)
    (among_last c.args.list.now.items c.args.outcome)

pub returns-clause-keeps : goal.returns-clause-keeps
returns-clause-keeps c o at = subst (λ (os : List Outcome). Among os o) (sym c.in_ok-push.ensures.items)
    (among_first c.args.list.now.items (c.args.outcome ∷ []) o at)
