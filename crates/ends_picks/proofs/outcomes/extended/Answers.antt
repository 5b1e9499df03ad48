use Rattle.std.proofs.Common.{◌≡◌, true, Option}
use Rattle.sts_model.specs.declared.event.End.{End}
use Rattle.laws_calls.specs.Tasks.{Among, May}
use Rattle.ends_picks.specs.Outcomes.{after, is_within}
use Rattle.ends_picks.proofs.ListLemmas.{by_state}
use Rattle.ends_picks.proofs.outcomes.extended.Goals as goal

pub returns : goal.returns
returns c o state at =
    let there = λ (q : Option End). May c.args.part.now q → is_within c.args.seen.now (after c.args.seen.now o q) ≡ true → Among
    c.add_ways.new.self.outcomes.items (after c.args.seen.now o q) in
    by_state there
    (λ may within. c.in_ok-add_ways.ensures.keeps _ (c.in_ok-add_open.ensures o at may within))
    (λ e may within. c.in_ok-add_ways.ensures.has o e at may within) state
