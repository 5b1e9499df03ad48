use Rattle.std.proofs.Common.{get_or, refl, ap, ◌∙◌, arith}
use Rattle.laws_words.proofs.ListLemmas.{zeros}
use Rattle.look_refusal.proofs.Weighed.{weighed}
use Rattle.look_refusal.proofs.heavy.weigh.Goals as goal

pub back_to_beginning-requires-clause-parts : goal.back_to_beginning-requires-clause-parts
back_to_beginning-requires-clause-parts c = λ x. (let z = ap (λ l. get_or l x 0) (c.in_ok-filled.ensures {u = tt}) ∙ zeros _ x in omega (arith, z))

pub returns-clause-weighed : goal.returns-clause-weighed
returns-clause-weighed c = weighed c.args.search.now c.args.trail.now c.args.place c.depth_at.result c.args.weight
    (record { places = c.in_ok-filled.field-0; total = 0 }) c.back_to_beginning.new.shares c.requires.in_code c.requires.may c.requires.weight
    c.requires.over c.depth_at.ensures.value (c.in_ok-filled.ensures {u = tt}) refl c.back_to_beginning.ensures.walk c.back_to_beginning.ensures.total
