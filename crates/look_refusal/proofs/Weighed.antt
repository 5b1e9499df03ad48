-- The weight of a trail, from the walk back along it.
use Rattle.std.proofs.Common.{◌≡◌, ℕ, ◌+◌, ◌<◌, get_or, length, replicate, true, ap, ◌∙◌, subst, arith}
use Rattle.std.proofs.lemmas.List.{length-replicate}
use Rattle.laws_words.proofs.ListLemmas.{zeros}
use Rattle.sts_rules.specs.Around.{around}
use Rattle.sts_budget.specs.Change.{own_of, limit_of}
use Rattle.sts_budget.specs.Sums.{base, last_turns}
use Rattle.look_refusal.specs.declared.search.Search.{Search}
use Rattle.look_refusal.specs.declared.search.Spot.{Spot}
use Rattle.look_refusal.specs.declared.shares.Shares.{Shares}
use Rattle.look_refusal.specs.declared.trail.Trail.{Trail}
use Rattle.look_refusal.specs.Adding.{Adds}
use Rattle.look_refusal.specs.Found.{IsWeighed}
use Rattle.look_refusal.specs.Search.{paths, flow, may_end}
use Rattle.look_refusal.specs.Trail.{full_in, sum_in}
use Rattle.look_refusal.specs.Walk.{IsWholeWalk, rest_in}
use Rattle.look_refusal.proofs.Walking.{whole_path}

-- a walk back to the beginning that began with nothing added
pub weighed : (s : Search) (t : Trail) (place depth weight : ℕ) (before after : Shares) → place < length s.code.now → may_end s place ≡ true → weight ≡ own_of s.resource + full_in s t place → limit_of s.resource < weight → depth ≡ (flow s).depth place → before.places.items ≡ replicate (length s.code.now) 0 → before.total ≡ 0 → IsWholeWalk (paths s) (flow s) (record { place = place; depth = depth }) before after → after.total ≡ before.total + rest_in s t (record { place = place; depth = depth }) → IsWeighed s (record { place = place; weight = weight; shares = after.places })
weighed s t place depth weight before after in_code may is over deep empty nothing walk sum =
    let to : Spot = record { place = place; depth = depth } in
    let p = whole_path (paths s) (flow s) to before after (λ x. ap (λ l. get_or l x 0) empty ∙ zeros _ x) nothing walk in
    let rest : rest_in s t to ≡ full_in s t place = ap (λ d. base (paths s) (flow s) (sum_in t) (last_turns (around s.code.now place)) d + sum_in t place d) deep in
    record {
      in_code = in_code;
      loops = p.loops;
      steps = p.steps;
      path = subst (λ d. Adds (paths s) (flow s) d place p.loops p.steps) deep p.path;
      one_each = walk.1.1.1.long ∙ ap length empty ∙ length-replicate _ _;
      may = may;
      shares = p.shares;
      weight = (let all = p.all in omega (arith, is, rest, sum, all, nothing));
      over = over;
    }
