use Rattle.std.proofs.Common.{◌≡◌, ℕ, ◌+◌, ◌<◌, ◌∷◌, [], ◌++◌, ◌∙◌, ap, sym, List, length, take, take_all, get_or}
use Rattle.std.proofs.lemmas.List.{take_more}
use Rattle.sts_joiners.specs.Tallied.{Tallied}
use Rattle.sts_world.proofs.world.copy_tallies.Goals as goal

copied_more : (ts old new : List Tallied) (i : ℕ) (x y : Tallied) → i < length ts → x ≡ get_or ts i x → y ≡ x → old ≡ take i ts → new ≡ old ++ y ∷ [] → new ≡ take (i + 1) ts
copied_more ts old new i x y small here same before after =
    after
    ∙ ap (λ (xs : List Tallied). xs ++ y ∷ []) before
    ∙ ap (λ (z : Tallied). take i ts ++ z ∷ []) (same ∙ here)
    ∙ sym (take_more ts i x small)

pub loop-tally-preserved : goal.loop-tally-preserved
loop-tally-preserved c =
    let l = c.loop-tally in
    copied_more c.args.tallies.now _ _ l.tally-index c.tally-item.result c.copied.result c.loop-tally-test.true c.tally-item.is
    c.copied.ensures l.invariant c.in_ok-push.ensures.items

pub returns : goal.returns
returns c = c.loop-tally.invariant ∙ take_all c.loop-tally.tally-index c.args.tallies.now c.loop-tally-test.false
