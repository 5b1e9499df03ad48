use Rattle.std.proofs.Common.{◌≡◌, ◌<◌, ◌+◌, ℕ, List, [], ◌∷◌, ◌++◌, length, set, take, drop, ◌∙◌, ap, append_assoc, add-one, rules, arith}
use Rattle.std.proofs.lemmas.List.{set_split}
use Rattle.std.proofs.lemmas.Slice.{between_to_end}
use Rattle.laws_calls.proofs.copies.copy_with.Goals as goal

with_set : {X : Type 0} (xs a b d : List X) (i : ℕ) (x : X) → i < length xs → a ≡ take i xs → b ≡ a ++ x ∷ [] → d ≡ b ++ drop (i + 1) xs → d ≡ set xs i x
with_set xs a b d i x less e f g =
    let split : set xs i x ≡ take i xs ++ x ∷ drop (i + 1) xs = rw add-one (set_split xs i x less) in
    rw (g, f, e, split) (append_assoc (take i xs) (x ∷ []) (drop (i + 1) xs))

pub returns : goal.returns
returns g c =
    let xs = c.args.xs.now in
    let front : c.push_copies.new.ys ≡ take c.args.at xs = search rules in
    let behind : c.push_copies-2.new.ys ≡ c.push.new.self ++ drop (c.args.at + 1) xs =
    c.in_ok-push_copies-2.ensures ∙ ap (λ l. c.push.new.self ++ l) (between_to_end xs (c.args.at + 1) (length xs) (omega arith))
    in
    with_set xs c.push_copies.new.ys c.push.new.self c.push_copies-2.new.ys c.args.at c.args.x c.requires front c.in_ok-push.ensures.ok behind
