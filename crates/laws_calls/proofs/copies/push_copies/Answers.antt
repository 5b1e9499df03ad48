use Rattle.std.proofs.Common.{◌≡◌, ℕ, ◌+◌, ◌<◌, ◌≤◌, List, [], ◌∷◌, ◌++◌, length, get_or, take, sym, ap, ◌∙◌, append_assoc}
use Rattle.std.proofs.lemmas.List.{append-nil, take_all, take_more}
use Rattle.laws_calls.proofs.copies.push_copies.Goals as goal

-- one copy more
more : {X : Type 0} (xs : List X) (i : ℕ) (x d : X) (start old new : List X) → i < length xs → x ≡ get_or xs i d → old ≡ start ++ take i xs → new ≡ old ++ x ∷ [] → new ≡ start ++ take (i + 1) xs
more xs i x d start old new less read is e =
    e ∙ ap (λ l. l ++ x ∷ []) is ∙ append_assoc start (take i xs) (x ∷ [])
    ∙ ap (λ l. start ++ l) (ap (λ y. take i xs ++ y ∷ []) read ∙ sym (take_more xs i d less))

all : {X : Type 0} (xs : List X) (i : ℕ) (start new : List X) → length xs ≤ i → new ≡ start ++ take i xs → new ≡ start ++ xs
all xs i start new past is = is ∙ ap (λ l. start ++ l) (take_all i xs past)

pub loop-x-init : goal.loop-x-init
loop-x-init g c = sym (append-nil c.args.ys.now)

pub loop-x-preserved : goal.loop-x-preserved
loop-x-preserved g c = more c.args.xs.now c.loop-x.x-index _ _ c.args.ys.now c.loop-x.ys c.push.new.self c.loop-x-test.true
    (c.in_ok-copied.ensures ∙ c.x-item.is) c.loop-x.invariant c.in_ok-push.ensures.ok

pub returns : goal.returns
returns g c = all c.args.xs.now c.loop-x.x-index c.args.ys.now c.loop-x.ys c.loop-x-test.false c.loop-x.invariant
