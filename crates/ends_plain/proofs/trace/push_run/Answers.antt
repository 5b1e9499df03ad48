use Rattle.std.proofs.Common.{◌≡◌, ℕ, ◌+◌, List, [], ◌∷◌, ◌++◌, replicate, sym, ap, ◌∙◌, append_assoc, arith}
use Rattle.std.proofs.lemmas.List.{append-nil, replicate_more}
use Rattle.ends_plain.proofs.trace.push_run.Goals as goal

more : {X : Type 0} (x : X) (n : ℕ) (start old new : List X) → old ≡ start ++ replicate n x → new ≡ old ++ x ∷ [] → new ≡ start ++ replicate (n + 1) x
more x n start old new is e =
    e ∙ ap (λ l. l ++ x ∷ []) is ∙ append_assoc start (replicate n x) (x ∷ []) ∙ ap (λ l. start ++ l) (replicate_more n x)

all : {X : Type 0} (x : X) (n k : ℕ) (start new : List X) → k ≡ n → new ≡ start ++ replicate k x → new ≡ start ++ replicate n x
all x n k start new same is = is ∙ ap (λ m. start ++ replicate m x) same

pub loop-init : goal.loop-init
loop-init c = (sym (append-nil c.args.events.now.items), omega arith)

pub loop-preserved : goal.loop-preserved
loop-preserved c = (
  more c.args.run.event c.loop.counter c.args.events.now.items c.loop.events.items c.push.new.self.items
      c.loop.invariant.0 c.in_ok-push.ensures.items,
  omega (arith, c.loop-test.true),
)

pub returns : goal.returns
returns c = all c.args.run.event c.args.run.count c.loop.counter c.args.events.now.items c.loop.events.items
    (omega (arith, c.loop-test.false, c.loop.invariant.1)) c.loop.invariant.0
